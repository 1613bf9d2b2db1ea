-- References name agents of the world, and not more of them than there are: a list of places without doubles is no
-- longer than the world's.
use Rattle.std.proofs.Common.{◌≡◌, ℕ, zero, suc, ◌+◌, ◌<◌, ◌≤◌, nat_lt, Bool, true, false, cond, not, ◌&&◌, ◌==◌, inl, inr, List, [], ◌∷◌, ◌++◌, length, map, refl, sym, ap, subst, ◌∙◌, arith, Option, Some, None, if◌then◌else◌, slice_get}
use Rattle.std.specs.List.{filter, flat_map}
use Rattle.std.specs.Option.{is_some, is_none}
use Rattle.std.proofs.lemmas.Bool.Decides.{Decides-eqb}
use Rattle.x5_model.specs.Words.{in_option}
use Rattle.x5_model.specs.Members.{In, here, there, Once}
use Rattle.x5_model.specs.Keys.{Key, parent}
use Rattle.x5_model.specs.Values.{key_of}
use Rattle.x5_model.specs.Entries.{Named}
use Rattle.x5_model.specs.Requests.{Request}
use Rattle.x5_model.proofs.Decide.{less_decides}
use Rattle.x5_model.proofs.Lists.{both_true, in_either, in_map, of_map, of_flat, of_filter, of_all}
use Rattle.x5_model_tree.specs.World.{Specific, Nssr, Agent, Agreement, World}
use Rattle.x5_model_tree.specs.Described.{IsDescribed, is_agreement, is_number}
use Rattle.x5_model_tree.specs.Tree.{is_there, part}
use Rattle.x5_model_tree.specs.Masters.{Mastered, pin_of, numbered, agent_at, mastered, masters}
use Rattle.x5_model_run.specs.Holdings.{Held, Copy, Holdings, may_copy, usable_agents, usable_copies, subordinates}
use Rattle.x5_model_run.specs.History.{Point, knowledge_at, tree_at, as_of, references_below, sent_references, mastered_at, copy_as_of, agent_holdings, holdings_at, tree_of_moment}
use Rattle.x5_model_theory.specs.Knowledge.{Area, Supply, IsMastered}
use Rattle.x5_model_theory.specs.Coherent.{Coherent}
use Rattle.x5_model_theory.specs.Described.{area_of, pointer_of, supply_of, spot_of, knowledge_of}
use Rattle.x5_model_theory.specs.Leading.{IsSound}
use Rattle.x5_model_theory.proofs.Views.{at_place}
use Rattle.x5_model_theory.proofs.Places.{at_agent, own_area, pointer_in}
use Rattle.x5_model_theory.proofs.Holding.{good_at, IsHeld, of_place, by_agent, own_is, copy_is, usable_is, IsRightAccess, usable_holds}
use Rattle.x5_model_bounds.proofs.Unables.{false_true}

-- ---- agents of the world

abbrev pub IsThere : World → ℕ → Type 0
IsThere w a = is_some (agent_at w a) ≡ true

below_there : (xs : List Agent) (i : ℕ) → i < length xs → is_some (slice_get xs i) ≡ true
below_there [] i h = absurd (omega arith)
below_there (x ∷ xs) zero h = refl
below_there (x ∷ xs) (suc i) h = below_there xs i (omega arith)

there_below : (xs : List Agent) (i : ℕ) → is_some (slice_get xs i) ≡ true → i < length xs
there_below [] i e = absurd (false_true e)
there_below (x ∷ xs) zero e = omega arith
there_below (x ∷ xs) (suc i) e = let h : i < length xs = there_below xs i e in omega arith

pub there_numbered : (w : World) (a : ℕ) (x : Agent) → In (a, x) (numbered w) → IsThere w a
there_numbered w a x i = ap is_some (at_place w a x i)

mastered_there : (w : World) (x : Mastered) → In x (mastered w) → IsThere w x.master
mastered_there w x i =
    let y = of_flat (λ (a : ℕ × Agent). map (at_agent a.0) a.1.contexts) x (numbered w) i in
    let z = of_map (at_agent y.0.0) x y.0.1.contexts y.2 in
    subst (λ (n : ℕ). IsThere w n) (ap (λ (v : Mastered). v.master) (sym z.2)) (there_numbered w y.0.0 y.0.1 y.1)

master_there : (w : World) (a : ℕ) (q : Key) → IsMastered (knowledge_of w) a q → IsThere w a
master_there w a q c =
    let x = of_map area_of c.0 (mastered w) c.1 in
    subst (λ (n : ℕ). IsThere w n) (ap (λ (v : Area). v.master) (sym x.2) ∙ c.2) (mastered_there w x.0 x.1)

agreement_there : (w : World) (g : Agreement) → IsDescribed w → In g w.agreements → IsThere w g.supplier × IsThere w g.consumer
agreement_there w g d i =
    let e = (both_true (is_number g.number) _ (of_all (is_agreement w) g w.agreements d.agreements i)).1 in
    let f = (both_true _ (nat_lt g.supplier (length w.agents) && nat_lt g.consumer (length w.agents)) e).1 in
    let b = both_true (nat_lt g.supplier (length w.agents)) (nat_lt g.consumer (length w.agents)) f in
    (below_there w.agents g.supplier ((less_decides g.supplier (length w.agents)).0 b.0), below_there w.agents g.consumer ((less_decides g.consumer (length w.agents)).0 b.1))

pub held_there : (w : World) (a : ℕ) (q : Key) → IsDescribed w → IsHeld w a q → IsThere w a
held_there w a q d (inl m) = master_there w a q m
held_there w a q d (inr c) =
    let g = of_map supply_of c.0 w.agreements c.1 in
    subst (λ (n : ℕ). IsThere w n) (ap (λ (s : Supply). s.consumer) (sym g.2) ∙ c.2) (agreement_there w g.0 d g.1).1

-- ---- no more than there are

all_but : (n : ℕ) (xs : List ℕ) → (In n xs → ⊥) → length (filter (λ x. not (x == n)) xs) ≡ length xs
all_but n [] f = refl
all_but n (x ∷ xs) f = go (x == n) refl (all_but n xs (λ i. f (there i)))
  where
    go : (b : Bool) → (x == n) ≡ b → length (filter (λ y. not (y == n)) xs) ≡ length xs → length (cond (not b) (x ∷ filter (λ y. not (y == n)) xs) (filter (λ y. not (y == n)) xs)) ≡ suc (length xs)
    go true e h = (let same : x ≡ n = (Decides-eqb x n).0 e in absurd (f (subst (λ (y : ℕ). In n (y ∷ xs)) (sym same) here)))
    go false e h = ap suc h

one_less : (n : ℕ) (xs : List ℕ) → Once xs → length xs ≤ suc (length (filter (λ x. not (x == n)) xs))
one_less n [] o = omega arith
one_less n (x ∷ xs) o = go (x == n) refl (one_less n xs o.1) (all_but n xs)
  where
    go : (b : Bool) → (x == n) ≡ b → length xs ≤ suc (length (filter (λ y. not (y == n)) xs)) → ((In n xs → ⊥) → length (filter (λ y. not (y == n)) xs) ≡ length xs)
        → suc (length xs) ≤ suc (length (cond (not b) (x ∷ filter (λ y. not (y == n)) xs) (filter (λ y. not (y == n)) xs)))
    go true e h f = (let same : x ≡ n = (Decides-eqb x n).0 e in let l : length (filter (λ y. not (y == n)) xs) ≡ length xs = f (λ i. o.0 (subst (λ (y : ℕ). In y xs) (sym same) i)) in omega arith)
    go false e h f = omega arith

pub once_kept : (test : ℕ → Bool) (xs : List ℕ) → Once xs → Once (filter test xs)
once_kept test [] o = tt
once_kept test (x ∷ xs) o = go (test x) (once_kept test xs o.1)
  where
    go : (b : Bool) → Once (filter test xs) → Once (cond b (x ∷ filter test xs) (filter test xs))
    go true h = (λ i. o.0 (of_filter test x xs i).0, h)
    go false h = h

pub few_once : (n : ℕ) (xs : List ℕ) → Once xs → ((x : ℕ) → In x xs → x < n) → length xs ≤ n
few_once n [] o f = omega arith
few_once zero (x ∷ xs) o f = (let h : x < 0 = f x here in absurd (omega arith))
few_once (suc n) (x ∷ xs) o f =
    let h : length (filter (λ y. not (y == n)) (x ∷ xs)) ≤ n =
    few_once n (filter (λ y. not (y == n)) (x ∷ xs)) (once_kept (λ y. not (y == n)) (x ∷ xs) o)
    (λ y i.
    let g = of_filter (λ z. not (z == n)) y (x ∷ xs) i in
    let l : y < suc n = f y g.0 in
    let other : y ≡ n → ⊥ = λ e. not_both (y == n) ((Decides-eqb y n).1 e) g.1 in
    omega (arith, other)) in
    let l : length (x ∷ xs) ≤ suc (length (filter (λ y. not (y == n)) (x ∷ xs))) = one_less n (x ∷ xs) o in
    omega arith
  where
    not_both : (b : Bool) → b ≡ true → not b ≡ true → ⊥
    not_both true e f = false_true f
    not_both false e f = false_true e

pub few_there : (w : World) (xs : List ℕ) → Once xs → ((x : ℕ) → In x xs → IsThere w x) → length xs ≤ length w.agents
few_there w xs o f = few_once (length w.agents) xs o (λ x i. there_below w.agents x (f x i))

pub filter_few : {A : Type 0} (test : A → Bool) (xs : List A) → length (filter test xs) ≤ length xs
filter_few test [] = omega arith
filter_few test (x ∷ xs) = go (test x) (filter_few test xs)
  where
    go : (b : Bool) → length (filter test xs) ≤ length xs → length (cond b (x ∷ filter test xs) (filter test xs)) ≤ suc (length xs)
    go true h = omega arith
    go false h = omega arith

-- ---- the NSSRs of a context that an agent masters

pub nssr_agents : (p : Point) (o : ℕ) (c : Held) (n : Nssr) → IsSound p → In c (holdings_at p o).own → In n c.nssrs → Once n.agents × ((a : ℕ) → In a n.agents → IsThere (knowledge_at p) a)
nssr_agents p o c n sound ic =
    by_agent p o (λ h. In c h.own → In n c.nssrs → Once n.agents × ((a : ℕ) → In a n.agents → IsThere (knowledge_at p) a)) (λ i. elim i [ ])
    (λ x ix i j.
    let d = own_is p o x c ix i in
    let area : Area = area_of (at_agent o d.0) in
    let ia : In (area_of (at_agent o d.0)) (knowledge_of (knowledge_at p)).areas = own_area (knowledge_at p) o x d.0 ix d.1 in
    let is : In (spot_of n) (area_of (at_agent o d.0)).nssrs = in_map spot_of n d.0.nssrs (subst (λ (y : Held). In n y.nssrs) d.2 j) in (
      (good_at p sound).nssr_once (area_of (at_agent o d.0)) (spot_of n) ia is,
      λ a k. let m = (good_at p sound).nssr_masters (area_of (at_agent o d.0)) (spot_of n) a ia is k in master_there (knowledge_at p) a m.0.prefix (m.0, m.1, m.2, refl),
    ))
    ic

-- each of its agents masters a pin just below
pub nssr_pin : (p : Point) (o : ℕ) (c : Held) (n : Nssr) (a : ℕ) → IsSound p → In c (holdings_at p o).own → In n c.nssrs → In a n.agents → (d : Area) × In d (knowledge_of (knowledge_at p)).areas × (parent d.prefix ≡ key_of n.at)
nssr_pin p o c n a sound ic =
    by_agent p o (λ h. In c h.own → In n c.nssrs → In a n.agents → (d : Area) × In d (knowledge_of (knowledge_at p)).areas × (parent d.prefix ≡ key_of n.at)) (λ i. elim i [ ])
    (λ x ix i j k.
    let d = own_is p o x c ix i in
    let ia : In (area_of (at_agent o d.0)) (knowledge_of (knowledge_at p)).areas = own_area (knowledge_at p) o x d.0 ix d.1 in
    let is : In (spot_of n) (area_of (at_agent o d.0)).nssrs = in_map spot_of n d.0.nssrs (subst (λ (y : Held). In n y.nssrs) d.2 j) in
    let m = (good_at p sound).nssr_masters (area_of (at_agent o d.0)) (spot_of n) a ia is k in
    (m.0, m.1, m.3))
    ic

-- ---- subordinate and cross references

abbrev pub OnceShadowed : Specific → Type 0
OnceShadowed r = Once r.access.shadows

subordinate_once : (w : World) (o : ℕ) (a : Agent) (r : Specific) → Coherent (knowledge_of w) → In (o, a) (numbered w) → In r a.subordinate → OnceShadowed r
subordinate_once w o a r good i j = (good.subordinate_shadows (pointer_of o r) (pointer_in w (λ (x : Agent). x.subordinate) o a r i j)).0

sent_once : (w : World) (m : Mastered) (entries : List Named) (r : Specific) → Coherent (knowledge_of w) → In r (sent_references w m entries) → OnceShadowed r
sent_once w m entries r good i =
    let mine : Mastered → Specific = λ d. record { pin = d.context.prefix; access = record { master = m.master; shadows = [] } } in
    let test : Mastered → Bool = λ d. (d.master == m.master) && is_there entries (parent (pin_of d)) in
    elim (in_either r (map mine (filter test (mastered w))) _ i) [
      | inl j ↦ (let d = of_map mine r (filter test (mastered w)) j in subst (λ (x : Specific). Once x.access.shadows) (sym d.2) tt)
      | inr j ↦ at (agent_at w m.master) refl j
    ]
  where
    at : (x : Option Agent) → agent_at w m.master ≡ x → In r (in_option [] (λ (a : Agent). filter (λ (k : Specific). not (masters w m.master (key_of k.pin))) (references_below entries a.subordinate)) x) → OnceShadowed r
    at None e j = elim j [ ]
    at (Some a) e j =
        let f = of_filter (λ (k : Specific). not (masters w m.master (key_of k.pin))) r (references_below entries a.subordinate) j in
        let g = of_filter (λ (k : Specific). is_there entries (parent (key_of k.pin))) r a.subordinate f.0 in
        subordinate_once w m.master a r good (of_place w m.master a e) g.0

abbrev as_sent : Point → Agreement → List Named → Option Mastered → Held
as_sent p g entries x = in_option (record { prefix = g.context; entries = entries; subordinate = []; nssrs = [] }) (λ (c : Mastered). record { prefix = g.context; entries = entries; subordinate = sent_references (knowledge_at p) c entries; nssrs = c.context.nssrs }) x

copy_once : (p : Point) (g : Agreement) (o : Option ℕ) (r : Specific) → Coherent (knowledge_of (knowledge_at p)) → In r (copy_as_of p g o).subordinate → OnceShadowed r
copy_once p g None r good i = elim i [ ]
copy_once p g (Some m) r good i = go (mastered_at (knowledge_at p) (key_of g.context)) (part (tree_of_moment p m) (key_of g.context)) i
  where
    go : (x : Option Mastered) (entries : List Named) → In r (as_sent p g entries x).subordinate → OnceShadowed r
    go None entries j = elim j [ ]
    go (Some c) entries j = sent_once (knowledge_at p) c entries r good j

pub subordinates_once : (p : Point) (o : ℕ) (req : Request) (r : Specific) → IsSound p → In r (subordinates req (holdings_at p o)) → OnceShadowed r
subordinates_once p o req r sound =
    by_agent p o (λ h. In r (subordinates req h) → OnceShadowed r)
    (λ i. none (may_copy req) i)
    (λ a ia i.
    let h : Holdings = agent_holdings p o a in
    elim (in_either r (flat_map (λ (c : Held). c.subordinate) h.own ++ flat_map (λ (c : Held). c.subordinate) (usable_copies req h)) h.root i) [
      | inr j ↦ at_root a ia (is_none a.superior) j
      | inl j ↦ elim (in_either r (flat_map (λ (c : Held). c.subordinate) h.own) (flat_map (λ (c : Held). c.subordinate) (usable_copies req h)) j) [
        | inl l ↦
            let c = of_flat (λ (c : Held). c.subordinate) r h.own l in
            let d = own_is p o a c.0 ia c.1 in
            let f = of_filter (λ (k : Specific). is_there (part (tree_at p) (key_of d.0.prefix)) (parent (key_of k.pin))) r a.subordinate (subst (λ (x : Held). In r x.subordinate) d.2 c.2) in
            subordinate_once (knowledge_at p) o a r (good_at p sound) ia f.0
        | inr l ↦
            let c = of_flat (λ (c : Held). c.subordinate) r (usable_copies req h) l in
            let x = usable_is req h c.0 c.1 in
            let g = copy_is p o a x.0 x.1 in
            copy_once p g.0 (as_of p g.0.number) r (good_at p sound) (subst (λ (y : Held). In r y.subordinate) (x.2 ∙ ap (λ (z : Copy). z.held) g.3) c.2)
      ]
    ])
  where
    none : (b : Bool) → In r ((flat_map (λ (c : Held). c.subordinate) [] ++ flat_map (λ (c : Held). c.subordinate) (if b then [] else [])) ++ []) → OnceShadowed r
    none true i = elim i [ ]
    none false i = elim i [ ]

    at_root : (a : Agent) → In (o, a) (numbered (knowledge_at p)) → (b : Bool) → In r (if b then filter (λ (k : Specific). length k.pin == 1) a.subordinate else []) → OnceShadowed r
    at_root a ia true j = subordinate_once (knowledge_at p) o a r (good_at p sound) ia (of_filter (λ (k : Specific). length k.pin == 1) r a.subordinate j).0
    at_root a ia false j = elim j [ ]

pub crosses_once : (p : Point) (o : ℕ) (r : Specific) → IsSound p → In r (holdings_at p o).cross → OnceShadowed r
crosses_once p o r sound =
    by_agent p o (λ h. In r h.cross → OnceShadowed r) (λ i. elim i [ ]) (λ a ia i. ((good_at p sound).cross_shadows (pointer_of o r) (pointer_in (knowledge_at p) (λ (x : Agent). x.cross) o a r ia i)).0)

-- the master and the shadows: one more at most than there are agents
pub usable_few : (w : World) (req : Request) (r : Specific) → IsDescribed w → IsRightAccess w r → OnceShadowed r
    → (length (usable_agents req r.access) ≤ length w.agents + 1) × ((a : ℕ) → In a (usable_agents req r.access) → IsThere w a)
usable_few w req r d right once = (go (may_copy req), λ a i. held_there w a (key_of r.pin) d (usable_holds w req r a right i))
  where
    shadows : length r.access.shadows ≤ length w.agents
    shadows = few_there w r.access.shadows once (λ a i. held_there w a (key_of r.pin) d (inr (right.1 a i)))

    go : (b : Bool) → length (if b then (r.access.master ∷ r.access.shadows) else (r.access.master ∷ [])) ≤ length w.agents + 1
    go true = (let s : length r.access.shadows ≤ length w.agents = shadows in omega arith)
    go false = omega arith
