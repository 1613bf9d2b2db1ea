-- What agents hold over consistent knowledge.
use Rattle.std.proofs.Common.{◌≡◌, ℕ, zero, suc, ◌+◌, ◌==◌, Bool, true, false, not, ◌&&◌, ◌⊎◌, inl, inr, List, [], ◌∷◌, ◌++◌, length, map, refl, sym, ap, subst, ◌∙◌, arith, Option, Some, None, if◌then◌else◌, slice_get}
use Rattle.std.specs.Bool.{Decides}
use Rattle.std.specs.List.{filter, flat_map, enumerate_from}
use Rattle.std.specs.Option.{is_some, is_none}
use Rattle.std.proofs.lemmas.Bool.Decides.{Decides-eqb}
use Rattle.x5_model.specs.Words.{has, in_option}
use Rattle.x5_model.specs.Members.{In, here, there}
use Rattle.x5_model.specs.Keys.{Key, same_key, parent}
use Rattle.x5_model.specs.Values.{key_of}
use Rattle.x5_model.specs.Entries.{Named}
use Rattle.x5_model.specs.Requests.{Request}
use Rattle.x5_model.proofs.Lists.{both_true, in_first, in_either, in_map, of_map, of_flat, of_filter}
use Rattle.x5_model_tree.specs.World.{Specific, Context, Agent, Agreement, World}
use Rattle.x5_model_tree.specs.Tree.{is_there, part}
use Rattle.x5_model_tree.specs.Masters.{Mastered, pin_of, numbered, agent_at, mastered, masters, consumes, holds, held_contexts}
use Rattle.x5_model_run.specs.Holdings.{Held, Copy, Holdings, may_copy, usable_agents, usable_copies, subordinates}
use Rattle.x5_model_run.specs.History.{Point, knowledge_at, tree_at, as_of, references_below, own_context, sent_references, mastered_at, copy_as_of, copy_by, first_agreements, agreements_of, agent_holdings, no_holdings, holdings_at, tree_of_moment}
use Rattle.x5_model_theory.specs.Knowledge.{IsMastered, IsConsumed}
use Rattle.x5_model_theory.specs.Coherent.{Coherent}
use Rattle.x5_model_theory.specs.Described.{area_of, pointer_of, supply_of, knowledge_of}
use Rattle.x5_model_theory.specs.Leading.{IsSound}
use Rattle.x5_model.proofs.Decide.{or_decides}
use Rattle.x5_model_theory.proofs.Views.{masters_decides, consumes_decides}
use Rattle.x5_model_theory.proofs.Places.{at_agent, own_area, pointer_in}
use Rattle.x5_model_theory.proofs.Cohering.{consistent_is_coherent}

pub good_at : (p : Point) → IsSound p → Coherent (knowledge_of (knowledge_at p))
good_at p s = consistent_is_coherent (knowledge_at p) s.described s.consistent

abbrev pub IsHeld : World → ℕ → Key → Type 0
IsHeld w a pin = IsMastered (knowledge_of w) a pin ⊎ IsConsumed (knowledge_of w) a pin

pub holds_decides : (w : World) (a : ℕ) (pin : Key) → Decides (holds w a pin) (IsHeld w a pin)
holds_decides w a pin = or_decides {P = IsMastered (knowledge_of w) a pin} {Q = IsConsumed (knowledge_of w) a pin} (masters w a pin) (consumes w a pin) (masters_decides w a pin) (consumes_decides w a pin)

-- an agent by its place
in_numbered : (n i : ℕ) (xs : List Agent) (a : Agent) → slice_get xs i ≡ Some a → In (n + i, a) (enumerate_from n xs)
in_numbered n i [] a e = cc
in_numbered n zero (x ∷ xs) a e =
    let same : x ≡ a = cc in
    let z : n + 0 ≡ n = omega arith in
    subst (λ (m : ℕ). In (m, a) ((n, x) ∷ enumerate_from (n + 1) xs)) (sym z) (subst (λ (y : Agent). In (n, y) ((n, x) ∷ enumerate_from (n + 1) xs)) same here)
in_numbered n (suc i) (x ∷ xs) a e =
    let z : (n + 1) + i ≡ n + suc i = omega arith in
    there (subst (λ (m : ℕ). In (m, a) (enumerate_from (n + 1) xs)) z (in_numbered (n + 1) i xs a e))

pub of_place : (w : World) (o : ℕ) (a : Agent) → agent_at w o ≡ Some a → In (o, a) (numbered w)
of_place w o a e = let z : 0 + o ≡ o = omega arith in subst (λ (m : ℕ). In (m, a) (numbered w)) z (in_numbered 0 o w.agents a e)

-- by cases of whether there is such an agent
pub by_agent : (p : Point) (o : ℕ) (P : Holdings → Type 0) → P (no_holdings o) → ((a : Agent) → In (o, a) (numbered (knowledge_at p)) → P (agent_holdings p o a)) → P (holdings_at p o)
by_agent p o P none some = go (agent_at (knowledge_at p) o) refl
  where
    go : (x : Option Agent) → agent_at (knowledge_at p) o ≡ x → P (in_option (no_holdings o) (agent_holdings p o) x)
    go None e = none
    go (Some a) e = some a (of_place (knowledge_at p) o a e)

of_held_contexts : (before : List Key) (cs : List Context) (c : Context) → In c (held_contexts before cs) → In c cs
of_held_contexts before [] c i = elim i [ ]
of_held_contexts before (x ∷ cs) c i = go (has same_key before (key_of x.prefix)) i (of_held_contexts before cs c) (of_held_contexts (key_of x.prefix ∷ before) cs c)
  where
    go : (b : Bool) → In c (if b then held_contexts before cs else (x ∷ held_contexts (key_of x.prefix ∷ before) cs))
        → (In c (held_contexts before cs) → In c cs) → (In c (held_contexts (key_of x.prefix ∷ before) cs) → In c cs) → In c (x ∷ cs)
    go true i f g = there (f i)
    go false i f g = elim (in_first c x (held_contexts (key_of x.prefix ∷ before) cs) i) [ inl e ↦ subst (λ (y : Context). In c (y ∷ cs)) e here | inr j ↦ there (g j) ]

of_first_agreements : (before : List Key) (gs : List Agreement) (g : Agreement) → In g (first_agreements before gs) → In g gs
of_first_agreements before [] g i = elim i [ ]
of_first_agreements before (x ∷ gs) g i = go (has same_key before (key_of x.context)) i (of_first_agreements before gs g) (of_first_agreements (key_of x.context ∷ before) gs g)
  where
    go : (b : Bool) → In g (if b then first_agreements before gs else (x ∷ first_agreements (key_of x.context ∷ before) gs))
        → (In g (first_agreements before gs) → In g gs) → (In g (first_agreements (key_of x.context ∷ before) gs) → In g gs) → In g (x ∷ gs)
    go true i f h = there (f i)
    go false i f h = elim (in_first g x (first_agreements (key_of x.context ∷ before) gs) i) [ inl e ↦ subst (λ (y : Agreement). In g (y ∷ gs)) e here | inr j ↦ there (h j) ]

-- a context that an agent masters
pub own_is : (p : Point) (o : ℕ) (a : Agent) (c : Held) → In (o, a) (numbered (knowledge_at p)) → In c (agent_holdings p o a).own
    → (d : Context) × In d a.contexts × (c ≡ own_context (tree_at p) a d)
own_is p o a c i j =
    let d = of_map (own_context (tree_at p) a) c (held_contexts [] a.contexts) j in
    (d.0, of_held_contexts [] a.contexts d.0 d.1, d.2)

pub own_mastered : (p : Point) (o : ℕ) (a : Agent) (c : Held) → In (o, a) (numbered (knowledge_at p)) → In c (agent_holdings p o a).own → IsMastered (knowledge_of (knowledge_at p)) o (key_of c.prefix)
own_mastered p o a c i j =
    let d = own_is p o a c i j in
    (area_of (at_agent o d.0), own_area (knowledge_at p) o a d.0 i d.1, refl, ap (λ (x : Held). key_of x.prefix) (sym d.2))

-- a copy with its entries
abbrev as_sent : Point → Agreement → List Named → Option Mastered → Held
as_sent p g entries x = in_option (record { prefix = g.context; entries = entries; subordinate = []; nssrs = [] }) (λ (c : Mastered). record { prefix = g.context; entries = entries; subordinate = sent_references (knowledge_at p) c entries; nssrs = c.context.nssrs }) x

pub copy_prefix : (p : Point) (g : Agreement) (o : Option ℕ) → (copy_as_of p g o).prefix ≡ g.context
copy_prefix p g None = refl
copy_prefix p g (Some m) = go (mastered_at (knowledge_at p) (key_of g.context)) (part (tree_of_moment p m) (key_of g.context))
  where
    go : (x : Option Mastered) (entries : List Named)
        → (as_sent p g entries x).prefix ≡ g.context
    go None entries = refl
    go (Some c) entries = refl

pub copy_is : (p : Point) (o : ℕ) (a : Agent) (c : Copy) → In c (agent_holdings p o a).copies → (g : Agreement) × In g (knowledge_at p).agreements × (g.consumer ≡ o) × (c ≡ copy_by p g)
copy_is p o a c j =
    let g = of_map (copy_by p) c (agreements_of (knowledge_at p) o) j in
    let f = of_filter (λ (g : Agreement). g.consumer == o) g.0 (knowledge_at p).agreements (of_first_agreements [] (filter (λ (g : Agreement). g.consumer == o) (knowledge_at p).agreements) g.0 g.1) in
    (g.0, f.0, (Decides-eqb g.0.consumer o).0 f.1, g.2)

pub copy_key : (p : Point) (g : Agreement) → key_of (copy_by p g).held.prefix ≡ key_of g.context
copy_key p g = ap key_of (copy_prefix p g (as_of p g.number))

pub copy_consumed : (p : Point) (o : ℕ) (a : Agent) (c : Copy) → In c (agent_holdings p o a).copies → IsConsumed (knowledge_of (knowledge_at p)) o (key_of c.held.prefix)
copy_consumed p o a c j =
    let g = copy_is p o a c j in
    (supply_of g.0, in_map supply_of g.0 (knowledge_at p).agreements g.1, g.2, sym (ap (λ (x : Copy). key_of x.held.prefix) g.3 ∙ copy_key p g.0))

-- ---- references

-- who is named holds the pin
abbrev pub IsRightAccess : World → Specific → Type 0
IsRightAccess w r = IsMastered (knowledge_of w) r.access.master (key_of r.pin) × ((s : ℕ) → In s r.access.shadows → IsConsumed (knowledge_of w) s (key_of r.pin))

subordinate_access : (w : World) (o : ℕ) (a : Agent) (r : Specific) → Coherent (knowledge_of w) → In (o, a) (numbered w) → In r a.subordinate → IsRightAccess w r
subordinate_access w o a r good i j =
    let q : In (pointer_of o r) (knowledge_of w).subordinate = pointer_in w (λ (x : Agent). x.subordinate) o a r i j in
    (good.subordinate_right (pointer_of o r) q, (good.subordinate_shadows (pointer_of o r) q).1)

cross_access : (w : World) (o : ℕ) (a : Agent) (r : Specific) → Coherent (knowledge_of w) → In (o, a) (numbered w) → In r a.cross → IsRightAccess w r
cross_access w o a r good i j =
    let q : In (pointer_of o r) (knowledge_of w).cross = pointer_in w (λ (x : Agent). x.cross) o a r i j in
    (good.cross_right (pointer_of o r) q, (good.cross_shadows (pointer_of o r) q).1)

sent_access : (w : World) (m : Mastered) (entries : List Named) (r : Specific) → Coherent (knowledge_of w) → In r (sent_references w m entries) → IsRightAccess w r
sent_access w m entries r good i =
    let mine : Mastered → Specific = λ d. record { pin = d.context.prefix; access = record { master = m.master; shadows = [] } } in
    let test : Mastered → Bool = λ d. (d.master == m.master) && is_there entries (parent (pin_of d)) in
    elim (in_either r (map mine (filter test (mastered w))) _ i) [
      | inl j ↦
          let d = of_map mine r (filter test (mastered w)) j in
          let f = of_filter test d.0 (mastered w) d.1 in
          let same : d.0.master ≡ m.master = (Decides-eqb d.0.master m.master).0 (both_true (d.0.master == m.master) _ f.1).0 in
          subst (λ (x : Specific). IsRightAccess w x) (sym d.2) ((area_of d.0, in_map area_of d.0 (mastered w) f.0, same, refl), λ s k. elim k [ ])
      | inr j ↦ at (agent_at w m.master) refl j
    ]
  where
    at : (x : Option Agent) → agent_at w m.master ≡ x → In r (in_option [] (λ (a : Agent). filter (λ (k : Specific). not (masters w m.master (key_of k.pin))) (references_below entries a.subordinate)) x) → IsRightAccess w r
    at None e j = elim j [ ]
    at (Some a) e j =
        let f = of_filter (λ (k : Specific). not (masters w m.master (key_of k.pin))) r (references_below entries a.subordinate) j in
        let g = of_filter (λ (k : Specific). is_there entries (parent (key_of k.pin))) r a.subordinate f.0 in
        subordinate_access w m.master a r good (of_place w m.master a e) g.0

copy_access : (p : Point) (g : Agreement) (o : Option ℕ) (r : Specific) → Coherent (knowledge_of (knowledge_at p)) → In r (copy_as_of p g o).subordinate → IsRightAccess (knowledge_at p) r
copy_access p g None r good i = elim i [ ]
copy_access p g (Some m) r good i = go (mastered_at (knowledge_at p) (key_of g.context)) (part (tree_of_moment p m) (key_of g.context)) i
  where
    go : (x : Option Mastered) (entries : List Named)
        → In r (as_sent p g entries x).subordinate
        → IsRightAccess (knowledge_at p) r
    go None entries j = elim j [ ]
    go (Some c) entries j = sent_access (knowledge_at p) c entries r good j

-- the copies that may be used are copies
pub usable_is : (req : Request) (h : Holdings) (c : Held) → In c (usable_copies req h) → (x : Copy) × In x h.copies × (c ≡ x.held)
usable_is req h c i = go (may_copy req) i
  where
    go : (b : Bool) → In c (if b then map (λ (x : Copy). x.held) (filter (λ (x : Copy). is_some x.stamp) h.copies) else []) → (x : Copy) × In x h.copies × (c ≡ x.held)
    go true j = (let m = of_map (λ (x : Copy). x.held) c (filter (λ (x : Copy). is_some x.stamp) h.copies) j in (m.0, (of_filter (λ (x : Copy). is_some x.stamp) m.0 h.copies m.1).0, m.2))
    go false j = elim j [ ]

pub subordinates_right : (p : Point) (o : ℕ) (req : Request) (r : Specific) → IsSound p → In r (subordinates req (holdings_at p o)) → IsRightAccess (knowledge_at p) r
subordinates_right p o req r sound =
    by_agent p o (λ h. In r (subordinates req h) → IsRightAccess (knowledge_at p) r)
    (λ i. none (may_copy req) i)
    (λ a ia i.
    let h : Holdings = agent_holdings p o a in
    elim (in_either r (flat_map (λ (c : Held). c.subordinate) h.own ++ flat_map (λ (c : Held). c.subordinate) (usable_copies req h)) h.root i) [
      | inr j ↦ at_root a ia (is_none a.superior) j
      | inl j ↦ elim (in_either r (flat_map (λ (c : Held). c.subordinate) h.own) (flat_map (λ (c : Held). c.subordinate) (usable_copies req h)) j) [
        | inl l ↦
            let c = of_flat (λ (c : Held). c.subordinate) r h.own l in
            let d = own_is p o a c.0 ia c.1 in
            let f = of_filter (λ (k : Specific). is_there (part (tree_at p) (key_of d.0.prefix)) (parent (key_of k.pin))) r a.subordinate (subst (λ (x : Held). In r x.subordinate) d.2 c.2) in
            subordinate_access (knowledge_at p) o a r (good_at p sound) ia f.0
        | inr l ↦
            let c = of_flat (λ (c : Held). c.subordinate) r (usable_copies req h) l in
            let x = usable_is req h c.0 c.1 in
            let g = copy_is p o a x.0 x.1 in
            copy_access p g.0 (as_of p g.0.number) r (good_at p sound) (subst (λ (y : Held). In r y.subordinate) (x.2 ∙ ap (λ (z : Copy). z.held) g.3) c.2)
      ]
    ])
  where
    none : (b : Bool) → In r ((flat_map (λ (c : Held). c.subordinate) [] ++ flat_map (λ (c : Held). c.subordinate) (if b then [] else [])) ++ []) → IsRightAccess (knowledge_at p) r
    none true i = elim i [ ]
    none false i = elim i [ ]

    at_root : (a : Agent) → In (o, a) (numbered (knowledge_at p)) → (b : Bool) → In r (if b then filter (λ (k : Specific). length k.pin == 1) a.subordinate else []) → IsRightAccess (knowledge_at p) r
    at_root a ia true j = subordinate_access (knowledge_at p) o a r (good_at p sound) ia (of_filter (λ (k : Specific). length k.pin == 1) r a.subordinate j).0
    at_root a ia false j = elim j [ ]

pub crosses_right : (p : Point) (o : ℕ) (r : Specific) → IsSound p → In r (holdings_at p o).cross → IsRightAccess (knowledge_at p) r
crosses_right p o r sound =
    by_agent p o (λ h. In r h.cross → IsRightAccess (knowledge_at p) r) (λ i. elim i [ ]) (λ a ia i. cross_access (knowledge_at p) o a r (good_at p sound) ia i)

-- so each usable agent holds the pin
pub usable_holds : (w : World) (req : Request) (r : Specific) (a : ℕ) → IsRightAccess w r → In a (usable_agents req r.access) → IsHeld w a (key_of r.pin)
usable_holds w req r a right i = go (may_copy req) i
  where
    master : a ≡ r.access.master → IsHeld w a (key_of r.pin)
    master e = inl (subst (λ (x : ℕ). IsMastered (knowledge_of w) x (key_of r.pin)) (sym e) right.0)

    go : (b : Bool) → In a (if b then (r.access.master ∷ r.access.shadows) else (r.access.master ∷ [])) → IsHeld w a (key_of r.pin)
    go true j = elim (in_first a r.access.master r.access.shadows j) [ inl e ↦ master e | inr l ↦ inr (right.1 a l) ]
    go false j = elim (in_first a r.access.master [] j) [ inl e ↦ master e | inr l ↦ elim l [ ] ]
