-- The references of the parts of a list or search lead on.
use Rattle.std.proofs.Common.{◌≡◌, ℕ, zero, suc, ◌+◌, ◌<◌, ◌≤◌, ◌==◌, Bool, true, false, not, ◌&&◌, ◌⊎◌, inl, inr, List, [], ◌∷◌, ◌++◌, length, map, refl, sym, ap, subst, ◌∙◌, arith, Option, Some, None, if◌then◌else◌}
use Rattle.std.specs.List.{filter, list_any, flat_map}
use Rattle.std.specs.Option.{is_some, is_none}
use Rattle.std.proofs.lemmas.Bool.Decides.{Decides-eqb}
use Rattle.x5_model.specs.Words.{has, is_empty, in_option, when}
use Rattle.x5_model.specs.Members.{In}
use Rattle.x5_model.specs.Keys.{Key, IsPrefix, same_key, is_child, is_root, parent}
use Rattle.x5_model.specs.Values.{Name, key_of}
use Rattle.x5_model.specs.Entries.{Named}
use Rattle.x5_model.specs.Requests.{Subset}
use Rattle.x5_model.specs.References.{Progress, Start, Next, Done, Reference, Subordinate, NonSpecific, Supplier, TraceItem, Chained}
use Rattle.x5_model.proofs.KeyLaws.{key_decides}
use Rattle.x5_model.proofs.Lists.{both_true, not_true, in_first, in_either, in_left, in_right, in_map, of_map, in_flat, of_flat, any_in, of_any, of_find, of_filter, has_in, of_has}
use Rattle.x5_model.proofs.Prefixes.{prefix_length, child_decides, parent_length, parent_is_prefix}
use Rattle.x5_model_tree.specs.World.{Specific, Nssr, Context, Agent, Agreement, World}
use Rattle.x5_model_tree.specs.Tree.{key_at, keys_of, is_there, entry_at, part, belongs}
use Rattle.x5_model_tree.specs.Masters.{Mastered, pin_of, pins, numbered, mastered, agent_at, masters, supplier_of}
use Rattle.x5_model_tree.specs.Ask.{in_subset}
use Rattle.x5_model_run.specs.Holdings.{Held, Copy, Holdings, may_copy, usable_agents, held_at, copy_at, masters_pin, usable_copies, served, subordinates, known_pin, holds_within, is_first_level}
use Rattle.x5_model_run.specs.History.{Point, knowledge_at, tree_at, tree_of_moment, as_of, own_context, references_below, sent_references, mastered_at, copy_as_of, agent_holdings, no_holdings, holdings_at}
use Rattle.x5_model_run.specs.Journal.{item_of, is_done, is_wide}
use Rattle.x5_model_run.specs.Needs.{others, reference, resolves, subset_of, by_pin, is_excluded, begins_at, and_below, evaluated, answers_root, below_needs, in_scope, treated_below, wide_needs, part_needs, copied_needs}
use Rattle.x5_model_run.specs.Placed.{stands_at}
use Rattle.x5_model_run.specs.Stage.{stage_of, is_lower, steps_to_master}
use Rattle.x5_model_theory.specs.Knowledge.{Area, Supply, IsMastered}
use Rattle.x5_model_theory.specs.Coherent.{IsFed}
use Rattle.x5_model_theory.specs.Described.{area_of, spot_of, knowledge_of, supply_of}
use Rattle.x5_model_theory.specs.Leading.{IsSound, PinsWithin, level_of, IsFurther, Leads, PartsLead, CopiesLead}
use Rattle.x5_model_theory.proofs.Tests.{false_true}
use Rattle.x5_model_theory.proofs.Views.{there_decides}
use Rattle.x5_model_theory.proofs.Stages.{lower_decides, key_length, same_progress_is}
use Rattle.x5_model_theory.proofs.Holding.{good_at, IsHeld, holds_decides, by_agent, own_is, copy_is, usable_is, subordinates_right, usable_holds}
use Rattle.x5_model_theory.proofs.Deciding.{dec_nat}
use Rattle.x5_model_theory.proofs.Longest.{belongs_below}
use Rattle.x5_model_theory.proofs.Supplying.{supplier_is}
use Rattle.x5_model_theory.proofs.Cohering.{agreements_apart}
use Rattle.x5_model_theory.proofs.Distances.{supplier_nearer}
use Rattle.x5_model_theory.proofs.Rows.{resolved, within_is, beyond, copy_of, supplier_of_fed}

-- a copy's entries are below its prefix, its references just below an entry, and its NSSRs are the master's
abbrev as_sent : Point → Agreement → List Named → Option Mastered → Held
as_sent p g entries x =
    in_option (record { prefix = g.context; entries = entries; subordinate = []; nssrs = [] }) (λ (c : Mastered). record { prefix = g.context; entries = entries; subordinate = sent_references (knowledge_at p) c entries; nssrs = c.context.nssrs }) x

sent_below : (w : World) (m : Mastered) (entries : List Named) (r : Specific) → In r (sent_references w m entries) → In (parent (key_of r.pin)) (keys_of entries)
sent_below w m entries r i =
    let mine : Mastered → Specific = λ d. record { pin = d.context.prefix; access = record { master = m.master; shadows = [] } } in
    let test : Mastered → Bool = λ d. (d.master == m.master) && is_there entries (parent (pin_of d)) in
    elim (in_either r (map mine (filter test (mastered w))) _ i) [
      | inl j ↦
          let d = of_map mine r (filter test (mastered w)) j in
          let f = of_filter test d.0 (mastered w) d.1 in
          let t : is_there entries (parent (pin_of d.0)) ≡ true = (both_true (d.0.master == m.master) _ f.1).1 in
          subst (λ (x : Specific). In (parent (key_of x.pin)) (keys_of entries)) (sym d.2) ((there_decides entries (parent (pin_of d.0))).0 t)
      | inr j ↦ at (agent_at w m.master) j
    ]
  where
    at : (x : Option Agent) → In r (in_option [] (λ (a : Agent). filter (λ (k : Specific). not (masters w m.master (key_of k.pin))) (references_below entries a.subordinate)) x) → In (parent (key_of r.pin)) (keys_of entries)
    at None j = elim j [ ]
    at (Some a) j =
        let f = of_filter (λ (k : Specific). not (masters w m.master (key_of k.pin))) r (references_below entries a.subordinate) j in
        let g = of_filter (λ (k : Specific). is_there entries (parent (key_of k.pin))) r a.subordinate f.0 in
        (there_decides entries (parent (key_of r.pin))).0 g.1

record IsSettled (p : Point) (c : Held) : Type 0 where
  below : (e : Named) → In e c.entries → IsPrefix (key_of c.prefix) (key_at e)
  referred : (r : Specific) → In r c.subordinate → In (parent (key_of r.pin)) (keys_of c.entries)
  stands : (n : Nssr) (a : ℕ) → In n c.nssrs → In a n.agents → stands_at (knowledge_at p) (key_of n.at) a ≡ true

stands_in : (w : World) (m : Mastered) (n : Nssr) (a : ℕ) → In m (mastered w) → In n m.context.nssrs → In a n.agents → stands_at w (key_of n.at) a ≡ true
stands_in w m n a i j l =
    let inner : (same_key (key_of n.at) (key_of n.at) && has ◌==◌ n.agents a) ≡ true = true_both _ _ ((key_decides (key_of n.at) (key_of n.at)).1 refl) (has_in ◌==◌ Decides-eqb a n.agents l) in
    any_in (λ (x : Mastered). list_any (λ (y : Nssr). same_key (key_of y.at) (key_of n.at) && has ◌==◌ y.agents a) x.context.nssrs) m (mastered w) i
    (any_in (λ (y : Nssr). same_key (key_of y.at) (key_of n.at) && has ◌==◌ y.agents a) n m.context.nssrs j inner)
  where
    true_both : (b c : Bool) → b ≡ true → c ≡ true → (b && c) ≡ true
    true_both true c x y = y
    true_both false c x y = absurd (false_true x)

copy_settled : (p : Point) (g : Agreement) (o : Option ℕ) → IsSettled p (copy_as_of p g o)
copy_settled p g None = record { below = λ e i. elim i [ ]; referred = λ r i. elim i [ ]; stands = λ n a i j. elim i [ ] }
copy_settled p g (Some m) = go (mastered_at (knowledge_at p) (key_of g.context)) refl
  where
    entries : List Named
    entries = part (tree_of_moment p m) (key_of g.context)

    inside : (e : Named) → In e (part (tree_of_moment p m) (key_of g.context)) → IsPrefix (key_of g.context) (key_at e)
    inside e i =
        let f = of_filter (λ (y : Named). belongs (tree_of_moment p m).pins (key_of g.context) (key_at y)) e (tree_of_moment p m).entries i in
        belongs_below (tree_of_moment p m).pins (key_of g.context) (key_at e) f.1

    go : (x : Option Mastered) → mastered_at (knowledge_at p) (key_of g.context) ≡ x → IsSettled p (as_sent p g (part (tree_of_moment p m) (key_of g.context)) x)
    go None e = record { below = inside; referred = λ r i. elim i [ ]; stands = λ n a i j. elim i [ ] }
    go (Some c) e =
        let f = of_find (λ (y : Mastered). same_key (pin_of y) (key_of g.context)) c (mastered (knowledge_at p)) e in
        record { below = inside; referred = λ r i. sent_below (knowledge_at p) c (part (tree_of_moment p m) (key_of g.context)) r i; stands = λ n a i j. stands_in (knowledge_at p) c n a f.0 i j }

own_settled : (p : Point) (o : ℕ) (agent : Agent) (d : Context) → In (o, agent) (numbered (knowledge_at p)) → In d agent.contexts → IsSettled p (own_context (tree_at p) agent d)
own_settled p o agent d io id = record {
  below = λ e i.
      let f = of_filter (λ (y : Named). belongs (tree_at p).pins (key_of d.prefix) (key_at y)) e (tree_at p).entries i in
      belongs_below (tree_at p).pins (key_of d.prefix) (key_at e) f.1;
  referred = λ r i.
      let f = of_filter (λ (k : Specific). is_there (part (tree_at p) (key_of d.prefix)) (parent (key_of k.pin))) r agent.subordinate i in
      (there_decides (part (tree_at p) (key_of d.prefix)) (parent (key_of r.pin))).0 f.1;
  stands = λ n a i j.
      stands_in (knowledge_at p) (at_place o d) n a (in_flat (λ (x : ℕ × Agent). map (at_place x.0) x.1.contexts) (at_place o d) (o, agent) (numbered (knowledge_at p)) io (in_map (at_place o) d agent.contexts id)) i j;
}
  where
    at_place : ℕ → Context → Mastered
    at_place n c = record { master = n; context = c }

module _ (p : Point) (o : ℕ) (m : Chained) where
  abbrev w : World
  w = knowledge_at p

  abbrev h : Holdings
  h = holdings_at p o

  abbrev all : List Held
  all = served m.request h

  settled : (c : Held) → In c all → IsSettled p c
  settled c =
      by_agent p o (λ x. In c (served m.request x) → IsSettled p c) (λ i. none (may_copy m.request) i)
      (λ agent ia i.
      let x : Holdings = agent_holdings p o agent in
      elim (in_either c x.own (filter (λ (d : Held). not (masters_pin x (key_of d.prefix))) (usable_copies m.request x)) i) [
        | inl j ↦ (let d = own_is p o agent c ia j in subst (λ (y : Held). IsSettled p y) (sym d.2) (own_settled p o agent d.0 ia d.1))
        | inr j ↦
            let f = of_filter (λ (d : Held). not (masters_pin x (key_of d.prefix))) c (usable_copies m.request x) j in
            let u = usable_is m.request x c f.0 in
            let g = copy_is p o agent u.0 u.1 in
            subst (λ (y : Held). IsSettled p y) (sym (u.2 ∙ ap (λ (z : Copy). z.held) g.3)) (copy_settled p g.0 (as_of p g.0.number))
      ])
    where
      none : (b : Bool) → In c ([] ++ filter (λ (d : Held). not (masters_pin (no_holdings o) (key_of d.prefix))) (if b then [] else [])) → IsSettled p c
      none true i = elim i [ ]
      none false i = elim i [ ]

  -- references of what may be served
  served_subordinate : (c : Held) (k : Specific) → In c all → In k c.subordinate → In k (subordinates m.request h)
  served_subordinate c k i j =
      elim (in_either c h.own (filter (λ (d : Held). not (masters_pin h (key_of d.prefix))) (usable_copies m.request h)) i) [
        | inl l ↦ in_left k (flat_map (λ (d : Held). d.subordinate) h.own ++ flat_map (λ (d : Held). d.subordinate) (usable_copies m.request h)) h.root
            (in_left k (flat_map (λ (d : Held). d.subordinate) h.own) (flat_map (λ (d : Held). d.subordinate) (usable_copies m.request h)) (in_flat (λ (d : Held). d.subordinate) k c h.own l j))
        | inr l ↦ in_left k (flat_map (λ (d : Held). d.subordinate) h.own ++ flat_map (λ (d : Held). d.subordinate) (usable_copies m.request h)) h.root
            (in_right k (flat_map (λ (d : Held). d.subordinate) h.own) (flat_map (λ (d : Held). d.subordinate) (usable_copies m.request h))
            (in_flat (λ (d : Held). d.subordinate) k c (usable_copies m.request h) (of_filter (λ (d : Held). not (masters_pin h (key_of d.prefix))) c (usable_copies m.request h) l).0 j))
      ]

  below_all : (n : ℕ) (base : Key) (subset : Subset) (least : ℕ) (level : List Held) (c : Held)
      → ((d : Held) → In d level → In d all × (least ≤ length (key_of d.prefix))) → In c (and_below n all base subset level) → In c all × (least ≤ length (key_of c.prefix))
  below_all zero base subset least level c f i = f c i
  below_all (suc n) base subset least level c f i = go (is_empty level) i (below_all n base subset least _ c further)
    where
      further : (d : Held) → In d (filter (λ (c : Held). in_subset subset base (key_of c.prefix) && list_any (λ (d : Held). is_there d.entries (parent (key_of c.prefix))) level) all) → In d all × (least ≤ length (key_of d.prefix))
      further d j =
          let t = of_filter (λ (c : Held). in_subset subset base (key_of c.prefix) && list_any (λ (d : Held). is_there d.entries (parent (key_of c.prefix))) level) d all j in
          let u = both_true (in_subset subset base (key_of d.prefix)) _ t.1 in
          let x = of_any (λ (y : Held). is_there y.entries (parent (key_of d.prefix))) level u.1 in
          let up = (there_decides x.0.entries (parent (key_of d.prefix))).0 x.2 in
          let e = of_map key_at (parent (key_of d.prefix)) x.0.entries up in
          let above = f x.0 x.1 in
          let pre : IsPrefix (key_of x.0.prefix) (parent (key_of d.prefix)) = subst (λ (y : Key). IsPrefix (key_of x.0.prefix) y) (sym e.2) ((settled x.0 above.0).below e.0 e.1) in
          let a : length (key_of x.0.prefix) ≤ length (parent (key_of d.prefix)) = prefix_length (key_of x.0.prefix) (parent (key_of d.prefix)) pre in
          let b : length (parent (key_of d.prefix)) ≤ length (key_of d.prefix) = prefix_length (parent (key_of d.prefix)) (key_of d.prefix) (parent_is_prefix (key_of d.prefix)) in
          let l : least ≤ length (key_of x.0.prefix) = above.1 in
          (t.0, omega arith)

      go : (b : Bool)
          → In c (if b then [] else level ++ and_below n all base subset (filter (λ (c : Held). in_subset subset base (key_of c.prefix) && list_any (λ (d : Held). is_there d.entries (parent (key_of c.prefix))) level) all))
          → (In c (and_below n all base subset (filter (λ (c : Held). in_subset subset base (key_of c.prefix) && list_any (λ (d : Held). is_there d.entries (parent (key_of c.prefix))) level) all)) → In c all × (least ≤ length (key_of c.prefix)))
          → In c all × (least ≤ length (key_of c.prefix))
      go true j more = elim j [ ]
      go false j more = elim (in_either c level _ j) [ inl k ↦ f c k | inr k ↦ more k ]

  abbrev base_key : Key
  base_key = key_of m.target

  -- what came by a nonSpecific reference begins below its target
  abbrev least_of : Bool → ℕ
  least_of true = length base_key + 1
  least_of false = length base_key

  abbrev found : Subset → Option Key → List Held
  found subset None = if is_first_level h && is_root base_key then filter (λ (c : Held). (length c.prefix == 1) && in_subset subset base_key (key_of c.prefix)) all else []
  found subset (Some q) = filter (λ (c : Held). same_key (key_of c.prefix) q && is_there c.entries base_key) all

  found_served : (subset : Subset) (c : Held) (x : Option Key) → In c (found subset x) → In c all
  found_served subset c None i = go (is_first_level h && is_root base_key) i
    where
      go : (b : Bool) → In c (if b then filter (λ (c : Held). (length c.prefix == 1) && in_subset subset base_key (key_of c.prefix)) all else []) → In c all
      go true j = (of_filter (λ (c : Held). (length c.prefix == 1) && in_subset subset base_key (key_of c.prefix)) c all j).0
      go false j = elim j [ ]
  found_served subset c (Some q) i = (of_filter (λ (c : Held). same_key (key_of c.prefix) q && is_there c.entries base_key) c all i).0

  begins : (subset : Subset) (c : Held) (x : Progress) → In c (begins_at h (record m { progress = x }) subset) → In c all × (x ≡ Done → least_of (is_wide m.kind) ≤ length (key_of c.prefix))
  begins subset c Start i = (found_served subset c (known_pin m.request h base_key) i, λ e. cc)
  begins subset c (Next k) i = (go (resolves h (record m { progress = Next k })) i, λ e. cc)
    where
      go : (b : Bool) → In c (if b then found subset (known_pin m.request h base_key) else []) → In c all
      go true j = found_served subset c (known_pin m.request h base_key) j
      go false j = elim j [ ]
  begins subset c Done i = (let g = go (is_wide m.kind) i in (g.0, λ e. g.1))
    where
      test : Held → Bool
      test c = is_child base_key (key_of c.prefix) && (in_subset subset base_key (key_of c.prefix) && not (is_excluded m.exclusions c.prefix))

      go : (b : Bool)
          → In c (if b then filter (λ (c : Held). is_child base_key (key_of c.prefix) && (in_subset subset base_key (key_of c.prefix) && not (is_excluded m.exclusions c.prefix))) h.own else filter (λ (c : Held). same_key (key_of c.prefix) base_key) all)
          → In c all × (least_of b ≤ length (key_of c.prefix))
      go true j =
          let f = of_filter (λ (c : Held). is_child base_key (key_of c.prefix) && (in_subset subset base_key (key_of c.prefix) && not (is_excluded m.exclusions c.prefix))) c h.own j in
          let t = both_true (is_child base_key (key_of c.prefix)) _ f.1 in
          let child = (child_decides base_key (key_of c.prefix)).0 t.0 in
          let up : length (parent (key_of c.prefix)) + 1 ≡ length (key_of c.prefix) = parent_length (key_of c.prefix) child.0 in
          let same : length (parent (key_of c.prefix)) ≡ length base_key = ap length child.1 in
          (in_left c h.own (filter (λ (d : Held). not (masters_pin h (key_of d.prefix))) (usable_copies m.request h)) f.0, omega arith)
      go false j =
          let f = of_filter (λ (c : Held). same_key (key_of c.prefix) base_key) c all j in
          let same : length (key_of c.prefix) ≡ length base_key = ap length ((key_decides (key_of c.prefix) base_key).0 f.1) in
          (f.0, omega arith)

  evaluated_is : (c : Held) → In c (evaluated h m) → In c all × (m.progress ≡ Done → least_of (is_wide m.kind) ≤ length (key_of c.prefix))
  evaluated_is c i = go (subset_of m) i
    where
      go : (x : Option Subset) → In c (in_option [] (λ (subset : Subset). and_below 16 all base_key subset (begins_at h m subset)) x) → In c all × (m.progress ≡ Done → least_of (is_wide m.kind) ≤ length (key_of c.prefix))
      go None j = elim j [ ]
      go (Some s) j = (
        (below_all 16 base_key s 0 (begins_at h m s) c (λ d l. ((begins s d m.progress l).0, omega arith)) j).0,
        λ e. (below_all 16 base_key s (least_of (is_wide m.kind)) (begins_at h m s) c (λ d l. (let b = begins s d m.progress l in (b.0, b.1 e))) j).1,
      )

  -- so far as its message came, what is evaluated is further
  abbrev here_at : Progress → TraceItem
  here_at x = record { agent = o; target = m.target; progress = x; wide = is_wide m.kind }

  found_level : (subset : Subset) (c : Held) (k : ℕ) (x : Option Key) → holds_within h base_key k ≡ true → known_pin m.request h base_key ≡ x → In c (found subset x) → k ≤ length (key_of c.prefix)
  found_level subset c k None e known i = go (is_first_level h && is_root base_key) refl i
    where
      go : (b : Bool) → (is_first_level h && is_root base_key) ≡ b → In c (if b then filter (λ (c : Held). (length c.prefix == 1) && in_subset subset base_key (key_of c.prefix)) all else []) → k ≤ length (key_of c.prefix)
      go true f j =
          let root : length base_key ≡ 0 = (Decides-eqb (length base_key) 0).0 (both_true (is_first_level h) (is_root base_key) f).1 in
          let y = within_is h base_key k e in
          let le : length (key_of y.0) ≤ length base_key = prefix_length (key_of y.0) base_key y.2 in
          let ge : k ≤ length (key_of y.0) = y.3 in
          omega arith
      go false f j = elim j [ ]
  found_level subset c k (Some q) e known i =
      let f = of_filter (λ (c : Held). same_key (key_of c.prefix) q && is_there c.entries base_key) c all i in
      let same : length (key_of c.prefix) ≡ length q = ap length ((key_decides (key_of c.prefix) q).0 (both_true (same_key (key_of c.prefix) q) _ f.1).0) in
      let le : k ≤ length q = beyond p o m q known k e in
      omega arith

  done_level : (b : Bool) (n : ℕ) → least_of b ≤ n → (if b then length m.target + 1 else length m.target) ≤ n
  done_level true n h = (let e : length (key_of m.target) ≡ length m.target = key_length m.target in omega arith)
  done_level false n h = (let e : length (key_of m.target) ≡ length m.target = key_length m.target in omega arith)

  begins_level : (subset : Subset) (c : Held) (x : Progress) → In c (begins_at h (record m { progress = x }) subset) → level_of (record { agent = o; target = m.target; progress = x; wide = is_wide m.kind }) ≤ length (key_of c.prefix)
  begins_level subset c Start i = omega arith
  begins_level subset c (Next k) i = go (holds_within h base_key k) refl i
    where
      go : (b : Bool) → holds_within h base_key k ≡ b → In c (if b then found subset (known_pin m.request h base_key) else []) → k ≤ length (key_of c.prefix)
      go true e j = found_level subset c k (known_pin m.request h base_key) e refl j
      go false e j = elim j [ ]
  begins_level subset c Done i = done_level (is_wide m.kind) (length (key_of c.prefix)) ((begins subset c Done i).1 refl)

  evaluated_level : (c : Held) → In c (evaluated h m) → level_of (item_of o m) ≤ length (key_of c.prefix)
  evaluated_level c i = go (subset_of m) i
    where
      go : (x : Option Subset) → In c (in_option [] (λ (subset : Subset). and_below 16 all base_key subset (begins_at h m subset)) x) → level_of (item_of o m) ≤ length (key_of c.prefix)
      go None j = elim j [ ]
      go (Some s) j = (below_all 16 base_key s (level_of (item_of o m)) (begins_at h m s) c (λ d l. ((begins s d m.progress l).0, begins_level s d m.progress l)) j).1

  -- at the root nothing is resolved
  root_level : resolves h m ≡ true → is_root base_key ≡ true → level_of (item_of o m) ≡ 0
  root_level e root =
      resolved h m (λ x. level_of (record { agent = o; target = m.target; progress = x; wide = is_wide m.kind }) ≡ 0) e refl
      (λ j d.
      (let none : length base_key ≡ 0 = (Decides-eqb (length base_key) 0).0 root in
      let y = within_is h base_key j d in
      let le : length (key_of y.0) ≤ length base_key = prefix_length (key_of y.0) base_key y.2 in
      let ge : j ≤ length (key_of y.0) = y.3 in
      omega arith))

  abbrev mark_of : Bool → ℕ
  mark_of b = if b then 1 else 0

  done_lower : (a : ℕ) (target : Name) (wide : Bool)
      → (m.progress ≡ Done → (length m.target < length target) ⊎ ((length m.target ≡ length target) × ((mark_of (is_wide m.kind) < mark_of wide) ⊎ ((mark_of (is_wide m.kind) ≡ mark_of wide) × (steps_to_master 4 w (key_of target) a < steps_to_master 4 w (key_of m.target) o)))))
      → is_lower (stage_of w (item_of o m)) (stage_of w (record { agent = a; target = target; progress = Done; wide = wide })) ≡ true
  done_lower a target wide f = go m.progress f
    where
      go : (x : Progress)
          → (x ≡ Done → (length m.target < length target) ⊎ ((length m.target ≡ length target) × ((mark_of (is_wide m.kind) < mark_of wide) ⊎ ((mark_of (is_wide m.kind) ≡ mark_of wide) × (steps_to_master 4 w (key_of target) a < steps_to_master 4 w (key_of m.target) o)))))
          → is_lower (stage_of w (record { agent = o; target = m.target; progress = x; wide = is_wide m.kind })) (stage_of w (record { agent = a; target = target; progress = Done; wide = wide })) ≡ true
      go Start f = (lower_decides (stage_of w (record { agent = o; target = m.target; progress = Start; wide = is_wide m.kind })) (stage_of w (record { agent = a; target = target; progress = Done; wide = wide }))).1 (inl (omega arith))
      go (Next k) f = (lower_decides (stage_of w (record { agent = o; target = m.target; progress = Next k; wide = is_wide m.kind })) (stage_of w (record { agent = a; target = target; progress = Done; wide = wide }))).1 (inl (omega arith))
      go Done f = (lower_decides (stage_of w (record { agent = o; target = m.target; progress = Done; wide = is_wide m.kind })) (stage_of w (record { agent = a; target = target; progress = Done; wide = wide }))).1 (inr (refl, f refl))

  least_is : (b : Bool) → length base_key ≤ least_of b
  least_is true = omega arith
  least_is false = omega arith

  within_pins : {agent : ℕ} (n : ℕ) (q : Key) → PinsWithin n w → IsMastered (knowledge_of w) agent q → {j : ℕ} → length q ≡ j → j ≤ n
  within_pins n q f c {j} e =
      let x = of_map area_of c.0 (mastered w) c.1 in
      let is : pin_of x.0 ≡ q = ap (λ (y : Area). y.prefix) (sym x.2) ∙ c.3 in
      let le : length q ≤ n = f q (subst (λ (y : Key). In y (pins w)) is (in_map pin_of x.0 (mastered w) x.1)) in
      omega arith

  -- who stands in an NSSR masters a pin just below
  stood_pin : (at : Key) (a : ℕ) → IsSound p → stands_at w at a ≡ true → (d : Area) × In d (knowledge_of w).areas × (parent d.prefix ≡ at)
  stood_pin at a sound e =
      let x = of_any (λ (x : Mastered). list_any (λ (y : Nssr). same_key (key_of y.at) at && has ◌==◌ y.agents a) x.context.nssrs) (mastered w) e in
      let y = of_any (λ (y : Nssr). same_key (key_of y.at) at && has ◌==◌ y.agents a) x.0.context.nssrs x.2 in
      let b = both_true (same_key (key_of y.0.at) at) _ y.2 in
      let d = (good_at p sound).nssr_masters (area_of x.0) (spot_of y.0) a (in_map area_of x.0 (mastered w) x.1) (in_map spot_of y.0 x.0.context.nssrs y.1) (of_has ◌==◌ Decides-eqb a y.0.agents b.1) in
      (d.0, d.1, d.3 ∙ (key_decides (key_of y.0.at) at).0 b.0)

  -- 5
  below_leads : (subset : Subset) (ks : List Specific) (r : Reference) (a : ℕ) → IsSound p → is_some (subset_of m) ≡ true → ((k : Specific) → In k ks → In k (subordinates m.request h) × (m.progress ≡ Done → length m.target < length k.pin) × (level_of (item_of o m) < length k.pin))
      → In r (below_needs h m subset ks) → In a r.agents → Leads p o m r a
  below_leads subset ks r a sound asked f i j =
      let made : Specific → Reference = λ k. reference k.pin Done Subordinate (usable_agents m.request k.access) in
      let test : Specific → Bool = λ k. in_subset subset base_key (key_of k.pin) && is_none (held_at (served m.request h) (key_of k.pin)) in
      let k = of_map made r (filter test ks) i in
      let g = of_filter test k.0 ks k.1 in
      let q = f k.0 g.0 in
      let right = subordinates_right p o m.request k.0 sound q.0 in
      let held : IsHeld w a (key_of k.0.pin) = usable_holds w m.request k.0 a right (subst (λ (x : Reference). In a x.agents) k.2 j) in
      subst (λ (x : Reference). Leads p o m x a) (sym k.2) (record {
        lower = done_lower a k.0.pin false (λ e. inl (q.1 e));
        further = inl q.2;
        bounded = λ n tl f. within_pins n (key_of k.0.pin) f right.0 (key_length k.0.pin);
        brought = (holds_decides w a (key_of k.0.pin)).1 held;
        keeps = inl refl;
        late = inr asked;
      })

  -- a reference's pin has an RDN
  pin_filled : (k : Specific) → IsSound p → In k (subordinates m.request h) → 0 < length (key_of k.pin)
  pin_filled k sound i =
      let right = subordinates_right p o m.request k sound i in
      let c = right.0 in
      let f : 0 < length c.0.prefix = (good_at p sound).filled c.0 c.1 in
      subst (λ (x : Key). 0 < length x) c.3 f

  below_part : (c : Held) (k : Specific) → IsSound p → In c (evaluated h m) → In k c.subordinate → In k (subordinates m.request h) × (m.progress ≡ Done → length m.target < length k.pin) × (level_of (item_of o m) < length k.pin)
  below_part c k sound i j =
      let e = evaluated_is c i in
      let mine = served_subordinate c k e.0 j in
      let up = (settled c e.0).referred k j in
      let x = of_map key_at (parent (key_of k.pin)) c.entries up in
      let pre : IsPrefix (key_of c.prefix) (parent (key_of k.pin)) = subst (λ (y : Key). IsPrefix (key_of c.prefix) y) (sym x.2) ((settled c e.0).below x.0 x.1) in (
        mine,
        λ done.
            let a : length (key_of c.prefix) ≤ length (parent (key_of k.pin)) = prefix_length (key_of c.prefix) (parent (key_of k.pin)) pre in
            let b : length (parent (key_of k.pin)) + 1 ≡ length (key_of k.pin) = parent_length (key_of k.pin) (pin_filled k sound mine) in
            let l : least_of (is_wide m.kind) ≤ length (key_of c.prefix) = e.1 done in
            let z : length base_key ≤ least_of (is_wide m.kind) = least_is (is_wide m.kind) in
            let t : length (key_of m.target) ≡ length m.target = key_length m.target in
            let s : length (key_of k.pin) ≡ length k.pin = key_length k.pin in
            omega arith,
        let a : length (key_of c.prefix) ≤ length (parent (key_of k.pin)) = prefix_length (key_of c.prefix) (parent (key_of k.pin)) pre in
            let b : length (parent (key_of k.pin)) + 1 ≡ length (key_of k.pin) = parent_length (key_of k.pin) (pin_filled k sound mine) in
            let s : length (key_of k.pin) ≡ length k.pin = key_length k.pin in
            let l : level_of (item_of o m) ≤ length (key_of c.prefix) = evaluated_level c i in
            omega arith,
      )

  -- 6
  others_are : (n : Nssr) (a : ℕ) → In a (others h.me n.agents) → In a n.agents
  others_are n a i = (of_filter (λ (x : ℕ). not (x == h.me)) a n.agents i).0

  wide_stage : (b : Bool) (n t : ℕ) → least_of b ≤ n → length base_key ≡ t → (t < n) ⊎ ((t ≡ n) × ((mark_of b < 1) ⊎ ((mark_of b ≡ 1) × ⊥)))
  wide_stage true n t h e = inl (omega arith)
  wide_stage false n t h e = elim (dec_nat t n) [ inl same ↦ inr (same, inl (omega arith)) | inr other ↦ inl (omega (arith, other)) ]

  wide_leads : (subset : Subset) (c : Held) (r : Reference) (a : ℕ) → IsSound p → is_some (subset_of m) ≡ true → In c (evaluated h m) → In r (wide_needs h m subset c) → In a r.agents → Leads p o m r a
  wide_leads subset c r a sound asked ic i j =
      let n = of_flat (λ (n : Nssr). in_option [] (ask n) (entry_at c.entries (key_of n.at))) r c.nssrs i in
      at n.0 n.1 (entry_at c.entries (key_of n.0.at)) refl n.2
    where
      made : Nssr → Named → ℕ → Reference
      made n e a = record (reference e.name Done NonSpecific (a ∷ [])) { exclusions = treated_below h m c (key_of e.name) }

      ask : Nssr → Named → List Reference
      ask n e = if in_scope subset (key_of m.target) (key_of e.name) then map (λ (a : ℕ). record (reference e.name Done NonSpecific (a ∷ [])) { exclusions = treated_below h m c (key_of e.name) }) (others h.me n.agents) else []

      of_ask : (n : Nssr) (e : Named) (b : Bool) → In r (if b then map (made n e) (others h.me n.agents) else []) → (x : ℕ) × In x n.agents × (r ≡ made n e x)
      of_ask n e true l = (let x = of_map (made n e) r (others h.me n.agents) l in (x.0, others_are n x.0 x.1, x.2))
      of_ask n e false l = elim l [ ]

      at : (n : Nssr) → In n c.nssrs → (x : Option Named) → entry_at c.entries (key_of n.at) ≡ x → In r (in_option [] (ask n) x) → Leads p o m r a
      at n k None e l = elim l [ ]
      at n k (Some y) e l =
          let x = of_ask n y (in_scope subset (key_of m.target) (key_of y.name)) l in
          let ev = evaluated_is c ic in
          let f = of_find (λ (z : Named). same_key (key_at z) (key_of n.at)) y c.entries e in
          let is : key_at y ≡ key_of n.at = (key_decides (key_at y) (key_of n.at)).0 f.1 in
          let agent : a ≡ x.0 = elim (in_first a x.0 [] (subst (λ (z : Reference). In a z.agents) x.2 j)) [ inl s ↦ s | inr s ↦ elim s [ ] ] in
          let stood : stands_at w (key_of y.name) a ≡ true =
          subst (λ (z : Key). stands_at w z a ≡ true) (sym is) (subst (λ (z : ℕ). stands_at w (key_of n.at) z ≡ true) (sym agent) ((settled c ev.0).stands n x.0 k x.1)) in
          let pre : length (key_of c.prefix) ≤ length (key_at y) = prefix_length (key_of c.prefix) (key_at y) ((settled c ev.0).below y f.0) in
          let yl : length (key_at y) ≡ length y.name = key_length y.name in
          subst (λ (z : Reference). Leads p o m z a) (sym x.2) (record {
            lower = done_lower a y.name true (λ done.
                let least : least_of (is_wide m.kind) ≤ length y.name = (let q : least_of (is_wide m.kind) ≤ length (key_of c.prefix) = ev.1 done in omega arith) in
                elim (wide_stage (is_wide m.kind) (length y.name) (length m.target) least (key_length m.target)) [
                  | inl less ↦ inl less
                  | inr level ↦ inr (level.0, elim level.1 [ inl q ↦ inl q | inr q ↦ absurd q.1 ])
                ]);
            further = inl (let l : level_of (item_of o m) ≤ length (key_of c.prefix) = evaluated_level c ic in omega arith);
            bounded = λ bound tl f.
                let d = stood_pin (key_of y.name) a sound stood in
                let full : 0 < length d.0.prefix = (good_at p sound).filled d.0 d.1 in
                let up : length (parent d.0.prefix) + 1 ≡ length d.0.prefix = parent_length d.0.prefix full in
                let same : length (parent d.0.prefix) ≡ length (key_at y) = ap length d.2 in
                within_pins bound d.0.prefix f (d.0, d.1, refl, refl) (omega arith);
            brought = stood;
            keeps = inl refl;
            late = inr asked;
          })

  -- the parts together
  parts_lead : (r : Reference) (a : ℕ) → IsSound p → In r (part_needs h m) → In a r.agents → Leads p o m r a
  parts_lead r a sound i j = go (subset_of m) refl i
    where
      below : Subset → List Reference
      below subset = (if answers_root h m then below_needs h m subset h.root else []) ++ flat_map (λ (c : Held). below_needs h m subset c.subordinate ++ wide_needs h m subset c) (evaluated h m)

      at_root : (subset : Subset) (b : Bool) → answers_root h m ≡ b → In r (if b then below_needs h m subset h.root else []) → Leads p o m r a
      at_root subset true e l =
          let root : is_root base_key ≡ true = (both_true (is_root (key_of m.target)) _ (both_true (is_first_level h) _ (both_true (is_some (subset_of m)) _ e).1).1).0 in
          let res : resolves h m ≡ true = (both_true (resolves h m) _ (both_true (is_root (key_of m.target)) _ (both_true (is_first_level h) _ (both_true (is_some (subset_of m)) _ e).1).1).1).0 in
          below_leads subset h.root r a sound (both_true (is_some (subset_of m)) _ e).0
          (λ k q. (
            in_right k (flat_map (λ (d : Held). d.subordinate) h.own ++ flat_map (λ (d : Held). d.subordinate) (usable_copies m.request h)) h.root q,
            λ done. absurd (false_true (subst (λ (x : Progress). resolves h (record m { progress = x }) ≡ true) done res)),
            let none : level_of (item_of o m) ≡ 0 = root_level res root in
                let f : 0 < length (key_of k.pin) = pin_filled k sound (in_right k (flat_map (λ (d : Held). d.subordinate) h.own ++ flat_map (λ (d : Held). d.subordinate) (usable_copies m.request h)) h.root q) in
                let s : length (key_of k.pin) ≡ length k.pin = key_length k.pin in
                omega arith,
          )) l j
      at_root subset false e l = elim l [ ]

      go : (x : Option Subset) → subset_of m ≡ x → In r (in_option [] (λ (subset : Subset). (if answers_root h m then below_needs h m subset h.root else []) ++ flat_map (λ (c : Held). below_needs h m subset c.subordinate ++ wide_needs h m subset c) (evaluated h m)) x) → Leads p o m r a
      go None e l = elim l [ ]
      go (Some s) e l =
          elim (in_either r (if answers_root h m then below_needs h m s h.root else []) _ l) [
            | inl k ↦ at_root s (answers_root h m) refl k
            | inr k ↦
                let c = of_flat (λ (c : Held). below_needs h m s c.subordinate ++ wide_needs h m s c) r (evaluated h m) k in
                elim (in_either r (below_needs h m s c.0.subordinate) (wide_needs h m s c.0) c.2) [
                  | inl x ↦ below_leads s c.0.subordinate r a sound (ap is_some e) (λ k q. below_part c.0 k sound c.1 q) x j
                  | inr x ↦ wide_leads s c.0 r a sound (ap is_some e) c.1 x j
                ]
          ]

pub parts_lead_on : PartsLead
parts_lead_on p o m r a sound i j = parts_lead p o m r a sound i j

-- 7
module _ (p : Point) (o : ℕ) (m : Chained) where
  copied_led : (c : Copy) (a : ℕ) → IsSound p → is_some (subset_of m) ≡ true → by_pin m ≡ true → copy_at (holdings_at p o) (key_of m.target) ≡ Some c → a ≡ c.supplier
      → Leads p o m (reference m.target Done Supplier (c.supplier ∷ [])) a
  copied_led c a sound asked pinned copied is_a =
      let v : World = knowledge_at p in
      let q : Key = key_of m.target in
      let good = good_at p sound in
      let g = copy_of p o m q c copied in
      let s : Supply = supply_of g.0 in
      let is : In s (knowledge_of v).supplies = in_map supply_of g.0 v.agreements g.1 in
      let supplier : a ≡ g.0.supplier = is_a ∙ ap (λ (x : Copy). x.supplier) g.3 in
      let apart = agreements_apart v sound.consistent in
      let free : IsMastered (knowledge_of v) o q → ⊥ = subst (λ (x : Key). IsMastered (knowledge_of v) o x → ⊥) g.4 (subst (λ (x : ℕ). IsMastered (knowledge_of v) x s.prefix → ⊥) g.2 (good.consumers s is)) in
      let chain : IsFed (knowledge_of v) q 4 o = subst (λ (x : Key). IsFed (knowledge_of v) x 4 o) g.4 (subst (λ (x : ℕ). IsFed (knowledge_of v) s.prefix 4 x) g.2 (good.supplied s is)) in
      let by : supplier_of v o q ≡ Some a = subst (λ (x : ℕ). supplier_of v x q ≡ Some a) g.2 (subst (λ (x : Key). supplier_of v g.0.consumer x ≡ Some a) g.4 (supplier_is v s apart is ∙ ap Some (sym supplier))) in
      let held : IsHeld v a q = supplier_of_fed v q o a good free s is g.2 g.4 (sym supplier) chain in
      let near : steps_to_master 4 v q a < steps_to_master 4 v q o = supplier_nearer v q 3 o a apart chain free by in
      let narrow : is_wide m.kind ≡ false = not_true (is_wide m.kind) (both_true _ (not (is_wide m.kind)) pinned).1 in
      let done : m.progress ≡ Done = same_progress_is m.progress Done (both_true (is_done m.progress) (not (is_wide m.kind)) pinned).0 in
      record {
        lower = done_lower p o m a m.target false (λ done. inr (refl, inr (ap (λ (b : Bool). if b then 1 else 0) narrow, near)));
        further = subst (λ (x : Progress). IsFurther v (record { agent = o; target = m.target; progress = x; wide = is_wide m.kind }) (record { agent = a; target = m.target; progress = Done; wide = false })) (sym done)
            (subst (λ (b : Bool). IsFurther v (record { agent = o; target = m.target; progress = Done; wide = b }) (record { agent = a; target = m.target; progress = Done; wide = false })) (sym narrow) (inr (refl, near)));
        bounded = λ n tl f. tl;
        brought = (holds_decides v a q).1 held;
        keeps = inr (refl, refl);
        late = inr asked;
      }

  copies_lead : (r : Reference) (a : ℕ) → IsSound p → In r (copied_needs (holdings_at p o) m) → In a r.agents → Leads p o m r a
  copies_lead r a sound i j = go (by_pin m && is_some (subset_of m)) refl i
    where
      ask : Copy → List Reference
      ask c = when (is_none (held_at (served m.request (holdings_at p o)) (key_of m.target))) (reference m.target Done Supplier (c.supplier ∷ []))

      of_when : (b : Bool) (x : Reference) → In r (when b x) → r ≡ x
      of_when true x l = elim (in_first r x [] l) [ inl e ↦ e | inr k ↦ elim k [ ] ]
      of_when false x l = elim l [ ]

      at : is_some (subset_of m) ≡ true → by_pin m ≡ true → (x : Option Copy) → copy_at (holdings_at p o) (key_of m.target) ≡ x → In r (in_option [] ask x) → Leads p o m r a
      at asked pinned None e l = elim l [ ]
      at asked pinned (Some c) e l =
          let one : r ≡ reference m.target Done Supplier (c.supplier ∷ []) = of_when (is_none (held_at (served m.request (holdings_at p o)) (key_of m.target))) _ l in
          let agent : a ≡ c.supplier = elim (in_first a c.supplier [] (subst (λ (x : Reference). In a x.agents) one j)) [ inl x ↦ x | inr y ↦ elim y [ ] ] in
          subst (λ (x : Reference). Leads p o m x a) (sym one) (copied_led c a sound asked pinned e agent)

      go : (b : Bool) → (by_pin m && is_some (subset_of m)) ≡ b → In r (if b then in_option [] ask (copy_at (holdings_at p o) (key_of m.target)) else []) → Leads p o m r a
      go true e l = at (both_true (by_pin m) (is_some (subset_of m)) e).1 (both_true (by_pin m) (is_some (subset_of m)) e).0 (copy_at (holdings_at p o) (key_of m.target)) refl l
      go false e l = elim l [ ]

pub copies_lead_on : CopiesLead
copies_lead_on p o m r a sound i j = copies_lead p o m r a sound i j
