-- The parts of a list or search cost their scopes, and what is evaluated on the spot pays for the agents of its NSSRs:
-- sums over contexts, each in one part.
use Rattle.std.proofs.Common.{◌≡◌, ℕ, ◌+◌, ◌≤◌, Bool, true, false, not, ◌&&◌, ◌⊎◌, inl, inr, List, [], ◌∷◌, ◌++◌, length, map, refl, sym, ap, subst, arith, length-append, Option, Some, None, if◌then◌else◌}
use Rattle.std.specs.List.{filter, flat_map}
use Rattle.std.specs.Option.{is_none}
use Rattle.x5_model.specs.Words.{has, in_option}
use Rattle.x5_model.specs.Members.{In}
use Rattle.x5_model.specs.Keys.{same_key}
use Rattle.x5_model.specs.Values.{key_of}
use Rattle.x5_model.specs.Entries.{Named}
use Rattle.x5_model.specs.Requests.{Subset, Request}
use Rattle.x5_model.specs.References.{Done, Reference, Subordinate, NonSpecific, Chained}
use Rattle.x5_model.proofs.Lists.{in_either, in_left, in_right, of_map, in_flat, of_flat, of_filter}
use Rattle.x5_model_tree.specs.World.{Specific, Nssr, World}
use Rattle.x5_model_tree.specs.Masters.{Mastered, pin_of, mastered}
use Rattle.x5_model_tree.specs.Tree.{entry_at}
use Rattle.x5_model_tree.specs.Ask.{in_subset}
use Rattle.x5_model_run.specs.Holdings.{Held, Holdings, masters_pin, usable_agents, usable_copies, held_at, served, subordinates}
use Rattle.x5_model_run.specs.History.{Point, knowledge_at, tree_at}
use Rattle.x5_model_run.specs.Journal.{is_wide}
use Rattle.x5_model_run.specs.Covers.{covers, touched}
use Rattle.x5_model_run.specs.Needs.{reference, others, subset_of, evaluated, answers_root, below_needs, wide_needs, in_scope, treated_below, part_needs}
use Rattle.x5_model_bounds.specs.Costs.{total, width, pairs_in}
use Rattle.x5_model_bounds.proofs.Agents.{filter_few}
use Rattle.x5_model_bounds.proofs.Sums.{total_append, total_flat_map, total_few}

-- ---- what a reference costs, by its scope

abbrev pub full : World → Mastered → ℕ
full w c = width w + pairs_in c

abbrev pub is_inside : Point → ℕ → Chained → Reference → Mastered → Bool
is_inside p o m r c = has same_key (touched (knowledge_at p) (tree_at p) o m) (pin_of c) && covers (knowledge_at p) r (pin_of c)

abbrev pub scope_cost : Point → ℕ → Chained → Reference → ℕ
scope_cost p o m r = total (λ c. if is_inside p o m r c then full (knowledge_at p) c else 0) (mastered (knowledge_at p))

abbrev pub has_begun : Reference → Mastered → Bool
has_begun r c = not (is_wide r.kind) && same_key (pin_of c) (key_of r.target)

abbrev pub rest_cost : Point → ℕ → Chained → Reference → ℕ
rest_cost p o m r =
    total (λ c. if is_inside p o m r c then (if has_begun r c then 0 else width (knowledge_at p)) + pairs_in c else 0) (mastered (knowledge_at p))

abbrev pub each_cost : Point → ℕ → Chained → Reference → ℕ
each_cost p o m r = (if is_wide r.kind then 0 else 4) + rest_cost p o m r

abbrev pub ref_cost : Point → ℕ → Chained → Reference → ℕ
ref_cost p o m r = (if is_wide r.kind then 1 else 0) + scope_cost p o m r

-- ---- the agents of parts

pub every_part : (h : Holdings) (m : Chained) (P : Reference → Type 0) → ((k : Specific) → In k h.root ⊎ ((c : Held) × In c (evaluated h m) × In k c.subordinate) → P (reference k.pin Done Subordinate (usable_agents m.request k.access)))
    → ((r : Reference) (a : ℕ) (c : Held) → In c (evaluated h m) → r.agents ≡ a ∷ [] → P r) → (r : Reference) → In r (part_needs h m) → P r
every_part h m P narrow wide r i = go (subset_of m) i
  where
    made : Specific → Reference
    made k = reference k.pin Done Subordinate (usable_agents m.request k.access)

    below : (subset : Subset) (ks : List Specific) → ((k : Specific) → In k ks → In k h.root ⊎ ((c : Held) × In c (evaluated h m) × In k c.subordinate)) → In r (below_needs h m subset ks) → P r
    below subset ks f j =
        let test : Specific → Bool = λ k. in_subset subset (key_of m.target) (key_of k.pin) && is_none (held_at (served m.request h) (key_of k.pin)) in
        let x = of_map made r (filter test ks) j in
        subst P (sym x.2) (narrow x.0 (f x.0 (of_filter test x.0 ks x.1).0))

    asked : Held → Named → ℕ → Reference
    asked c e a = record (reference e.name Done NonSpecific (a ∷ [])) { exclusions = treated_below h m c (key_of e.name) }

    ask : Subset → Held → Nssr → Named → List Reference
    ask subset c n e = if in_scope subset (key_of m.target) (key_of e.name) then map (λ a. record (reference e.name Done NonSpecific (a ∷ [])) { exclusions = treated_below h m c (key_of e.name) }) (others h.me n.agents) else []

    by : (c : Held) → In c (evaluated h m) → (n : Nssr) (e : Named) (b : Bool) → In r (if b then map (λ a. record (reference e.name Done NonSpecific (a ∷ [])) { exclusions = treated_below h m c (key_of e.name) }) (others h.me n.agents) else []) → P r
    by c ic n e false j = elim j [ ]
    by c ic n e true j = (let x = of_map (asked c e) r (others h.me n.agents) j in wide r x.0 c ic (ap (λ (y : Reference). y.agents) x.2))

    at : (subset : Subset) (c : Held) → In c (evaluated h m) → (n : Nssr) (x : Option Named) → In r (in_option [] (ask subset c n) x) → P r
    at subset c ic n None j = elim j [ ]
    at subset c ic n (Some e) j = by c ic n e (in_scope subset (key_of m.target) (key_of e.name)) j

    at_root : (subset : Subset) (b : Bool) → In r (if b then below_needs h m subset h.root else []) → P r
    at_root subset false j = elim j [ ]
    at_root subset true j = below subset h.root (λ k ik. inl ik) j

    all_below : Subset → List Reference
    all_below subset =
        (if answers_root h m then below_needs h m subset h.root else [])
        ++ flat_map (λ c. below_needs h m subset c.subordinate ++ wide_needs h m subset c) (evaluated h m)

    go : (x : Option Subset) → In r (in_option [] all_below x) → P r
    go None j = elim j [ ]
    go (Some subset) j =
        elim (in_either r (if answers_root h m then below_needs h m subset h.root else []) (flat_map (λ (c : Held). below_needs h m subset c.subordinate ++ wide_needs h m subset c) (evaluated h m)) j) [
          | inl l ↦ at_root subset (answers_root h m) l
          | inr l ↦
              let c = of_flat (λ (c : Held). below_needs h m subset c.subordinate ++ wide_needs h m subset c) r (evaluated h m) l in
              elim (in_either r (below_needs h m subset c.0.subordinate) (wide_needs h m subset c.0) c.2) [
                | inl q ↦ below subset c.0.subordinate (λ k ik. inr (c.0, c.1, ik)) q
                | inr q ↦ (let n = of_flat (λ (n : Nssr). in_option [] (ask subset c.0 n) (entry_at c.0.entries (key_of n.at))) r c.0.nssrs q in at subset c.0 c.1 n.0 (entry_at c.0.entries (key_of n.0.at)) n.2)
              ]
        ]

pub served_subordinate : (h : Holdings) (req : Request) (c : Held) (k : Specific) → In c (served req h) → In k c.subordinate → In k (subordinates req h)
served_subordinate h req c k i j =
    elim (in_either c h.own (filter (λ (d : Held). not (masters_pin h (key_of d.prefix))) (usable_copies req h)) i) [
      | inl l ↦ in_left k (flat_map (λ (d : Held). d.subordinate) h.own ++ flat_map (λ (d : Held). d.subordinate) (usable_copies req h)) h.root (in_left k (flat_map (λ (d : Held). d.subordinate) h.own) _ (in_flat (λ (d : Held). d.subordinate) k c h.own l j))
      | inr l ↦
          in_left k (flat_map (λ (d : Held). d.subordinate) h.own ++ flat_map (λ (d : Held). d.subordinate) (usable_copies req h)) h.root
          (in_right k (flat_map (λ (d : Held). d.subordinate) h.own) (flat_map (λ (d : Held). d.subordinate) (usable_copies req h))
          (in_flat (λ (d : Held). d.subordinate) k c (usable_copies req h) (of_filter (λ (d : Held). not (masters_pin h (key_of d.prefix))) c (usable_copies req h) l).0 j))
    ]

-- ---- how many nonSpecific references there are

abbrev pub wide_count : Reference → ℕ
wide_count r = if is_wide r.kind then 1 else 0

abbrev pub pairs_at : Held → ℕ
pairs_at c = length (flat_map (λ n. n.agents) c.nssrs)

none_wide : (xs : List Specific) (f : Specific → Reference) → ((k : Specific) → is_wide (f k).kind ≡ false) → total wide_count (map f xs) ≡ 0
none_wide [] f e = refl
none_wide (x ∷ xs) f e =
    let h : total wide_count (map f xs) ≡ 0 = none_wide xs f e in
    let g : wide_count (f x) ≡ 0 = ap (λ (b : Bool). if b then 1 else 0) (e x) in
    omega arith

count_at_most : {X : Type 0} (f : X → Reference) (xs : List X) → total wide_count (map f xs) ≤ length xs
count_at_most f [] = omega arith
count_at_most f (x ∷ xs) = let h : total wide_count (map f xs) ≤ length xs = count_at_most f xs in let g : wide_count (f x) ≤ 1 = one (is_wide (f x).kind) in omega arith
  where
    one : (b : Bool) → (if b then 1 else 0) ≤ 1
    one true = omega arith
    one false = omega arith

module _ (h : Holdings) (m : Chained) where
  below_count : (subset : Subset) (ks : List Specific) → total wide_count (below_needs h m subset ks) ≡ 0
  below_count subset ks = none_wide _ (λ k. reference k.pin Done Subordinate (usable_agents m.request k.access)) (λ k. refl)

  wide_counted : (subset : Subset) (c : Held) → total wide_count (wide_needs h m subset c) ≤ pairs_at c
  wide_counted subset c = all c.nssrs
    where
      ask : Nssr → Named → List Reference
      ask n e = if in_scope subset (key_of m.target) (key_of e.name) then map (λ a. record (reference e.name Done NonSpecific (a ∷ [])) { exclusions = treated_below h m c (key_of e.name) }) (others h.me n.agents) else []

      by : (n : Nssr) (e : Named) (b : Bool) → total wide_count (if b then map (λ a. record (reference e.name Done NonSpecific (a ∷ [])) { exclusions = treated_below h m c (key_of e.name) }) (others h.me n.agents) else []) ≤ length n.agents
      by n e false = omega arith
      by n e true =
          let x : total wide_count (map (λ a. record (reference e.name Done NonSpecific (a ∷ [])) { exclusions = treated_below h m c (key_of e.name) }) (others h.me n.agents)) ≤ length (others h.me n.agents) =
          count_at_most (λ a. record (reference e.name Done NonSpecific (a ∷ [])) { exclusions = treated_below h m c (key_of e.name) }) (others h.me n.agents) in
          let y : length (others h.me n.agents) ≤ length n.agents = filter_few _ n.agents in
          omega arith

      at : (n : Nssr) (x : Option Named) → total wide_count (in_option [] (ask n) x) ≤ length n.agents
      at n None = omega arith
      at n (Some e) = by n e (in_scope subset (key_of m.target) (key_of e.name))

      all : (ns : List Nssr) → total wide_count (flat_map (λ n. in_option [] (ask n) (entry_at c.entries (key_of n.at))) ns) ≤ length (flat_map (λ n. n.agents) ns)
      all [] = omega arith
      all (n ∷ ns) =
          let x : total wide_count (in_option [] (ask n) (entry_at c.entries (key_of n.at))) ≤ length n.agents = at n (entry_at c.entries (key_of n.at)) in
          let y : total wide_count (flat_map (λ n. in_option [] (ask n) (entry_at c.entries (key_of n.at))) ns) ≤ length (flat_map (λ n. n.agents) ns) = all ns in
          let z : total wide_count (in_option [] (ask n) (entry_at c.entries (key_of n.at)) ++ flat_map (λ n. in_option [] (ask n) (entry_at c.entries (key_of n.at))) ns)
          ≡ total wide_count (in_option [] (ask n) (entry_at c.entries (key_of n.at))) + total wide_count (flat_map (λ n. in_option [] (ask n) (entry_at c.entries (key_of n.at))) ns) =
          total_append wide_count (in_option [] (ask n) (entry_at c.entries (key_of n.at))) (flat_map (λ n. in_option [] (ask n) (entry_at c.entries (key_of n.at))) ns) in
          omega (arith, length-append n.agents (flat_map (λ n. n.agents) ns))

  pub parts_counted : total wide_count (part_needs h m) ≤ total pairs_at (evaluated h m)
  parts_counted = go (subset_of m)
    where
      all_below : Subset → List Reference
      all_below subset =
          (if answers_root h m then below_needs h m subset h.root else [])
          ++ flat_map (λ c. below_needs h m subset c.subordinate ++ wide_needs h m subset c) (evaluated h m)

      at_root : (subset : Subset) (b : Bool) → total wide_count (if b then below_needs h m subset h.root else []) ≡ 0
      at_root subset true = below_count subset h.root
      at_root subset false = refl

      one : (subset : Subset) (c : Held) → total wide_count (below_needs h m subset c.subordinate ++ wide_needs h m subset c) ≤ pairs_at c
      one subset c =
          let x : total wide_count (below_needs h m subset c.subordinate ++ wide_needs h m subset c) ≡ total wide_count (below_needs h m subset c.subordinate) + total wide_count (wide_needs h m subset c) =
          total_append wide_count (below_needs h m subset c.subordinate) (wide_needs h m subset c) in
          let y : total wide_count (below_needs h m subset c.subordinate) ≡ 0 = below_count subset c.subordinate in
          let z : total wide_count (wide_needs h m subset c) ≤ pairs_at c = wide_counted subset c in
          omega arith

      go : (x : Option Subset) → total wide_count (in_option [] all_below x) ≤ total pairs_at (evaluated h m)
      go None = omega arith
      go (Some subset) =
          let a : total wide_count (all_below subset) ≡ total wide_count (if answers_root h m then below_needs h m subset h.root else []) + total wide_count (flat_map (λ c. below_needs h m subset c.subordinate ++ wide_needs h m subset c) (evaluated h m)) =
          total_append wide_count (if answers_root h m then below_needs h m subset h.root else []) (flat_map (λ c. below_needs h m subset c.subordinate ++ wide_needs h m subset c) (evaluated h m)) in
          let b : total wide_count (if answers_root h m then below_needs h m subset h.root else []) ≡ 0 = at_root subset (answers_root h m) in
          let c : total wide_count (flat_map (λ c. below_needs h m subset c.subordinate ++ wide_needs h m subset c) (evaluated h m)) ≡ total (λ c. total wide_count (below_needs h m subset c.subordinate ++ wide_needs h m subset c)) (evaluated h m) =
          total_flat_map wide_count (λ c. below_needs h m subset c.subordinate ++ wide_needs h m subset c) (evaluated h m) in
          let d : total (λ c. total wide_count (below_needs h m subset c.subordinate ++ wide_needs h m subset c)) (evaluated h m) ≤ total pairs_at (evaluated h m) =
          total_few (λ c. total wide_count (below_needs h m subset c.subordinate ++ wide_needs h m subset c)) pairs_at (evaluated h m) (λ c i. one subset c) in
          omega arith
