-- The references of the parts of a list or search, as the agent that leaves them to its sender gives them: completed,
-- and tried by nobody.
use Rattle.std.proofs.Common.{◌≡◌, ℕ, Bool, true, false, cond, not, ◌&&◌, inl, inr, List, [], ◌∷◌, ◌++◌, map, refl, sym, ap, subst, ◌∙◌, Option, Some, None, ◌⊎◌, if◌then◌else◌}
use Rattle.std.specs.List.{filter, flat_map}
use Rattle.std.specs.Option.{is_none}
use Rattle.x5_model.specs.Words.{in_option, insert_sorted, sorted}
use Rattle.x5_model.specs.Members.{In, here, there}
use Rattle.x5_model.specs.Values.{key_of}
use Rattle.x5_model.specs.Entries.{Named}
use Rattle.x5_model.specs.Requests.{Subset}
use Rattle.x5_model.specs.References.{Done, Reference, Subordinate, NonSpecific, Chained}
use Rattle.x5_model.specs.Answers.{Source, Answer, EntryFound, Matched, Listed, Found, Changed, Answered}
use Rattle.x5_model.proofs.Lists.{in_first, in_either, of_map, of_flat}
use Rattle.x5_model_tree.specs.World.{Specific, Nssr}
use Rattle.x5_model_tree.specs.Tree.{entry_at}
use Rattle.x5_model_tree.specs.Ask.{Told, Shows, Compares, Lists, Finds, Changes, Refuses, in_subset, unexplored_of}
use Rattle.x5_model_run.specs.Journal.{is_done}
use Rattle.x5_model_run.specs.Holdings.{Held, Holdings, usable_agents, held_at, served}
use Rattle.x5_model_run.specs.Needs.{reference, others, subset_of, evaluated, answers_root, below_needs, wide_needs, in_scope, treated_below, part_needs}
use Rattle.x5_model_serve.proofs.Walks.{of_rest}
use Rattle.x5_model_serve.specs.Answering.{to_follow, reply_from, local_part, with_unexplored, limited_answer, rest_of_parts}
use Rattle.x5_model_serve.specs.Serving.{is_final}

-- ---- lists in order have the same members

of_inserted : {A : Type 0} (below : A → A → Bool) (z x : A) (ys : List A) → In z (insert_sorted below x ys) → In z (x ∷ ys)
of_inserted below z x [] i = i
of_inserted {A} below z x (y ∷ ys) i = go (below y x) (of_inserted below z x ys) i
  where
    go : (b : Bool) → (In z (insert_sorted below x ys) → In z (x ∷ ys)) → In z (cond b (y ∷ insert_sorted below x ys) (x ∷ y ∷ ys)) → In z (x ∷ y ∷ ys)
    go false f j = j
    go true f j =
        elim (in_first z y (insert_sorted below x ys) j) [
          | inl e ↦ there (subst (λ (v : A). In z (v ∷ ys)) e here)
          | inr k ↦ elim (in_first z x ys (f k)) [
            | inl e ↦ subst (λ (v : A). In z (v ∷ y ∷ ys)) e here
            | inr l ↦ there (there l)
          ]
        ]

pub of_sorted : {A : Type 0} (below : A → A → Bool) (z : A) (xs : List A) → In z (sorted below xs) → In z xs
of_sorted below z [] i = i
of_sorted {A} below z (x ∷ xs) i =
    elim (in_first z x (sorted below xs) (of_inserted below z x (sorted below xs) i)) [
      | inl e ↦ subst (λ (v : A). In z (v ∷ xs)) e here
      | inr j ↦ there (of_sorted below z xs j)
    ]

-- ---- they have a completed name, and nobody tried them
abbrev IsPart : Reference → Type 0
IsPart r = (is_done r.progress ≡ true) × (r.tried ≡ false)

module _ (h : Holdings) (m : Chained) (r : Reference) where
  below_part : (subset : Subset) (ks : List Specific) → In r (below_needs h m subset ks) → IsPart r
  below_part subset ks i =
      let x = of_map (λ (k : Specific). reference k.pin Done Subordinate (usable_agents m.request k.access)) r
      (filter (λ (k : Specific). in_subset subset (key_of m.target) (key_of k.pin) && is_none (held_at (served m.request h) (key_of k.pin))) ks) i in
      (ap (λ (y : Reference). is_done y.progress) x.2, ap (λ (y : Reference). y.tried) x.2)

  wide_part : (subset : Subset) (c : Held) → In r (wide_needs h m subset c) → IsPart r
  wide_part subset c i =
      let n = of_flat (λ (n : Nssr). in_option [] (ask n) (entry_at c.entries (key_of n.at))) r c.nssrs i in at n.0 (entry_at c.entries (key_of n.0.at)) n.2
    where
      asked : Named → ℕ → Reference
      asked e a = record (reference e.name Done NonSpecific (a ∷ [])) { exclusions = treated_below h m c (key_of e.name) }

      ask : Nssr → Named → List Reference
      ask n e = if in_scope subset (key_of m.target) (key_of e.name) then map (λ a. record (reference e.name Done NonSpecific (a ∷ [])) { exclusions = treated_below h m c (key_of e.name) }) (others h.me n.agents) else []

      by : (n : Nssr) (e : Named) (b : Bool) → In r (if b then map (λ a. record (reference e.name Done NonSpecific (a ∷ [])) { exclusions = treated_below h m c (key_of e.name) }) (others h.me n.agents) else []) → IsPart r
      by n e false j = elim j [ ]
      by n e true j =
          let x = of_map (asked e) r (others h.me n.agents) j in
          (ap (λ (y : Reference). is_done y.progress) x.2, ap (λ (y : Reference). y.tried) x.2)

      at : (n : Nssr) (x : Option Named) → In r (in_option [] (ask n) x) → IsPart r
      at n None j = elim j [ ]
      at n (Some e) j = by n e (in_scope subset (key_of m.target) (key_of e.name)) j

  needed_part : In r (part_needs h m) → IsPart r
  needed_part i = go (subset_of m) i
    where
      below : Subset → List Reference
      below subset =
          (if answers_root h m then below_needs h m subset h.root else [])
          ++ flat_map (λ c. below_needs h m subset c.subordinate ++ wide_needs h m subset c) (evaluated h m)

      at_root : (subset : Subset) (b : Bool) → In r (if b then below_needs h m subset h.root else []) → IsPart r
      at_root subset false j = elim j [ ]
      at_root subset true j = below_part subset h.root j

      at_context : (subset : Subset) (c : Held) → In r (below_needs h m subset c.subordinate ++ wide_needs h m subset c) → IsPart r
      at_context subset c j =
          elim (in_either r (below_needs h m subset c.subordinate) (wide_needs h m subset c) j) [
            | inl l ↦ below_part subset c.subordinate l
            | inr l ↦ wide_part subset c l
          ]

      go : (x : Option Subset) → In r (in_option [] below x) → IsPart r
      go None j = elim j [ ]
      go (Some subset) j =
          elim (in_either r (if answers_root h m then below_needs h m subset h.root else []) (flat_map (λ (c : Held). below_needs h m subset c.subordinate ++ wide_needs h m subset c) (evaluated h m)) j) [
            | inl l ↦ at_root subset (answers_root h m) l
            | inr l ↦
                let c = of_flat (λ (c : Held). below_needs h m subset c.subordinate ++ wide_needs h m subset c) r (evaluated h m) l in at_context subset c.0 c.2
          ]

  pub rest_part : In r (rest_of_parts h m) → IsPart r
  rest_part i = needed_part (of_rest h m r i)

-- ---- what is left of an answer that has them

pub untried_all : (rs : List Reference) → ((r : Reference) → In r rs → r.tried ≡ false) → filter (λ r. not r.tried) rs ≡ rs
untried_all [] f = refl
untried_all (r ∷ rs) f = by r.tried (f r here) (untried_all rs (λ q i. f q (there i)))
  where
    by : (b : Bool) → b ≡ false → filter (λ (q : Reference). not q.tried) rs ≡ rs → cond (not b) (r ∷ filter (λ (q : Reference). not q.tried) rs) (filter (λ (q : Reference). not q.tried) rs) ≡ r ∷ rs
    by true e g = cc
    by false e g = ap (λ (xs : List Reference). r ∷ xs) g

none_unexplored : (sources : List Source) (t : Told) (a : Answer) → reply_from sources t ≡ Answered a → unexplored_of a ≡ []
none_unexplored [] (Shows info) a e = cc
none_unexplored (s ∷ ss) (Shows info) a e = (let f : EntryFound info s ≡ a = cc in sym (ap unexplored_of f))
none_unexplored [] (Compares equal copy) a e = cc
none_unexplored (s ∷ ss) (Compares equal copy) a e = (let f : Matched equal copy s ≡ a = cc in sym (ap unexplored_of f))
none_unexplored sources (Lists subs cut) a e = (let f : Listed subs sources (record { limited = cut; unexplored = [] }) ≡ a = cc in sym (ap unexplored_of f))
none_unexplored sources (Finds infos cut) a e = (let f : Found infos sources (record { limited = cut; unexplored = [] }) ≡ a = cc in sym (ap unexplored_of f))
none_unexplored sources Changes a e = (let f : Changed ≡ a = cc in sym (ap unexplored_of f))
none_unexplored sources (Refuses x) a e = cc

pub local_whole : (h : Holdings) (m : Chained) (a : Answer) → local_part h m ≡ Answered a → unexplored_of a ≡ []
local_whole h m a e = none_unexplored _ _ a e

-- the references themselves, or nothing is left
pub left_parts : (size : Option ℕ) (rs : List Reference) (a : Answer) → unexplored_of a ≡ [] → ((r : Reference) → In r rs → r.tried ≡ false)
    → (to_follow (limited_answer size (with_unexplored rs a)) ≡ rs) ⊎ (is_final (Answered (limited_answer size (with_unexplored rs a))) ≡ true)
left_parts size rs (EntryFound info source) e f = inr refl
left_parts size rs (Matched equal copy source) e f = inr refl
left_parts size rs (Listed subs sources o) e f = inl (ap (λ (xs : List Reference). filter (λ r. not r.tried) (xs ++ rs)) e ∙ untried_all rs f)
left_parts size rs (Found infos sources o) e f = inl (ap (λ (xs : List Reference). filter (λ r. not r.tried) (xs ++ rs)) e ∙ untried_all rs f)
left_parts size rs Changed e f = inr refl

-- the answer of a context, or of several, has nothing to be followed
pub told_final : (sources : List Source) (t : Told) → is_final (reply_from sources t) ≡ true
told_final [] (Shows info) = refl
told_final (x ∷ xs) (Shows info) = refl
told_final [] (Compares equal copy) = refl
told_final (x ∷ xs) (Compares equal copy) = refl
told_final sources (Lists subs cut) = refl
told_final sources (Finds infos cut) = refl
told_final sources Changes = refl
told_final sources (Refuses x) = refl
