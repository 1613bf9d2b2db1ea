-- The walk of a list or search comes to what is evaluated on the spot, each pin once: a context at some depth of the
-- descent is at that level of what is evaluated, and back, by induction on the depth; dropping later contexts of a pin
-- keeps each pin.
use Rattle.std.proofs.Common.{◌≡◌, ℕ, zero, suc, Bool, true, false, not, ◌&&◌, if◌then◌else◌, ◌⊎◌, inl, inr, List, [], ◌∷◌, ◌++◌, sym, ap, subst, ◌∙◌, Option, Some, None}
use Rattle.std.specs.List.{filter, flat_map, list_any}
use Rattle.x5_model.specs.Words.{in_option, sorted}
use Rattle.x5_model.specs.Members.{In, here, there, Once}
use Rattle.x5_model.specs.Keys.{Key, same_key, parent}
use Rattle.x5_model.specs.Values.{key_of}
use Rattle.x5_model.specs.Requests.{Subset}
use Rattle.x5_model.specs.References.{Reference, Chained}
use Rattle.x5_model.proofs.KeyLaws.{key_decides}
use Rattle.x5_model.proofs.Lists.{both_true, and_true, not_true, true_or_false, in_first, in_left, in_right, in_either, in_map, of_map, in_flat, of_flat, in_filter, of_filter, any_in, of_any, once_map}
use Rattle.x5_model.proofs.Ascending.{of_sorted, in_sorted}
use Rattle.x5_model_tree.specs.Tree.{is_there}
use Rattle.x5_model_tree.specs.Ask.{in_subset}
use Rattle.x5_model_run.specs.Holdings.{Held, Holdings, served}
use Rattle.x5_model_run.specs.Needs.{subset_of, begins_at, and_below, evaluated, answers_root, below_needs, wide_needs, subset_needs, part_needs}
use Rattle.x5_model_serve.specs.Walking.{pin_below, just_under, beside, descent, each_once, walk, left}
use Rattle.x5_model_serve.specs.Walked.{Shuffled, none, pins_of, WalkIsOnce, RestIsNeeded, WalkIsWhole, NeedsAreWalked}
use Rattle.x5_model_serve.specs.Answering.{taken_before, walked_needs, rest_of_parts}
use Rattle.x5_model_serve.proofs.Shuffling.{once_of_map, once_filtered, shuffled_by, shuffled_more, shuffled_flat}

abbrev pin_at : Held → Key
pin_at c = key_of c.prefix

-- ---- of those with one pin the first
abbrev other_pin : Held → Held → Bool
other_pin c d = not (same_key (key_of c.prefix) (key_of d.prefix))

pub of_each : (cs : List Held) (c : Held) → In c (each_once cs) → In c cs
of_each [] c i = elim i [ ]
of_each (d ∷ ds) c i = elim (in_first c d (filter (other_pin d) (each_once ds)) i) [
  | inl p ↦ subst (λ (x : Held). In x (d ∷ ds)) (sym p) here
  | inr j ↦ there (of_each ds c (of_filter (other_pin d) c (each_once ds) j).0)
]

pub in_each : (cs : List Held) (c : Held) → In c cs → In (pin_at c) (pins_of (each_once cs))
in_each [] c i = elim i [ ]
in_each (d ∷ ds) c i = elim (in_first c d ds i) [
  | inl p ↦ subst (λ (k : Key). In k (pins_of (each_once (d ∷ ds)))) (sym (ap pin_at p)) here
  | inr j ↦
      let w = of_map pin_at (pin_at c) (each_once ds) (in_each ds c j) in
      elim (true_or_false (same_key (pin_at d) (pin_at w.0))) [
        | inl p ↦ subst (λ (k : Key). In k (pins_of (each_once (d ∷ ds))))
            ((key_decides (pin_at d) (pin_at w.0)).0 p ∙ sym w.2) here
        | inr p ↦ there (subst (λ (k : Key). In k (pins_of (filter (other_pin d) (each_once ds)))) (sym w.2)
            (in_map pin_at w.0 (filter (other_pin d) (each_once ds))
            (in_filter (other_pin d) w.0 (each_once ds) w.1 (ap not p))))
      ]
]

pub once_each : (cs : List Held) → Once (pins_of (each_once cs))
once_each [] = tt
once_each (c ∷ cs) = (
  λ i. (let w = of_map pin_at (pin_at c) (filter (other_pin c) (each_once cs)) i in
      let f : same_key (pin_at c) (pin_at w.0) ≡ false = not_true (same_key (pin_at c) (pin_at w.0))
      (of_filter (other_pin c) w.0 (each_once cs) w.1).1 in
      let t : same_key (pin_at c) (pin_at w.0) ≡ true = (key_decides (pin_at c) (pin_at w.0)).1 w.2 in cc),
  once_filtered pin_at (other_pin c) (each_once cs) (once_each cs),
)

-- ---- the descent
beside_it : (b : Bool) (c : Held) (below : List Held) → In c (beside b c below)
beside_it false c below = here
beside_it true c below = in_right c below (c ∷ []) here

beside_below : (b : Bool) (c d : Held) (below : List Held) → In d below → In d (beside b c below)
beside_below false c d below i = there i
beside_below true c d below i = in_left d below (c ∷ []) i

of_beside : (b : Bool) (c d : Held) (below : List Held) → In d (beside b c below) → (d ≡ c) ⊎ In d below
of_beside false c d below i = in_first d c below i
of_beside true c d below i = elim (in_either d below (c ∷ []) i) [
  | inl j ↦ inr j
  | inr j ↦ elim (in_first d c [] j) [ inl p ↦ inl p | inr k ↦ elim k [ ] ]
]

module _ (behind : Bool) (all : List Held) (base : Key) (subset : Subset) where
  abbrev next : List Held → List Held
  next level =
      filter (λ c. in_subset subset base (key_of c.prefix) && list_any
      (λ d. is_there d.entries (parent (key_of c.prefix))) level) all

  abbrev under : Held → List Held
  under c = filter (λ d. in_subset subset base (key_of d.prefix) && is_there c.entries (parent (key_of d.prefix))) all

  abbrev with_below : ℕ → Held → List Held
  with_below n c = beside behind c (descent behind n all base subset (just_under all base subset c))

  at_level : (n : ℕ) (ys : List Held) (c : Held) → In c ys → In c (and_below (suc n) all base subset ys)
  at_level n [] c i = elim i [ ]
  at_level n (y ∷ ys) c i = in_left c (y ∷ ys) (and_below n all base subset (next (y ∷ ys))) i

  beyond : (n : ℕ) (ys : List Held) (d c : Held) → In d ys → In c (and_below n all base subset (next ys))
      → In c (and_below (suc n) all base subset ys)
  beyond n [] d c i j = elim i [ ]
  beyond n (y ∷ ys) d c i j = in_right c (y ∷ ys) (and_below n all base subset (next (y ∷ ys))) j

  of_level : (n : ℕ) (ys : List Held) (c : Held) → In c (and_below (suc n) all base subset ys)
      → In c ys ⊎ In c (and_below n all base subset (next ys))
  of_level n [] c i = elim i [ ]
  of_level n (y ∷ ys) c i = in_either c (y ∷ ys) (and_below n all base subset (next (y ∷ ys))) i

  under_next : (d : Held) (ys : List Held) (c : Held) → In d ys → In c (just_under all base subset d) → In c (next ys)
  under_next d ys c i j =
      let f = of_filter (λ (x : Held). in_subset subset base (key_of x.prefix) && is_there d.entries
      (parent (key_of x.prefix))) c all
      (of_sorted pin_below c (under d) j) in
      let b = both_true (in_subset subset base (key_of c.prefix)) (is_there d.entries (parent (key_of c.prefix))) f.1 in
      in_filter (λ (x : Held). in_subset subset base (key_of x.prefix) && list_any
      (λ (d : Held). is_there d.entries (parent (key_of x.prefix))) ys) c all f.0
      (and_true (in_subset subset base (key_of c.prefix)) _ b.0
      (any_in (λ (x : Held). is_there x.entries (parent (key_of c.prefix))) d ys i b.1))

  next_under : (ys : List Held) (c : Held) → In c (next ys) → (d : Held) × In d ys × In c (just_under all base subset d)
  next_under ys c i =
      let f = of_filter (λ (x : Held). in_subset subset base (key_of x.prefix) && list_any
      (λ (d : Held). is_there d.entries (parent (key_of x.prefix))) ys) c all i in
      let b = both_true (in_subset subset base (key_of c.prefix)) _ f.1 in
      let d = of_any (λ (x : Held). is_there x.entries (parent (key_of c.prefix))) ys b.1 in (
        d.0,
        d.1,
        in_sorted pin_below c (under d.0)
            (in_filter (λ (x : Held). in_subset subset base (key_of x.prefix) && is_there d.0.entries
            (parent (key_of x.prefix))) c all f.0
            (and_true (in_subset subset base (key_of c.prefix))
            (is_there d.0.entries (parent (key_of c.prefix))) b.0 d.2)),
      )

  -- what the descent comes to is at a level
  pub of_descent : (n : ℕ) (xs ys : List Held) → ((d : Held) → In d xs → In d ys) → (c : Held)
      → In c (descent behind n all base subset xs) → In c (and_below n all base subset ys)
  of_descent zero xs ys f c i = f c i
  of_descent (suc n) xs ys f c i =
      let w = of_flat (with_below n) c xs i in
      elim (of_beside behind w.0 c (descent behind n all base subset (just_under all base subset w.0)) w.2) [
        | inl p ↦ at_level n ys c (subst (λ (x : Held). In x ys) (sym p) (f w.0 w.1))
        | inr j ↦ beyond n ys w.0 c (f w.0 w.1)
            (of_descent n (just_under all base subset w.0) (next ys) (λ d k. under_next w.0 ys d (f w.0 w.1) k) c j)
      ]

  more : (n : ℕ) (xs zs : List Held) → ((d : Held) → In d xs → In d zs) → (c : Held)
      → In c (descent behind n all base subset xs) → In c (descent behind n all base subset zs)
  more zero xs zs f c i = f c i
  more (suc n) xs zs f c i =
      let w = of_flat (with_below n) c xs i in
      in_flat (with_below n) c w.0 zs (f w.0 w.1) w.2

  alone : (d : Held) (zs : List Held) → In d zs → (x : Held) → In x (d ∷ []) → In x zs
  alone d zs i x j = elim (in_first x d [] j) [ inl p ↦ subst (λ (y : Held). In y zs) (sym p) i | inr k ↦ elim k [ ] ]

  -- and what is at a level it comes to
  reached : (n : ℕ) (ys : List Held) (c : Held) → In c (and_below n all base subset ys)
      → (d : Held) × In d ys × In c (descent behind n all base subset (d ∷ []))
  reached zero ys c i = (c, i, here)
  reached (suc n) ys c i = elim (of_level n ys c i) [
    | inl j ↦ (
      c,
      j,
      in_flat (with_below n) c c (c ∷ []) here
          (beside_it behind c (descent behind n all base subset (just_under all base subset c))),
    )
    | inr j ↦
        let w = reached n (next ys) c j in
        let u = next_under ys w.0 w.1 in (
          u.0,
          u.1,
          in_flat (with_below n) c u.0 (u.0 ∷ []) here
              (beside_below behind u.0 c (descent behind n all base subset (just_under all base subset u.0))
              (more n (w.0 ∷ []) (just_under all base subset u.0)
              (alone w.0 (just_under all base subset u.0) u.2) c w.2)),
        )
  ]

  pub in_descent : (n : ℕ) (xs ys : List Held) → ((d : Held) → In d ys → In d xs) → (c : Held)
      → In c (and_below n all base subset ys) → In c (descent behind n all base subset xs)
  in_descent n xs ys f c i =
      let w = reached n ys c i in
      more n (w.0 ∷ []) xs (alone w.0 xs (f w.0 w.1)) c w.2

-- ---- the walk
module _ (behind : Bool) (h : Holdings) (m : Chained) where
  abbrev walked : Subset → List Held
  walked subset =
      each_once (descent behind 16 (served m.request h) (key_of m.target) subset
      (sorted pin_below (begins_at h m subset)))

  abbrev spots : Subset → List Held
  spots subset = and_below 16 (served m.request h) (key_of m.target) subset (begins_at h m subset)

  pub walk_once : Once (pins_of (walk behind h m))
  walk_once = go (subset_of m)
    where
      go : (x : Option Subset) → Once (pins_of (in_option [] walked x))
      go None = tt
      go (Some subset) =
          once_each (descent behind 16 (served m.request h) (key_of m.target) subset
          (sorted pin_below (begins_at h m subset)))

  pub of_walk : (c : Held) → In c (walk behind h m) → In c (evaluated h m)
  of_walk c i = go (subset_of m) i
    where
      go : (x : Option Subset) → In c (in_option [] walked x) → In c (in_option [] spots x)
      go None j = elim j [ ]
      go (Some subset) j =
          of_descent behind (served m.request h) (key_of m.target) subset 16 (sorted pin_below (begins_at h m subset))
          (begins_at h m subset) (λ d k. of_sorted pin_below d (begins_at h m subset) k) c
          (of_each (descent behind 16 (served m.request h) (key_of m.target) subset
          (sorted pin_below (begins_at h m subset))) c j)

  pub pin_in_walk : (c : Held) → In c (evaluated h m) → In (key_of c.prefix) (pins_of (walk behind h m))
  pin_in_walk c i = go (subset_of m) i
    where
      go : (x : Option Subset) → In c (in_option [] spots x) → In (key_of c.prefix) (pins_of (in_option [] walked x))
      go None j = elim j [ ]
      go (Some subset) j =
          in_each (descent behind 16 (served m.request h) (key_of m.target) subset
          (sorted pin_below (begins_at h m subset))) c
          (in_descent behind (served m.request h) (key_of m.target) subset 16 (sorted pin_below (begins_at h m subset))
          (begins_at h m subset) (λ d k. in_sorted pin_below d (begins_at h m subset) k) c j)

  module _ (once : Once (pins_of (evaluated h m))) where
    pub in_walk : (c : Held) → In c (evaluated h m) → In c (walk behind h m)
    in_walk c i =
        let w = of_map pin_at (pin_at c) (walk behind h m) (pin_in_walk c i) in
        subst (λ (x : Held). In x (walk behind h m)) (once_map pin_at (evaluated h m) w.0 c once (of_walk w.0 w.1) i
        (sym w.2)) w.1

    pub walk_shuffled : Shuffled (walk behind h m) (evaluated h m)
    walk_shuffled =
        shuffled_by (walk behind h m) (evaluated h m) (once_of_map pin_at (walk behind h m) walk_once)
        (once_of_map pin_at (evaluated h m) once) of_walk in_walk

-- ---- what is needed
module _ (h : Holdings) (m : Chained) where
  abbrev at_root : Subset → List Reference
  at_root subset = if answers_root h m then below_needs h m subset h.root else []

  abbrev needs_in : Subset → Held → List Reference
  needs_in subset c = below_needs h m subset c.subordinate ++ wide_needs h m subset c

  pub of_walked_needs : (r : Reference) → In r (walked_needs h m) → In r (part_needs h m)
  of_walked_needs r i = go (subset_of m) i
    where
      go : (x : Option Subset) → In r (in_option [] (λ subset. at_root subset ++ flat_map (needs_in subset)
          (left h m)) x)
          → In r (in_option [] (subset_needs h m) x)
      go None j = elim j [ ]
      go (Some subset) j = elim (in_either r (at_root subset) (flat_map (needs_in subset) (left h m)) j) [
        | inl k ↦ in_left r (at_root subset) (flat_map (needs_in subset) (evaluated h m)) k
        | inr k ↦ (let w = of_flat (needs_in subset) r (left h m) k in
            in_right r (at_root subset) (flat_map (needs_in subset) (evaluated h m))
            (in_flat (needs_in subset) r w.0 (evaluated h m) (of_walk true h m w.0 w.1) w.2))
      ]

  pub of_rest : (r : Reference) → In r (rest_of_parts h m) → In r (part_needs h m)
  of_rest r i = of_walked_needs r (of_sorted taken_before r (walked_needs h m) i)

  pub needs_shuffled : Once (pins_of (evaluated h m)) → Shuffled (walked_needs h m) (part_needs h m)
  needs_shuffled once = go (subset_of m)
    where
      go : (x : Option Subset) → Shuffled (in_option [] (λ subset. at_root subset ++ flat_map (needs_in subset)
          (left h m)) x) (in_option [] (subset_needs h m) x)
      go None = none
      go (Some subset) =
          shuffled_more (at_root subset) (flat_map (needs_in subset) (left h m))
          (flat_map (needs_in subset) (evaluated h m))
          (shuffled_flat (needs_in subset) (left h m) (evaluated h m) (walk_shuffled true h m once))

pub walk_is_once : WalkIsOnce
walk_is_once behind h m = (walk_once behind h m, of_walk behind h m, pin_in_walk behind h m)

pub walk_is_whole : WalkIsWhole
walk_is_whole behind h m once = walk_shuffled behind h m once

pub rest_is_needed : RestIsNeeded
rest_is_needed h m r i = of_rest h m r i

pub needs_are_walked : NeedsAreWalked
needs_are_walked h m once = needs_shuffled h m once
