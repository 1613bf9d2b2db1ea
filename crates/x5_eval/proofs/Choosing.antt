-- Contexts that are chosen by a test among those that rows of pins lead to, put in order, are by their numbers those that pass the
-- test among all.
use Rattle.std.proofs.Common.{◌≡◌, ℕ, ◌+◌, ◌<◌, nat_lt, Bool, true, cond, not, ◌&&◌, ◌||◌, inl, inr, List, [], ◌∷◌, length, map, refl, ap, subst, ◌∙◌, arith, Option}
use Rattle.std.specs.List.{filter}
use Rattle.std.specs.Option.{is_some}
use Rattle.std.proofs.lemmas.List.{length-map}
use Rattle.x5_model.specs.Words.{sorted}
use Rattle.x5_model.specs.Members.{In}
use Rattle.x5_model.specs.Keys.{Key}
use Rattle.x5_model.specs.Values.{key_of}
use Rattle.x5_model.specs.Requests.{Subset, Request}
use Rattle.x5_model.proofs.Lists.{both_true, or_right, in_left, in_either, of_filter, of_map}
use Rattle.x5_model.proofs.Ascending.{of_sorted}
use Rattle.x5_model_run.specs.Holdings.{Held, Holdings, may_copy, masters_pin, served}
use Rattle.x5_model_serve.specs.Walking.{pin_below}
use Rattle.x5_holdings.specs.Rows.{numbered}
use Rattle.x5_eval.specs.Numbers.{copy_number, copy_numbers, copy_pins, copy_place, counts, held_number, is_held, is_under, number_below, numbers_under, own_numbers, own_reach, copy_reach, pin_number, reaches, served_numbers, served_reach}
use Rattle.x5_eval.specs.Walks.{Begins}
use Rattle.x5_eval.proofs.Numbering.{served_are, own_are, below_own, numbers_within}
use Rattle.x5_eval.proofs.Ordered.{filter_mapped, sorted_map}
use Rattle.x5_eval.proofs.Reaching.{own_reached, served_reached, reached_served}

-- by tests that are alike
alike_left : {A : Type 0} (f g : A → Bool) → ((x : A) → f x ≡ g x) → (xs : List A) → filter f xs ≡ filter g xs
alike_left f g same [] = refl
alike_left {A} f g same (x ∷ xs) = λ i. cond (same x i) (x ∷ alike_left f g same xs i) (alike_left f g same xs i)

module _ (h : Holdings) where
  -- ---- those at which a walk begins
  module _ (r : Request) (at : Key) (depth : Option ℕ) (t : ℕ → Bool) (test : Held → Bool) (ns : List ℕ)
      (same : (n : ℕ) → t n ≡ test (held_number h n)) (within : (c : Held) → test c ≡ true → reaches at depth (key_of c.prefix) ≡ true) where
    abbrev by_number : ℕ → Bool
    by_number n = test (held_number h n)

    chosen : (all : List ℕ) → ns ≡ all → sorted (number_below h) (filter t ns) ≡ sorted (number_below h) (filter by_number all)
    chosen all e = ap (sorted (number_below h)) (alike_left t by_number same ns ∙ ap (filter by_number) e)

    chosen_in : (n : ℕ) → In n (sorted (number_below h) (filter t ns)) → In n ns
    chosen_in n i = (of_filter t n ns (of_sorted (number_below h) n (filter t ns) i)).0

    pub begun_served : ns ≡ served_reach r h at depth → Begins r h (filter test (served r h)) (sorted (number_below h) (filter t ns))
    begun_served e = record {
      views = ap (map (held_number h)) (chosen (served_reach r h at depth) e ∙ served_reached h at depth by_number (λ n. within (held_number h n)) r)
          ∙ sorted_map pin_below (held_number h) (filter by_number (served_numbers r h))
          ∙ ap (sorted pin_below) (filter_mapped (held_number h) by_number test (served_numbers r h) (λ n i. refl) ∙ ap (filter test) (served_are h r));
      served = λ n i. reached_served h r at depth n (subst (λ (l : List ℕ). In n l) e (chosen_in n i));
    }

    pub begun_own : ns ≡ own_reach h at depth → Begins r h (filter test h.own) (sorted (number_below h) (filter t ns))
    begun_own e = record {
      views = ap (map (held_number h)) (chosen (own_reach h at depth) e ∙ own_reached h at depth by_number (λ n. within (held_number h n)))
          ∙ sorted_map pin_below (held_number h) (filter by_number (own_numbers h))
          ∙ ap (sorted pin_below) (filter_mapped (held_number h) by_number test (own_numbers h) (λ n i. refl) ∙ ap (filter test) (own_are h));
      served = λ n i. reached_served h r at depth n (in_left n (own_reach h at depth) (copy_reach r h at depth)
          (subst (λ (l : List ℕ). In n l) e (chosen_in n i)));
    }

  -- ---- those just under one
  pub under_found : (r : Request) (base : Key) (subset : Subset) (above : ℕ) (at : Key) (depth : Option ℕ) (ns : List ℕ) → ns ≡ served_reach r h at depth
      → ((n : ℕ) → is_under h base subset (held_number h above) n ≡ true → reaches at depth (pin_number h n) ≡ true)
      → sorted (number_below h) (filter (is_under h base subset (held_number h above)) ns) ≡ numbers_under r h base subset above
  under_found r base subset above at depth ns e within =
      ap (λ (l : List ℕ). sorted (number_below h) (filter (is_under h base subset (held_number h above)) l)) e
      ∙ served_reached h at depth (is_under h base subset (held_number h above)) within r

  -- ---- what is served is held
  own_within : (n : ℕ) → In n (own_numbers h) → nat_lt n (length h.own) ≡ true
  own_within n j = (let l : n < length h.own = below_own h n j in grind (arith, l))

  pub served_held : (r : Request) (n : ℕ) → In n (served_numbers r h) → is_held h n ≡ true
  served_held r n i = elim (in_either n (own_numbers h) (filter (λ n. counts r h (copy_number h n)) (copy_numbers h)) i) [
    | inl j ↦ ap (λ (b : Bool). b || is_some (copy_number h n).stamp) (own_within n j)
    | inr j ↦ or_right (nat_lt n (length h.own)) (is_some (copy_number h n).stamp)
        (both_true (is_some (copy_number h n).stamp) (not (masters_pin h (key_of (copy_number h n).held.prefix)))
        (both_true (may_copy r) (is_some (copy_number h n).stamp && not (masters_pin h (key_of (copy_number h n).held.prefix)))
        (of_filter (λ n. counts r h (copy_number h n)) n (copy_numbers h) j).1).1).0
  ]

  -- and stands among the numbers
  pub served_below : (r : Request) (n : ℕ) → In n (served_numbers r h) → n < length h.own + length h.copies
  served_below r n i = elim (in_either n (own_numbers h) (filter (λ n. counts r h (copy_number h n)) (copy_numbers h)) i) [
    | inl j ↦ (let l : n < length h.own = below_own h n j in omega (arith, l))
    | inr j ↦ (
        let w = of_map (copy_place h) n (numbered (copy_pins h)) (of_filter (λ n. counts r h (copy_number h n)) n (copy_numbers h) j).0 in
        let l = (numbers_within [] 0 (copy_pins h) w.0 w.1).1 in
        let s : n ≡ length h.own + w.0.1 = w.2 in
        let k : length (copy_pins h) ≡ length h.copies = length-map h.copies (λ c. key_of c.held.prefix) in
        omega (arith, l, s, k))
  ]

  pub under_served : (r : Request) (base : Key) (subset : Subset) (above n : ℕ) → In n (numbers_under r h base subset above) → In n (served_numbers r h)
  under_served r base subset above n i =
      (of_filter (is_under h base subset (held_number h above)) n (served_numbers r h)
      (of_sorted (number_below h) n (filter (is_under h base subset (held_number h above)) (served_numbers r h)) i)).0

  pub under_is : (r : Request) (base : Key) (subset : Subset) (above n : ℕ) → In n (numbers_under r h base subset above)
      → is_under h base subset (held_number h above) n ≡ true
  under_is r base subset above n i =
      (of_filter (is_under h base subset (held_number h above)) n (served_numbers r h)
      (of_sorted (number_below h) n (filter (is_under h base subset (held_number h above)) (served_numbers r h)) i)).1
