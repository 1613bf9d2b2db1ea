-- Contexts that rows of pins lead to are those that are looked for among all, in the order of their pins: rows stand by keys, a
-- part of the rows has all that pass the test, and a sort afterwards makes one list of those mastered and the copies.
use Rattle.std.proofs.Common.{◌≡◌, ℕ, suc, ◌+◌, ◌-◌, Bool, true, false, cond, ◌&&◌, ◌==◌, inl, inr, List, [], ◌∷◌, ◌++◌, length, map, refl, sym, ap, subst, ◌∙◌, arith, Option, Some, None}
use Rattle.std.proofs.lemmas.List.MinMax.{ranks_by}
use Rattle.std.specs.Cmp.{IsStrictWeakOrder}
use Rattle.std.specs.List.{filter, enumerate_from, slice_get}
use Rattle.x5_model.specs.Words.{in_option, sorted}
use Rattle.x5_model.specs.Members.{In}
use Rattle.x5_model.specs.Keys.{Key, is_prefix, key_below}
use Rattle.x5_model.specs.Values.{key_of}
use Rattle.x5_model.specs.Requests.{Request}
use Rattle.x5_model.proofs.KeyLaws.{key_cmp_total}
use Rattle.x5_model.proofs.Lists.{in_first, in_left, in_right, in_either, in_filter, of_filter}
use Rattle.x5_model.proofs.Ascending.{of_sorted}
use Rattle.x5_model_run.specs.Holdings.{Held, Copy, Holdings}
use Rattle.x5_holdings.specs.Rows.{KeyRow, numbered, rows_of}
use Rattle.x5_holdings.specs.Runs.{run_of, stands_under}
use Rattle.x5_eval.specs.Numbers.{own_pins, copy_pins, no_copy, copy_number, pin_number, counts, own_place, copy_place, own_numbers, copy_numbers, served_numbers, number_below, in_reach, own_reach, copy_reach, served_reach, reaches}
use Rattle.x5_eval.proofs.Gathering.{filter_all, filter_joined}
use Rattle.x5_eval.proofs.Ordered.{filters_swapped, filter_mapped, sorted_same, sorted_map, sorted_parts, sorted_twice, by_key, rows_by_key}
use Rattle.x5_eval.proofs.Numbering.{past_none}

abbrev pub rows_from : ℕ → List Key → List KeyRow
rows_from n keys = map (λ p. (p.1, p.0)) (enumerate_from n keys)

-- what stands at a row's place has the row's key
at_rows : {A : Type 0} (key : A → Key) (pin : KeyRow → Key) (n : ℕ) (xs : List A)
    → ((i : ℕ) (k : Key) (y : A) → slice_get xs i ≡ Some y → pin (k, n + i) ≡ key y)
    → (r : KeyRow) → In r (rows_from n (map key xs)) → pin r ≡ r.0
at_rows key pin n [] f r i = elim i [ ]
at_rows key pin n (x ∷ xs) f r i = elim (in_first r (key x, n) (rows_from (n + 1) (map key xs)) i) [
  | inl e ↦ ap pin e ∙ ap (λ (m : ℕ). pin (key x, m)) (plus_none n) ∙ f 0 (key x) x refl ∙ sym (ap (λ (x : KeyRow). x.0) e)
  | inr j ↦ at_rows key pin (n + 1) xs (λ j k y e. ap (λ (m : ℕ). pin (k, m)) (plus_one n j) ∙ f (suc j) k y e) r j
]
  where
    plus_none : (n : ℕ) → n ≡ n + 0
    plus_none n = omega arith

    plus_one : (n j : ℕ) → (n + 1) + j ≡ n + suc j
    plus_one n j = omega arith

-- two tests, one after the other
filter_both : {A : Type 0} (f g : A → Bool) (xs : List A) → filter (λ x. f x && g x) xs ≡ filter f (filter g xs)
filter_both f g [] = refl
filter_both {A} f g (x ∷ xs) = by (f x) (g x) refl (filter_both f g xs)
  where
    by : (a b : Bool) → f x ≡ a → filter (λ x. f x && g x) xs ≡ filter f (filter g xs)
        → cond (a && b) (x ∷ filter (λ x. f x && g x) xs) (filter (λ x. f x && g x) xs)
        ≡ filter f (cond b (x ∷ filter g xs) (filter g xs))
    by true true p e = ap (λ (l : List A). x ∷ l) e ∙ sym (ap (λ (c : Bool). cond c (x ∷ filter f (filter g xs)) (filter f (filter g xs))) p)
    by true false p e = e
    by false true p e = e ∙ sym (ap (λ (c : Bool). cond c (x ∷ filter f (filter g xs)) (filter f (filter g xs))) p)
    by false false p e = e

module _ (h : Holdings) where
  pub weak : IsStrictWeakOrder (number_below h)
  weak = ranks_by key_cmp_total (pin_number h)

  pub own_row : (r : KeyRow) → In r (numbered (own_pins h)) → pin_number h (own_place r) ≡ r.0
  own_row r i = at_rows (λ c. key_of c.prefix) (λ r. pin_number h (own_place r)) 0 h.own
      (λ i k y e. ap (λ (o : Option Held). key_of (in_option (copy_number h (0 + i)).held (λ c. c) o).prefix) (ap (slice_get h.own) (none_more i) ∙ e)) r i
    where
      none_more : (i : ℕ) → 0 + i ≡ i
      none_more i = omega arith

  pub copy_row : (r : KeyRow) → In r (numbered (copy_pins h)) → pin_number h (copy_place h r) ≡ r.0
  copy_row r i = at_rows (λ c. key_of c.held.prefix) (λ r. pin_number h (copy_place h r)) 0 h.copies
      (λ i k y e. ap (λ (o : Option Held). key_of (in_option (copy_number h (copy_place h (k, 0 + i))).held (λ c. c) o).prefix)
      (past_none h.own (copy_place h (k, 0 + i)) (omega arith))
      ∙ ap (λ (o : Option Copy). key_of (in_option no_copy (λ c. c) o).held.prefix) (ap (slice_get h.copies) (less_back (length h.own) i) ∙ e)) r i
    where
      less_back : (m i : ℕ) → (m + (0 + i)) - m ≡ i
      less_back m i = omega arith

  -- rows at their places, in the order of pins
  module _ (pins : List Key) (place : KeyRow → ℕ) (at_row : (r : KeyRow) → In r (numbered pins) → pin_number h (place r) ≡ r.0) where
    of_rows : (r : KeyRow) → In r (rows_of pins) → In r (numbered pins)
    of_rows r i = of_sorted by_key r (numbered pins) (subst (λ (l : List KeyRow). In r l) (rows_by_key pins) i)

    places_sorted : map place (rows_of pins) ≡ sorted (number_below h) (map place (numbered pins))
    places_sorted =
        ap (map place) (rows_by_key pins
        ∙ sorted_same by_key (λ a b. number_below h (place a) (place b)) (numbered pins)
        (λ x y i j. λ k. key_below (sym (at_row y j) k) (sym (at_row x i) k)))
        ∙ sorted_map (number_below h) place (numbered pins)

    row_reaches : (at : Key) (depth : Option ℕ) (r : KeyRow) → In r (rows_of pins)
        → (in_reach depth r && stands_under at r) ≡ reaches at depth (pin_number h (place r))
    row_reaches at None r i = ap (is_prefix at) (sym (at_row r (of_rows r i)))
    row_reaches at (Some d) r i = swapped (length r.0 == d) (is_prefix at r.0)
        ∙ ap (λ (k : Key). is_prefix at k && (length k == d)) (sym (at_row r (of_rows r i)))
      where
        swapped : (a b : Bool) → (a && b) ≡ (b && a)
        swapped true true = refl
        swapped true false = refl
        swapped false true = refl
        swapped false false = refl

    pub run_places : (at : Key) (depth : Option ℕ)
        → map place (filter (in_reach depth) (run_of pins at))
        ≡ filter (λ n. reaches at depth (pin_number h n)) (sorted (number_below h) (map place (numbered pins)))
    run_places at depth =
        ap (map place) (sym (filter_both (in_reach depth) (stands_under at) (rows_of pins)))
        ∙ filter_mapped place (λ r. in_reach depth r && stands_under at r) (λ n. reaches at depth (pin_number h n)) (rows_of pins) (row_reaches at depth)
        ∙ ap (filter (λ n. reaches at depth (pin_number h n))) places_sorted

  module _ (at : Key) (depth : Option ℕ) (test : ℕ → Bool) (within : (n : ℕ) → test n ≡ true → reaches at depth (pin_number h n) ≡ true) where
    own_left : filter test (own_reach h at depth) ≡ filter test (sorted (number_below h) (own_numbers h))
    own_left = ap (filter test) (run_places (own_pins h) own_place own_row at depth)
        ∙ filter_all test (λ n. reaches at depth (pin_number h n)) (sorted (number_below h) (own_numbers h)) (λ n i t. within n t)

    pub own_reached : sorted (number_below h) (filter test (own_reach h at depth)) ≡ sorted (number_below h) (filter test (own_numbers h))
    own_reached = ap (sorted (number_below h)) own_left ∙ sorted_twice (number_below h) weak test (own_numbers h)

    module _ (r : Request) where
      abbrev counted : ℕ → Bool
      counted n = counts r h (copy_number h n)

      copy_left : filter test (copy_reach r h at depth) ≡ filter (λ n. test n && counted n) (sorted (number_below h) (copy_numbers h))
      copy_left =
          ap (λ (l : List ℕ). filter test (filter counted l)) (run_places (copy_pins h) (copy_place h) copy_row at depth)
          ∙ filters_swapped test counted (filter (λ n. reaches at depth (pin_number h n)) (sorted (number_below h) (copy_numbers h)))
          ∙ ap (filter counted) (filter_all test (λ n. reaches at depth (pin_number h n)) (sorted (number_below h) (copy_numbers h)) (λ n i t. within n t))
          ∙ filters_swapped counted test (sorted (number_below h) (copy_numbers h))
          ∙ sym (filter_both test counted (sorted (number_below h) (copy_numbers h)))

      pub served_reached : sorted (number_below h) (filter test (served_reach r h at depth)) ≡ sorted (number_below h) (filter test (served_numbers r h))
      served_reached =
          ap (sorted (number_below h)) (filter_joined test (own_reach h at depth) (copy_reach r h at depth) ∙ (λ i. own_left i ++ copy_left i))
          ∙ sorted_parts (number_below h) weak test (λ n. test n && counted n) (own_numbers h) (copy_numbers h)
          ∙ ap (λ (l : List ℕ). sorted (number_below h) (filter test (own_numbers h) ++ l)) (filter_both test counted (copy_numbers h))
          ∙ ap (sorted (number_below h)) (sym (filter_joined test (own_numbers h) (filter counted (copy_numbers h))))

-- what is reached is served
pub reached_served : (h : Holdings) (r : Request) (at : Key) (depth : Option ℕ) (n : ℕ) → In n (served_reach r h at depth) → In n (served_numbers r h)
reached_served h r at depth n i = elim (in_either n (own_reach h at depth) (copy_reach r h at depth) i) [
  | inl j ↦ in_left n (own_numbers h) (filter (λ n. counts r h (copy_number h n)) (copy_numbers h))
      (of_sorted (number_below h) n (own_numbers h) (of_filter (λ n. reaches at depth (pin_number h n)) n (sorted (number_below h) (own_numbers h))
      (subst (λ (l : List ℕ). In n l) (run_places h (own_pins h) own_place (own_row h) at depth) j)).0)
  | inr j ↦ (let w = of_filter (λ n. counts r h (copy_number h n)) n (map (copy_place h) (filter (in_reach depth) (run_of (copy_pins h) at))) j in
      in_right n (own_numbers h) (filter (λ n. counts r h (copy_number h n)) (copy_numbers h))
      (in_filter (λ n. counts r h (copy_number h n)) n (copy_numbers h)
      (of_sorted (number_below h) n (copy_numbers h) (of_filter (λ n. reaches at depth (pin_number h n)) n (sorted (number_below h) (copy_numbers h))
      (subst (λ (l : List ℕ). In n l) (run_places h (copy_pins h) (copy_place h) (copy_row h) at depth) w.0)).0) w.1))
]
