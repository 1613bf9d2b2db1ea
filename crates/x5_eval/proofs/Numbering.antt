-- By their numbers contexts are those of the definitions: those that may be served, and those just under one.
use Rattle.std.proofs.Common.{◌≡◌, ℕ, zero, suc, ◌+◌, ◌-◌, ◌<◌, ◌≤◌, Bool, true, false, cond, not, ◌&&◌, inl, inr, List, [], ◌∷◌, ◌++◌, length, map, refl, sym, ap, ◌∙◌, arith, Option, Some, None}
use Rattle.std.proofs.lemmas.List.{map-append, length-map}
use Rattle.std.specs.List.{filter, enumerate_from, slice_get}
use Rattle.std.specs.Option.{is_some}
use Rattle.x5_model.specs.Words.{in_option, sorted}
use Rattle.x5_model.specs.Members.{In, here, there}
use Rattle.x5_model.specs.Keys.{Key, parent}
use Rattle.x5_model.specs.Values.{key_of}
use Rattle.x5_model.specs.Requests.{Subset, Request}
use Rattle.x5_model.proofs.Lists.{in_first, of_map, of_filter}
use Rattle.x5_model_tree.specs.Tree.{is_there}
use Rattle.x5_model_tree.specs.Ask.{in_subset}
use Rattle.x5_model_run.specs.Holdings.{Held, Copy, Holdings, may_copy, masters_pin, usable_copies, served}
use Rattle.x5_model_serve.specs.Walking.{pin_below, just_under}
use Rattle.x5_holdings.specs.Rows.{KeyRow, numbered}
use Rattle.x5_eval.specs.Numbers.{own_pins, copy_pins, no_copy, copy_number, held_number, counts, own_place, copy_place, own_numbers, copy_numbers, served_numbers, is_under, numbers_under}
use Rattle.x5_eval.proofs.Ordered.{filter_mapped, sorted_map}

-- ---- numbers of a list
abbrev rows_from : ℕ → List Key → List KeyRow
rows_from n keys = map (λ p. (p.1, p.0)) (enumerate_from n keys)

-- what stands at the numbers of a list are its members
at_numbers : {A : Type 0} (key : A → Key) (place : KeyRow → ℕ) (g : ℕ → A) (n : ℕ) (xs : List A)
    → ((i : ℕ) (k : Key) (y : A) → slice_get xs i ≡ Some y → g (place (k, n + i)) ≡ y)
    → map g (map place (rows_from n (map key xs))) ≡ xs
at_numbers key place g n [] f = refl
at_numbers {A} key place g n (x ∷ xs) f = λ i.
    (ap (λ (m : ℕ). g (place (key x, m))) (plus_none n) ∙ f 0 (key x) x refl) i
    ∷ at_numbers key place g (n + 1) xs (λ j k y e. ap (λ (m : ℕ). g (place (k, m))) (plus_one n j) ∙ f (suc j) k y e) i
  where
    plus_none : (n : ℕ) → n ≡ n + 0
    plus_none n = omega arith

    plus_one : (n j : ℕ) → (n + 1) + j ≡ n + suc j
    plus_one n j = omega arith

-- the numbers of a list
pub numbers_within : (key : Key) (n : ℕ) (keys : List Key) (r : KeyRow) → In r (rows_from n keys) → (n ≤ r.1) × (r.1 < n + length keys)
numbers_within key n [] r i = elim i [ ]
numbers_within key n (k ∷ keys) r i = elim (in_first r (k, n) (rows_from (n + 1) keys) i) [
  | inl e ↦ (let s : r.1 ≡ n = ap (λ (x : KeyRow). x.1) e in (omega (arith, s), omega (arith, s)))
  | inr j ↦ (let w = numbers_within key (n + 1) keys r j in (omega (arith, w.0), omega (arith, w.1)))
]

pub past_none : {A : Type 0} (xs : List A) (i : ℕ) → length xs ≤ i → slice_get xs i ≡ None
past_none [] zero l = refl
past_none [] (suc i) l = refl
past_none (x ∷ xs) zero l = absurd (omega (arith, l))
past_none (x ∷ xs) (suc i) l = past_none xs i (omega (arith, l))

module _ (h : Holdings) where
  -- ---- contexts that are mastered
  pub own_are : map (held_number h) (own_numbers h) ≡ h.own
  own_are = at_numbers (λ c. key_of c.prefix) own_place (held_number h) 0 h.own
      (λ i k y e. ap (λ (o : Option Held). in_option (copy_number h (0 + i)).held (λ c. c) o) (ap (slice_get h.own) (none_more i) ∙ e))
    where
      none_more : (i : ℕ) → 0 + i ≡ i
      none_more i = omega arith

  -- ---- copies
  less_back : (m i : ℕ) → (m + (0 + i)) - m ≡ i
  less_back m i = omega arith

  pub copies_are : map (copy_number h) (copy_numbers h) ≡ h.copies
  copies_are = at_numbers (λ c. key_of c.held.prefix) (copy_place h) (copy_number h) 0 h.copies
      (λ i k y e. ap (λ (o : Option Copy). in_option no_copy (λ c. c) o) (ap (slice_get h.copies) (less_back (length h.own) i) ∙ e))

  pub behind_own : (n : ℕ) → In n (copy_numbers h) → length h.own ≤ n
  behind_own n i = (let w = of_map (copy_place h) n (numbered (copy_pins h)) i in
      let s : n ≡ length h.own + w.0.1 = w.2 in omega (arith, s))

  pub below_own : (n : ℕ) → In n (own_numbers h) → n < length h.own
  below_own n i =
      let w = of_map own_place n (numbered (own_pins h)) i in
      let l = (numbers_within [] 0 (own_pins h) w.0 w.1).1 in
      let s : n ≡ w.0.1 = w.2 in
      let k : length (own_pins h) ≡ length h.own = length-map h.own (λ c. key_of c.prefix) in
      omega (arith, l, s, k)

  pub copy_held : (n : ℕ) → length h.own ≤ n → held_number h n ≡ (copy_number h n).held
  copy_held n l = ap (λ (o : Option Held). in_option (copy_number h n).held (λ c. c) o) (past_none h.own n l)

  helds : (xs : List ℕ) → ((n : ℕ) → In n xs → length h.own ≤ n) → map (held_number h) xs ≡ map (λ k. k.held) (map (copy_number h) xs)
  helds [] f = refl
  helds (x ∷ xs) f = λ i. copy_held x (f x here) i ∷ helds xs (λ n j. f n (there j)) i

  module _ (r : Request) where
    test : Copy → Bool
    test k = counts r h k

    usable : (ks : List Copy) (b : Bool) → may_copy r ≡ b
        → map (λ k. k.held) (filter (λ k. counts r h k) ks)
        ≡ filter (λ c. not (masters_pin h (key_of c.prefix))) (cond b (map (λ k. k.held) (filter (λ k. is_some k.stamp) ks)) [])
    usable ks false e = ap (map (λ k. k.held)) (none_counts ks)
      where
        none_counts : (ks : List Copy) → filter (λ k. counts r h k) ks ≡ []
        none_counts [] = refl
        none_counts (k ∷ ks) = ap (λ (b : Bool). cond (b && (is_some k.stamp && not (masters_pin h (key_of k.held.prefix))))
            (k ∷ filter (λ k. counts r h k) ks) (filter (λ k. counts r h k) ks)) e ∙ none_counts ks
    usable [] true e = refl
    usable (k ∷ ks) true e =
        ap (λ (b : Bool). map (λ k. k.held) (cond (b && (is_some k.stamp && not (masters_pin h (key_of k.held.prefix))))
        (k ∷ filter (λ k. counts r h k) ks) (filter (λ k. counts r h k) ks))) e
        ∙ by (is_some k.stamp) (not (masters_pin h (key_of k.held.prefix))) refl (usable ks true e)
      where
        alone : Held → Bool
        alone c = not (masters_pin h (key_of c.prefix))

        by : (a b : Bool) → not (masters_pin h (key_of k.held.prefix)) ≡ b
            → map (λ k. k.held) (filter (λ k. counts r h k) ks)
            ≡ filter (λ c. not (masters_pin h (key_of c.prefix))) (map (λ k. k.held) (filter (λ k. is_some k.stamp) ks))
            → map (λ k. k.held) (cond (a && b) (k ∷ filter (λ k. counts r h k) ks) (filter (λ k. counts r h k) ks))
            ≡ filter (λ c. not (masters_pin h (key_of c.prefix))) (map (λ k. k.held) (cond a (k ∷ filter (λ k. is_some k.stamp) ks) (filter (λ k. is_some k.stamp) ks)))
        by false b p q = q
        by true b p q = by_pin b p
          where
            rest : List Held
            rest = filter (λ c. not (masters_pin h (key_of c.prefix))) (map (λ k. k.held) (filter (λ k. is_some k.stamp) ks))

            by_pin : (b : Bool) → not (masters_pin h (key_of k.held.prefix)) ≡ b
                → map (λ k. k.held) (cond b (k ∷ filter (λ k. counts r h k) ks) (filter (λ k. counts r h k) ks))
                ≡ cond (not (masters_pin h (key_of k.held.prefix)))
                (k.held ∷ filter (λ c. not (masters_pin h (key_of c.prefix))) (map (λ k. k.held) (filter (λ k. is_some k.stamp) ks)))
                (filter (λ c. not (masters_pin h (key_of c.prefix))) (map (λ k. k.held) (filter (λ k. is_some k.stamp) ks)))
            by_pin true p = ap (λ (l : List Held). k.held ∷ l) q ∙ sym (ap (λ (z : Bool). cond z
                (k.held ∷ filter (λ c. not (masters_pin h (key_of c.prefix))) (map (λ k. k.held) (filter (λ k. is_some k.stamp) ks)))
                (filter (λ c. not (masters_pin h (key_of c.prefix))) (map (λ k. k.held) (filter (λ k. is_some k.stamp) ks)))) p)
            by_pin false p = q ∙ sym (ap (λ (z : Bool). cond z
                (k.held ∷ filter (λ c. not (masters_pin h (key_of c.prefix))) (map (λ k. k.held) (filter (λ k. is_some k.stamp) ks)))
                (filter (λ c. not (masters_pin h (key_of c.prefix))) (map (λ k. k.held) (filter (λ k. is_some k.stamp) ks)))) p)

    pub served_are : map (held_number h) (served_numbers r h) ≡ served r h
    served_are =
        map-append (held_number h) (own_numbers h) (filter (λ n. counts r h (copy_number h n)) (copy_numbers h))
        ∙ (λ i. own_are i ++ copies i)
      where
        copies : map (held_number h) (filter (λ n. counts r h (copy_number h n)) (copy_numbers h))
            ≡ filter (λ c. not (masters_pin h (key_of c.prefix))) (usable_copies r h)
        copies =
            helds (filter (λ n. counts r h (copy_number h n)) (copy_numbers h))
            (λ n i. behind_own n (of_filter (λ n. counts r h (copy_number h n)) n (copy_numbers h) i).0)
            ∙ ap (map (λ k. k.held)) (filter_mapped (copy_number h) (λ n. counts r h (copy_number h n)) (λ k. counts r h k) (copy_numbers h) (λ n i. refl)
            ∙ ap (filter (λ k. counts r h k)) copies_are)
            ∙ usable h.copies (may_copy r) refl

    -- ---- those just under one
    pub under_are : (base : Key) (subset : Subset) (n : ℕ)
        → map (held_number h) (numbers_under r h base subset n) ≡ just_under (served r h) base subset (held_number h n)
    under_are base subset n =
        sorted_map pin_below (held_number h) (filter (is_under h base subset (held_number h n)) (served_numbers r h))
        ∙ ap (sorted pin_below) (filter_mapped (held_number h) (is_under h base subset (held_number h n))
        (λ d. in_subset subset base (key_of d.prefix) && is_there (held_number h n).entries (parent (key_of d.prefix)))
        (served_numbers r h) (λ m i. refl)
        ∙ ap (filter (λ d. in_subset subset base (key_of d.prefix) && is_there (held_number h n).entries (parent (key_of d.prefix)))) served_are)
