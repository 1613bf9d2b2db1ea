-- A limit before a join changes nothing of the limit after it: the first n of a merge are of the first n of each part.
use Rattle.std.proofs.Common.{◌≡◌, ℕ, zero, suc, ◌+◌, ◌<◌, ◌≤◌, Bool, true, false, cond, if◌then◌else◌, not, ◌&&◌, ◌||◌, ◌⊎◌, inl, inr, List, [], ◌∷◌, ◌++◌, take, length, nat_lt, refl, sym, ap, subst, ◌∙◌, arith, length-append, Option, Some, None}
use Rattle.std.specs.List.{filter, list_any}
use Rattle.x5_model.specs.Words.{ascending, insert_sorted, sorted}
use Rattle.x5_model.specs.Members.{In, here, there}
use Rattle.x5_model.specs.Keys.{Key, key_below}
use Rattle.x5_model.proofs.KeyLaws.{never_below, below_chain, neither_below}
use Rattle.x5_model.proofs.Lists.{both_true, not_true, either_true, or_left, or_right, true_or_false, in_first, in_left, in_right, in_either, in_filter, of_filter, any_in, of_any}
use Rattle.x5_model.proofs.Ascending.{of_sorted, in_sorted, rest_ascending, first_below, cons_ascending, filter_ascending, take_ascending, sorted_ascending, one_list}
use Rattle.x5_model.proofs.Decide.{less_decides}
use Rattle.x5_model_tree.specs.Ask.{limited, is_cut}
use Rattle.x5_model_serve.specs.Answering.{joined}
use Rattle.x5_model_joins.proofs.Joined.{Across, apart_joined, apart_ascending}

-- ---- beginnings

module _ {X : Type 0} where
  take_less : (n : ℕ) (xs zs : List X) → take (suc n) xs ≡ take (suc n) zs → take n xs ≡ take n zs
  take_less zero xs zs e = refl
  take_less (suc n) [] [] e = refl
  take_less (suc n) [] (z ∷ zs) e = cc
  take_less (suc n) (x ∷ xs) [] e = cc
  take_less (suc n) (x ∷ xs) (z ∷ zs) e =
      let first : x ≡ z = cc in let rest : take (suc n) xs ≡ take (suc n) zs = cc in λ i. first i ∷ take_less n xs zs rest i

  take_more : (n : ℕ) (x : X) (xs zs : List X) → take n xs ≡ take n zs → take n (x ∷ xs) ≡ take n (x ∷ zs)
  take_more zero x xs zs e = refl
  take_more (suc n) x xs zs e = ap (λ ws. x ∷ ws) (take_less n xs zs e)

  take_whole : (n : ℕ) (xs : List X) → length xs ≤ n → take n xs ≡ xs
  take_whole zero [] l = refl
  take_whole (suc n) [] l = refl
  take_whole zero (x ∷ xs) l = absurd (omega (arith, l))
  take_whole (suc n) (x ∷ xs) l = ap (λ ws. x ∷ ws) (take_whole n xs (omega (arith, l)))

-- ---- two lists in the order of keys, merged

module _ {X : Type 0} (k : X → Key) where
  abbrev pub lower : X → X → Bool
  lower x y = key_below (k x) (k y)

  abbrev merge_in : X → (List X → List X) → List X → List X
  merge_in x rest [] = x ∷ rest []
  merge_in x rest (y ∷ ys) = if lower x y then x ∷ rest (y ∷ ys) else (if lower y x then y ∷ merge_in x rest ys else x ∷ rest ys)

  abbrev merge : List X → List X → List X
  merge [] ys = ys
  merge (x ∷ xs) ys = merge_in x (merge xs) ys

  taken : (b c : Bool) (n : ℕ) (x y : X) (a a' m m' r r' : List X) → take n a ≡ take n a' → take n m ≡ take n m' → take n r ≡ take n r'
      → take (suc n) (cond b (x ∷ a) (cond c (y ∷ m) (x ∷ r))) ≡ take (suc n) (cond b (x ∷ a') (cond c (y ∷ m') (x ∷ r')))
  taken true c n x y a a' m m' r r' p q s = ap (λ ws. x ∷ ws) p
  taken false true n x y a a' m m' r r' p q s = ap (λ ws. y ∷ ws) q
  taken false false n x y a a' m m' r r' p q s = ap (λ ws. x ∷ ws) s

  take_merge : (n : ℕ) (xs zs ys : List X) → take n xs ≡ take n zs → take n (merge xs ys) ≡ take n (merge zs ys)
  take_merge zero xs zs ys e = refl
  take_merge (suc n) [] [] ys e = refl
  take_merge (suc n) [] (z ∷ zs) ys e = cc
  take_merge (suc n) (x ∷ xs) [] ys e = cc
  take_merge (suc n) (x ∷ xs) (z ∷ zs) [] e =
      let first : x ≡ z = cc in let rest : take n xs ≡ take n zs = cc in λ i. first i ∷ take_merge n xs zs [] rest i
  take_merge (suc n) (x ∷ xs) (z ∷ zs) (y ∷ ys) e =
      let first : x ≡ z = cc in
      let rest : take n xs ≡ take n zs = cc in
      taken (lower x y) (lower y x) n x y (merge xs (y ∷ ys)) (merge zs (y ∷ ys)) (merge (x ∷ xs) ys) (merge (x ∷ zs) ys) (merge xs ys) (merge zs ys)
      (take_merge n xs zs (y ∷ ys) rest) (take_merge n (x ∷ xs) (x ∷ zs) ys (take_more n x xs zs rest)) (take_merge n xs zs ys rest)
      ∙ ap (λ w. take (suc n) (merge (w ∷ zs) (y ∷ ys))) first

  -- ---- its members

  of_step : (b c : Bool) (z x y : X) (xs ys a m r : List X) → (In z a → In z xs ⊎ In z (y ∷ ys)) → (In z m → In z (x ∷ xs) ⊎ In z ys) → (In z r → In z xs ⊎ In z ys)
      → In z (cond b (x ∷ a) (cond c (y ∷ m) (x ∷ r))) → In z (x ∷ xs) ⊎ In z (y ∷ ys)
  of_step true c z x y xs ys a m r f g h i = elim (in_first z x a i) [
    | inl e ↦ inl (subst (λ w. In z (w ∷ xs)) e here)
    | inr j ↦ elim (f j) [ inl p ↦ inl (there p) | inr p ↦ inr p ]
  ]
  of_step false true z x y xs ys a m r f g h i = elim (in_first z y m i) [
    | inl e ↦ inr (subst (λ w. In z (w ∷ ys)) e here)
    | inr j ↦ elim (g j) [ inl p ↦ inl p | inr p ↦ inr (there p) ]
  ]
  of_step false false z x y xs ys a m r f g h i = elim (in_first z x r i) [
    | inl e ↦ inl (subst (λ w. In z (w ∷ xs)) e here)
    | inr j ↦ elim (h j) [ inl p ↦ inl (there p) | inr p ↦ inr (there p) ]
  ]

  of_merge_in : (z x : X) (xs : List X) → ((ys : List X) → In z (merge xs ys) → In z xs ⊎ In z ys) → (ys : List X) → In z (merge (x ∷ xs) ys) → In z (x ∷ xs) ⊎ In z ys
  of_merge_in z x xs f [] i = elim (in_first z x (merge xs []) i) [
    | inl e ↦ inl (subst (λ w. In z (w ∷ xs)) e here)
    | inr j ↦ elim (f [] j) [ inl p ↦ inl (there p) | inr p ↦ inr p ]
  ]
  of_merge_in z x xs f (y ∷ ys) i =
      of_step (lower x y) (lower y x) z x y xs ys (merge xs (y ∷ ys)) (merge (x ∷ xs) ys) (merge xs ys) (f (y ∷ ys)) (of_merge_in z x xs f ys) (f ys) i

  of_merge : (z : X) (xs ys : List X) → In z (merge xs ys) → In z xs ⊎ In z ys
  of_merge z [] ys i = inr i
  of_merge z (x ∷ xs) ys i = of_merge_in z x xs (of_merge z xs) ys i

  first_step : (b c : Bool) (x y : X) (a m r : List X) → In x m → In x (cond b (x ∷ a) (cond c (y ∷ m) (x ∷ r)))
  first_step true c x y a m r i = here
  first_step false true x y a m r i = there i
  first_step false false x y a m r i = here

  first_in : (x : X) (xs ys : List X) → In x (merge (x ∷ xs) ys)
  first_in x xs [] = here
  first_in x xs (y ∷ ys) = first_step (lower x y) (lower y x) x y (merge xs (y ∷ ys)) (merge (x ∷ xs) ys) (merge xs ys) (first_in x xs ys)

  all_step : (b c : Bool) (z x y : X) (a m r : List X) → In z a → In z m → In z r → In z (cond b (x ∷ a) (cond c (y ∷ m) (x ∷ r)))
  all_step true c z x y a m r i j l = there i
  all_step false true z x y a m r i j l = there j
  all_step false false z x y a m r i j l = there l

  later_in : (z x : X) (xs : List X) → ((ys : List X) → In z (merge xs ys)) → (ys : List X) → In z (merge (x ∷ xs) ys)
  later_in z x xs f [] = there (f [])
  later_in z x xs f (y ∷ ys) = all_step (lower x y) (lower y x) z x y (merge xs (y ∷ ys)) (merge (x ∷ xs) ys) (merge xs ys) (f (y ∷ ys)) (later_in z x xs f ys) (f ys)

  left_in : (z : X) (xs : List X) → In z xs → (ys : List X) → In z (merge xs ys)
  left_in z [] i ys = elim i [ ]
  left_in z (x ∷ xs) i ys = elim (in_first z x xs i) [
    | inl e ↦ subst (λ w. In w (merge (x ∷ xs) ys)) (sym e) (first_in x xs ys)
    | inr j ↦ later_in z x xs (left_in z xs j) ys
  ]

  -- of the other list each is there, or one with its key of the first
  abbrev Kept : X → List X → List X → Type 0
  Kept z xs ms = In z ms ⊎ ((x : X) × In x xs × (k x ≡ k z))

  later : (z x w : X) (xs ms : List X) → Kept z xs ms → Kept z (x ∷ xs) (w ∷ ms)
  later z x w xs ms (inl i) = inl (there i)
  later z x w xs ms (inr t) = inr (t.0, there t.1, t.2)

  also : (z w : X) (xs ms : List X) → Kept z xs ms → Kept z xs (w ∷ ms)
  also z w xs ms (inl i) = inl (there i)
  also z w xs ms (inr t) = inr t

  right_step : (b c : Bool) (z x y : X) (xs ys a m r : List X) → lower x y ≡ b → lower y x ≡ c → In z (y ∷ ys) → Kept z xs a → (In z ys → Kept z (x ∷ xs) m) → (In z ys → Kept z xs r)
      → Kept z (x ∷ xs) (cond b (x ∷ a) (cond c (y ∷ m) (x ∷ r)))
  right_step true c z x y xs ys a m r e f i p q s = later z x x xs a p
  right_step false true z x y xs ys a m r e f i p q s = elim (in_first z y ys i) [
    | inl o ↦ inl (subst (λ w. In w (y ∷ m)) (sym o) here)
    | inr j ↦ also z y (x ∷ xs) m (q j)
  ]
  right_step false false z x y xs ys a m r e f i p q s = elim (in_first z y ys i) [
    | inl o ↦ inr (x, here, neither_below (k x) (k y) e f ∙ ap k (sym o))
    | inr j ↦ later z x x xs r (s j)
  ]

  right_in_first : (z x : X) (xs : List X) → ((ys : List X) → In z ys → Kept z xs (merge xs ys)) → (ys : List X) → In z ys → Kept z (x ∷ xs) (merge (x ∷ xs) ys)
  right_in_first z x xs f [] i = elim i [ ]
  right_in_first z x xs f (y ∷ ys) i =
      right_step (lower x y) (lower y x) z x y xs ys (merge xs (y ∷ ys)) (merge (x ∷ xs) ys) (merge xs ys) refl refl i (f (y ∷ ys) i) (λ j. right_in_first z x xs f ys j) (λ j. f ys j)

  right_in : (z : X) (xs ys : List X) → In z ys → Kept z xs (merge xs ys)
  right_in z [] ys i = inl i
  right_in z (x ∷ xs) ys i = right_in_first z x xs (right_in z xs) ys i

  -- ---- its order

  chain : (x y z : X) → lower x y ≡ true → lower y z ≡ true → lower x z ≡ true
  chain x y z p q = below_chain (k x) (k y) (k z) p q

  never : (x : X) → lower x x ≡ true → ⊥
  never x p = never_below (k x) p

  order_step : (b c : Bool) (x y : X) (xs ys a m r : List X) → lower x y ≡ b → lower y x ≡ c → ascending lower (x ∷ xs) ≡ true → ascending lower (y ∷ ys) ≡ true
      → ((z : X) → In z a → In z xs ⊎ In z (y ∷ ys)) → ((z : X) → In z m → In z (x ∷ xs) ⊎ In z ys) → ((z : X) → In z r → In z xs ⊎ In z ys)
      → ascending lower a ≡ true → ascending lower m ≡ true → ascending lower r ≡ true
      → ascending lower (cond b (x ∷ a) (cond c (y ∷ m) (x ∷ r))) ≡ true
  order_step true c x y xs ys a m r e f ax ay fa fm fr ha hm hr = cons_ascending lower chain x a (λ z i. elim (fa z i) [
    | inl j ↦ first_below lower chain x z xs ax j
    | inr j ↦ elim (in_first z y ys j) [ inl o ↦ subst (λ w. lower x w ≡ true) (sym o) e | inr l ↦ chain x y z e (first_below lower chain y z ys ay l) ]
  ]) ha
  order_step false true x y xs ys a m r e f ax ay fa fm fr ha hm hr = cons_ascending lower chain y m (λ z i. elim (fm z i) [
    | inl j ↦ elim (in_first z x xs j) [ inl o ↦ subst (λ w. lower y w ≡ true) (sym o) f | inr l ↦ chain y x z f (first_below lower chain x z xs ax l) ]
    | inr j ↦ first_below lower chain y z ys ay j
  ]) hm
  order_step false false x y xs ys a m r e f ax ay fa fm fr ha hm hr = cons_ascending lower chain x r (λ z i. elim (fr z i) [
    | inl j ↦ first_below lower chain x z xs ax j
    | inr j ↦ subst (λ q. key_below q (k z) ≡ true) (sym (neither_below (k x) (k y) e f)) (first_below lower chain y z ys ay j)
  ]) hr

  merge_in_order : (x : X) (xs : List X) → ascending lower (x ∷ xs) ≡ true → ((ys : List X) → ascending lower ys ≡ true → ascending lower (merge xs ys) ≡ true)
      → (ys : List X) → ascending lower ys ≡ true → ascending lower (merge (x ∷ xs) ys) ≡ true
  merge_in_order x xs ax f [] ay = cons_ascending lower chain x (merge xs []) (λ z i. elim (of_merge z xs [] i) [ inl j ↦ first_below lower chain x z xs ax j | inr j ↦ elim j [ ] ]) (f [] refl)
  merge_in_order x xs ax f (y ∷ ys) ay =
      let rest = rest_ascending lower chain y ys ay in
      order_step (lower x y) (lower y x) x y xs ys (merge xs (y ∷ ys)) (merge (x ∷ xs) ys) (merge xs ys) refl refl ax ay
      (λ z i. of_merge z xs (y ∷ ys) i) (λ z i. of_merge z (x ∷ xs) ys i) (λ z i. of_merge z xs ys i)
      (f (y ∷ ys) ay) (merge_in_order x xs ax f ys rest) (f ys rest)

  merge_ascending : (xs ys : List X) → ascending lower xs ≡ true → ascending lower ys ≡ true → ascending lower (merge xs ys) ≡ true
  merge_ascending [] ys ax ay = ay
  merge_ascending (x ∷ xs) ys ax ay = merge_in_order x xs ax (λ zs az. merge_ascending xs zs (rest_ascending lower chain x xs ax) az) ys ay

  pub one_of_key : (x y : X) (xs : List X) → ascending lower xs ≡ true → In x xs → In y xs → k x ≡ k y → x ≡ y
  one_of_key x y [] h i j e = elim i [ ]
  one_of_key x y (w ∷ ws) h i j e = elim (in_first x w ws i) [
    | inl p ↦ elim (in_first y w ws j) [
      | inl q ↦ p ∙ sym q
      | inr q ↦ absurd (never_below (k w) (subst (λ u. key_below (k w) u ≡ true) (sym e ∙ ap k p) (first_below lower chain w y ws h q)))
    ]
    | inr p ↦ elim (in_first y w ws j) [
      | inl q ↦ absurd (never_below (k w) (subst (λ u. key_below (k w) u ≡ true) (e ∙ ap k q) (first_below lower chain w x ws h p)))
      | inr q ↦ one_of_key x y ws (rest_ascending lower chain w ws h) p q e
    ]
  ]

  -- ---- so it is the join

  abbrev tie : X → X → Bool
  tie y x = not (lower x y) && not (lower y x)

  abbrev new : List X → X → Bool
  new xs y = not (list_any (tie y) xs)

  untied : (a b : Bool) → (not a && not b) ≡ false → (a ≡ true) ⊎ (b ≡ true)
  untied true b e = inl refl
  untied false true e = inr refl
  untied false false e = cc

  across : (xs ys : List X) → Across lower xs (filter (new xs) ys)
  across xs ys x y i j =
      let w = of_filter (new xs) y ys j in
      elim (true_or_false (tie y x)) [
        | inl p ↦ (let q : list_any (tie y) xs ≡ true = any_in (tie y) x xs i p in let r : list_any (tie y) xs ≡ false = not_true _ w.1 in cc)
        | inr p ↦ untied (lower x y) (lower y x) p
      ]

  pub joined_ascending : (xs ys : List X) → ascending lower xs ≡ true → ascending lower ys ≡ true → ascending lower (joined lower xs ys) ≡ true
  joined_ascending xs ys ax ay =
      sorted_ascending lower chain (xs ++ filter (new xs) ys) (apart_joined lower xs (filter (new xs) ys) (apart_ascending lower chain xs ax) (apart_ascending lower chain (filter (new xs) ys) (filter_ascending lower chain (new xs) ys ay)) (across xs ys))

  joined_is : (xs ys : List X) → ascending lower xs ≡ true → ascending lower ys ≡ true → joined lower xs ys ≡ merge xs ys
  joined_is xs ys ax ay = one_list lower chain never (joined lower xs ys) (merge xs ys) (joined_ascending xs ys ax ay) (merge_ascending xs ys ax ay) to from
    where
      to : (z : X) → In z (joined lower xs ys) → In z (merge xs ys)
      to z i = elim (in_either z xs (filter (new xs) ys) (of_sorted lower z (xs ++ filter (new xs) ys) i)) [
        | inl j ↦ left_in z xs j ys
        | inr j ↦ (let w = of_filter (new xs) z ys j in
            elim (right_in z xs ys w.0) [
              | inl l ↦ l
              | inr t ↦ elim (across xs ys t.0 z t.1 j) [
                | inl p ↦ absurd (never_below (k z) (subst (λ u. key_below u (k z) ≡ true) t.2 p))
                | inr p ↦ absurd (never_below (k z) (subst (λ u. key_below (k z) u ≡ true) t.2 p))
              ]
            ])
      ]

      from : (z : X) → In z (merge xs ys) → In z (joined lower xs ys)
      from z i = in_sorted lower z (xs ++ filter (new xs) ys) (elim (of_merge z xs ys i) [
        | inl j ↦ in_left z xs (filter (new xs) ys) j
        | inr j ↦ elim (true_or_false (list_any (tie z) xs)) [
          | inl p ↦ (let w = of_any (tie z) xs p in
              let b = both_true (not (lower w.0 z)) (not (lower z w.0)) w.2 in
              let same : w.0 ≡ z = one_of_key w.0 z (merge xs ys) (merge_ascending xs ys ax ay) (left_in w.0 xs w.1 ys) i (neither_below (k w.0) (k z) (not_true _ b.0) (not_true _ b.1)) in
              in_left z xs (filter (new xs) ys) (subst (λ u. In u xs) same w.1))
          | inr p ↦ in_right z xs (filter (new xs) ys) (in_filter (new xs) z ys j (ap not p))
        ]
      ])

  -- ---- how many

  length_insert : (x : X) (ys : List X) → length (insert_sorted lower x ys) ≡ suc (length ys)
  length_insert x [] = refl
  length_insert x (y ∷ ys) = by (lower y x) (length_insert x ys)
    where
      by : (b : Bool) → length (insert_sorted lower x ys) ≡ suc (length ys) → length (cond b (y ∷ insert_sorted lower x ys) (x ∷ y ∷ ys)) ≡ suc (length (y ∷ ys))
      by true e = ap suc e
      by false e = refl

  length_sorted : (xs : List X) → length (sorted lower xs) ≡ length xs
  length_sorted [] = refl
  length_sorted (x ∷ xs) = length_insert x (sorted lower xs) ∙ ap suc (length_sorted xs)

  no_fewer : (xs ys : List X) → length xs ≤ length (joined lower xs ys)
  no_fewer xs ys =
      let a = length_sorted (xs ++ filter (new xs) ys) in
      let b : length (xs ++ filter (new xs) ys) ≡ length xs + length (filter (new xs) ys) = length-append xs (filter (new xs) ys) in
      omega (arith, a, b)

  -- ---- the limit

  -- what is limited alike joins to what is limited alike
  pub limited_alike : (size : Option ℕ) (xs zs ys : List X) → ascending lower xs ≡ true → ascending lower zs ≡ true → ascending lower ys ≡ true
      → limited size xs ≡ limited size zs → limited size (joined lower xs ys) ≡ limited size (joined lower zs ys)
  limited_alike None xs zs ys ax az ay e = ap (λ ws. joined lower ws ys) e
  limited_alike (Some n) xs zs ys ax az ay e =
      ap (take n) (joined_is xs ys ax ay) ∙ take_merge n xs zs ys e ∙ sym (ap (take n) (joined_is zs ys az ay))

  -- and where it was cut before, so is the whole
  pub cut_alike : (size : Option ℕ) (cut : Bool) (xs zs ys : List X)
      → limited size xs ≡ limited size zs → (cut || is_cut size xs) ≡ is_cut size zs → (cut || is_cut size (joined lower xs ys)) ≡ is_cut size (joined lower zs ys)
  cut_alike None cut xs zs ys e f = f
  cut_alike (Some n) cut xs zs ys e f = elim (true_or_false (nat_lt n (length zs))) [
    | inl p ↦ (
        let more : (ws : List X) → nat_lt n (length ws) ≡ true → nat_lt n (length (joined lower ws ys)) ≡ true = λ ws q.
        (let l : n < length ws = (less_decides n (length ws)).0 q in let m = no_fewer ws ys in (less_decides n (length (joined lower ws ys))).1 (omega (arith, l, m))) in
        let there_too : (cut || nat_lt n (length (joined lower xs ys))) ≡ true = elim (either_true cut (nat_lt n (length xs)) (f ∙ p)) [
          | inl q ↦ or_left cut (nat_lt n (length (joined lower xs ys))) q
          | inr q ↦ or_right cut (nat_lt n (length (joined lower xs ys))) (more xs q)
        ] in
        there_too ∙ sym (more zs p))
    | inr p ↦ (
        let w : (cut ≡ false) × (nat_lt n (length xs) ≡ false) = neither cut (nat_lt n (length xs)) (f ∙ p) in
        let same : xs ≡ zs = sym (take_whole n xs (short xs w.1)) ∙ e ∙ take_whole n zs (short zs p) in
        (λ i. w.0 i || nat_lt n (length (joined lower (same i) ys))))
  ]
    where
      neither : (a b : Bool) → (a || b) ≡ false → (a ≡ false) × (b ≡ false)
      neither true b h = cc
      neither false b h = (refl, h)

      short : (ws : List X) → nat_lt n (length ws) ≡ false → length ws ≤ n
      short ws h = let no : n < length ws → ⊥ = (λ l. let q : nat_lt n (length ws) ≡ true = (less_decides n (length ws)).1 l in cc) in omega (arith, no)

-- ---- a limit twice

length_taken : {X : Type 0} (n : ℕ) (xs : List X) → length (take n xs) ≤ n
length_taken zero xs = omega arith
length_taken (suc n) [] = omega arith
length_taken (suc n) (x ∷ xs) = let l = length_taken n xs in omega (arith, l)

pub limited_twice : {X : Type 0} (size : Option ℕ) (xs : List X) → limited size (limited size xs) ≡ limited size xs
limited_twice None xs = refl
limited_twice (Some n) xs = take_whole n (take n xs) (length_taken n xs)

pub cut_once : {X : Type 0} (size : Option ℕ) (xs : List X) → is_cut size (limited size xs) ≡ false
cut_once None xs = refl
cut_once (Some n) xs = elim (true_or_false (nat_lt n (length (take n xs)))) [
  | inl p ↦ (let a : n < length (take n xs) = (less_decides n (length (take n xs))).0 p in let b = length_taken n xs in absurd (omega (arith, a, b)))
  | inr p ↦ p
]

pub limited_ascending : {X : Type 0} (below : X → X → Bool) (chain : (x y z : X) → below x y ≡ true → below y z ≡ true → below x z ≡ true) (size : Option ℕ) (xs : List X) → ascending below xs ≡ true → ascending below (limited size xs) ≡ true
limited_ascending below chain None xs h = h
limited_ascending below chain (Some n) xs h = take_ascending below chain n xs h

-- so it is nothing to the whole whether a part was limited before
module _ {X : Type 0} (k : X → Key) where
  pub limited_before : (size : Option ℕ) (xs ys : List X) → ascending (lower k) xs ≡ true → ascending (lower k) ys ≡ true → limited size (joined (lower k) (limited size xs) ys) ≡ limited size (joined (lower k) xs ys)
  limited_before size xs ys ax ay = limited_alike k size (limited size xs) xs ys (limited_ascending (lower k) (chain k) size xs ax) ax ay (limited_twice size xs)

  pub cut_before : (size : Option ℕ) (xs ys : List X) → (is_cut size xs || is_cut size (joined (lower k) (limited size xs) ys)) ≡ is_cut size (joined (lower k) xs ys)
  cut_before size xs ys =
      cut_alike k size (is_cut size xs) (limited size xs) xs ys (limited_twice size xs) (ap (λ b. is_cut size xs || b) (cut_once size xs) ∙ none (is_cut size xs))
    where
      none : (b : Bool) → (b || false) ≡ b
      none true = refl
      none false = refl

  pub flags_before : (size : Option ℕ) (a b : Bool) (xs ys : List X) → (((a || is_cut size xs) || b) || is_cut size (joined (lower k) (limited size xs) ys)) ≡ ((a || b) || is_cut size (joined (lower k) xs ys))
  flags_before size true b xs ys = refl
  flags_before size false b xs ys = by (is_cut size xs) b (is_cut size (joined (lower k) (limited size xs) ys)) (is_cut size (joined (lower k) xs ys)) (cut_before size xs ys)
    where
      by : (c b x y : Bool) → (c || x) ≡ y → ((c || b) || x) ≡ (b || y)
      by true true x y e = refl
      by true false x y e = e
      by false true x y e = refl
      by false false x y e = e
