-- Lists in order: what stays in order, what sorting keeps, and that two such lists with the same members are one.
use Rattle.std.proofs.Common.{◌≡◌, ℕ, zero, suc, Bool, true, false, cond, not, ◌⊎◌, inl, inr, List, [], ◌∷◌, take, refl, sym, ap, subst, ◌∙◌}
use Rattle.std.specs.Prelude.{⊤}
use Rattle.std.specs.List.{filter}
use Rattle.x5_model.specs.Words.{has, distinct, ascending, insert_sorted, sorted}
use Rattle.x5_model.specs.Members.{In, here, there}
use Rattle.x5_model.specs.Keys.{Key, same_key, key_below}
use Rattle.x5_model.proofs.Lists.{both_true, and_true, true_or_false, in_first, of_filter, of_has}
use Rattle.x5_model.proofs.KeyLaws.{key_decides, never_below, below_chain, neither_below}

-- ---- sorting keeps the members

module _ {A : Type 0} (below : A → A → Bool) where
  put_in : (b : Bool) (z x y : A) (ys rest : List A) → (In z rest → (z ≡ x) ⊎ In z ys) → In z (cond b (y ∷ rest) (x ∷ y ∷ ys)) → (z ≡ x) ⊎ In z (y ∷ ys)
  put_in true z x y ys rest f i =
      elim (in_first z y rest i) [
        | inl p ↦ inr (subst (λ (w : A). In z (w ∷ ys)) p here)
        | inr j ↦ elim (f j) [ inl p ↦ inl p | inr k ↦ inr (there k) ]
      ]
  put_in false z x y ys rest f i = in_first z x (y ∷ ys) i

  pub of_insert : (z x : A) (ys : List A) → In z (insert_sorted below x ys) → (z ≡ x) ⊎ In z ys
  of_insert z x [] i = in_first z x [] i
  of_insert z x (y ∷ ys) i = put_in (below y x) z x y ys (insert_sorted below x ys) (of_insert z x ys) i

  put_new : (b : Bool) (x y : A) (ys rest : List A) → In x rest → In x (cond b (y ∷ rest) (x ∷ y ∷ ys))
  put_new true x y ys rest i = there i
  put_new false x y ys rest i = here

  pub new_in_insert : (x : A) (ys : List A) → In x (insert_sorted below x ys)
  new_in_insert x [] = here
  new_in_insert x (y ∷ ys) = put_new (below y x) x y ys (insert_sorted below x ys) (new_in_insert x ys)

  put_old : (b : Bool) (z x y : A) (ys rest : List A) → (In z ys → In z rest) → In z (y ∷ ys) → In z (cond b (y ∷ rest) (x ∷ y ∷ ys))
  put_old true z x y ys rest f i =
      elim (in_first z y ys i) [ inl p ↦ subst (λ (w : A). In z (w ∷ rest)) p here | inr j ↦ there (f j) ]
  put_old false z x y ys rest f i = there i

  pub old_in_insert : (z x : A) (ys : List A) → In z ys → In z (insert_sorted below x ys)
  old_in_insert z x [] i = elim i [ ]
  old_in_insert z x (y ∷ ys) i = put_old (below y x) z x y ys (insert_sorted below x ys) (old_in_insert z x ys) i

  pub of_sorted : (z : A) (xs : List A) → In z (sorted below xs) → In z xs
  of_sorted z [] i = elim i [ ]
  of_sorted z (x ∷ xs) i =
      elim (of_insert z x (sorted below xs) i) [
        | inl p ↦ subst (λ (w : A). In z (w ∷ xs)) p here
        | inr j ↦ there (of_sorted z xs j)
      ]

  pub in_sorted : (z : A) (xs : List A) → In z xs → In z (sorted below xs)
  in_sorted z [] i = elim i [ ]
  in_sorted z (x ∷ xs) i =
      elim (in_first z x xs i) [
        | inl p ↦ subst (λ (w : A). In z (insert_sorted below x (sorted below xs))) p (subst (λ (w : A). In w (insert_sorted below x (sorted below xs))) (sym p) (new_in_insert x (sorted below xs)))
        | inr j ↦ old_in_insert z x (sorted below xs) (in_sorted z xs j)
      ]

-- ---- order

-- each two members are apart: one of them is below the other
abbrev pub AllApart : {A : Type 0} → (A → A → Bool) → List A → Type 0
AllApart below [] = ⊤
AllApart {A} below (x ∷ xs) = ((z : A) → In z xs → (below x z ≡ true) ⊎ (below z x ≡ true)) × AllApart below xs

module _ {A : Type 0} (below : A → A → Bool) (chain : (x y z : A) → below x y ≡ true → below y z ≡ true → below x z ≡ true) where
  pub rest_ascending : (x : A) (xs : List A) → ascending below (x ∷ xs) ≡ true → ascending below xs ≡ true
  rest_ascending x [] h = refl
  rest_ascending x (y ∷ ys) h = (both_true (below x y) (ascending below (y ∷ ys)) h).1

  -- the first is below all others
  pub first_below : (x z : A) (xs : List A) → ascending below (x ∷ xs) ≡ true → In z xs → below x z ≡ true
  first_below x z [] h i = elim i [ ]
  first_below x z (y ∷ ys) h here = (both_true (below x z) (ascending below (z ∷ ys)) h).0
  first_below x z (y ∷ ys) h (there i) =
      let w = both_true (below x y) (ascending below (y ∷ ys)) h in
      chain x y z w.0 (first_below y z ys w.1 i)

  pub cons_ascending : (x : A) (xs : List A) → ((z : A) → In z xs → below x z ≡ true) → ascending below xs ≡ true → ascending below (x ∷ xs) ≡ true
  cons_ascending x [] f h = refl
  cons_ascending x (y ∷ ys) f h = and_true (below x y) (ascending below (y ∷ ys)) (f y here) h

  filter_step : (b : Bool) (x : A) (rest : List A) → ((z : A) → In z rest → below x z ≡ true) → ascending below rest ≡ true → ascending below (cond b (x ∷ rest) rest) ≡ true
  filter_step true x rest f h = cons_ascending x rest f h
  filter_step false x rest f h = h

  -- a filter of it is in order
  pub filter_ascending : (test : A → Bool) (xs : List A) → ascending below xs ≡ true → ascending below (filter test xs) ≡ true
  filter_ascending test [] h = refl
  filter_ascending test (x ∷ xs) h =
      filter_step (test x) x (filter test xs) (λ z i. first_below x z xs h (of_filter test z xs i).0) (filter_ascending test xs (rest_ascending x xs h))

  in_take : (n : ℕ) (z : A) (xs : List A) → In z (take n xs) → In z xs
  in_take zero z xs i = elim i [ ]
  in_take (suc n) z [] i = elim i [ ]
  in_take (suc n) z (x ∷ xs) i =
      elim (in_first z x (take n xs) i) [
        | inl p ↦ subst (λ (w : A). In z (w ∷ xs)) p here
        | inr j ↦ there (in_take n z xs j)
      ]

  -- the first n of it are in order
  pub take_ascending : (n : ℕ) (xs : List A) → ascending below xs ≡ true → ascending below (take n xs) ≡ true
  take_ascending zero xs h = refl
  take_ascending (suc n) [] h = refl
  take_ascending (suc n) (x ∷ xs) h =
      cons_ascending x (take n xs) (λ z i. first_below x z xs h (in_take n z xs i)) (take_ascending n xs (rest_ascending x xs h))

  insert_step : (b : Bool) (x y : A) (ys rest : List A) → below y x ≡ b → ((z : A) → In z (y ∷ ys) → (below x z ≡ true) ⊎ (below z x ≡ true)) → ascending below (y ∷ ys) ≡ true
      → ((z : A) → In z rest → (z ≡ x) ⊎ In z ys) → ascending below rest ≡ true → ascending below (cond b (y ∷ rest) (x ∷ y ∷ ys)) ≡ true
  insert_step true x y ys rest e apart h f g =
      cons_ascending y rest (λ z i. elim (f z i) [ inl p ↦ subst (λ (w : A). below y w ≡ true) (sym p) e | inr j ↦ first_below y z ys h j ]) g
  insert_step false x y ys rest e apart h f g =
      let less : below x y ≡ true = elim (apart y here) [ inl p ↦ p | inr p ↦ cc ] in
      and_true (below x y) (ascending below (y ∷ ys)) less h

  -- what is apart from all members goes in in order
  pub insert_ascending : (x : A) (ys : List A) → ((z : A) → In z ys → (below x z ≡ true) ⊎ (below z x ≡ true)) → ascending below ys ≡ true → ascending below (insert_sorted below x ys) ≡ true
  insert_ascending x [] apart h = refl
  insert_ascending x (y ∷ ys) apart h =
      insert_step (below y x) x y ys (insert_sorted below x ys) refl apart h (λ z i. of_insert below z x ys i) (insert_ascending x ys (λ z i. apart z (there i)) (rest_ascending y ys h))

  pub sorted_ascending : (xs : List A) → AllApart below xs → ascending below (sorted below xs) ≡ true
  sorted_ascending [] apart = refl
  sorted_ascending (x ∷ xs) apart =
      insert_ascending x (sorted below xs) (λ z i. apart.0 z (of_sorted below z xs i)) (sorted_ascending xs apart.1)

  first_stays : (x y : A) (ys : List A) → below y x ≡ false → insert_sorted below x (y ∷ ys) ≡ x ∷ y ∷ ys
  first_stays x y ys e = ap (λ (b : Bool). cond b (y ∷ insert_sorted below x ys) (x ∷ y ∷ ys)) e

  module _ (never : (x : A) → below x x ≡ true → ⊥) where
    not_both : (x y : A) → below x y ≡ true → below y x ≡ false
    not_both x y e = elim (true_or_false (below y x)) [ inl p ↦ absurd (never x (chain x y x e p)) | inr p ↦ p ]

    insert_first : (x : A) (xs : List A) → ascending below (x ∷ xs) ≡ true → insert_sorted below x xs ≡ x ∷ xs
    insert_first x [] h = refl
    insert_first x (y ∷ ys) h = first_stays x y ys (not_both x y (first_below x y (y ∷ ys) h here))

    -- a list in order is sorted already
    pub sorted_itself : (xs : List A) → ascending below xs ≡ true → sorted below xs ≡ xs
    sorted_itself [] h = refl
    sorted_itself (x ∷ xs) h =
        ap (insert_sorted below x) (sorted_itself xs (rest_ascending x xs h)) ∙ insert_first x xs h

    same_first : (x y : A) (xs ys : List A) → ascending below (x ∷ xs) ≡ true → ascending below (y ∷ ys) ≡ true → In x (y ∷ ys) → In y (x ∷ xs) → x ≡ y
    same_first x y xs ys a b i j =
        elim (in_first x y ys i) [
          | inl e ↦ e
          | inr p ↦ elim (in_first y x xs j) [
            | inl e ↦ sym e
            | inr q ↦ absurd (never x (chain x y x (first_below x y xs a q) (first_below y x ys b p)))
          ]
        ]

    rest_in : (x y z : A) (xs ys : List A) → x ≡ y → ascending below (x ∷ xs) ≡ true → In z xs → In z (y ∷ ys) → In z ys
    rest_in x y z xs ys e a i j =
        elim (in_first z y ys j) [
          | inl same ↦ absurd (never x (subst (λ (w : A). below x w ≡ true) (same ∙ sym e) (first_below x z xs a i)))
          | inr k ↦ k
        ]

    -- two lists in order with the same members are one list
    pub one_list : (xs ys : List A) → ascending below xs ≡ true → ascending below ys ≡ true → ((z : A) → In z xs → In z ys) → ((z : A) → In z ys → In z xs) → xs ≡ ys
    one_list [] [] a b f g = refl
    one_list [] (y ∷ ys) a b f g = elim (g y here) [ ]
    one_list (x ∷ xs) [] a b f g = elim (f x here) [ ]
    one_list (x ∷ xs) (y ∷ ys) a b f g =
        let e : x ≡ y = same_first x y xs ys a b (f x here) (g y here) in
        let rest : xs ≡ ys = one_list xs ys (rest_ascending x xs a) (rest_ascending y ys b) (λ z i. rest_in x y z xs ys e a i (f z (there i))) (λ z i. rest_in y x z ys xs (sym e) b i (g z (there i))) in
        cc

-- ---- keys

pub keys_once : (xs : List Key) → ascending key_below xs ≡ true → distinct same_key xs ≡ true
keys_once [] h = refl
keys_once (x ∷ xs) h =
    let none : has same_key xs x ≡ false = elim (true_or_false (has same_key xs x)) [
      | inl p ↦ absurd (never_below x (first_below key_below below_chain x x xs h (of_has same_key key_decides x xs p)))
      | inr p ↦ p
    ] in
    and_true (not (has same_key xs x)) (distinct same_key xs) (ap not none) (keys_once xs (rest_ascending key_below below_chain x xs h))

-- two keys are one, or one of them is below the other
pub keys_apart : (x y : Key) → same_key x y ≡ false → (key_below x y ≡ true) ⊎ (key_below y x ≡ true)
keys_apart x y e =
    elim (true_or_false (key_below x y)) [
      | inl p ↦ inl p
      | inr p ↦ elim (true_or_false (key_below y x)) [
        | inl q ↦ inr q
        | inr q ↦ (let s : same_key x y ≡ true = (key_decides x y).1 (neither_below x y p q) in cc)
      ]
    ]

pub one_list_of_keys : (xs ys : List Key) → ascending key_below xs ≡ true → ascending key_below ys ≡ true → ((z : Key) → In z xs → In z ys) → ((z : Key) → In z ys → In z xs) → xs ≡ ys
one_list_of_keys = one_list key_below below_chain never_below
