-- Contexts that references cover, and sources that are exactly the others: those of a part replace the reference by
-- which it was asked, since it covers just what the part touches.
use Rattle.std.proofs.Common.{◌≡◌, ℕ, ◌≤◌, Bool, true, false, not, ◌||◌, ◌⊎◌, inl, inr, ◌↔◌, List, [], ◌∷◌, ◌++◌, length, refl, sym, ap, subst, ◌∙◌, arith}
use Rattle.std.specs.List.{list_any, list_all, filter, AllByRecursion}
use Rattle.x5_model.specs.Words.{has, distinct}
use Rattle.x5_model.specs.Members.{In, here, there, Once}
use Rattle.x5_model.specs.Keys.{Key, IsPrefix, same_key, is_prefix}
use Rattle.x5_model.specs.References.{Reference}
use Rattle.x5_model.proofs.KeyLaws.{key_decides}
use Rattle.x5_model.proofs.Prefixes.{prefix_decides, prefix_chain, prefix_by_length}
use Rattle.x5_model.proofs.Decide.{once_decides}
use Rattle.x5_model.proofs.Lists.{both_true, and_true, either_true, or_left, or_right, not_true, true_or_false, in_first, in_left, in_right, in_either, any_in, of_any, none_of, of_all, all_in, has_in, of_has, in_filter, of_filter}
use Rattle.x5_model_tree.specs.World.{World}
use Rattle.x5_model_run.specs.Covers.{covered_roots, covers, is_covered, meet, are_apart}
use Rattle.x5_model_run.specs.Right.{same_keys}
use Rattle.x5_model_parts.proofs.Covering.{covers_decides}

-- ---- lists

pub once_joined : {A : Type 0} (xs ys : List A) → Once xs → Once ys → ((z : A) → In z xs → In z ys → ⊥) → Once (xs ++ ys)
once_joined [] ys a b f = b
once_joined (x ∷ xs) ys a b f = ((λ i. elim (in_either x xs ys i) [ inl j ↦ a.0 j | inr j ↦ f x here j ]), once_joined xs ys a.1 b (λ z i j. f z (there i) j))

pub all_joined : {A : Type 0} (t : A → Bool) (xs ys : List A) → list_all t xs ≡ true → list_all t ys ≡ true → list_all t (xs ++ ys) ≡ true
all_joined t xs ys e f = all_in t (xs ++ ys) (λ z i. elim (in_either z xs ys i) [ inl j ↦ of_all t z xs e j | inr j ↦ of_all t z ys f j ])

pub each_joined : {A : Type 0} (P : A → Type 0) (xs ys : List A) → AllByRecursion P xs → AllByRecursion P ys → AllByRecursion P (xs ++ ys)
each_joined P [] ys a b = b
each_joined P (x ∷ xs) ys a b = (a.0, each_joined P xs ys a.1 b)

module _ (xs ys : List Key) where
  pub of_same_left : same_keys xs ys ≡ true → (z : Key) → In z xs → In z ys
  of_same_left h z i = of_has same_key key_decides z ys (of_all (has same_key ys) z xs (both_true (list_all (has same_key ys) xs) (list_all (has same_key xs) ys) h).0 i)

  pub of_same_right : same_keys xs ys ≡ true → (z : Key) → In z ys → In z xs
  of_same_right h z i = of_has same_key key_decides z xs (of_all (has same_key xs) z ys (both_true (list_all (has same_key ys) xs) (list_all (has same_key xs) ys) h).1 i)

  pub are_same : ((z : Key) → In z xs → In z ys) → ((z : Key) → In z ys → In z xs) → same_keys xs ys ≡ true
  are_same f g =
      and_true (list_all (has same_key ys) xs) (list_all (has same_key xs) ys)
      (all_in (has same_key ys) xs (λ z i. has_in same_key key_decides z ys (f z i)))
      (all_in (has same_key xs) ys (λ z i. has_in same_key key_decides z xs (g z i)))

-- ---- what references cover

comparable : (a b c : Key) → IsPrefix a c → IsPrefix b c → IsPrefix a b ⊎ IsPrefix b a
comparable a b c p q = elim (total (length a) (length b)) [ inl l ↦ inl (prefix_by_length a b c p q l) | inr l ↦ inr (prefix_by_length b a c q p l) ]
  where
    total : (m n : ℕ) → (m ≤ n) ⊎ (n ≤ m)
    total m n = grind arith

module _ (w : World) where
  -- they cover no such name
  abbrev pub Free : List Reference → Key → Type 0
  Free us z = (u : Reference) → In u us → covers w u z ≡ true → ⊥

  pub is_free : (us : List Reference) (z : Key) → is_covered w us z ≡ false → Free us z
  is_free us z h u i c = let n : covers w u z ≡ false = none_of (λ r. covers w r z) u us h i in cc

  pub no_cover : (us : List Reference) (z : Key) → Free us z → is_covered w us z ≡ false
  no_cover us z f = elim (true_or_false (is_covered w us z)) [
    | inl p ↦ (let v = of_any (λ r. covers w r z) us p in absurd (f v.0 v.1 v.2))
    | inr p ↦ p
  ]

  abbrev uncovered_of : List Reference → List Key → List Key
  uncovered_of us keys = filter (λ pin. not (is_covered w us pin)) keys

  pub of_uncovered : (us : List Reference) (keys : List Key) (z : Key) → In z (uncovered_of us keys) → In z keys × Free us z
  of_uncovered us keys z i = let v = of_filter (λ pin. not (is_covered w us pin)) z keys i in (v.0, is_free us z (not_true (is_covered w us z) v.1))

  pub in_uncovered : (us : List Reference) (keys : List Key) (z : Key) → In z keys → Free us z → In z (uncovered_of us keys)
  in_uncovered us keys z i f = in_filter (λ pin. not (is_covered w us pin)) z keys i (ap not (no_cover us z f))

  -- what is below what is covered is covered
  pub covers_below : (r : Reference) (a b : Key) → covers w r a ≡ true → IsPrefix a b → covers w r b ≡ true
  covers_below r a b c q = let v = (covers_decides w r a).0 c in (covers_decides w r b).1 (v.0, v.1, prefix_chain v.0 a b v.2 q)

  -- ---- where they meet

  pub of_meet : (u v : Reference) → meet w u v ≡ true → (a : Key) × In a (covered_roots w u) × ((b : Key) × In b (covered_roots w v) × (IsPrefix a b ⊎ IsPrefix b a))
  of_meet u v h =
      let x = of_any (λ a. list_any (λ b. is_prefix a b || is_prefix b a) (covered_roots w v)) (covered_roots w u) h in
      let y = of_any (λ b. is_prefix x.0 b || is_prefix b x.0) (covered_roots w v) x.2 in
      (x.0, x.1, (y.0, y.1, elim (either_true (is_prefix x.0 y.0) (is_prefix y.0 x.0) y.2) [ inl p ↦ inl ((prefix_decides x.0 y.0).0 p) | inr p ↦ inr ((prefix_decides y.0 x.0).0 p) ]))

  pub do_meet : (u v : Reference) (a b : Key) → In a (covered_roots w u) → In b (covered_roots w v) → IsPrefix a b ⊎ IsPrefix b a → meet w u v ≡ true
  do_meet u v a b i j h =
      any_in (λ x. list_any (λ y. is_prefix x y || is_prefix y x) (covered_roots w v)) a (covered_roots w u) i
      (any_in (λ y. is_prefix a y || is_prefix y a) b (covered_roots w v) j
      (elim h [ inl p ↦ or_left (is_prefix a b) (is_prefix b a) ((prefix_decides a b).1 p) | inr p ↦ or_right (is_prefix a b) (is_prefix b a) ((prefix_decides b a).1 p) ]))

  -- a common name
  pub common : (u v : Reference) (z : Key) → covers w u z ≡ true → covers w v z ≡ true → meet w u v ≡ true
  common u v z c d =
      let x = (covers_decides w u z).0 c in
      let y = (covers_decides w v z).0 d in
      do_meet u v x.0 y.0 x.1 y.1 (comparable x.0 y.0 z x.2 y.2)

  -- what a reference covers meets what the reference meets
  pub meets_outside : (u v r : Reference) → ((b : Key) → In b (covered_roots w v) → covers w r b ≡ true) → meet w u v ≡ true → meet w u r ≡ true
  meets_outside u v r inside h =
      let x = of_meet u v h in
      let c = (covers_decides w r x.2.0).0 (inside x.2.0 x.2.1) in
      do_meet u r x.0 c.0 x.1 c.1 (elim x.2.2 [ inl p ↦ comparable x.0 c.0 x.2.0 p c.2 | inr p ↦ inr (prefix_chain c.0 x.2.0 x.0 c.2 p) ])

  pub meet_back : (u v : Reference) → meet w u v ≡ true → meet w v u ≡ true
  meet_back u v h = let x = of_meet u v h in do_meet v u x.2.0 x.0 x.2.1 x.1 (elim x.2.2 [ inl p ↦ inr p | inr p ↦ inl p ])

  -- ---- apart

  abbrev pub NeverMeet : List Reference → List Reference → Type 0
  NeverMeet us vs = (u v : Reference) → In u us → In v vs → meet w u v ≡ true → ⊥

  no_meet : (u : Reference) (vs : List Reference) → list_any (meet w u) vs ≡ false → (v : Reference) → In v vs → meet w u v ≡ true → ⊥
  no_meet u vs h v i m = let n : meet w u v ≡ false = none_of (meet w u) v vs h i in cc

  pub apart_first : (us vs : List Reference) → are_apart w (us ++ vs) ≡ true → are_apart w us ≡ true
  apart_first [] vs h = refl
  apart_first (u ∷ us) vs h =
      let b = both_true (not (list_any (meet w u) (us ++ vs))) (are_apart w (us ++ vs)) h in
      and_true (not (list_any (meet w u) us)) (are_apart w us) (elim (true_or_false (list_any (meet w u) us)) [
        | inl p ↦ (let v = of_any (meet w u) us p in absurd (no_meet u (us ++ vs) (not_true _ b.0) v.0 (in_left v.0 us vs v.1) v.2))
        | inr p ↦ ap not p
      ]) (apart_first us vs b.1)

  pub apart_rest : (us vs : List Reference) → are_apart w (us ++ vs) ≡ true → are_apart w vs ≡ true
  apart_rest [] vs h = h
  apart_rest (u ∷ us) vs h = apart_rest us vs (both_true (not (list_any (meet w u) (us ++ vs))) (are_apart w (us ++ vs)) h).1

  pub apart_across : (us vs : List Reference) → are_apart w (us ++ vs) ≡ true → NeverMeet us vs
  apart_across [] vs h u v i j m = elim i [ ]
  apart_across (x ∷ us) vs h u v i j m =
      let b = both_true (not (list_any (meet w x) (us ++ vs))) (are_apart w (us ++ vs)) h in
      elim (in_first u x us i) [
        | inl e ↦ no_meet x (us ++ vs) (not_true _ b.0) v (in_right v us vs j) (subst (λ y. meet w y v ≡ true) e m)
        | inr k ↦ apart_across us vs b.1 u v k j m
      ]

  pub apart_joined : (us vs : List Reference) → are_apart w us ≡ true → are_apart w vs ≡ true → NeverMeet us vs → are_apart w (us ++ vs) ≡ true
  apart_joined [] vs a b f = b
  apart_joined (u ∷ us) vs a b f =
      let c = both_true (not (list_any (meet w u) us)) (are_apart w us) a in
      and_true (not (list_any (meet w u) (us ++ vs))) (are_apart w (us ++ vs)) (elim (true_or_false (list_any (meet w u) (us ++ vs))) [
        | inl p ↦ (let v = of_any (meet w u) (us ++ vs) p in elim (in_either v.0 us vs v.1) [
          | inl i ↦ absurd (no_meet u us (not_true _ c.0) v.0 i v.2)
          | inr i ↦ absurd (f u v.0 here i v.2)
        ])
        | inr p ↦ ap not p
      ]) (apart_joined us vs c.1 b (λ x v i j. f x v (there i) j))

  -- ---- a reference r among others, replaced by what its part left out

  module _ (us rs cs : List Reference) (r : Reference) (apart : are_apart w (us ++ r ∷ rs) ≡ true) (inside : (u : Reference) (b : Key) → In u cs → In b (covered_roots w u) → covers w r b ≡ true) where
    abbrev after : List Reference
    after = (us ++ cs) ++ rs

    before_r : (u : Reference) → In u us → meet w u r ≡ true → ⊥
    before_r u i m = apart_across us (r ∷ rs) apart u r i here m

    behind_r : (u : Reference) → In u rs → meet w r u ≡ true → ⊥
    behind_r u i m = no_meet r rs (not_true _ (both_true (not (list_any (meet w r) rs)) (are_apart w rs) (apart_rest us (r ∷ rs) apart)).0) u i m

    pub still_apart : are_apart w cs ≡ true → are_apart w after ≡ true
    still_apart mine =
        apart_joined (us ++ cs) rs
        (apart_joined us cs (apart_first us (r ∷ rs) apart) mine (λ u v i j m. before_r u i (meets_outside u v r (λ b k. inside v b j k) m)))
        (both_true (not (list_any (meet w r) rs)) (are_apart w rs) (apart_rest us (r ∷ rs) apart)).1
        (λ v u i j m. elim (in_either v us cs i) [
          | inl k ↦ apart_across us (r ∷ rs) apart v u k (there j) m
          | inr k ↦ behind_r u j (meet_back u r (meets_outside u v r (λ b x. inside v b k x) (meet_back v u m)))
        ])

    -- no name of the part is covered by another
    pub free_of_others : (z : Key) → covers w r z ≡ true → Free cs z → Free after z
    free_of_others z c f u i d = elim (in_either u (us ++ cs) rs i) [
      | inl j ↦ elim (in_either u us cs j) [
        | inl k ↦ before_r u k (common u r z d c)
        | inr k ↦ f u k d
      ]
      | inr j ↦ behind_r u j (common r u z c d)
    ]

    -- and no name outside is covered by what it left out
    pub free_outside : (z : Key) → Free (us ++ r ∷ rs) z → Free after z
    free_outside z f u i d = elim (in_either u (us ++ cs) rs i) [
      | inl j ↦ elim (in_either u us cs j) [
        | inl k ↦ f u (in_left u us (r ∷ rs) k) d
        | inr k ↦ (let x = (covers_decides w u z).0 d in f r (in_right r us (r ∷ rs) here) (covers_below r x.0 z (inside u x.0 k x.1) x.2))
      ]
      | inr j ↦ f u (in_right u us (r ∷ rs) (there j)) d
    ]

    pub free_before : (z : Key) → (covers w r z ≡ true → ⊥) → Free after z → Free (us ++ r ∷ rs) z
    free_before z never f u i d = elim (in_either u us (r ∷ rs) i) [
      | inl j ↦ f u (in_left u (us ++ cs) rs (in_left u us cs j)) d
      | inr j ↦ elim (in_first u r rs j) [
        | inl e ↦ never (subst (λ x. covers w x z ≡ true) e d)
        | inr k ↦ f u (in_right u (us ++ cs) rs k) d
      ]
    ]

    pub free_left_out : (z : Key) → Free after z → Free cs z
    free_left_out z f u i d = f u (in_left u (us ++ cs) rs (in_right u us cs i)) d

    -- the sources of both are exactly what is looked into without what is still unexplored
    module _ (whole part : List Key) (scope : (z : Key) → In z part ↔ (In z whole × (covers w r z ≡ true))) (xs ys : List Key)
        (first : same_keys xs (uncovered_of (us ++ r ∷ rs) whole) ≡ true) (second : same_keys ys (uncovered_of cs part) ≡ true) where
      of_first : (z : Key) → In z xs → In z whole × Free (us ++ r ∷ rs) z
      of_first z i = of_uncovered (us ++ r ∷ rs) whole z (of_same_left xs (uncovered_of (us ++ r ∷ rs) whole) first z i)

      of_second : (z : Key) → In z ys → In z part × Free cs z
      of_second z i = of_uncovered cs part z (of_same_left ys (uncovered_of cs part) second z i)

      pub exactly_both : same_keys (xs ++ ys) (uncovered_of after whole) ≡ true
      exactly_both = are_same (xs ++ ys) (uncovered_of after whole) to from
        where
          to : (z : Key) → In z (xs ++ ys) → In z (uncovered_of after whole)
          to z i = elim (in_either z xs ys i) [
            | inl j ↦ (let v = of_first z j in in_uncovered after whole z v.0 (free_outside z v.1))
            | inr j ↦ (let v = of_second z j in let x = (scope z).0 v.0 in in_uncovered after whole z x.0 (free_of_others z x.1 v.1))
          ]

          from : (z : Key) → In z (uncovered_of after whole) → In z (xs ++ ys)
          from z i =
              let v = of_uncovered after whole z i in
              elim (true_or_false (covers w r z)) [
                | inl c ↦ in_right z xs ys (of_same_right ys (uncovered_of cs part) second z (in_uncovered cs part z ((scope z).1 (v.0, c)) (free_left_out z v.1)))
                | inr c ↦ in_left z xs ys (of_same_right xs (uncovered_of (us ++ r ∷ rs) whole) first z (in_uncovered (us ++ r ∷ rs) whole z v.0 (free_before z (λ d. false_true (sym c ∙ d)) v.1)))
              ]
            where
              false_true : false ≡ true → ⊥
              false_true e = cc

      -- a source of the part is covered by the reference, another isn't
      pub second_covered : (z : Key) → In z ys → covers w r z ≡ true
      second_covered z i = ((scope z).0 (of_second z i).0).1

      pub once_both : distinct same_key xs ≡ true → distinct same_key ys ≡ true → distinct same_key (xs ++ ys) ≡ true
      once_both a b =
          (once_decides same_key key_decides (xs ++ ys)).1
          (once_joined xs ys ((once_decides same_key key_decides xs).0 a) ((once_decides same_key key_decides ys).0 b)
          (λ z i j. (of_first z i).1 r (in_right r us (r ∷ rs) here) (second_covered z j)))
