-- Sorting, of members that a rule keeps in order: what is sorted is the same sorted again, has as many members, and
-- each that is apart from the others stays so. By induction on the list, an insertion at a time.
use Rattle.std.proofs.Common.{◌≡◌, ℕ, suc, Bool, true, false, cond, not, ◌&&◌, ◌||◌, nat_lt, List, [], ◌∷◌, length, map, refl, sym, ap, ap₂, ◌∙◌, arith}
use Rattle.std.specs.Cmp.Lexicographic.{bytes_decides, nat_list_cmp_total, slice_cmp}
use Rattle.std.specs.List.{list_all}
use Rattle.std.specs.declared.cmp.Ordering.{Ordering}
use Rattle.std.specs.declared.cmp.Ordering.TheVariants.{Less, Equal, Greater}
use Rattle.std.specs.Ordering.{is_lt, ordering_reverse, nat_cmp}
use Rattle.x5_model.specs.Words.{has, distinct, insert_sorted, sorted, is_empty, same_octets, octets_below}
use Rattle.x5_model.proofs.Lists.{both_true, and_true, not_true}

module _ {A : Type 0} (below : A → A → Bool) where
  -- none is below the one before it
  abbrev pub is_calm : List A → Bool
  is_calm [] = true
  is_calm (x ∷ []) = true
  is_calm (x ∷ y ∷ ys) = not (below y x) && is_calm (y ∷ ys)

  calm_stays : (xs : List A) → is_calm xs ≡ true → sorted below xs ≡ xs
  calm_stays [] h = refl
  calm_stays (x ∷ []) h = refl
  calm_stays (x ∷ y ∷ ys) h =
      let w = both_true (not (below y x)) (is_calm (y ∷ ys)) h in
      ap (insert_sorted below x) (calm_stays (y ∷ ys) w.1)
      ∙ ap (λ (b : Bool). cond b (y ∷ insert_sorted below x ys) (x ∷ y ∷ ys)) (not_true (below y x) w.0)

  module _ (one_way : (x y : A) → below x y ≡ true → below y x ≡ false) where
    calm_inserted : (x : A) (ys : List A) → is_calm ys ≡ true → is_calm (insert_sorted below x ys) ≡ true
    calm_inserted x [] h = refl
    calm_inserted x (y ∷ []) h = by (below y x) refl
      where
        by : (b : Bool) → below y x ≡ b → is_calm (cond b (y ∷ x ∷ []) (x ∷ y ∷ [])) ≡ true
        by true e = and_true (not (below x y)) true (ap not (one_way y x e)) refl
        by false e = and_true (not (below y x)) true (ap not e) refl
    calm_inserted x (y ∷ z ∷ zs) h = by (below y x) refl (below z x) refl (calm_inserted x (z ∷ zs) w.1)
      where
        w : (not (below z y) ≡ true) × (is_calm (z ∷ zs) ≡ true)
        w = both_true (not (below z y)) (is_calm (z ∷ zs)) h

        by : (b : Bool) → below y x ≡ b → (c : Bool) → below z x ≡ c
            → is_calm (cond c (z ∷ insert_sorted below x zs) (x ∷ z ∷ zs)) ≡ true
            → is_calm (cond b (y ∷ cond c (z ∷ insert_sorted below x zs) (x ∷ z ∷ zs)) (x ∷ y ∷ z ∷ zs)) ≡ true
        by true e true f rest = and_true (not (below z y)) (is_calm (z ∷ insert_sorted below x zs)) w.0 rest
        by true e false f rest = and_true (not (below x y)) (is_calm (x ∷ z ∷ zs)) (ap not (one_way y x e)) rest
        by false e c f rest = and_true (not (below y x)) (is_calm (y ∷ z ∷ zs)) (ap not e) h

    calm_sorted : (xs : List A) → is_calm (sorted below xs) ≡ true
    calm_sorted [] = refl
    calm_sorted (x ∷ xs) = calm_inserted x (sorted below xs) (calm_sorted xs)

    pub sorted_stays : (xs : List A) → sorted below (sorted below xs) ≡ sorted below xs
    sorted_stays xs = calm_stays (sorted below xs) (calm_sorted xs)

  longer : (x : A) (ys : List A) → length (insert_sorted below x ys) ≡ suc (length ys)
  longer x [] = refl
  longer x (y ∷ ys) = by (below y x) (longer x ys)
    where
      by : (b : Bool) → length (insert_sorted below x ys) ≡ suc (length ys)
          → length (cond b (y ∷ insert_sorted below x ys) (x ∷ y ∷ ys)) ≡ suc (suc (length ys))
      by true e = ap suc e
      by false e = refl

  pub sorted_length : (xs : List A) → length (sorted below xs) ≡ length xs
  sorted_length [] = refl
  sorted_length (x ∷ xs) = longer x (sorted below xs) ∙ ap suc (sorted_length xs)

  pub some_sorted : (xs : List A) → not (is_empty xs) ≡ true → not (is_empty (sorted below xs)) ≡ true
  some_sorted [] h = h
  some_sorted (x ∷ xs) h = by (sorted below xs)
    where
      by : (ys : List A) → not (is_empty (insert_sorted below x ys)) ≡ true
      by [] = refl
      by (y ∷ ys) = either (below y x)
        where
          either : (b : Bool) → not (is_empty (cond b (y ∷ insert_sorted below x ys) (x ∷ y ∷ ys))) ≡ true
          either true = refl
          either false = refl

  -- what is so of all of them
  all_inserted : (t : A → Bool) (x : A) (ys : List A) → t x ≡ true → list_all t ys ≡ true
      → list_all t (insert_sorted below x ys) ≡ true
  all_inserted t x [] a h = and_true (t x) true a refl
  all_inserted t x (y ∷ ys) a h = by (below y x) (all_inserted t x ys a w.1)
    where
      w : (t y ≡ true) × (list_all t ys ≡ true)
      w = both_true (t y) (list_all t ys) h

      by : (b : Bool) → list_all t (insert_sorted below x ys) ≡ true
          → list_all t (cond b (y ∷ insert_sorted below x ys) (x ∷ y ∷ ys)) ≡ true
      by true e = and_true (t y) (list_all t (insert_sorted below x ys)) w.0 e
      by false e = and_true (t x) (list_all t (y ∷ ys)) a h

  pub all_sorted : (t : A → Bool) (xs : List A) → list_all t xs ≡ true → list_all t (sorted below xs) ≡ true
  all_sorted t [] h = refl
  all_sorted t (x ∷ xs) h =
      let w = both_true (t x) (list_all t xs) h in all_inserted t x (sorted below xs) w.0 (all_sorted t xs w.1)

  -- and that they are apart
  module _ (same : A → A → Bool) (turned : (x y : A) → same x y ≡ same y x) where
    has_inserted : (x z : A) (ys : List A) → same x z ≡ false → has same ys z ≡ false
        → has same (insert_sorted below x ys) z ≡ false
    has_inserted x z [] e h = ap (λ (b : Bool). b || false) e
    has_inserted x z (y ∷ ys) e h = by (below y x) (has_inserted x z ys e (neither (same y z) (has same ys z) h).1)
      where
        neither : (a b : Bool) → (a || b) ≡ false → (a ≡ false) × (b ≡ false)
        neither true b f = absurd (cc f)
        neither false b f = (refl, f)

        by : (b : Bool) → has same (insert_sorted below x ys) z ≡ false
            → has same (cond b (y ∷ insert_sorted below x ys) (x ∷ y ∷ ys)) z ≡ false
        by true f = ap₂ (λ (p q : Bool). p || q) (neither (same y z) (has same ys z) h).0 f
        by false f = ap₂ (λ (p q : Bool). p || q) e h

    apart_inserted : (x : A) (ys : List A) → has same ys x ≡ false → distinct same ys ≡ true
        → distinct same (insert_sorted below x ys) ≡ true
    apart_inserted x [] h d = refl
    apart_inserted x (y ∷ ys) h d = by (below y x) (apart_inserted x ys (neither (same y x) (has same ys x) h).1 w.1)
      where
        neither : (a b : Bool) → (a || b) ≡ false → (a ≡ false) × (b ≡ false)
        neither true b f = absurd (cc f)
        neither false b f = (refl, f)

        w : (not (has same ys y) ≡ true) × (distinct same ys ≡ true)
        w = both_true (not (has same ys y)) (distinct same ys) d

        by : (b : Bool) → distinct same (insert_sorted below x ys) ≡ true
            → distinct same (cond b (y ∷ insert_sorted below x ys) (x ∷ y ∷ ys)) ≡ true
        by true f =
            and_true (not (has same (insert_sorted below x ys) y)) (distinct same (insert_sorted below x ys))
            (ap not (has_inserted x y ys (turned x y ∙ (neither (same y x) (has same ys x) h).0)
            (not_true (has same ys y) w.0))) f
        by false f = and_true (not (has same (y ∷ ys) x)) (distinct same (y ∷ ys)) (ap not h) d

    has_sorted : (z : A) (xs : List A) → has same xs z ≡ false → has same (sorted below xs) z ≡ false
    has_sorted z [] h = refl
    has_sorted z (x ∷ xs) h =
        has_inserted x z (sorted below xs) (neither (same x z) (has same xs z) h).0
        (has_sorted z xs (neither (same x z) (has same xs z) h).1)
      where
        neither : (a b : Bool) → (a || b) ≡ false → (a ≡ false) × (b ≡ false)
        neither true b f = absurd (cc f)
        neither false b f = (refl, f)

    pub apart_sorted : (xs : List A) → distinct same xs ≡ true → distinct same (sorted below xs) ≡ true
    apart_sorted [] h = refl
    apart_sorted (x ∷ xs) h =
        let w = both_true (not (has same xs x)) (distinct same xs) h in
        apart_inserted x (sorted below xs) (has_sorted x xs (not_true (has same xs x) w.0)) (apart_sorted xs w.1)

-- members that are mapped to what is the same to others
module _ {A : Type 0} (f : A → A) (same : A → A → Bool) (alike : (x y : A) → same (f x) (f y) ≡ same x y) where
  has_mapped : (z : A) (xs : List A) → has same (map f xs) (f z) ≡ has same xs z
  has_mapped z [] = refl
  has_mapped z (x ∷ xs) = ap₂ (λ (a b : Bool). a || b) (alike x z) (has_mapped z xs)

  pub apart_mapped : (xs : List A) → distinct same (map f xs) ≡ distinct same xs
  apart_mapped [] = refl
  apart_mapped (x ∷ xs) = ap₂ (λ (a b : Bool). not a && b) (has_mapped x xs) (apart_mapped xs)

pub number_one_way : (a b : ℕ) → nat_lt a b ≡ true → nat_lt b a ≡ false
number_one_way a b h = grind arith

-- lists of octets
pub octets_one_way : (x y : List ℕ) → octets_below x y ≡ true → octets_below y x ≡ false
octets_one_way x y h = by (slice_cmp nat_cmp x y) (slice_cmp nat_cmp y x) refl refl (nat_list_cmp_total.antisymm y x) h
  where
    by : (r s : Ordering) → slice_cmp nat_cmp x y ≡ r → slice_cmp nat_cmp y x ≡ s
        → slice_cmp nat_cmp y x ≡ ordering_reverse (slice_cmp nat_cmp x y) → is_lt r ≡ true
        → octets_below y x ≡ false
    by Less s f g a h = ap is_lt (a ∙ ap ordering_reverse f)
    by Equal s f g a h = absurd (cc h)
    by Greater s f g a h = absurd (cc h)

pub octets_turned : (x y : List ℕ) → same_octets x y ≡ same_octets y x
octets_turned x y = by (same_octets x y) (same_octets y x) refl refl
  where
    by : (a b : Bool) → same_octets x y ≡ a → same_octets y x ≡ b → a ≡ b
    by true true f g = refl
    by false false f g = refl
    by true false f g =
        let t : same_octets y x ≡ true = (bytes_decides y x).1 (sym ((bytes_decides x y).0 f)) in absurd
        (cc (sym g ∙ t))
    by false true f g =
        let t : same_octets x y ≡ true = (bytes_decides x y).1 (sym ((bytes_decides y x).0 g)) in absurd
        (cc (sym f ∙ t))
