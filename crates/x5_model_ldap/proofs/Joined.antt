-- Lists that are joined are cut into their parts again, where no part has a member at which they're cut.
use Rattle.std.proofs.Math.Seq.{take-append_seam, drop-append-add}
use Rattle.std.proofs.lemmas.List.Folds.{list_all-append}
use Rattle.std.proofs.Common.{◌≡◌, ◌+◌, ◌||◌, cond, take, drop, length, arith, ap₂, Bool, true, false, not, ◌&&◌}
use Rattle.std.proofs.Common.{List, [], ◌∷◌, ◌++◌, map, refl, sym, ap, ◌∙◌}
use Rattle.std.proofs.lemmas.Bool.{and_parts, not-true}
use Rattle.std.proofs.lemmas.List.Splits.{slice_split-cons_yes, slice_split-cons_no}
use Rattle.std.specs.List.{list_all, slice_split, onto_first, before_first, after_first, list_any, position_or_len}

abbrev pub joined_by : {X : Type 0} → X → List (List X) → List X
joined_by x [] = []
joined_by x (xs ∷ []) = xs
joined_by x (xs ∷ ys ∷ more) = xs ++ x ∷ joined_by x (ys ∷ more)

abbrev pub is_free : {X : Type 0} → (X → Bool) → List X → Bool
is_free cuts xs = list_all (λ x. not (cuts x)) xs

pub cut_all : {X : Type 0} (cuts : X → Bool) (xs : List X) → is_free cuts xs ≡ true → slice_split cuts xs ≡ xs ∷ []
cut_all cuts [] h = refl
cut_all cuts (x ∷ xs) h =
    let parts = and_parts (not (cuts x)) (is_free cuts xs) h in
    slice_split-cons_no cuts x xs (not-true (cuts x) parts.0) ∙ ap (onto_first x) (cut_all cuts xs parts.1)

pub cut_first : {X : Type 0} (cuts : X → Bool) (x : X) (xs ys : List X) → cuts x ≡ true → is_free cuts xs ≡ true
    → slice_split cuts (xs ++ x ∷ ys) ≡ xs ∷ slice_split cuts ys
cut_first cuts x [] ys is h = slice_split-cons_yes cuts x ys is
cut_first cuts x (y ∷ xs) ys is h =
    let parts = and_parts (not (cuts y)) (is_free cuts xs) h in
    slice_split-cons_no cuts y (xs ++ x ∷ ys) (not-true (cuts y) parts.0) ∙ ap (onto_first y)
    (cut_first cuts x xs ys is parts.1)

pub cut_joined : {X : Type 0} (cuts : X → Bool) (x : X) (xs : List X) (more : List (List X)) → cuts x ≡ true
    → list_all (is_free cuts) (xs ∷ more) ≡ true → slice_split cuts (joined_by x (xs ∷ more)) ≡ xs ∷ more
cut_joined cuts x xs [] is h = cut_all cuts xs (and_parts (is_free cuts xs) true h).0
cut_joined cuts x xs (ys ∷ more) is h =
    let parts = and_parts (is_free cuts xs) (list_all (is_free cuts) (ys ∷ more)) h in
    cut_first cuts x xs (joined_by x (ys ∷ more)) is parts.0 ∙ ap (λ zs. xs ∷ zs) (cut_joined cuts x ys more is parts.1)

-- cut once
place_at : {X : Type 0} (cuts : X → Bool) (x : X) (xs ys : List X) → cuts x ≡ true → is_free cuts xs ≡ true
    → position_or_len cuts (xs ++ x ∷ ys) ≡ length xs
place_at cuts x [] ys is h = ap (λ t. cond (not t) (1 + position_or_len cuts ys) 0) is
place_at cuts x (y ∷ xs) ys is h =
    let parts = and_parts (not (cuts y)) (is_free cuts xs) h in
    let rest = place_at cuts x xs ys is parts.1 in
    ap (λ t. cond t (1 + position_or_len cuts (xs ++ x ∷ ys)) 0) parts.0 ∙ omega (arith, rest)

pub before_cut : {X : Type 0} (cuts : X → Bool) (x : X) (xs ys : List X) → cuts x ≡ true → is_free cuts xs ≡ true
    → before_first cuts (xs ++ x ∷ ys) ≡ xs
before_cut cuts x xs ys is h =
    ap (λ n. take n (xs ++ x ∷ ys)) (place_at cuts x xs ys is h) ∙ take-append_seam xs (x ∷ ys)

pub after_cut : {X : Type 0} (cuts : X → Bool) (x : X) (xs ys : List X) → cuts x ≡ true → is_free cuts xs ≡ true
    → after_first cuts (xs ++ x ∷ ys) ≡ ys
after_cut cuts x xs ys is h =
    ap (λ n. drop (n + 1) (xs ++ x ∷ ys)) (place_at cuts x xs ys is h) ∙ drop-append-add xs (x ∷ ys) 1

pub has_cut : {X : Type 0} (cuts : X → Bool) (x : X) (xs ys : List X) → cuts x ≡ true → list_any cuts (xs ++ x ∷ ys)
    ≡ true
has_cut cuts x [] ys is = ap (λ t. t || list_any cuts ys) is
has_cut cuts x (y ∷ xs) ys is = either (cuts y) (list_any cuts (xs ++ x ∷ ys)) (has_cut cuts x xs ys is)
  where
    either : (a b : Bool) → b ≡ true → (a || b) ≡ true
    either true b h = refl
    either false b h = h

-- a test holds of lists that are joined
pub all_joined : {X : Type 0} (test : X → Bool) (x : X) (xss : List (List X)) → test x ≡ true → list_all
    (list_all test) xss ≡ true
    → list_all test (joined_by x xss) ≡ true
all_joined test x [] is h = refl
all_joined test x (xs ∷ []) is h = (and_parts (list_all test xs) true h).0
all_joined test x (xs ∷ ys ∷ more) is h =
    let parts = and_parts (list_all test xs) (list_all (list_all test) (ys ∷ more)) h in
    list_all-append test xs (x ∷ joined_by x (ys ∷ more))
    ∙ ap₂ ◌&&◌ parts.0 (ap₂ ◌&&◌ is (all_joined test x (ys ∷ more) is parts.1))
