-- The place of the first member that passes a test: what it says of the list.
use Rattle.std.proofs.Common.{◌≡◌, ℕ, zero, suc, ◌<◌, ◌≤◌, Bool, true, false, ◌||◌, nat_lt, if◌then◌else◌, ◌⊎◌, inl, inr, List, [], ◌∷◌, ◌++◌, take, drop, length, get_or, Option, Some, None, Bor, refl, sym, ap, subst, ◌∙◌, arith}
use Rattle.std.specs.Prelude.{slice_get}
use Rattle.std.specs.Cmp.{both_ways}
use Rattle.std.specs.List.{list_any, flat_map, find}
use Rattle.std.specs.Option.{MatchOption, is_some, option_map}
use Rattle.std.specs.Slice.{IsItemAt}
use Rattle.std.proofs.lemmas.List.{drop_all}
use Rattle.x5_model.specs.Words.{some_and, first_of, when}
use Rattle.x5_model.proofs.Lists.{either_true, or_left, or_right}
use Rattle.x5_check.specs.Parts.{IsPlace, earlier}

pub got : {A : Type 0} (xs : List A) (i : ℕ) (x : A) → i < length xs → x ≡ get_or xs i x → slice_get xs i ≡ Some x
got [] i x lt e = absurd (omega arith)
got (y ∷ xs) zero x lt e = ap Some (sym e)
got (y ∷ xs) (suc i) x lt e = got xs i x (omega arith) e

-- an item is the same by each default
pub same_item : {A : Type 0} (xs : List A) (i : ℕ) (d f : A) → i < length xs → get_or xs i d ≡ get_or xs i f
same_item [] i d f lt = absurd (omega arith)
same_item (y ∷ xs) zero d f lt = refl
same_item (y ∷ xs) (suc i) d f lt = same_item xs i d f (omega arith)

pub got_none : {A : Type 0} (xs : List A) (i : ℕ) → length xs ≤ i → slice_get xs i ≡ None
got_none [] i le = refl
got_none (y ∷ xs) zero le = absurd (omega arith)
got_none (y ∷ xs) (suc i) le = got_none xs i (omega arith)

pub got_below : {A : Type 0} (xs : List A) (i : ℕ) (x : A) → slice_get xs i ≡ Some x → i < length xs
got_below [] i x e = cc
got_below (y ∷ xs) zero x e = omega arith
got_below (y ∷ xs) (suc i) x e = let h = got_below xs i x e in omega arith

-- what `get` gives
pub item_at : {A : Type 0} (xs : List A) (i : ℕ) (r : Option (Bor A)) (x : Bor A) → IsItemAt xs i r → r ≡ Some x → (i < length xs) × (x.now ≡ get_or xs i x.now)
item_at xs i None x h e = cc
item_at {A} xs i (Some y) x h e = let q : y ≡ x = cc in subst (λ (z : Bor A). (i < length xs) × (z.now ≡ get_or xs i z.now)) q (h.3.0, h.1)

pub no_item : {A : Type 0} (xs : List A) (i : ℕ) (r : Option (Bor A)) → IsItemAt xs i r → r ≡ None → length xs ≤ i
no_item xs i None h e = h.3
no_item xs i (Some y) h e = cc

pub item_got : {A : Type 0} (xs : List A) (i : ℕ) (r : Option (Bor A)) (x : Bor A) → IsItemAt xs i r → r ≡ Some x → slice_get xs i ≡ Some x.now
item_got xs i r x h e = let w = item_at xs i r x h e in got xs i x.now w.0 w.1

pub item_lacking : {A : Type 0} (xs : List A) (i : ℕ) (r : Option (Bor A)) → IsItemAt xs i r → r ≡ None → slice_get xs i ≡ None
item_lacking xs i r h e = got_none xs i (no_item xs i r h e)

pub less_or_not : (m n : ℕ) → (m < n) ⊎ (n ≤ m)
less_or_not m n = grind arith

-- a test that nothing passes
pub never : {A : Type 0} (test : A → Bool) (o : Option A) → ((x : A) → test x ≡ false) → some_and test o ≡ false
never test None f = refl
never test (Some x) f = f x

module _ {A : Type 0} (test : A → Bool) where
  pub passes_within : (xs : List A) (n : ℕ) → list_any test (take n xs) ≡ true → (i : ℕ) × ((i < n) × (some_and test (slice_get xs i) ≡ true))
  passes_within xs zero e = cc
  passes_within [] (suc n) e = cc
  passes_within (x ∷ xs) (suc n) e =
      elim (either_true (test x) (list_any test (take n xs)) e) [
        | inl h ↦ (0, (omega arith, h))
        | inr h ↦ (let w = passes_within xs n h in (suc w.0, (omega (arith, w.1.0), w.1.1)))
      ]

  pub within_passes : (xs : List A) (n i : ℕ) → i < n → some_and test (slice_get xs i) ≡ true → list_any test (take n xs) ≡ true
  within_passes xs zero i lt e = absurd (omega arith)
  within_passes [] (suc n) i lt e = cc
  within_passes (x ∷ xs) (suc n) zero lt e = or_left (test x) (list_any test (take n xs)) e
  within_passes (x ∷ xs) (suc n) (suc i) lt e =
      or_right (test x) (list_any test (take n xs)) (within_passes xs n i (omega arith) e)

  pub passes : (xs : List A) → list_any test xs ≡ true → (i : ℕ) × (some_and test (slice_get xs i) ≡ true)
  passes [] e = cc
  passes (x ∷ xs) e =
      elim (either_true (test x) (list_any test xs) e) [
        | inl h ↦ (0, h)
        | inr h ↦ (let w = passes xs h in (suc w.0, w.1))
      ]

  pub it_passes : (xs : List A) (i : ℕ) → some_and test (slice_get xs i) ≡ true → list_any test xs ≡ true
  it_passes [] i e = cc
  it_passes (x ∷ xs) zero e = or_left (test x) (list_any test xs) e
  it_passes (x ∷ xs) (suc i) e = or_right (test x) (list_any test xs) (it_passes xs i e)

  -- whether it's before a place
  pub place_before : (xs : List A) (first place : ℕ) → IsPlace test xs (Some first) → nat_lt first place ≡ list_any test (take place xs)
  place_before xs first place h =
      both_ways (nat_lt first place) (list_any test (take place xs)) (λ e. within_passes xs place first (grind arith) h.0) (λ e. let w = passes_within xs place e in elim (less_or_not w.0 first) [
        | inl lt ↦ (let f : some_and test (slice_get xs w.0) ≡ false = h.1 w.0 lt in let t : some_and test (slice_get xs w.0) ≡ true = w.1.1 in cc)
        | inr le ↦ (let a : w.0 < place = w.1.0 in let l : first < place = omega arith in below first place l)
      ])
    where
      below : (m n : ℕ) → m < n → nat_lt m n ≡ true
      below m n h = grind arith

  pub none_before : (xs : List A) (place : ℕ) → IsPlace test xs None → false ≡ list_any test (take place xs)
  none_before xs place h =
      both_ways false (list_any test (take place xs)) (λ e. cc) (λ e. let w = passes_within xs place e in let f : some_and test (slice_get xs w.0) ≡ false = h w.0 in let t : some_and test (slice_get xs w.0) ≡ true = w.1.1 in cc)

  -- whether there is one
  pub place_any : (xs : List A) (found : Option ℕ) → IsPlace test xs found → is_some found ≡ list_any test xs
  place_any xs None h =
      both_ways false (list_any test xs) (λ e. cc) (λ e. let w = passes xs e in let f : some_and test (slice_get xs w.0) ≡ false = h w.0 in let t : some_and test (slice_get xs w.0) ≡ true = w.1 in cc)
  place_any xs (Some n) h = sym (it_passes xs n h.0)

  -- the first member that passes stands there
  pub place_find : (xs : List A) (n : ℕ) → IsPlace test xs (Some n) → find test xs ≡ slice_get xs n
  place_find [] n h = refl
  place_find (x ∷ xs) zero h = ap (λ (t : Bool). if t then Some x else find test xs) h.0
  place_find (x ∷ xs) (suc n) h =
      ap (λ (t : Bool). if t then Some x else find test xs) (h.1 0 (omega arith)) ∙ place_find xs n (h.0, λ m lt. h.1 (suc m) (omega arith))

  pub place_none : (xs : List A) → IsPlace test xs None → find test xs ≡ None
  place_none [] h = refl
  place_none (x ∷ xs) h = ap (λ (t : Bool). if t then Some x else find test xs) (h 0) ∙ place_none xs (λ n. h (suc n))

  -- what is told of it is told first
  first_by : (b : Bool) (x : A) (xs : List A) {X : Type 0} (told : A → X) → first_of (flat_map (λ y. when (test y) (told y)) xs) ≡ option_map told (find test xs) → first_of (when b (told x) ++ flat_map (λ y. when (test y) (told y)) xs) ≡ option_map told (if b then Some x else find test xs)
  first_by true x xs told h = refl
  first_by false x xs told h = h

  first_passing : (xs : List A) {X : Type 0} (told : A → X) → first_of (flat_map (λ x. when (test x) (told x)) xs) ≡ option_map told (find test xs)
  first_passing [] told = refl
  first_passing (x ∷ xs) told = first_by (test x) x xs told (first_passing xs told)

  pub place_told : (xs : List A) {X : Type 0} (told : A → X) (n : ℕ) (x : A) → IsPlace test xs (Some n) → slice_get xs n ≡ Some x → Some (told x) ≡ first_of (flat_map (λ y. when (test y) (told y)) xs)
  place_told xs told n x h e =
      sym (first_passing xs told ∙ ap (option_map told) (place_find xs n h ∙ e))

  pub none_told : (xs : List A) {X : Type 0} (told : A → X) → IsPlace test xs None → None ≡ first_of (flat_map (λ y. when (test y) (told y)) xs)
  none_told xs told h = sym (first_passing xs told ∙ ap (option_map told) (place_none xs h))

  -- it's a place of the list
  pub place_there : (xs : List A) (n : ℕ) → IsPlace test xs (Some n) → slice_get xs n ≡ None → ⊥
  place_there xs n h e = (let t : some_and test (slice_get xs n) ≡ false = ap (some_and test) e in let u : some_and test (slice_get xs n) ≡ true = h.0 in cc)

-- a place by two tests is the earlier of the two places
module _ {A : Type 0} (s t : A → Bool) where
  either_at : (o : Option A) → some_and (λ x. s x || t x) o ≡ (some_and s o || some_and t o)
  either_at None = refl
  either_at (Some x) = refl

  neither : (a b : Bool) → a ≡ false → b ≡ false → (a || b) ≡ false
  neither a b p q = λ i. p i || q i

  no_place : (xs : List A) (m : ℕ) → some_and s (slice_get xs m) ≡ false → some_and t (slice_get xs m) ≡ false → some_and (λ x. s x || t x) (slice_get xs m) ≡ false
  no_place xs m p q = either_at (slice_get xs m) ∙ neither (some_and s (slice_get xs m)) (some_and t (slice_get xs m)) p q

  left_place : (xs : List A) (m : ℕ) → some_and s (slice_get xs m) ≡ true → some_and (λ x. s x || t x) (slice_get xs m) ≡ true
  left_place xs m p = either_at (slice_get xs m) ∙ or_left (some_and s (slice_get xs m)) (some_and t (slice_get xs m)) p

  right_place : (xs : List A) (m : ℕ) → some_and t (slice_get xs m) ≡ true → some_and (λ x. s x || t x) (slice_get xs m) ≡ true
  right_place xs m p = either_at (slice_get xs m) ∙ or_right (some_and s (slice_get xs m)) (some_and t (slice_get xs m)) p

  pub place_join : (xs : List A) (a b : Option ℕ) → IsPlace s xs a → IsPlace t xs b → IsPlace (λ x. s x || t x) xs (earlier a b)
  place_join xs None None p q = λ n. no_place xs n (p n) (q n)
  place_join xs None (Some b) p q = (right_place xs b q.0, λ m lt. no_place xs m (p m) (q.1 m lt))
  place_join xs (Some a) None p q = (left_place xs a p.0, λ m lt. no_place xs m (p.1 m lt) (q m))
  place_join xs (Some a) (Some b) p q = by (nat_lt b a) refl
    where
      by : (c : Bool) → nat_lt b a ≡ c → (some_and (λ x. s x || t x) (slice_get xs (if c then b else a)) ≡ true) × ((m : ℕ) → m < (if c then b else a) → some_and (λ x. s x || t x) (slice_get xs m) ≡ false)
      by true e = (right_place xs b q.0, λ m lt. no_place xs m (p.1 m (let h : b < a = grind arith in omega arith)) (q.1 m lt))
      by false e = (left_place xs a p.0, λ m lt. no_place xs m (p.1 m lt) (q.1 m (let h : a ≤ b = grind arith in omega arith)))

  pub place_same : (xs : List A) (found : Option ℕ) → ((x : A) → s x ≡ t x) → IsPlace s xs found → IsPlace t xs found
  place_same xs found e h = subst (λ (u : A → Bool). IsPlace u xs found) (λ i x. e x i) h

-- from a next number of a key on which the places of a list stand
pub place_of_next : {A : Type 0} (test : A → Bool) (xs : List A) (found : Option ℕ) → MatchOption found ((n : ℕ) → 0 ≤ n → some_and test (slice_get xs n) ≡ false) (λ n. (some_and test (slice_get xs n) ≡ true) × (0 ≤ n) × ((m : ℕ) → 0 ≤ m → m < n → some_and test (slice_get xs m) ≡ false)) → IsPlace test xs found
place_of_next test xs None h = λ n. h n (omega arith)
place_of_next test xs (Some n) h = (h.0, λ m lt. h.2 m (omega arith) lt)

-- ---- places that bring nothing are passed over

pub pass_over : {A X : Type 0} (f : A → List X) (xs : List A) (from place : ℕ) → from ≤ place → ((n : ℕ) (x : A) → from ≤ n → n < place → slice_get xs n ≡ Some x → f x ≡ []) → flat_map f (drop from xs) ≡ flat_map f (drop place xs)
pass_over f [] zero zero le h = refl
pass_over f [] zero (suc p) le h = refl
pass_over f [] (suc n) zero le h = refl
pass_over f [] (suc n) (suc p) le h = refl
pass_over f (x ∷ xs) zero zero le h = refl
pass_over {A} {X} f (x ∷ xs) zero (suc p) le h =
    ap (λ (l : List X). l ++ flat_map f xs) (h 0 x (omega arith) (omega arith) refl)
    ∙ pass_over f xs zero p (omega arith) (λ n y a b e. h (suc n) y (omega arith) (omega arith) e)
pass_over f (x ∷ xs) (suc n) zero le h = absurd (omega arith)
pass_over f (x ∷ xs) (suc n) (suc p) le h =
    pass_over f xs n p (omega arith) (λ m y a b e. h (suc m) y (omega arith) (omega arith) e)

pub nothing_left : {A X : Type 0} (f : A → List X) (xs : List A) (from : ℕ) → ((n : ℕ) (x : A) → from ≤ n → slice_get xs n ≡ Some x → f x ≡ []) → flat_map f (drop from xs) ≡ []
nothing_left {A} f xs from h = elim (less_or_not from (length xs)) [
  | inl lt ↦ pass_over f xs from (length xs) (omega arith) (λ n x a b e. h n x a e) ∙ ap (λ (l : List A). flat_map f l) (drop_all (length xs) xs (omega arith))
  | inr le ↦ ap (λ (l : List A). flat_map f l) (drop_all from xs le)
]
