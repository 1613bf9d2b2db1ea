-- The rows of a list's members: rows that are added one by one are the members with their places, and a key stands
-- among
-- them with a place exactly where the member there has it.
use Rattle.std.proofs.Common.{◌≡◌, ℕ, zero, suc, ◌+◌, ◌<◌, ◌≤◌, Bool, true, false, ◌&&◌, ◌||◌, ◌==◌, List, [], ◌∷◌}
use Rattle.std.proofs.Common.{◌++◌, map, take, length, get_or, refl, sym, ap, subst, ◌∙◌, arith, append_assoc}
use Rattle.std.specs.Prelude.{slice_get}
use Rattle.std.specs.List.{list_any, enumerate_from}
use Rattle.std.specs.List.Sorted.{IsSorted, IsStable}
use Rattle.std.specs.declared.result.Result.{Result}
use Rattle.std.specs.declared.result.Result.TheVariants.{Ok, Err}
use Rattle.std.specs.Result.{IfOk}
use Rattle.std.proofs.lemmas.List.{take_all, map_push}
use Rattle.std.proofs.lemmas.List.Sorted.{ranks_by}
use Rattle.x5_model.specs.Words.{some_and, sorted}
use Rattle.x5_model.specs.Keys.{Key, same_key}
use Rattle.x5_model.proofs.Lists.{any_in, of_any}
use Rattle.x5_model.proofs.Ascending.{of_sorted, in_sorted}
use Rattle.x5_holdings.specs.Rows.{KeyRow, same_row, places_of, places_in, numbered, row_cmp, row_below, AreRowsOf}
use Rattle.x5_holdings.specs.RowOrder.{row_cmp_total}
use Rattle.x5_holdings.proofs.Sorting.{stable_sort}

abbrev numbered_from : ℕ → List Key → List KeyRow
numbered_from i keys = map (λ p. (p.1, p.0)) (enumerate_from i keys)

-- ---- one more

push_from : (keys : List Key) (key : Key) (i n : ℕ) → n ≡ i + length keys → numbered_from i (keys ++ key ∷ []) ≡
    numbered_from i keys ++ (key, n) ∷ []
push_from [] key i n e = let f : i ≡ n = omega arith in ap (λ (m : ℕ). (key, m) ∷ []) f
push_from (k ∷ keys) key i n e = ap (λ (l : List KeyRow). (k, i) ∷ l) (push_from keys key (i + 1) n (omega arith))

pub numbered_push : (keys : List Key) (key : Key) → numbered (keys ++ key ∷ []) ≡ numbered keys ++ (key, length keys)
    ∷ []
numbered_push keys key = push_from keys key 0 (length keys) (omega arith)

length_from : (keys : List Key) (i : ℕ) → length (numbered_from i keys) ≡ length keys
length_from [] i = refl
length_from (k ∷ keys) i = ap suc (length_from keys (i + 1))

pub length_numbered : (keys : List Key) → length (numbered keys) ≡ length keys
length_numbered keys = length_from keys 0

-- a loop's step, behind rows of other members
pub taken : {A : Type 0} (xs : List A) (i : ℕ) (x : A) → i < length xs → x ≡ get_or xs i x → take (i + 1) xs ≡ take i
    xs ++ x ∷ []
taken [] i x lt is = absurd (omega arith)
taken {A} (y ∷ ys) zero x lt is = ap (λ (z : A). z ∷ []) (sym is)
taken {A} (y ∷ ys) (suc i) x lt is =
    (let e : suc i + 1 ≡ suc (i + 1) = omega arith in ap (λ (n : ℕ). take n (y ∷ ys)) e) ∙ ap (λ (l : List A). y ∷ l)
    (taken ys i x (omega arith) is)

pub one_more_behind : {A : Type 0} (f : A → Key) (keys : List Key) (xs : List A) (i : ℕ) (x : A)
    (old new : List KeyRow) → i < length xs → x ≡ get_or xs i x
    → old ≡ numbered (keys ++ map f (take i xs)) → new ≡ old ++ (f x, length old) ∷ [] → new ≡ numbered
    (keys ++ map f (take (i + 1) xs))
one_more_behind {A} f keys xs i x old new lt is e g =
    let all : keys ++ map f (take (i + 1) xs) ≡ (keys ++ map f (take i xs)) ++ f x ∷ [] =
    ap (λ (l : List A). keys ++ map f l) (taken xs i x lt is) ∙
    (ap (λ (l : List Key). keys ++ l) (map_push f (take i xs) x) ∙ sym
    (append_assoc keys (map f (take i xs)) (f x ∷ []))) in
    let n : length old ≡ length (keys ++ map f (take i xs)) = ap length e ∙ length_numbered
    (keys ++ map f (take i xs)) in
    g ∙ (λ j. e j ++ (f x, n j) ∷ []) ∙ sym (ap numbered all ∙ numbered_push (keys ++ map f (take i xs)) (f x))

pub one_more : {A : Type 0} (f : A → Key) (xs : List A) (i : ℕ) (x : A) (old new : List KeyRow) → i < length xs → x ≡
    get_or xs i x
    → old ≡ numbered (map f (take i xs)) → new ≡ old ++ (f x, length old) ∷ [] → new ≡ numbered
    (map f (take (i + 1) xs))
one_more f xs i x old new lt is e g = one_more_behind f [] xs i x old new lt is e g

pub all_done : {A : Type 0} (f : A → Key) (xs : List A) (i : ℕ) (rows : List KeyRow) → length xs ≤ i → rows ≡ numbered
    (map f (take i xs)) → rows ≡ numbered (map f xs)
all_done {A} f xs i rows le e = e ∙ ap (λ (l : List A). numbered (map f l)) (take_all i xs le)

-- ---- which key stands where

at_from : {A : Type 0} (test : A → Bool) (xs : List A) (i n m : ℕ) → m ≡ i + n → list_any
    (λ p. test p.1 && (p.0 == m)) (enumerate_from i xs) ≡ some_and test (slice_get xs n)
at_from test [] i n m e = refl
at_from {A} test (x ∷ xs) i zero m e =
    let a : (i == m) ≡ true = grind arith in
    let rest = passed xs (i + 1) m (omega arith) in
    (λ j. (test x && a j) || rest j) ∙ simple (test x)
  where
    passed : (xs : List A) (i n : ℕ) → n < i → list_any (λ p. test p.1 && (p.0 == n)) (enumerate_from i xs) ≡ false
    passed [] i n h = refl
    passed (x ∷ xs) i n h =
        let e : (i == n) ≡ false = grind arith in
        let rest = passed xs (i + 1) n (omega arith) in
        (λ j. (test x && e j) || rest j) ∙ nothing (test x)
      where
        nothing : (b : Bool) → ((b && false) || false) ≡ false
        nothing true = refl
        nothing false = refl

    simple : (b : Bool) → ((b && true) || false) ≡ b
    simple true = refl
    simple false = refl
at_from test (x ∷ xs) i (suc n) m e =
    let a : (i == m) ≡ false = (let ne : i ≡ m → ⊥ = λ p. absurd (omega arith) in grind arith) in
    let rest = at_from test xs (i + 1) n m (omega arith) in
    (λ j. (test x && a j) || rest j) ∙ simple (test x) (some_and test (slice_get xs n))
  where
    simple : (b c : Bool) → ((b && false) || c) ≡ c
    simple true c = refl
    simple false c = refl

any_map : {A B : Type 0} (test : B → Bool) (f : A → B) (xs : List A) → list_any test (map f xs) ≡ list_any
    (λ x. test (f x)) xs
any_map test f [] = refl
any_map test f (x ∷ xs) = ap (λ (b : Bool). test (f x) || b) (any_map test f xs)

pub numbered_places : (keys : List Key) → places_of (numbered keys) ≡ places_in keys
numbered_places keys =
    λ i key n. (any_map (λ (row : KeyRow). same_row row (key, n)) (λ (p : ℕ × Key). (p.1, p.0))
    (enumerate_from 0 keys) ∙ at_from (λ (k : Key). same_key k key) keys 0 n n (omega arith)) i

-- a stable sort gives the rows in order
pub sorted_rows : (rows ordered : List KeyRow) → IsSorted row_cmp ordered → IsStable row_cmp rows ordered → (keys : List Key)
    → rows ≡ numbered keys → AreRowsOf ordered keys
sorted_rows rows ordered s t keys e =
    stable_sort row_below (ranks_by row_cmp_total (λ (r : KeyRow). r)) (numbered keys) ordered s
    (subst (λ (rs : List KeyRow). IsStable row_cmp rs ordered) e t)

any_sorted : (test : KeyRow → Bool) (rows : List KeyRow) → list_any test (sorted row_below rows) ≡ list_any test rows
any_sorted test rows = by (list_any test (sorted row_below rows)) (list_any test rows) refl refl
  where
    by : (a b : Bool) → list_any test (sorted row_below rows) ≡ a → list_any test rows ≡ b → a ≡ b
    by true true e f = refl
    by false false e f = refl
    by true false e f = absurd (
        let w = of_any test (sorted row_below rows) e in
        let g : list_any test rows ≡ true = any_in test w.0 rows (of_sorted row_below w.0 rows w.1) w.2 in
        cc)
    by false true e f = absurd (
        let w = of_any test rows f in
        let g : list_any test (sorted row_below rows) ≡ true = any_in test w.0 (sorted row_below rows)
        (in_sorted row_below w.0 rows w.1) w.2 in
        cc)

-- which key stands where, by the rows
pub row_places : (rows : List KeyRow) (keys : List Key) → AreRowsOf rows keys → places_of rows ≡ places_in keys
row_places rows keys h =
    ap (λ (l : List KeyRow). places_of l) h
    ∙ (λ i key n. any_sorted (λ row. same_row row (key, n)) (numbered keys) i) ∙ numbered_places keys

-- the table of a loop's rows
pub made : {E : Type 0} (r : Result (List KeyRow) E) (rows : List KeyRow) (keys : List Key)
    → IfOk r (λ p. (ks : List Key) → rows ≡ numbered ks → AreRowsOf p ks) → rows ≡ numbered keys → IfOk r
    (λ p. AreRowsOf p keys)
made (Ok p) rows keys h e = h keys e
made (Err x) rows keys h e = tt
