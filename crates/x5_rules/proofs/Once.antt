-- Members that are put in order one before the other, where each passes a test and no two are the same.
use Rattle.std.proofs.Common.{◌≡◌, ◌+◌, ◌&&◌, ◌||◌, ◌++◌, ℕ, Bool, true, false, not, List, [], ◌∷◌, length, map}
use Rattle.std.proofs.Common.{take, drop, refl, ap, sym, ◌∙◌}
use Rattle.std.proofs.Common.{append_assoc, if◌then◌else◌}
use Rattle.std.proofs.lemmas.List.{take-append-drop, map-append}
use Rattle.std.proofs.Math.Seq.{drop-append_seam}
use Rattle.std.specs.List.{list_all}
use Rattle.std.specs.declared.option.Option.{Option}
use Rattle.std.specs.declared.option.Option.TheVariants.{None, Some}
use Rattle.x5_model.specs.Words.{has, distinct, insert_sorted, sorted}
use Rattle.x5_model_typed.specs.Leaves.{where_so}

-- ---- who is among them, in whatever order

swap : (a b c : Bool) → (a || (b || c)) ≡ (b || (a || c))
swap true true c = refl
swap true false c = refl
swap false true c = refl
swap false false c = refl

inserted_by : {A : Type 0} (same below : A → A → Bool) (x y z : A) (ys : List A) (b : Bool)
    → has same (insert_sorted below y ys) x ≡ (same y x || has same ys x)
    → has same (if b then z ∷ insert_sorted below y ys else (y ∷ z ∷ ys)) x ≡ (same y x || (same z x || has same ys x))
inserted_by same below x y z ys true h = ap (λ b. same z x || b) h ∙ swap (same z x) (same y x) (has same ys x)
inserted_by same below x y z ys false h = refl

has_inserted : {A : Type 0} (same below : A → A → Bool) (x y : A) (ys : List A)
    → has same (insert_sorted below y ys) x ≡ (same y x || has same ys x)
has_inserted same below x y [] = refl
has_inserted same below x y (z ∷ ys) = inserted_by same below x y z ys (below z y) (has_inserted same below x y ys)

pub has_sorted : {A : Type 0} (same below : A → A → Bool) (x : A) (ys : List A)
    → has same (sorted below ys) x ≡ has same ys x
has_sorted same below x [] = refl
has_sorted same below x (y ∷ ys) =
    has_inserted same below x y (sorted below ys) ∙ ap (λ b. same y x || b) (has_sorted same below x ys)

pub has_mapped : {A : Type 0} (same : A → A → Bool) (f : A → A) → ((x y : A) → same (f x) y ≡ same x y) → (x : A) (ys : List A)
    → has same (map f ys) x ≡ has same ys x
has_mapped same f h x [] = refl
has_mapped same f h x (y ∷ ys) =
    ap (λ c. c || has same (map f ys) x) (h y x) ∙ ap (λ c. same y x || c) (has_mapped same f h x ys)

-- ---- all pass, each once

abbrev pub each_once : {A : Type 0} → (A → Bool) → (A → A → Bool) → List A → Bool
each_once test same xs = list_all test xs && distinct same xs

joined : (a b c d : Bool) → (a && not c) ≡ true → (b && d) ≡ true → ((a && b) && (not c && d)) ≡ true
joined true true false true e f = refl
joined true true true d e f = absurd (cc e)
joined true false c d e f = absurd (cc f)
joined false b c d e f = absurd (cc e)
joined true true false false e f = absurd (cc f)

apart : (a b c d : Bool) → (a && not c) ≡ false → ((a && b) && (not c && d)) ≡ false
apart true true true d e = refl
apart true false true d e = refl
apart true b false d e = absurd (cc e)
apart false b c d e = refl

behind_apart : (a b c d : Bool) → (b && d) ≡ false → ((a && b) && (not c && d)) ≡ false
behind_apart true true true d e = refl
behind_apart true true false d e = e
behind_apart true false c d e = refl
behind_apart false b c d e = refl

pub one_more : {A : Type 0} (test : A → Bool) (same : A → A → Bool) (x : A) (xs : List A) → (test x && not (has same xs x)) ≡ true
    → each_once test same xs ≡ true → each_once test same (x ∷ xs) ≡ true
one_more test same x xs e f = joined (test x) (list_all test xs) (has same xs x) (distinct same xs) e f

pub one_fails : {A : Type 0} (test : A → Bool) (same : A → A → Bool) (x : A) (xs : List A) → (test x && not (has same xs x)) ≡ false
    → each_once test same (x ∷ xs) ≡ false
one_fails test same x xs e = apart (test x) (list_all test xs) (has same xs x) (distinct same xs) e

pub behind_fails : {A : Type 0} (test : A → Bool) (same : A → A → Bool) (front xs : List A) → each_once test same xs ≡ false
    → each_once test same (front ++ xs) ≡ false
behind_fails test same [] xs e = e
behind_fails test same (x ∷ front) xs e =
    behind_apart (test x) (list_all test (front ++ xs)) (has same (front ++ xs) x) (distinct same (front ++ xs))
    (behind_fails test same front xs e)

pub none_so : {X : Type 0} (b : Bool) (x : X) → b ≡ false → where_so b x ≡ None
none_so b x e = rw e refl

-- ---- the last that is left

pub whole_of : {A : Type 0} (all old new : List A) (node : A) → old ≡ take (length old) all → old ≡ new ++ (node ∷ [])
    → all ≡ new ++ (node ∷ drop (length old) all)
whole_of all old new node left items =
    sym (take-append-drop (length old) all) ∙ ap (λ l. l ++ drop (length old) all) (sym left ∙ items)
    ∙ append_assoc new (node ∷ []) (drop (length old) all)

pub next_left : {A : Type 0} (all old new : List A) (node : A) → old ≡ take (length old) all → old ≡ new ++ (node ∷ [])
    → drop (length new) all ≡ node ∷ drop (length old) all
next_left {A = A} all old new node left items =
    ap (λ (l : List A). drop (length new) l) (whole_of all old new node left items)
    ∙ drop-append_seam new (node ∷ drop (length old) all)

pub last_fails : {A B : Type 0} (f : A → B) (test : B → Bool) (same : B → B → Bool) (all old new : List A) (node : A)
    → old ≡ take (length old) all → old ≡ new ++ (node ∷ [])
    → (test (f node) && not (has same (map f (drop (length old) all)) (f node))) ≡ false
    → each_once test same (map f all) ≡ false
last_fails {A = A} {B = B} f test same all old new node left items fails =
    ap (λ (l : List A). each_once test same (map f l)) (whole_of all old new node left items)
    ∙ ap (λ (l : List B). each_once test same l) (map-append f new (node ∷ drop (length old) all))
    ∙ behind_fails test same (map f new) (f node ∷ map f (drop (length old) all))
    (one_fails test same (f node) (map f (drop (length old) all)) fails)

pub last_joins : {A B : Type 0} (f : A → B) (test : B → Bool) (same : B → B → Bool) (all old new : List A) (node : A)
    → old ≡ take (length old) all → old ≡ new ++ (node ∷ [])
    → (test (f node) && not (has same (map f (drop (length old) all)) (f node))) ≡ true
    → each_once test same (map f (drop (length old) all)) ≡ true
    → each_once test same (map f (drop (length new) all)) ≡ true
last_joins {A = A} f test same all old new node left items holds once =
    ap (λ (l : List A). each_once test same (map f l)) (next_left all old new node left items)
    ∙ one_more test same (f node) (map f (drop (length old) all)) holds once

-- none is left
pub all_done : {A B : Type 0} (f : A → B) (test : B → Bool) (same : B → B → Bool) (all old : List A) → old ≡ [] → old ≡ take (length old) all
    → each_once test same (map f (drop (length old) all)) ≡ true → each_once test same (map f all) ≡ true
all_done {A = A} f test same all old none left once = sym (ap (λ (l : List A). each_once test same (map f (drop (length l) all))) none) ∙ once
