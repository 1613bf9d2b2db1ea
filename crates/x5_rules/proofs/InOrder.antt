-- Pairs put in order, and parts in their places.
use Rattle.std.proofs.Common.{◌≡◌, ◌==◌, ◌<◌, ◌≤◌, ◌+◌, ◌&&◌, ◌++◌, ℕ, zero, suc, Bool, true, false, not, List, []}
use Rattle.std.proofs.Common.{◌∷◌, length, map, take, drop, get_or, insert, refl, ap, sym, ◌∙◌, arith, one-add}
use Rattle.std.proofs.Common.{append_assoc}
use Rattle.std.specs.List.{position_or_len}
use Rattle.std.proofs.lemmas.List.{drop_more, take-append-drop}
use Rattle.std.proofs.Math.Seq.{take-append_seam, drop-append_seam}
use Rattle.x5_model.specs.Words.{insert_sorted, sorted}
use Rattle.x5_model_typed.specs.Nodes as nodes
use Rattle.x5_model_typed.specs.Rules as rules

insert_at : {A : Type 0} (below : A → A → Bool) (x y : A) (ys : List A) (b : Bool) → below y x ≡ b
    → insert_sorted below x ys ≡ insert ys (position_or_len (λ z. not (below z x)) ys) x
    → insert_sorted below x (y ∷ ys) ≡ insert (y ∷ ys) (position_or_len (λ z. not (below z x)) (y ∷ ys)) x
insert_at below x y ys true h rest = rw (h, one-add) (ap (λ l. y ∷ l) rest)
insert_at below x y ys false h rest = rw h refl

-- One at most is in order.
pub few_in_order : {A B : Type 0} (f : A → B) (below : B → B → Bool) (xs : List A) → length xs < 2
    → map f xs ≡ sorted below (map f xs)
few_in_order f below [] few = refl
few_in_order f below (x ∷ []) few = refl
few_in_order f below (x ∷ y ∷ ys) few = absurd (omega arith)

pub inserted_is : {A : Type 0} (below : A → A → Bool) (x : A) (ys : List A)
    → insert_sorted below x ys ≡ insert ys (position_or_len (λ z. not (below z x)) ys) x
inserted_is below x [] = refl
inserted_is below x (y ∷ ys) = insert_at below x y ys (below y x) refl (inserted_is below x ys)

pub map_insert : {A B : Type 0} (f : A → B) (xs : List A) (i : ℕ) (x : A) → i ≤ length xs
    → map f (insert xs i x) ≡ insert (map f xs) i (f x)
map_insert f xs zero x less = refl
map_insert f [] (suc i) x less = absurd (omega arith)
map_insert f (y ∷ ys) (suc i) x less = ap (λ l. f y ∷ l) (map_insert f ys i x (omega arith))

pub places_step : {A : Type 0} (f : A → nodes.Node) (all : List A) (i j : ℕ) (p q : A) → j ≡ i + 1 → j < length all
    → p ≡ get_or all i p → q ≡ get_or all j q
    → rules.in_their_places (map f (drop i all))
    ≡ ((not (rules.is_final (f p)) && not (rules.is_initial (f q))) && rules.in_their_places (map f (drop j all)))
places_step {A = A} f all i j p q is less e g =
    let second : drop j all ≡ q ∷ drop (j + 1) all = drop_more all j q less ∙ ap (λ x. x ∷ drop (j + 1) all) (sym g) in
    let first : drop i all ≡ p ∷ drop j all = drop_more all i p (omega (arith, is))
    ∙ ap (λ (x : A). x ∷ drop (i + 1) all) (sym e) ∙ ap (λ (k : ℕ). p ∷ drop k all) (sym is) in
    ap (λ (l : List A). rules.in_their_places (map f l)) (first ∙ ap (λ (l : List A). p ∷ l) second)
    ∙ by (not (rules.is_final (f p))) (not (rules.is_initial (f q)))
    (rules.in_their_places (map f (q ∷ drop (j + 1) all)))
    ∙ ap (λ (l : List A). (not (rules.is_final (f p)) && not (rules.is_initial (f q))) && rules.in_their_places
    (map f l)) (sym second)
  where
    by : (a b c : Bool) → (a && b && c) ≡ ((a && b) && c)
    by true b c = refl
    by false b c = refl

pub short_places : {A : Type 0} (f : A → nodes.Node) (l : List A) → length l ≤ 1
    → rules.in_their_places (map f l) ≡ true
short_places f [] few = refl
short_places f (x ∷ []) few = refl
short_places f (x ∷ y ∷ l) few = absurd (omega arith)

-- The same of parts that have their places before them.
pub line_step : {A : Type 0} (f : A → nodes.Node) (all : List A) (i j : ℕ) (p q : A) → j ≡ i + 1 → j < length all
    → p ≡ get_or all i p → q ≡ get_or all j q
    → rules.in_line (map f (drop i all))
    ≡ ((not (rules.place_in (f p) == 2) && not (rules.place_in (f q) == 0)) && rules.in_line (map f (drop j all)))
line_step {A = A} f all i j p q is less e g =
    let second : drop j all ≡ q ∷ drop (j + 1) all = drop_more all j q less ∙ ap (λ x. x ∷ drop (j + 1) all) (sym g) in
    let first : drop i all ≡ p ∷ drop j all = drop_more all i p (omega (arith, is))
    ∙ ap (λ (x : A). x ∷ drop (i + 1) all) (sym e) ∙ ap (λ (k : ℕ). p ∷ drop k all) (sym is) in
    ap (λ (l : List A). rules.in_line (map f l)) (first ∙ ap (λ (l : List A). p ∷ l) second)
    ∙ by (not (rules.place_in (f p) == 2)) (not (rules.place_in (f q) == 0))
    (rules.in_line (map f (q ∷ drop (j + 1) all)))
    ∙ ap (λ (l : List A). (not (rules.place_in (f p) == 2) && not (rules.place_in (f q) == 0)) && rules.in_line
    (map f l)) (sym second)
  where
    by : (a b c : Bool) → (a && b && c) ≡ ((a && b) && c)
    by true b c = refl
    by false b c = refl

pub short_line : {A : Type 0} (f : A → nodes.Node) (l : List A) → length l ≤ 1
    → rules.in_line (map f l) ≡ true
short_line f [] few = refl
short_line f (x ∷ []) few = refl
short_line f (x ∷ y ∷ l) few = absurd (omega arith)

-- The last item that is left was taken.
pub last_taken : {A B : Type 0} (f : A → B) (below : B → B → Bool) (all old new : List A) (node : A)
    (done done' : List B) → old ≡ take (length old) all → old ≡ new ++ (node ∷ [])
    → done ≡ sorted below (map f (drop (length old) all)) → done' ≡ insert_sorted below (f node) done
    → (new ≡ take (length new) all) × (done' ≡ sorted below (map f (drop (length new) all)))
last_taken {A = A} f below all old new node done done' left items same put =
    let behind = drop (length old) all in
    let whole : all ≡ new ++ (node ∷ behind) = sym (take-append-drop (length old) all)
    ∙ ap (λ (l : List A). l ++ behind) (sym left ∙ items) ∙ append_assoc new (node ∷ []) behind in (
      sym (ap (λ (l : List A). take (length new) l) whole ∙ take-append_seam new (node ∷ behind)),
      put ∙ ap (insert_sorted below (f node)) same
          ∙ sym (ap (λ (l : List A). sorted below (map f l)) (ap (λ (l : List A). drop (length new) l) whole
          ∙ drop-append_seam new (node ∷ behind))),
    )
