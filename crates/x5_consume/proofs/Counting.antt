-- Steps that are prepared one by one, and their values counted.
use Rattle.std.proofs.Common.{◌≡◌, ℕ, zero, suc, ◌+◌, ◌<◌, ◌≤◌, List, [], ◌∷◌, ◌++◌, length, drop, get_or, refl, sym, ap, subst, ◌∙◌, arith, append_assoc}
use Rattle.std.proofs.lemmas.List.{append-nil}
use Rattle.x5_ops.specs.declared.knowledge.Step.{Step}
use Rattle.x5_ops.proofs.Dropping.{drop_at}
use Rattle.x5_consume.specs.declared.ready.Prepared.{Prepared}
use Rattle.x5_consume.specs.Ready.{ArePrepared, IsPrepared, room_of, steps_in, values_in}

steps_push : (all : List Prepared) (one : Prepared) → steps_in (all ++ one ∷ []) ≡ steps_in all ++ one.step ∷ []
steps_push [] one = refl
steps_push (p ∷ all) one = ap (λ (l : List Step). p.step ∷ l) (steps_push all one)

pub one_more : (all new : List Prepared) (one : Prepared) (step : Step) (left rest given : List Step) → new ≡ all ++ one ∷ []
    → one.step ≡ step → left ≡ step ∷ rest → steps_in all ++ left ≡ given → steps_in new ++ rest ≡ given
one_more all new one step left rest given pushed same is told =
    ap (λ (l : List Prepared). steps_in l ++ rest) pushed ∙ ap (λ (l : List Step). l ++ rest) (steps_push all one)
    ∙ append_assoc (steps_in all) (one.step ∷ []) rest ∙ ap (λ (s : Step). steps_in all ++ s ∷ rest) same
    ∙ ap (λ (l : List Step). steps_in all ++ l) (sym is) ∙ told

prepared_push : (all : List Prepared) (one : Prepared) → ArePrepared all → IsPrepared one → ArePrepared (all ++ one ∷ [])
prepared_push [] one p q = (q, tt)
prepared_push (x ∷ all) one p q = (p.0, prepared_push all one p.1 q)

pub one_prepared : (all new : List Prepared) (one : Prepared) → new ≡ all ++ one ∷ [] → ArePrepared all → IsPrepared one → ArePrepared new
one_prepared all new one pushed p q = subst ArePrepared (sym pushed) (prepared_push all one p q)

pub none_left : {A : Type 0} (l : List A) → length l ≡ 0 → l ≡ []
none_left [] h = refl
none_left (x ∷ xs) h = absurd (omega arith)

pub all_told : (all : List Prepared) (left given : List Step) → left ≡ [] → steps_in all ++ left ≡ given → steps_in all ≡ given
all_told all left given e told =
    sym (append-nil (steps_in all)) ∙ ap (λ (l : List Step). steps_in all ++ l) (sym e) ∙ told

pub one_counted : (all : List Prepared) (i : ℕ) (one : Prepared) (count sum n : ℕ) → i < length all → one ≡ get_or all i one
    → n ≡ length (room_of one.ready) → sum ≡ count + n → count + values_in (drop i all) ≡ values_in all
    → sum + values_in (drop (i + 1) all) ≡ values_in all
one_counted all i one count sum n lt is values s told =
    let d : values_in (drop i all) ≡ length (room_of one.ready) + values_in (drop (i + 1) all) = ap values_in (drop_at all i one lt is) in
    omega arith

nothing_left : (xs : List Prepared) (i : ℕ) → length xs ≤ i → drop i xs ≡ []
nothing_left [] zero le = refl
nothing_left [] (suc i) le = refl
nothing_left (x ∷ xs) zero le = absurd (omega arith)
nothing_left (x ∷ xs) (suc i) le = nothing_left xs i (omega arith)

pub all_counted : (all : List Prepared) (i count : ℕ) → length all ≤ i → count + values_in (drop i all) ≡ values_in all
    → count ≡ values_in all
all_counted all i count le told =
    let d : values_in (drop i all) ≡ 0 = ap values_in (nothing_left all i le) in omega arith
