-- The line from which a line follows is the last earlier one whose t is one less.
use Rattle.std.specs.Prelude.{◌≡◌, ℕ, Bool, true, false, ◌==◌, nat_lt, if◌then◌else◌, List, [], ◌∷◌}
use Rattle.std.specs.List.{find}
use Rattle.std.specs.declared.option.Option.{Option}
use Rattle.std.specs.declared.option.Option.TheVariants.{None, Some}
use Rattle.std.proofs.Common.{refl, arith, ap, sym, subst, ◌∙◌}
use Rattle.std.proofs.lemmas.Bool.{ltb-true, ne_eqb, eq-eqb}
use Rattle.x5_model.specs.Words.{first_of}
use Rattle.x5_model_run.specs.Journal.{Line, depth, settled}

abbrev line_in : Line → Option Line → Line
line_in l None = l
line_in l (Some o) = o

pub opener_is_last : (d : ℕ) (before : List Line) (o : Line) → first_of (settled d before) ≡ Some o → depth o ≡ d → find (λ l. depth l == d) before ≡ Some o
opener_is_last d [] o e at = cc
opener_is_last d (l ∷ before) o e at = by (nat_lt d (depth l)) refl e (opener_is_last d before o)
  where
    by : (b : Bool) → nat_lt d (depth l) ≡ b → first_of (if b then settled d before else (l ∷ before)) ≡ Some o → (first_of (settled d before) ≡ Some o → depth o ≡ d → find (λ x. depth x == d) before ≡ Some o) → find (λ x. depth x == d) (l ∷ before) ≡ Some o
    by true deeper opens rest =
        let apart : (depth l == d) ≡ false = ne_eqb (depth l) d (λ same. absurd (omega (arith, ltb-true _ _ deeper, same))) in
        subst (λ b. (if b then Some l else find (λ x. depth x == d) before) ≡ Some o) (sym apart) (rest opens at)
    by false deeper opens rest =
        let same : l ≡ o = ap (line_in o) opens in
        let here : (depth l == d) ≡ true = eq-eqb (depth l) d (ap depth same ∙ at) in
        subst (λ b. (if b then Some l else find (λ x. depth x == d) before) ≡ Some o) (sym here) (ap Some same)
