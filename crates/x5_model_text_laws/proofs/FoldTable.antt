-- What the table of case foldings (CaseFolding.txt) says of the characters that others fold to.
use Rattle.std.proofs.Common.{◌≡◌, ℕ, Bool, true, ◌&&◌, not, List, [], ◌∷◌, refl, sym, subst}
use Rattle.ucd_table.proofs.Computing.{tables}
use Rattle.ucd_table.proofs.Facts.{tree_value-tree_of}
use Rattle.ucd_table.proofs.GroupsCheck.{same_string}
use Rattle.ucd_table.proofs.RangedFacts.{values_ok, at_values, Stepped-at_values}
use Rattle.ucd_case.proofs.CaseFoldingLemmas.{full_folding_stepped}
use Rattle.ucd_case.specs.CaseFolding.{full_folding, or_itself}
use Rattle.x5_model.specs.Normal.{is_control}
use lib.Utf8.{scalar}

-- by the table, the character folds to itself, and is one that isn't a control character
abbrev pub is_fold : (ℕ → List ℕ) → ℕ → Bool
is_fold table c = same_string (or_itself c (table c)) (c ∷ []) && (scalar c && not (is_control c))

abbrev pub are_folds : (ℕ → List ℕ) → List ℕ → Bool
are_folds table [] = true
are_folds table (c ∷ cs) = is_fold table c && are_folds table cs

-- so does each character of each folding
pub folds : (c : ℕ) → are_folds full_folding (full_folding c) ≡ true
unfolding tables values_ok full_folding_stepped
folds =
    Stepped-at_values full_folding full_folding_stepped (are_folds full_folding)
    (subst (λ f. at_values full_folding full_folding_stepped (are_folds f) ≡ true) (sym (tree_value-tree_of full_folding full_folding_stepped)) refl)
