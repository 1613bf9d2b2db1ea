-- Where nothing is unexplored, an answer without its sources prints what the tree tells, by its kinds.
use Rattle.std.proofs.Common.{◌≡◌, [], ◌∷◌, codes, refl, ◌∙◌, append-nil}
use Rattle.std.proofs.lemmas.List.Folds.{flat_map-map}
use Rattle.std.proofs.lemmas.List.{length-map}
use Rattle.std.specs.List.{concat, flat_map}
use Rattle.x5_model.specs.Words.{sorted}
use Rattle.x5_model.specs.Answers.{EntryFound, Matched, Listed, Found, Changed, Outcome}
use Rattle.x5_model_output.specs.Output.{Names, entry_lines, sub_line, count_line, limit_line, outcome_lines}
use Rattle.x5_model_output.specs.Output.{unexplored_line, reference_below}
use Rattle.x5_model_output.specs.Plain.{plain_info, plain_sub, PlainIsTold}

-- no source and nothing unexplored: the mark alone
alone : (names : Names) (o : Outcome) → o.unexplored ≡ [] → outcome_lines names [] o ≡ limit_line o.limited
alone names o none =
    (λ i. concat ([] ∷ flat_map (unexplored_line names) (sorted (reference_below names) (none i))
    ∷ limit_line o.limited ∷ []))
    ∙ append-nil (limit_line o.limited)

pub plain_is_told : PlainIsTold
plain_is_told names (EntryFound info source) none = refl
plain_is_told names (Matched equal copy source) none = refl
plain_is_told names (Listed subs sources o) none =
    λ i. concat (count_line (codes "listed") (length-map subs plain_sub i)
    ∷ flat_map-map sub_line plain_sub subs i ∷ alone names o none i ∷ [])
plain_is_told names (Found infos sources o) none =
    λ i. concat (count_line (codes "found") (length-map infos plain_info i)
    ∷ flat_map-map entry_lines plain_info infos i ∷ alone names o none i ∷ [])
plain_is_told names Changed none = refl
