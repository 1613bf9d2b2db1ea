-- What was read, and what is read of the words that are left.
use Rattle.std.proofs.Common.{◌≡◌, map, drop}
use Rattle.x5_syntax.specs.TypeView.{type_view}
use Rattle.x5_syntax.specs.ValueView.{value_view}
use Rattle.x5_model_script.specs.Texts.{all_of, value_in}
use Rattle.x5_script.proofs.WordLaws.{behind}
use Rattle.x5_script.proofs.texts.values_of.Given as goal

abbrev pub invariant-loop-word : goal.invariant-loop-word
invariant-loop-word l = behind (map value_view l.values.items) (all_of (value_in (type_view l.kind)) (map (λ x. x.now) (drop l.word-index l.words))) ≡ all_of (value_in (type_view l.kind)) (map (λ x. x.now) l.words)
