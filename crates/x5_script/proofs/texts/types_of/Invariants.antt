-- What was read, and what is read of the words that are left.
use Rattle.std.proofs.Common.{◌≡◌, map, drop}
use Rattle.x5_syntax.specs.TypeView.{type_view}
use Rattle.x5_model_script.specs.Texts.{all_of, type_of}
use Rattle.x5_script.proofs.WordLaws.{behind}
use Rattle.x5_script.proofs.texts.types_of.Given as goal

abbrev pub invariant-loop-word : goal.invariant-loop-word
invariant-loop-word l = behind (map type_view l.kinds.items) (all_of type_of (map (λ x. x.now) (drop l.word-index l.words))) ≡ all_of type_of (map (λ x. x.now) l.words)
