-- While leading spaces are passed over: the text that is left gives the same as the whole text once its leading spaces
-- are dropped.
use Rattle.std.proofs.Common.{◌≡◌, drop}
use Rattle.x5_model.specs.Normal.{without_leading as stripped}
use Rattle.x5_syntax.proofs.texts.without_leading.Given as goal

abbrev pub invariant-loop-i : goal.invariant-loop-i
invariant-loop-i l = stripped (drop l.i l.text) ≡ stripped l.text
