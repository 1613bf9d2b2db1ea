-- While runs of spaces are made single: the octets kept so far, then the text that is left with its spaces made single,
-- are the whole text with its spaces made single.
use Rattle.std.proofs.Common.{◌≡◌, ◌++◌, drop}
use Rattle.x5_model.specs.Normal as model
use Rattle.x5_syntax.proofs.texts.single_spaced.Given as goal

abbrev pub invariant-loop-i : goal.invariant-loop-i
invariant-loop-i l = l.kept.items ++ model.single_spaced l.last (drop l.i l.text) ≡ model.single_spaced l.last l.text
