-- The values so far, and what is left of the octets.
use Rattle.std.proofs.Common.{length, map}
use Rattle.x5_model_typed.specs.Rules as rules
use Rattle.x5_model_typed.specs.Named as named
use Rattle.x5_syntax.specs.ValueView.{value_view}
use Rattle.x5_direct.proofs.Spelling.{Goes}
use Rattle.x5_direct.proofs.values.values_in.Given as goal

abbrev pub invariant-loop-left : goal.invariant-loop-left
invariant-loop-left l = Goes 3 named.Value rules.value_in l.octets (map value_view l.values.items) l.left

abbrev pub decreases-loop-left : goal.decreases-loop-left
decreases-loop-left l = length l.left
