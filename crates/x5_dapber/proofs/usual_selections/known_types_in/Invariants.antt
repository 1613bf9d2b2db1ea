-- The types so far, and what is left of the octets.
use Rattle.std.proofs.Common.{length, map}
use Rattle.x5_model_messages.specs.Terms.{type_in}
use Rattle.x5_model_typed.specs.Named as named
use Rattle.x5_syntax.specs.TypeView.{type_view}
use Rattle.x5_direct.proofs.Spelling.{Goes}
use Rattle.x5_dapber.proofs.usual_selections.known_types_in.Given as goal

abbrev pub invariant-loop-left : goal.invariant-loop-left
invariant-loop-left l = Goes 0 named.AnyOid type_in l.octets (map type_view l.kinds.items) l.left

abbrev pub decreases-loop-left : goal.decreases-loop-left
decreases-loop-left l = length l.left
