-- The filters so far, and what is left of the octets.
use Rattle.std.proofs.Common.{length, map}
use Rattle.x5_match.specs.FilterView.{filter_view}
use Rattle.x5_model_messages.specs.FilterTerms.{filter_in}
use Rattle.x5_model_typed.specs.Named as named
use Rattle.x5_direct.proofs.Spelling.{Goes}
use Rattle.x5_dapber.proofs.usual_filters.item_filters_in.Given as goal

abbrev pub invariant-loop-left : goal.invariant-loop-left
invariant-loop-left l = Goes 6 (named.Filter 15) filter_in l.octets (map filter_view l.members.items) l.left

abbrev pub decreases-loop-left : goal.decreases-loop-left
decreases-loop-left l = length l.left
