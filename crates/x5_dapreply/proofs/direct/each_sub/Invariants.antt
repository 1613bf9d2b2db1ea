-- Those so far, and what is left of the octets.
use Rattle.std.proofs.Common.{map, length}
use Rattle.x5_model_typed.specs.Named as named
use Rattle.x5_model_messages.specs.Replies as replies
use Rattle.x5_ops.specs.AnswerViews.{sub_view}
use Rattle.x5_direct.proofs.Spelling.{Goes}
use Rattle.x5_dapreply.proofs.direct.each_sub.Given as goal

abbrev pub invariant-loop-left : goal.invariant-loop-left
invariant-loop-left l = Goes 3 named.Sub replies.sub_in l.octets (map sub_view l.subs.items) l.left

abbrev pub decreases-loop-left : goal.decreases-loop-left
decreases-loop-left l = length l.left
