-- The attributes so far, and what is left of the octets.
use Rattle.std.proofs.Common.{length, map}
use Rattle.x5_model_messages.specs.Replies as replies
use Rattle.x5_model_typed.specs.Named as named
use Rattle.x5_ops.specs.AnswerViews.{shown_view}
use Rattle.x5_direct.proofs.Spelling.{Goes}
use Rattle.x5_direct.proofs.infos.all_shown_in.Given as goal

abbrev pub invariant-loop-left : goal.invariant-loop-left
invariant-loop-left l = Goes 5 named.Attribute replies.shown_in l.octets (map shown_view l.attributes.items) l.left

abbrev pub decreases-loop-left : goal.decreases-loop-left
decreases-loop-left l = length l.left
