-- The items so far, which are different and not too many, and what is left of the octets.
use Rattle.std.proofs.Common.{◌≡◌, ◌≤◌, true, length, map}
use Rattle.x5_model.specs.Words.{distinct}
use Rattle.x5_model_messages.specs.Replies as replies
use Rattle.x5_model_typed.specs.Named as named
use Rattle.x5_dapreply.specs.ReplyViews.{told_item}
use Rattle.x5_direct.proofs.Spelling.{Goes}
use Rattle.x5_trace.specs.Items.{same_named}
use Rattle.x5_dspber.proofs.direct_parts.items_in.Given as goal

abbrev pub invariant-loop-left : goal.invariant-loop-left
invariant-loop-left l =
    Goes 4 named.TraceItem replies.item_in l.octets (map told_item l.trace) l.left × (length l.trace ≤ 128)
    × (distinct same_named l.trace ≡ true)

abbrev pub decreases-loop-left : goal.decreases-loop-left
decreases-loop-left l = length l.left
