-- Those so far, and what is left of the octets.
use Rattle.std.proofs.Common.{map, length}
use Rattle.x5_model_typed.specs.Named as named
use Rattle.x5_model_messages.specs.Replies as replies
use Rattle.x5_dapreply.specs.ReplyViews.{told_source}
use Rattle.x5_direct.proofs.Spelling.{Goes}
use Rattle.x5_dapreply.proofs.direct_parts.each_source.Given as goal

abbrev pub invariant-loop-left : goal.invariant-loop-left
invariant-loop-left l = Goes 4 named.Source replies.source_in l.octets (map told_source l.sources.items) l.left

abbrev pub decreases-loop-left : goal.decreases-loop-left
decreases-loop-left l = length l.left
