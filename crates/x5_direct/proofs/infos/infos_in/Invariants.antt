-- What was read so far, and what is left of the octets.
use Rattle.std.proofs.Common.{length, map}
use Rattle.x5_model_messages.specs.Replies as replies
use Rattle.x5_model_messages.specs.Terms.{rdn_of}
use Rattle.x5_model_typed.specs.Named as named
use Rattle.x5_ops.specs.AnswerViews.{info_view}
use Rattle.x5_direct.specs.Spelled.{BeginEach}
use Rattle.x5_direct.proofs.Spelling.{Goes}
use Rattle.x5_direct.proofs.infos.infos_in.Given as goal

abbrev pub invariant-loop-above_octets : goal.invariant-loop-above_octets
invariant-loop-above_octets l = Goes 7 named.EntryInfo replies.info_in l.octets (map info_view l.infos.items) l.left
    × BeginEach 2 named.Rdn rdn_of l.above.items l.above_octets

abbrev pub decreases-loop-above_octets : goal.decreases-loop-above_octets
decreases-loop-above_octets l = length l.left
