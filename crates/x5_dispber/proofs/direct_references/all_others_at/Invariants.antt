-- What was read makes, with what is left, references; and the octets that are left are fewer.
use Rattle.std.proofs.Common.{length, map}
use Rattle.x5_model_messages.specs.Shadows.{non_specific_in}
use Rattle.x5_model_typed.specs.Named as named
use Rattle.x5_types.specs.FormView.{world}
use Rattle.x5_direct.proofs.Here.{GoesHere}
use Rattle.x5_dispber.specs.ShadowViews.{told_other}
use Rattle.x5_dispber.proofs.direct_references.all_others_at.Given as goal

abbrev pub invariant-loop-left : goal.invariant-loop-left
invariant-loop-left l =
    GoesHere (world l.start l.names) 4 named.NonSpecific non_specific_in l.octets
    (map (told_other l.names) l.others.items) l.left

abbrev pub decreases-loop-left : goal.decreases-loop-left
decreases-loop-left l = length l.left
