-- The components are the outcome's.
use Rattle.std.proofs.Common.{map}
use Rattle.x5_dapreply.specs.ReplyViews.{told_reference}
use Rattle.x5_dapreply.proofs.PartSpelling.{outcome_made}
use Rattle.x5_dapreply.proofs.direct_parts.outcome_of.Goals as goal

pub returns : goal.returns
returns c =
    outcome_made c.in_ok-limited.limited c.in_ok-limits.limits c.in_ok-leaves.leaves
    (map told_reference c.in_ok-unexplored.unexplored) c.args.content.now c.in_ok-limits.limit_octets.now
    c.in_ok-limits.left.now c.in_ok-leaves.unexplored_octets.now c.in_ok-limits.ensures c.in_ok-leaves.ensures
    c.in_ok-limited.ensures c.in_ok-unexplored.ensures
