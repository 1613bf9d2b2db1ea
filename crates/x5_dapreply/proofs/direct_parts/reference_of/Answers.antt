-- The components are the reference's.
use Rattle.std.proofs.Common.{map}
use Rattle.x5_ops.specs.ReferenceViews.{progress_view, kind_view}
use Rattle.x5_dapreply.specs.ReplyViews.{told_access}
use Rattle.x5_dapreply.proofs.PartSpelling.{reference_made}
use Rattle.x5_dapreply.proofs.direct_parts.reference_of.Goals as goal

pub returns : goal.returns
returns c =
    reference_made c.in_ok-target.target (progress_view c.in_ok-progress.progress) (kind_view c.in_ok-kind.kind)
    (map told_access c.in_ok-agents.agents) c.in_ok-exclusions.exclusions c.in_ok-tried.tried c.in_ok-excludes.excludes
    c.in_ok-tells.tells c.args.content.now c.in_ok-target_octets.target_octets.now c.in_ok-target_octets.left.now
    c.in_ok-progress_octets.progress_octets.now c.in_ok-progress_octets.left.now c.in_ok-kind_octets.kind_octets.now
    c.in_ok-kind_octets.left.now c.in_ok-agents_octets.agents_octets.now c.in_ok-agents_octets.left.now
    c.in_ok-excludes.exclusions_octets.now c.in_ok-excludes.left.now c.in_ok-tells.tried_octets.now
    c.in_ok-target_octets.ensures.opens c.in_ok-progress_octets.ensures.opens c.in_ok-kind_octets.ensures.opens
    c.in_ok-agents_octets.ensures.opens c.in_ok-excludes.ensures c.in_ok-tells.ensures c.in_ok-target.ensures
    c.in_ok-progress.ensures c.in_ok-kind.ensures c.in_ok-agents.ensures c.in_ok-exclusions.ensures
    c.in_ok-tried.ensures
