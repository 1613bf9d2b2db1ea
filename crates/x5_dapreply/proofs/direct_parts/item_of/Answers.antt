-- The components are the item's.
use Rattle.x5_ops.specs.ReferenceViews.{progress_view}
use Rattle.x5_dapreply.proofs.PartSpelling.{item_made}
use Rattle.x5_dapreply.proofs.direct_parts.item_of.Goals as goal

pub returns : goal.returns
returns c =
    item_made c.in_ok-agent.agent c.in_ok-text.text.now c.in_ok-target.target (progress_view c.in_ok-progress.progress)
    c.in_ok-wide.wide c.in_ok-target.taken c.args.content.now c.in_ok-text.left.now c.behind.result.now
    c.in_ok-progress.left.now c.in_ok-text.ensures.opens c.in_ok-agent.ensures.is c.in_ok-agent.ensures.may
    c.in_ok-target.ensures.reads c.behind.ensures c.in_ok-progress.ensures c.in_ok-wide.ensures
