-- The name, the agent and the moment are the source's.
use Rattle.x5_dapreply.proofs.PartSpelling.{source_made}
use Rattle.x5_dapreply.proofs.direct_parts.source_of.Goals as goal

pub returns : goal.returns
returns c =
    source_made c.in_ok-context.context c.in_ok-agent.agent c.in_ok-text.text.now c.in_ok-moment.moment
    c.in_ok-context.taken c.args.content.now c.behind.result.now c.in_ok-text.left.now c.behind.ensures
    c.in_ok-context.ensures.reads c.in_ok-text.ensures.opens c.in_ok-agent.ensures.is c.in_ok-agent.ensures.may
    c.in_ok-moment.ensures
