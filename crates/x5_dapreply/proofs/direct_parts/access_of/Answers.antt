-- The agent and whether it has a copy are the access point's.
use Rattle.x5_dapreply.proofs.PartSpelling.{access_made}
use Rattle.x5_dapreply.proofs.direct_parts.access_of.Goals as goal

pub returns : goal.returns
returns c =
    access_made c.in_ok-agent.agent c.in_ok-text.text.now c.in_ok-copy.copy c.args.content.now c.in_ok-text.left.now
    c.in_ok-text.ensures.opens c.in_ok-agent.ensures.is c.in_ok-agent.ensures.may c.in_ok-copy.ensures
