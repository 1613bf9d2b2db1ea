-- What is left behind the front.
use Rattle.x5_dapreply.proofs.LeafSpelling.{prefix_is}
use Rattle.x5_dapreply.proofs.direct_parts.after.Goals as goal

pub returns-in-Some : goal.returns-in-Some
returns-in-Some c =
    prefix_is c.args.octets.now c.args.front.now c.in-Some.rest.now c.in-Some.ensures.cases.0 c.in-Some.ensures.cases.1
