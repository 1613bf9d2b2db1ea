-- The octets that stand first say the phase and the next RDN.
use Rattle.x5_dapreply.proofs.LeafSpelling.{next_at}
use Rattle.x5_dapreply.proofs.direct_parts.proceeding_at.Goals as goal

pub returns-in-Some-split_first : goal.returns-in-Some-split_first
returns-in-Some-split_first c =
    next_at c.in-Some-split_first.next.now c.args.octets.now c.in-Some.rest.now c.in-Some-split_first.rest.now
    c.in-Some.ensures c.in-Some-split_first.ensures.cases.0 c.if-next-ge1.true c.if-next-le16.true
