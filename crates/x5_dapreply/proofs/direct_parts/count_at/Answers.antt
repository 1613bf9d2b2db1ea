-- The number is that of the content.
use Rattle.std.proofs.Common.{arith}
use Rattle.x5_dapreply.proofs.LeafSpelling.{count_read}
use Rattle.x5_dapreply.proofs.direct_parts.count_at.Goals as goal

pub returns-in-Some : goal.returns-in-Some
returns-in-Some c =
    count_read c.in-Some.number c.in_ok-content.content.now c.args.octets.now c.in_ok-content.rest.now
    c.in_ok-content.ensures.opens c.in-Some.ensures (omega arith)
