-- The three octets are the code.
use Rattle.x5_direct.proofs.Heads.{mark_here}
use Rattle.x5_dispber.proofs.direct.sent_behind.Goals as goal

pub returns : goal.returns
returns c =
    mark_here c.args.octets.now 2 1 2 c.in-len3-up.len_at_least c.if-identifier-ne2.false c.if-length-ne1.false
    c.if-code-ne2.false
