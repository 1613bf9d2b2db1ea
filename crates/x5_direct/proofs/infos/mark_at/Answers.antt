-- The three octets are the mark, or none is there.
use Rattle.x5_direct.proofs.Heads.{mark_here}
use Rattle.x5_direct.proofs.infos.mark_at.Goals as goal

pub returns : goal.returns
returns c =
    mark_here c.args.octets.now 1 1 0 c.in-len3-up.len_at_least c.if-identifier-ne1.false c.if-length-ne1.false
    c.if-mark-ne0.false
