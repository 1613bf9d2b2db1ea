-- The five octets are those.
use Rattle.x5_direct.proofs.Heads.{five_here}
use Rattle.x5_direct.proofs.names.arcs_at.Goals as goal

pub returns : goal.returns
returns c = (
  five_here c.args.octets.now 6 3 85 c.in-len5-up.len_at_least c.if-identifier-ne6.false c.if-length-ne3.false
      c.if-first-ne85.false,
  c.if-second-ge128.false,
  c.if-third-ge128.false,
)
