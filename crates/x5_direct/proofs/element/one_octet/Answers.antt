-- One octet is the length.
use Rattle.x5_direct.proofs.Heads.{one_here}
use Rattle.x5_direct.proofs.element.one_octet.Goals as goal

pub returns-clause-has : goal.returns-clause-has
returns-clause-has c = one_here c.args.octets.now c.in-len1-up.len_at_least
