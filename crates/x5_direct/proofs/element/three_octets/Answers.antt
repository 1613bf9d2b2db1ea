-- Three octets are the length.
use Rattle.x5_direct.proofs.Heads.{three_here}
use Rattle.x5_direct.proofs.element.three_octets.Goals as goal

pub returns-clause-has : goal.returns-clause-has
returns-clause-has c = three_here c.args.octets.now c.in-len3-up.len_at_least
