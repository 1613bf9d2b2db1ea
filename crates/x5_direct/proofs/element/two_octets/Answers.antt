-- Two octets are the length.
use Rattle.x5_direct.proofs.Heads.{two_here}
use Rattle.x5_direct.proofs.element.two_octets.Goals as goal

pub returns-clause-has : goal.returns-clause-has
returns-clause-has c = two_here c.args.octets.now c.in-len2-up.len_at_least
