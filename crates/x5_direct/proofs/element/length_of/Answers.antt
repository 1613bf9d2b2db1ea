-- The first octet says how many octets of length follow.
use Rattle.x5_direct.proofs.Heads.{short_here}
use Rattle.x5_direct.proofs.element.length_of.Goals as goal

pub returns-then-first-lt128-clause-has : goal.returns-then-first-lt128-clause-has
returns-then-first-lt128-clause-has c = short_here c.args.octets.now c.in-len1-up.len_at_least c.if-first-lt128.true
