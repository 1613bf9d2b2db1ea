-- A number of 32 bits has four octets at most.
use Rattle.std.proofs.Common.{arith}
use Rattle.x5_shadow_wire.proofs.counts.number.Goals as goal

pub returns : goal.returns
returns c = omega (arith, c.ranges.number.fits)
