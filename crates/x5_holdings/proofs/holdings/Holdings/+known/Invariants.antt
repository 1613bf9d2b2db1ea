-- The name above is shorter.
use Rattle.std.proofs.Common.{length}
use Rattle.x5_holdings.proofs.holdings.Holdings.+known.Given as goal

abbrev pub decreases-known : goal.decreases-known
decreases-known l = length l.name.now
