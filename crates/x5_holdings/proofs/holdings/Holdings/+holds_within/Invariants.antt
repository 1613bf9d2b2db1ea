-- The name above is shorter.
use Rattle.std.proofs.Common.{length}
use Rattle.x5_holdings.proofs.holdings.Holdings.+holds_within.Given as goal

abbrev pub decreases-holds_within : goal.decreases-holds_within
decreases-holds_within l = length l.name.now
