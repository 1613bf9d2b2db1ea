-- Each half has fewer parts.
use Rattle.std.proofs.Common.{length}
use Rattle.x5_merge.proofs.merging.+by_halves.Given as goal

abbrev pub decreases-by_halves : goal.decreases-by_halves
decreases-by_halves l = length l.parts.items
