-- What is counted is what those so far have.
use Rattle.std.proofs.Common.{◌≡◌, take}
use Rattle.x5_world.specs.Counts.{pairs_of_nssrs}
use Rattle.x5_world.proofs.counts.in_nssrs.Given as goal

abbrev pub invariant-loop-nssr : goal.invariant-loop-nssr
invariant-loop-nssr l = l.count ≡ pairs_of_nssrs (take l.nssr-index l.nssrs)
