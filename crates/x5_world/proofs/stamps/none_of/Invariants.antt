-- So far there is none for each agreement before.
use Rattle.std.proofs.Common.{◌≡◌, ◌++◌, map, drop}
use Rattle.x5_world.proofs.Unstamped.{none_for}
use Rattle.x5_world.proofs.stamps.none_of.Given as goal

abbrev pub invariant-loop : goal.invariant-loop
invariant-loop l = l.stamps.items ++ map none_for (drop l.index l.agreements) ≡ map none_for l.agreements
