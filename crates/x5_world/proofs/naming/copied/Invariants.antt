-- What is copied are the names so far.
use Rattle.std.proofs.Common.{◌≡◌, take}
use Rattle.x5_world.proofs.naming.copied.Given as goal

abbrev pub invariant-loop-place : goal.invariant-loop-place
invariant-loop-place l = l.copy ≡ take l.place l.names
