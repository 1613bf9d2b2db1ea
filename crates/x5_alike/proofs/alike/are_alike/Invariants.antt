-- The lists are as long as each other, and the members so far are the same.
use Rattle.std.proofs.Common.{◌≡◌, length, take}
use Rattle.x5_alike.proofs.alike.are_alike.Given as goal

abbrev pub invariant-loop-i : goal.invariant-loop-i
invariant-loop-i g l = record {
  long : length l.some ≡ length l.others;
  same : take l.i l.some ≡ take l.i l.others;
}
