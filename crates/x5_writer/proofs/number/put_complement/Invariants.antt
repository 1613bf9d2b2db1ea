-- The octets from a place on stand before those that were there.
use Rattle.std.proofs.Common.{◌≡◌, ◌++◌, ◌≤◌, ◌-◌, length, drop, map}
use Rattle.x5_writer.proofs.number.put_complement.Given as goal

abbrev pub invariant-loop-i : goal.invariant-loop-i
invariant-loop-i l = record {
  inside : l.i ≤ length l.digits;
  put : l.out ≡ map (λ o. 255 - o) (drop l.i l.digits) ++ l.fn.out;
}

abbrev pub decreases-loop-i : goal.decreases-loop-i
decreases-loop-i l = l.i
