-- What stands before `low` is below the spot, and what stands from `high` on above it.
use Rattle.std.proofs.Common.{◌≤◌, ◌-◌, length, map}
use Rattle.x5_model.specs.Values.{key_of_pair}
use Rattle.x5_dse.specs.Inside.{spots_of}
use Rattle.x5_dse.proofs.Spots.{BelowAll, AboveAll}
use Rattle.x5_dse.proofs.place.place_of.Given as goal

abbrev pub invariant-loop-low : goal.invariant-loop-low
invariant-loop-low l = record {
  ordered : l.low ≤ l.high;
  within : l.high ≤ length l.order;
  below : BelowAll (spots_of l.slots l.order) (l.above.0, map key_of_pair l.pairs) l.low;
  above : AboveAll (spots_of l.slots l.order) (l.above.0, map key_of_pair l.pairs) l.high;
}

abbrev pub decreases-loop-low : goal.decreases-loop-low
decreases-loop-low l = l.high - l.low
