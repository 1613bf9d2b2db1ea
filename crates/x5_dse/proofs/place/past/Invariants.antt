-- What stands behind the first node stands behind the one that is reached, which is at or above it, and not below that.
use Rattle.std.proofs.Common.{◌≡◌, true}
use Rattle.x5_model.specs.Values.{Name}
use Rattle.x5_dse.specs.Inside.{is_used, depth_at}
use Rattle.x5_dse.specs.Step.{IsUnder, IsBehind}
use Rattle.x5_dse.proofs.place.past.Given as goal

abbrev pub invariant-loop-at : goal.invariant-loop-at
invariant-loop-at l = record {
  used : is_used l.slots l.at ≡ true;
  under : IsUnder l.slots l.from l.at;
  over : IsUnder l.slots l.at l.initial.at;
  behind : (prefix : Name) → IsBehind prefix l.slots l.initial.at l.at;
}

abbrev pub decreases-loop-at : goal.decreases-loop-at
decreases-loop-at l = depth_at l.slots l.at
