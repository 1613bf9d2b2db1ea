-- Whole values stand before the place.
use Rattle.std.proofs.Common.{◌-◌, ◌≤◌, length, drop}
use Rattle.x5_model_octets.specs.Elements.{Elements, SpellsAll}
use Rattle.x5_model_octets.specs.Faults.{Fault}
use Rattle.x5_show.specs.Show.{AreValues, FaultyFrom}
use Rattle.x5_show.proofs.Values.{ValuesFrom}
use Rattle.x5_show.proofs.check.first_fault.Given as goal

abbrev pub invariant-loop-at : goal.invariant-loop-at
invariant-loop-at l = record {
  there : l.at ≤ length l.bytes;
  values : (es : Elements) → SpellsAll 1 es (drop l.at l.bytes) → AreValues l.bytes;
  rest : AreValues l.bytes → ValuesFrom l.bytes l.at;
  faults : (f : Fault) → FaultyFrom l.bytes l.at f → FaultyFrom l.bytes 0 f;
}

abbrev pub decreases-loop-at : goal.decreases-loop-at
decreases-loop-at l = length l.bytes - l.at
