-- While octets are put into a sink: it has taken the first ones, as many as are done, its count of faults is the same,
-- and the number of octets left falls.
use Rattle.std.proofs.Common.{length, ◌-◌, ◌≡◌, ◌≤◌, take}
use Rattle.x5_port.specs.Outside.{with_octets}
use Rattle.x5_port.proofs.port.put_all.Given as goal

abbrev pub invariant-loop-done : goal.invariant-loop-done
invariant-loop-done g l = record {
  within : l.done ≤ length l.bytes;
  taken : g.K.Sink.octets l.sink ≡ with_octets (take l.done l.bytes) (g.K.Sink.octets l.initial.sink);
  same : g.K.Sink.fault_count l.sink ≡ g.K.Sink.fault_count l.initial.sink;
}

abbrev pub decreases-loop-done : goal.decreases-loop-done
decreases-loop-done g l = length l.bytes - l.done
