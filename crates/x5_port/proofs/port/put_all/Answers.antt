-- Each piece that the sink takes keeps the loop's invariant: taking a first part and then some of the rest is taking a
-- longer first part, and the count of faults stays.
use Rattle.std.proofs.Common.{List, ℕ, Option, take, drop, length, ◌-◌, ap, ◌∙◌, rules}
use Rattle.x5_port.specs.Outside.{with_octets}
use Rattle.x5_port.proofs.Octets.{with_octets-take}
use Rattle.x5_port.proofs.port.put_all.Goals as goal

pub loop-done-preserved : goal.loop-done-preserved
loop-done-preserved g c = record {
  within = search rules;
  taken = c.in_ok-done.ensures.taken ∙ ap (λ (octets : Option (List ℕ)). with_octets (take c.in_ok-done.field-0 (take (length c.args.bytes.now - c.loop-done.done) (drop c.loop-done.done c.args.bytes.now))) octets) c.loop-done.invariant.taken ∙ with_octets-take c.loop-done.done c.in_ok-done.field-0 c.args.bytes.now (g.K.Sink.octets c.args.sink.now);
  same = c.in_ok-done.ensures.no_fault ∙ c.loop-done.invariant.same;
}
