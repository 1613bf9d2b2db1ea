-- One step more is prepared each time.
use Rattle.std.specs.Vec.Iter.{into_iter_items}
use Rattle.x5_consume.proofs.Counting.{one_more, one_prepared}
use Rattle.x5_consume.proofs.preparing.all_prepared.Goals as goal

pub loop-step-preserved : goal.loop-step-preserved
loop-step-preserved c = (
  one_more c.loop-step.all.items c.push.new.self.items c.in_ok-prepared.field-0 c.in-Some.step
      (into_iter_items c.loop-step.step-iterator) (into_iter_items c.next.new.self) c.args.steps c.in_ok-push.ensures.items
      c.in_ok-prepared.ensures.step c.in-Some.ensures.steps.0 c.loop-step.invariant.0,
  one_prepared c.loop-step.all.items c.push.new.self.items c.in_ok-prepared.field-0 c.in_ok-push.ensures.items
      c.loop-step.invariant.1 c.in_ok-prepared.ensures.prepared,
)
