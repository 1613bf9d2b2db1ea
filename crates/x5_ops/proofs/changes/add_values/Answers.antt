-- The value at the place is the next.
use Rattle.x5_model.specs.Values.{Known}
use Rattle.x5_model.specs.Changes.{each_value, put_new}
use Rattle.x5_ops.specs.RefusalView.{given_values}
use Rattle.x5_ops.proofs.Offering.{each_step, each_stop}
use Rattle.x5_ops.proofs.changes.add_values.Goals as goal

pub returns-in-Err : goal.returns-in-Err
returns-in-Err c =
    each_stop (put_new c.args.kind) (Known c.args.kind) c.in-Err.stop c.args.values.now c.loop-value.value-index c.value-item.result c.loop-value.entry (each_value (put_new c.args.kind) (given_values (Known c.args.kind) c.args.values.now) c.args.entry) c.loop-value-test.true c.value-item.is c.in-Err.ensures c.loop-value.invariant

pub loop-value-preserved : goal.loop-value-preserved
loop-value-preserved c =
    each_step (put_new c.args.kind) (Known c.args.kind) c.args.values.now c.loop-value.value-index c.value-item.result c.loop-value.entry c.in-Ok.next (each_value (put_new c.args.kind) (given_values (Known c.args.kind) c.args.values.now) c.args.entry) c.loop-value-test.true c.value-item.is c.in-Ok.ensures c.loop-value.invariant
