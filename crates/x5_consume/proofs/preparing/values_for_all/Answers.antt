-- One step's values more are counted each time.
use Rattle.x5_consume.proofs.Counting.{all_counted}
use Rattle.x5_consume.proofs.preparing.values_for_all.Goals as goal

pub returns : goal.returns
returns c =
    all_counted c.args.all.now c.loop-one.one-index c.loop-one.count c.loop-one-test.false c.loop-one.invariant
