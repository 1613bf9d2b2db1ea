-- One agreement more is passed each time, until none is left.
use Rattle.x5_world.proofs.Unstamped.{one_more, whole}
use Rattle.x5_world.proofs.stamps.none_of.Goals as goal

pub loop-preserved : goal.loop-preserved
loop-preserved c =
    one_more c.args.agreements.now c.loop.index c.loop.stamps.items c.push.new.self.items c.loop-test.true c.loop.invariant
    c.in_ok-push.ensures.items

pub returns : goal.returns
returns c = whole c.args.agreements.now c.loop.index c.loop.stamps.items c.loop-test.false c.loop.invariant
