-- What is done so far and what is left are all.
use Rattle.std.specs.Vec.Iter.{into_iter_items}
use Rattle.x5_consume.proofs.Going.{Going}
use Rattle.x5_consume.proofs.stepping.do_all.Given as goal

abbrev pub invariant-loop-one : goal.invariant-loop-one
invariant-loop-one l = Going l.fn.state l.place l.stamp l.fn.all.items l.state (into_iter_items l.one-iterator)
