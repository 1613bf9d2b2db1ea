-- The number is one of those.
use Rattle.x5_dse.proofs.Spots.{in_get}
use Rattle.x5_eval.proofs.local.held_of.Goals as goal

pub held_there-requires : goal.held_there-requires
held_there-requires c = c.requires _ (in_get c.args.numbers.now c.loop-number.number-index 0 c.loop-number-test.true)
