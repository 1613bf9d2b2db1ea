-- The number is one of the numbers.
use Rattle.x5_dse.proofs.Spots.{in_get}
use Rattle.x5_eval.proofs.scope.found_among.Goals as goal

pub is_found-requires : goal.is_found-requires
is_found-requires c =
    c.requires _ (in_get c.args.numbers.now c.loop-number.number-index 0 c.loop-number-test.true)
