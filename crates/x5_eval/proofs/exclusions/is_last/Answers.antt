-- The last one, by its place.
use Rattle.x5_eval.proofs.Excluding.{last_same}
use Rattle.x5_eval.proofs.exclusions.is_last.Goals as goal

pub returns-in-Some : goal.returns-in-Some
returns-in-Some c =
    last_same c.args.kept.now c.in-Some.last.now c.args.rdn.now c.is_same.result c.in-Some.ensures.value c.is_same.ensures
