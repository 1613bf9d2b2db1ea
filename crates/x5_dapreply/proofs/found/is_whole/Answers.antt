-- Where no limit was reached, whether nothing was left unexplored decides it.
use Rattle.x5_dapreply.proofs.Founding.{whole_is}
use Rattle.x5_dapreply.proofs.found.is_whole.Goals as goal

pub returns-then-not-outcome : goal.returns-then-not-outcome
returns-then-not-outcome c =
    whole_is c.args.outcome.now.limited c.args.outcome.now.unexplored c.len.result c.if-not-outcome.true c.len.ensures
