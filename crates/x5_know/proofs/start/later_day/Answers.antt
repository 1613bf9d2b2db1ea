-- The date with the day number is the one that the calendar comes to.
use Rattle.x5_know.proofs.Days.{days_after_is}
use Rattle.x5_know.proofs.start.later_day.Goals as goal

pub returns : goal.returns
returns c = days_after_is c.args.days c.args.date c.later.result c.later.ensures
