-- The name has a place among the agents' names.
use Rattle.std.proofs.Common.{ap, ◌∙◌}
use Rattle.std.specs.Option.{is_some}
use Rattle.x5_load.proofs.Known.{known_place}
use Rattle.x5_load.proofs.mentioned.is_known.Goals as goal

pub returns : goal.returns
returns c = c.is_some.ensures ∙ ap is_some c.find.ensures ∙ known_place c.args.names.now c.args.text.now
