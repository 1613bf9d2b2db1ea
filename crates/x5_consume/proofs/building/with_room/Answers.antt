-- Room changes nothing of the context but its entries' nodes.
use Rattle.x5_consume.proofs.Extending.{still_only}
use Rattle.x5_consume.proofs.building.with_room.Goals as goal

pub returns-in-Ok-clause-others : goal.returns-in-Ok-clause-others
returns-in-Ok-clause-others c =
    still_only c.args.held c.filling-filling.result c.reserve.new.self c.filling-filling.ensures.others
    c.reserve.ensures.others
