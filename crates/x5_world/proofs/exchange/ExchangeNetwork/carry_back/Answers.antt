-- What may be replied is within the limits with agents by their names.
use Rattle.x5_world.specs.State.{Net}
use Rattle.x5_world.proofs.Carrying.{replied_within}
use Rattle.x5_world.proofs.exchange.ExchangeNetwork.carry_back.Goals as goal

pub carried_reply-requires : goal.carried_reply-requires
carried_reply-requires g c =
    let n : Net = g.B.Begun.net in
    replied_within n.names c.args.operation c.args.reply.now c.args.self.now.under_way.net.plain c.requires
