-- A copy stands for the same in every world, and so it tells the same.
use Rattle.x5_wire.proofs.Seen.{message_alike}
use Rattle.x5_world.proofs.exchange.received.Goals as goal

pub returns-in_ok-copy-in-None-clause-told : goal.returns-in_ok-copy-in-None-clause-told
returns-in_ok-copy-in-None-clause-told c =
    message_alike c.in_ok-copy-in-None.field-0 c.args.message.now c.in_ok-copy-in-None.ensures
