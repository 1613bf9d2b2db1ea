-- The content says the id.
use Rattle.x5_dapber.proofs.Invoking.{id_spelled}
use Rattle.x5_dapber.proofs.direct.id_at.Goals as goal

pub returns : goal.returns
returns c =
    id_spelled c.in_ok-id_of.field-0 c.in_ok-content.content.now c.args.octets.now c.in_ok-content.rest.now
    c.in_ok-content.ensures.opens c.in_ok-id_of.ensures
