-- An id, a code and what the code says, and nothing else, are the message.
use Rattle.x5_types.specs.FormView.{operation_view}
use Rattle.x5_dspber.specs.ChainedViews.{told_chained}
use Rattle.x5_dspber.proofs.DirectWhole.{message_read}
use Rattle.x5_dspber.proofs.direct.message_in.Goals as goal

pub returns : goal.returns
returns c =
    message_read (operation_view c.in_ok-id.operation) c.in_ok-id.id c.in_ok-id.code
    (told_chained c.in_ok-carried_in.field-0) c.args.octets.now c.in_ok-id.carried.now c.in_ok-id.ensures.invokes
    c.in_ok-carried_in.ensures
