-- An id, the code of the operation and what is sent, and nothing else, are the message.
use Rattle.std.proofs.Common.{drop, sym, ◌∙◌}
use Rattle.x5_types.specs.FormView.{world}
use Rattle.x5_direct.proofs.Heads.{nothing, rest_here}
use Rattle.x5_dispber.specs.ShadowViews.{told_shadow}
use Rattle.x5_dispber.proofs.DirectParts.{message_read}
use Rattle.x5_dispber.proofs.direct.update_in.Goals as goal

pub returns : goal.returns
returns c =
    let names = c.args.names.now in
    let content = c.in_ok-content.content.now in
    let rest = c.in_ok-content.rest.now in
    let size = c.in_ok-id.size in
    message_read (world c.args.start.now names) c.in_ok-id.id (told_shadow names c.in_ok-message.message)
    c.args.octets.now
    content rest (drop size content) c.in-Some.sent.now c.in_ok-content.ensures.opens
    (nothing rest (sym c.is_empty.ensures ∙ c.if-not-is_empty.false)) c.in_ok-id.ensures.says
    (sym (rest_here content size) ∙ c.in-Some.ensures) c.in_ok-message.ensures
