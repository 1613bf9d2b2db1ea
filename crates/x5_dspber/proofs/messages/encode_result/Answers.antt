-- The octets that are written are those of the answer, and they spell it.
use Rattle.std.proofs.Common.{◌≡◌, ℕ, ◌<◌, ◌^◌, List, length, sym, subst, arith}
use Rattle.std.specs.declared.option.Option.TheVariants.{Some}
use Rattle.x5_model_messages.specs.Replies.{reply_node, to_agent}
use Rattle.x5_model_typed.specs.Named as named
use Rattle.x5_model_typed.specs.Typed.{Spells}
use Rattle.x5_model_typed.specs.Written.{canonical_octets}
use Rattle.x5_model_typed_laws.proofs.Back.{written_is_spelled}
use Rattle.x5_ops.specs.JournalViews.{code_view}
use Rattle.x5_types.specs.FormView.{nowhere, table}
use Rattle.x5_dapber.proofs.Clock.{a_table}
use Rattle.x5_dapber.proofs.Rooms.{has_spelling}
use Rattle.x5_dapber.proofs.Tags.{good_tags}
use Rattle.x5_dapreply.specs.ReplyViews.{told_reply}
use Rattle.x5_dapreply.proofs.ReplyRooms.{reply_room}
use Rattle.x5_dspber.proofs.messages.encode_result.Goals as goal

pub returns-clause-spelled : goal.returns-clause-spelled
returns-clause-spelled c = λ fit.
    let n = reply_node to_agent c.args.id (told_reply (code_view c.args.operation) c.args.reply.now) in
    let items = c.in_ok-write_reply.field-0.items in
    let short : length items < 2 ^ 64 =
    omega (arith, c.in_ok-write_reply.field-0.ok.0, c.in_ok-write_reply.field-0.small) in
    let written : canonical_octets table named.DspAnswer n ≡ Some items = c.in_ok-write_reply.ensures in
    let room = reply_room to_agent c.args.id (told_reply (code_view c.args.operation) c.args.reply.now) in
    let spells = written_is_spelled table named.DspAnswer n items a_table fit
    (has_spelling table (good_tags nowhere) named.DspAnswer n items room written short) written in
    subst (λ (os : List ℕ). Spells table named.DspAnswer os n) (sym c.new.ensures) spells
