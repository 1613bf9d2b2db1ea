-- A name, a mark or none, and a set of attributes are what is shown of the entry.
use Rattle.std.proofs.Common.{◌-◌, List, ℕ, length, drop, map, refl, sym, subst, ◌∙◌}
use Rattle.x5_model_messages.specs.Replies as replies
use Rattle.x5_model_typed.specs.Named as named
use Rattle.x5_ops.specs.AnswerViews.{shown_view}
use Rattle.x5_direct.specs.Marks.{IsMark}
use Rattle.x5_direct.proofs.Heads.{nothing, rest_here}
use Rattle.x5_direct.proofs.Showing.{info_read}
use Rattle.x5_direct.proofs.Spelling.{read_taken}
use Rattle.x5_direct.proofs.infos.info_behind.Goals as goal

pub returns-clause-reads : goal.returns-clause-reads
returns-clause-reads c =
    let octets = c.args.octets.now in
    let content = c.in_ok-content.content.now in
    let rest = c.in_ok-content.rest.now in
    let shown = map shown_view c.in_ok-attributes.attributes in
    let mark : IsMark c.mark_at-copy.result.0 (drop c.in_ok-name.size content) c.mark_at-copy.result.1.now =
    subst (λ (l : List ℕ). IsMark c.mark_at-copy.result.0 l c.mark_at-copy.result.1.now)
    (rest_here content c.in_ok-name.size)
    c.mark_at-copy.ensures in
    read_taken 7 named.EntryInfo replies.info_in
    (record { name = c.in_ok-name.name; copy = c.mark_at-copy.result.0; attributes = shown }) octets rest
    (length octets - length rest) refl
    (info_read c.in_ok-name.name c.mark_at-copy.result.0 shown content (drop c.in_ok-name.size content)
    c.mark_at-copy.result.1.now c.in_ok-members.end.now c.in_ok-members.members.now octets rest
    c.in_ok-content.ensures.opens
    c.in_ok-name.ensures.reads mark c.in_ok-members.ensures.opens
    (nothing c.in_ok-members.end.now (sym c.is_empty.ensures ∙ c.if-not-is_empty.false)) c.in_ok-attributes.ensures)
