-- A type and a set of values, and nothing else, are the attribute.
use Rattle.std.proofs.Common.{◌≡◌, ◌-◌, List, ℕ, length, drop, map, refl, ap, sym, subst, ◌∙◌, arith}
use Rattle.std.specs.Vec.{vec_len}
use Rattle.x5_model.specs.Values as values
use Rattle.x5_model_messages.specs.Replies as replies
use Rattle.x5_model_typed.specs.Named as named
use Rattle.x5_syntax.specs.ValueView.{value_view}
use Rattle.x5_direct.specs.Spelled.{Opens, Reads}
use Rattle.x5_direct.proofs.Heads.{nothing, rest_here}
use Rattle.x5_direct.proofs.Showing.{shown_read, some_mapped_here}
use Rattle.x5_direct.proofs.Spelling.{read_taken}
use Rattle.x5_direct.proofs.infos.shown_at.Goals as goal

pub returns-clause-reads : goal.returns-clause-reads
returns-clause-reads c =
    let octets = c.args.octets.now in
    let content = c.in_ok-content.content.now in
    let rest = c.in_ok-content.rest.now in
    let members = c.in_ok-members.members.now in
    let vs = map value_view c.in_ok-values.values.items in
    let inner : Opens 49 members (drop 5 content) c.in_ok-members.behind.now =
    subst (λ (l : List ℕ). Opens 49 members l c.in_ok-members.behind.now) (rest_here content 5)
    c.in_ok-members.ensures.opens in
    let same : map value_view c.from_vec.result ≡ vs = ap (λ l. map value_view l) c.from_vec.ensures in
    subst (λ (l : List values.Value). Reads 5 named.Attribute replies.shown_in
    (record { kind = values.Known c.in_ok-kind.kind; values = l }) octets (drop (length octets - length rest) octets))
    (sym same)
    (read_taken 5 named.Attribute replies.shown_in (record { kind = values.Known c.in_ok-kind.kind; values = vs })
    octets rest (length octets - length rest) refl
    (shown_read c.in_ok-kind.kind vs content c.in_ok-members.behind.now members octets rest
    c.in_ok-content.ensures.opens
    c.in_ok-kind.ensures.is inner
    (nothing c.in_ok-members.behind.now (sym c.is_empty.ensures ∙ c.if-not-is_empty.false)) c.in_ok-values.ensures
    (some_mapped_here value_view c.in_ok-values.values.items (vec_len c.in_ok-values.values) (omega arith)
    (sym c.is_empty-2.ensures ∙ c.if-is_empty.false)) c.in_ok-kind.ensures.known))
