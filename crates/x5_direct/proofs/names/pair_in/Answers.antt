-- A type and a text, and nothing else, are the pair.
use Rattle.std.proofs.Common.{List, ℕ, [], drop, sym, subst, ◌∙◌, refl}
use Rattle.x5_model.specs.Values as values
use Rattle.x5_model_typed.specs.Named as named
use Rattle.x5_model_typed.specs.Nodes as nodes
use Rattle.x5_direct.specs.Spelled.{Spelled, Reads, pair_of}
use Rattle.x5_direct.proofs.Heads.{nothing, rest_here}
use Rattle.x5_direct.proofs.Naming.{pair_read}
use Rattle.x5_direct.proofs.names.pair_in.Goals as goal

pub returns : goal.returns
returns c =
    let content = c.in_ok-content.content.now in
    let text : Spelled 0 named.Value (nodes.Text c.in_ok-text.text.now) (drop 5 content) c.in_ok-text.behind.now =
    subst (λ (l : List ℕ). Spelled 0 named.Value (nodes.Text c.in_ok-text.text.now) l c.in_ok-text.behind.now)
    (rest_here content 5) c.in_ok-text.ensures.is in
    subst (λ (p : values.Pair). Reads 1 named.Pair pair_of p c.args.octets.now []) (sym c.in_ok-new.ensures)
    (pair_read c.in_ok-kind.kind c.in_ok-text.text.now content c.args.octets.now c.in_ok-content.rest.now
    c.in_ok-text.behind.now c.in_ok-content.ensures.opens c.in_ok-kind.ensures.is text
    (nothing c.in_ok-text.behind.now (sym c.is_empty-2.ensures ∙ c.if-not-is_empty-2.false))
    (nothing c.in_ok-content.rest.now (sym c.is_empty.ensures ∙ c.if-not-is_empty.false))
    c.in_ok-kind.ensures.known (c.if-not-may_stand.ensures refl))
