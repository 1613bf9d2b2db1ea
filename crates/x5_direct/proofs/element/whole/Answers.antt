-- Nothing stands behind the element.
use Rattle.std.proofs.Common.{List, ℕ, sym, subst, ◌∙◌}
use Rattle.x5_direct.specs.Spelled.{Opens}
use Rattle.x5_direct.proofs.Heads.{nothing}
use Rattle.x5_direct.proofs.element.whole.Goals as goal

pub returns : goal.returns
returns c =
    subst (λ (l : List ℕ). Opens c.args.first c.in_ok-content.content.now c.args.octets.now l)
    (nothing c.in_ok-content.rest.now (sym c.is_empty.ensures ∙ c.if-not-is_empty.false))
    c.in_ok-content.ensures.opens
