-- Nothing stands behind the part, and what is spelled fits its type.
use Rattle.std.proofs.Common.{List, ℕ, arith, sym, subst, ◌∙◌}
use Rattle.x5_types.specs.FormView.{named_view}
use Rattle.x5_types.specs.NodeView.{node_view}
use Rattle.x5_direct.specs.Spelled.{Spelled}
use Rattle.x5_direct.proofs.Heads.{nothing}
use Rattle.x5_dapber.proofs.DirectArgument.{spelled_fits_in}
use Rattle.x5_dapber.proofs.Octets.{are_octets}
use Rattle.x5_dapber.proofs.direct.part.Goals as goal

pub returns-clause-is : goal.returns-clause-is
returns-clause-is c =
    subst (λ (l : List ℕ). Spelled 48 (named_view c.args.form) (node_view c.in_ok-node.node) c.args.octets.now l)
    (nothing c.in_ok-node.rest.now (sym c.is_empty.ensures ∙ c.if-not-is_empty.false)) c.in_ok-node.ensures.is

pub returns-clause-fits : goal.returns-clause-fits
returns-clause-fits c =
    spelled_fits_in (named_view c.args.form) (node_view c.in_ok-node.node) c.args.octets.now c.in_ok-node.rest.now
    (are_octets c.args.octets.now (λ k. omega (arith, c.type_inv.octets k))) c.in_ok-node.ensures.is
