-- Nothing stands behind the type.
use Rattle.std.proofs.Common.{List, ℕ, [], sym, subst}
use Rattle.x5_model.specs.Values.{Known}
use Rattle.x5_model_messages.specs.Terms.{type_node}
use Rattle.x5_model_typed.specs.Named as named
use Rattle.x5_direct.specs.Spelled.{Spelled}
use Rattle.x5_dapber.proofs.Invoking.{all_taken}
use Rattle.x5_dapber.proofs.UsualSelections.{type_read}
use Rattle.x5_dapber.proofs.usual_selections.known_type_in.Goals as goal

pub returns : goal.returns
returns c =
    let octets = c.args.octets.now in
    let kind = c.in_ok-kind.kind in
    type_read kind octets [] c.in_ok-kind.ensures.known
    (subst (λ (l : List ℕ). Spelled 0 named.AnyOid (type_node (Known kind)) octets l)
    (all_taken 5 octets (sym c.if-octets-ne-SHORT_OID.false)) c.in_ok-kind.ensures.is)
