-- The assertion is all of the content of the element.
use Rattle.std.proofs.Common.{lit<, lit≤}
use Rattle.x5_model.specs.Assertions.{assertion_of}
use Rattle.x5_model_messages.specs.Terms.{assertion_in}
use Rattle.x5_model_typed.specs.Forms.{Required}
use Rattle.x5_model_typed.specs.Named as named
use Rattle.x5_syntax.specs.TypeView.{type_view}
use Rattle.x5_syntax.specs.ValueView.{value_view}
use Rattle.x5_types.specs.NodeView.{node_view}
use Rattle.x5_dapber.proofs.ReadIsSayable.{assertion_fits}
use Rattle.x5_dapber.proofs.Sets.{next_given}
use Rattle.x5_dapber.proofs.direct.asserted_at.Goals as goal

pub asserted_in-requires : goal.asserted_in-requires
asserted_in-requires c = assertion_fits (node_view c.in_ok-node.node) c.in_ok-node.ensures.fits

pub returns : goal.returns
returns c =
    next_given 48 161 named.Assertion Required assertion_in
    (assertion_of (type_view c.in_ok-kind.kind) (value_view c.in_ok-kind.value)) c.in_ok-content.content.now
    c.args.octets.now c.in_ok-content.rest.now (lit≤ tt) (lit< tt) c.in_ok-content.ensures.opens
    (node_view c.in_ok-node.node, c.in_ok-node.ensures.is, c.in_ok-kind.ensures)
