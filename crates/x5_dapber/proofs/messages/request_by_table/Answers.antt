-- What the octets spell is a value for whose parts the code has types, so what it says is decoded.
use Rattle.std.proofs.Common.{◌≡◌, ℕ, true, List, arith}
use Rattle.std.specs.List.{list_all}
use Rattle.std.proofs.lemmas.Result.{err_from_is_err_and}
use Rattle.x5_model.specs.Requests as model
use Rattle.x5_model_messages.specs.Requests.{request_in}
use Rattle.x5_model_typed.specs.Named as named
use Rattle.x5_model_typed.specs.Nodes.{Node}
use Rattle.x5_model_typed.specs.Typed.{Spells}
use Rattle.x5_model_typed_laws.specs.Said.{is_octet}
use Rattle.x5_model_typed_laws.proofs.Closed.{messages_spelled_fit}
use Rattle.x5_ops.specs.RequestViews.{request_view}
use Rattle.x5_ops.specs.declared.requests.Request.{Request}
use Rattle.x5_types.specs.FormView.{nowhere, table}
use Rattle.x5_types.specs.NodeView.{node_view}
use Rattle.x5_dapber.proofs.Decoding.{value_decodes, fault_decodes, memory_decodes}
use Rattle.x5_dapber.proofs.Octets.{are_octets}
use Rattle.x5_dapber.specs.Sayable.{IsRequest}
use Rattle.x5_dapber.proofs.ReadIsSayable.{request_fits}
use Rattle.x5_dapber.proofs.messages.request_by_table.Goals as goal

abbrev seen : ℕ × Request → ℕ × model.Request
seen p = (p.0, request_view p.1)

sayable : (octets : List ℕ) (n : Node) → list_all is_octet octets ≡ true → Spells table named.DapRequest octets n → IsRequest n
sayable octets n are spells = request_fits n (messages_spelled_fit nowhere named.DapRequest octets n are spells)

pub request_in-requires : goal.request_in-requires
request_in-requires c =
    sayable c.args.octets.now (node_view c.in_ok-node.node)
    (are_octets c.args.octets.now (λ k. omega (arith, c.type_inv.octets k))) c.in_ok-node.ensures.spelled

-- a breach, or want of memory while octets are read
pub returns-in_err-node-clause-decodes : goal.returns-in_err-node-clause-decodes
returns-in_err-node-clause-decodes c = λ e comes.
    let p = err_from_is_err_and c.from_residual.result c.from_residual.ensures.1 in
    fault_decodes seen request_in e _ c.from_residual.result p.0 p.1 p.2 (c.in_err-node.ensures.reads e comes)

-- want of memory while the request is made
pub returns-in_err-request_in-clause-decodes : goal.returns-in_err-request_in-clause-decodes
returns-in_err-request_in-clause-decodes c = λ e comes.
    let p = err_from_is_err_and c.from_residual-in_err-request_in.result c.from_residual-in_err-request_in.ensures.1 in
    memory_decodes seen request_in e c.from_residual-in_err-request_in.result p.0 p.1 p.2

pub returns-clause-decodes : goal.returns-clause-decodes
returns-clause-decodes c = λ e comes.
    value_decodes seen request_in e c.in_ok-node.node c.in_ok-request_in.field-0 c.in_ok-request_in.ensures
    (c.in_ok-node.ensures.reads e comes)

pub returns-clause-spelled : goal.returns-clause-spelled
returns-clause-spelled c = (node_view c.in_ok-node.node, c.in_ok-node.ensures.spelled, c.in_ok-request_in.ensures)
