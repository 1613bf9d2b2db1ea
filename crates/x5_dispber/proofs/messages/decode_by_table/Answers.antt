-- What the octets spell is a value for whose parts the code has types, so what it says is decoded.
use Rattle.std.proofs.Common.{◌≡◌, ℕ, true, List, arith}
use Rattle.std.specs.List.{list_all}
use Rattle.std.proofs.lemmas.Result.{err_from_is_err_and}
use Rattle.x5_model_messages.specs.Shadows as shadows
use Rattle.x5_model_messages.specs.Shadows.{shadow_in}
use Rattle.x5_model_typed.specs.Named as named
use Rattle.x5_model_typed.specs.Nodes.{Node}
use Rattle.x5_model_typed.specs.Typed.{Spells}
use Rattle.x5_model_typed_laws.specs.Said.{is_octet}
use Rattle.x5_model_typed_laws.proofs.Closed.{messages_spelled_fit}
use Rattle.x5_know.specs.Moments.{Start}
use Rattle.x5_know.specs.Names.{has_name}
use Rattle.x5_types.specs.FormView.{world, world_table}
use Rattle.x5_types.specs.NodeView.{node_view}
use Rattle.x5_dapber.proofs.Decoding.{value_decodes, fault_decodes, memory_decodes}
use Rattle.x5_dapber.proofs.Octets.{are_octets}
use Rattle.x5_dispber.specs.Sayable.{IsMessage}
use Rattle.x5_dispber.specs.ShadowViews.{told_shadow}
use Rattle.x5_dispber.specs.declared.shadow.Shadow.{Shadow}
use Rattle.x5_dispber.proofs.Clock.{few}
use Rattle.x5_dispber.proofs.ShadowIsSayable.{message_fits}
use Rattle.x5_dispber.proofs.messages.decode_by_table.Goals as goal

abbrev seen : List (List ℕ) → ℕ × Shadow → ℕ × shadows.Shadow
seen names p = (p.0, told_shadow names p.1)

sayable : (start : Start) (names : List (List ℕ)) (octets : List ℕ) (n : Node) → list_all is_octet octets ≡ true
    → Spells (world_table start names) named.DispMessage octets n → IsMessage (has_name names) n
sayable start names octets n are spells =
    message_fits (world start names) (few start names) n
    (messages_spelled_fit (world start names) named.DispMessage octets n are spells)

pub shadow_in-requires : goal.shadow_in-requires
shadow_in-requires c =
    sayable c.args.start.now c.args.names.now c.args.octets.now (node_view c.in_ok-node.node)
    (are_octets c.args.octets.now (λ k. omega (arith, c.type_inv.octets k))) c.in_ok-node.ensures.spelled

-- a breach, or want of memory while octets are read
pub returns-in_err-node-clause-decodes : goal.returns-in_err-node-clause-decodes
returns-in_err-node-clause-decodes c = λ e comes.
    let p = err_from_is_err_and c.from_residual.result c.from_residual.ensures.1 in
    fault_decodes (seen c.args.names.now) shadow_in e _ c.from_residual.result p.0 p.1 p.2
    (c.in_err-node.ensures.reads e comes)

-- want of memory while the message is made
pub returns-in_err-shadow_in-clause-decodes : goal.returns-in_err-shadow_in-clause-decodes
returns-in_err-shadow_in-clause-decodes c = λ e comes.
    let p = err_from_is_err_and c.from_residual-in_err-shadow_in.result c.from_residual-in_err-shadow_in.ensures.1 in
    memory_decodes (seen c.args.names.now) shadow_in e c.from_residual-in_err-shadow_in.result p.0 p.1 p.2

pub returns-clause-decodes : goal.returns-clause-decodes
returns-clause-decodes c = λ e comes.
    value_decodes (seen c.args.names.now) shadow_in e c.in_ok-node.node c.in_ok-shadow_in.field-0
    c.in_ok-shadow_in.ensures
    (c.in_ok-node.ensures.reads e comes)

pub returns-clause-spelled : goal.returns-clause-spelled
returns-clause-spelled c = (node_view c.in_ok-node.node, c.in_ok-node.ensures.spelled, c.in_ok-shadow_in.ensures)
