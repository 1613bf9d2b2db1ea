-- The members of the third component are items of a trace, and the five components are what is said.
use Rattle.std.proofs.Common.{refl}
use Rattle.std.specs.Prelude.{All}
use Rattle.x5_model_typed.specs.Nodes as nodes
use Rattle.x5_ops.specs.RequestViews.{request_view}
use Rattle.x5_types.specs.NodeView.{node_view}
use Rattle.x5_dapber.specs.Sayable.{IsCount}
use Rattle.x5_dapreply.specs.Sayable.{IsProgress, IsItem}
use Rattle.x5_dspber.proofs.Five.{Five, all_five, chaining_said}
use Rattle.x5_dspber.proofs.read_chained.chaining_in.Goals as goal

AreSo : Five
AreSo target progress trace kind exclusions = IsProgress progress × All IsItem (nodes.parts trace) × IsCount kind

pub places_in-requires : goal.places_in-requires
unfolding AreSo
places_in-requires c =
    let five = all_five AreSo c.parts.result.now _ c.target-item.result c.progress-item.result c.trace-item.result
    c.kind-item.result c.exclusions-item.result c.parts.ensures c.target-item.is c.progress-item.is c.trace-item.is
    c.kind-item.is c.exclusions-item.is c.requires in
    five.are.1

pub kind_in-requires : goal.kind_in-requires
unfolding AreSo
kind_in-requires c =
    let five = all_five AreSo c.parts.result.now _ c.target-item.result c.progress-item.result c.trace-item.result
    c.kind-item.result c.exclusions-item.result c.parts.ensures c.target-item.is c.progress-item.is c.trace-item.is
    c.kind-item.is c.exclusions-item.is c.requires in
    five.are.2

pub returns-in-Ok : goal.returns-in-Ok
unfolding AreSo
returns-in-Ok c =
    let five = all_five AreSo c.parts.result.now _ c.target-item.result c.progress-item.result c.trace-item.result
    c.kind-item.result c.exclusions-item.result c.parts.ensures c.target-item.is c.progress-item.is c.trace-item.is
    c.kind-item.is c.exclusions-item.is c.requires in
    chaining_said (request_view c.args.request) (node_view c.args.node.now) _ _ _ _ _ _ five.split c.in-Ok.ensures.0
    c.progress_in.ensures c.kind_in.ensures c.in-Ok.ensures.1 c.in-Ok.ensures.2 refl
