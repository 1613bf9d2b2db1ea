-- Three components: an id, a code, and what is carried with its operation.
use Rattle.std.proofs.Common.{◌≡◌, rules}
use Rattle.x5_model_typed.specs.Nodes as nodes
use Rattle.x5_types.specs.NodeView.{node_view}
use Rattle.x5_dspber.specs.ChainedViews.{told_chained}
use Rattle.x5_dspber.proofs.Carried.{not_so, code_so, id_so, carried_so, chained_said}
use Rattle.x5_dspber.proofs.read_chained.chained_in.Goals as goal

pub unreachable-requires-then-parts-ne3 : goal.unreachable-requires-then-parts-ne3
unreachable-requires-then-parts-ne3 c =
    let is : node_view c.args.node.now ≡ nodes.Chosen c.in-Chosen.field-0 (node_view c.deref.result.now) = search rules in
    not_so c.parts-parts.result.now _ _ _ is c.parts-parts.ensures c.requires c.if-parts-ne3.true

pub code_in-code-requires : goal.code_in-code-requires
code_in-code-requires c =
    let is : node_view c.args.node.now ≡ nodes.Chosen c.in-Chosen.field-0 (node_view c.deref.result.now) = search rules in
    code_so c.parts-parts.result.now _ _ _ is c.parts-parts.ensures c.requires c.index-parts-1.result c.index-parts-1.is

pub carried_in-requires : goal.carried_in-requires
carried_in-requires c =
    let is : node_view c.args.node.now ≡ nodes.Chosen c.in-Chosen.field-0 (node_view c.deref.result.now) = search rules in
    carried_so c.parts-parts.result.now _ _ _ is c.parts-parts.ensures c.requires c.index-parts-1.result
    c.index-parts-2.result c.code_in-code.result c.index-parts-1.is c.index-parts-2.is c.code_in-code.ensures

pub code_in-requires : goal.code_in-requires
code_in-requires c =
    let is : node_view c.args.node.now ≡ nodes.Chosen c.in-Chosen.field-0 (node_view c.deref.result.now) = search rules in
    id_so c.parts-parts.result.now _ _ _ is c.parts-parts.ensures c.requires c.index-parts-0.result c.index-parts-0.is

pub returns : goal.returns
returns c =
    let is : node_view c.args.node.now ≡ nodes.Chosen c.in-Chosen.field-0 (node_view c.deref.result.now) = search rules in
    chained_said c.parts-parts.result.now _ _ _ is c.parts-parts.ensures c.requires c.index-parts-0.result
    c.index-parts-1.result c.index-parts-2.result c.code_in.result c.code_in-code.result
    (told_chained c.in_ok-chained.chained) c.index-parts-0.is c.index-parts-1.is c.index-parts-2.is c.code_in.ensures
    c.code_in-code.ensures c.in_ok-chained.ensures
