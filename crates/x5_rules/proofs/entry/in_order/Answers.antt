-- The last value that is left goes where the order has it, or the values aren't stored so.
use Rattle.std.proofs.Common.{◌≡◌, ◌&&◌, ◌++◌, Bool, true, false, not, List, [], ◌∷◌, map, drop, take, length, ap}
use Rattle.std.proofs.Common.{sym, ◌∙◌}
use Rattle.x5_model.specs.Words.{has, sorted}
use Rattle.x5_model_typed.specs.Nodes as nodes
use Rattle.x5_model_typed.specs.Rules as rules
use Rattle.x5_types.specs.NodeView.{node_view}
use Rattle.x5_rules.proofs.InOrder.{last_taken}
use Rattle.x5_rules.proofs.Once.{each_once, has_sorted, last_fails, last_joins, none_so}
use Rattle.x5_rules.proofs.entry.in_order.Goals as goal

pub loop-value-preserved : goal.loop-value-preserved
loop-value-preserved c =
    let i = c.loop-value.invariant in
    let f = node_view in
    let all = c.args.values.items in
    let old = c.loop-value.values.items in
    let new = c.pop.new.self.items in
    let v = c.in-Some.value in
    let rest = map node_view (drop (length old) all) in
    let put : c.in_ok-put.put ≡ true = c.if-not-put.false in
    let both = last_taken node_view (rules.value_below c.args.kind) all old new v (map node_view c.loop-value.done.items)
    (map node_view c.put_value.new.nodes.items) i.left c.in-Some.ensures.items i.same (c.in_ok-put.ensures.put put) in
    let there : has (rules.same_value c.args.kind) (map node_view c.loop-value.done.items) (node_view v) ≡ has (rules.same_value c.args.kind) rest (node_view v) =
    ap (λ (l : List nodes.Node). has (rules.same_value c.args.kind) l (node_view v)) i.same
    ∙ has_sorted (rules.same_value c.args.kind) (rules.value_below c.args.kind) (node_view v) rest in
    let holds : (rules.is_of_type c.args.kind (node_view v) && not (has (rules.same_value c.args.kind) rest (node_view v))) ≡ true =
    ap (λ (b : Bool). rules.is_of_type c.args.kind (node_view v) && not b) (sym there) ∙ sym c.in_ok-put.ensures.new ∙ put in
    record {
      left = both.0;
      same = both.1;
      normals = c.in_ok-put.ensures.normals put;
      once = last_joins node_view (rules.is_of_type c.args.kind) (rules.same_value c.args.kind) all old new v i.left c.in-Some.ensures.items holds i.once;
    }

pub returns-then-not-put : goal.returns-then-not-put
returns-then-not-put c =
    let i = c.loop-value.invariant in
    let all = c.args.values.items in
    let old = c.loop-value.values.items in
    let v = c.in-Some.value in
    let rest = map node_view (drop (length old) all) in
    let there : has (rules.same_value c.args.kind) (map node_view c.loop-value.done.items) (node_view v) ≡ has (rules.same_value c.args.kind) rest (node_view v) =
    ap (λ (l : List nodes.Node). has (rules.same_value c.args.kind) l (node_view v)) i.same
    ∙ has_sorted (rules.same_value c.args.kind) (rules.value_below c.args.kind) (node_view v) rest in
    let fails : (rules.is_of_type c.args.kind (node_view v) && not (has (rules.same_value c.args.kind) rest (node_view v))) ≡ false =
    ap (λ (b : Bool). rules.is_of_type c.args.kind (node_view v) && not b) (sym there) ∙ sym c.in_ok-put.ensures.new ∙ c.if-not-put.true in
    sym (none_so (each_once (rules.is_of_type c.args.kind) (rules.same_value c.args.kind) (map node_view all))
    (sorted (rules.value_below c.args.kind) (map node_view all))
    (last_fails node_view (rules.is_of_type c.args.kind) (rules.same_value c.args.kind) all old c.pop.new.self.items v i.left
    c.in-Some.ensures.items fails))
