-- The argument of each operation is that of the request.
use Rattle.std.proofs.Common.{[], ◌∷◌, ◌++◌, sym, subst}
use Rattle.x5_model_messages.specs.Requests.{body_nodes, controls_node}
use Rattle.x5_model_messages.specs.Terms.{node_of}
use Rattle.x5_model_octets.specs.Elements.{canonical}
use Rattle.x5_model_typed.specs.Named as named
use Rattle.x5_ops.specs.RequestViews.{body_view, controls_view}
use Rattle.x5_ops.specs.declared.requests.Body.{Body}
use Rattle.x5_writer.specs.Puts.{Puts}
use Rattle.x5_dapber.specs.PutsPart.{asked_by}
use Rattle.x5_dapber.proofs.Asked.{of}
use Rattle.x5_dapber.proofs.write_arguments.put_argument.Goals as goal

pub returns-in-Read : goal.returns-in-Read
returns-in-Read c =
    subst (λ (b : Body). Puts canonical (of (named.Argument (asked_by (body_view b))) (node_of (body_nodes (body_view b) ++ controls_node (controls_view c.args.request.now.controls) ∷ []))) c.args.out.now c.put_read.new.out c.put_read.result)
    (sym c.in-Read.is) c.put_read.ensures

pub returns-in-Compare : goal.returns-in-Compare
returns-in-Compare c =
    subst (λ (b : Body). Puts canonical (of (named.Argument (asked_by (body_view b))) (node_of (body_nodes (body_view b) ++ controls_node (controls_view c.args.request.now.controls) ∷ []))) c.args.out.now c.put_compare.new.out c.put_compare.result)
    (sym c.in-Compare.is) c.put_compare.ensures

pub returns-in-List : goal.returns-in-List
returns-in-List c =
    subst (λ (b : Body). Puts canonical (of (named.Argument (asked_by (body_view b))) (node_of (body_nodes (body_view b) ++ controls_node (controls_view c.args.request.now.controls) ∷ []))) c.args.out.now c.put_list.new.out c.put_list.result)
    (sym c.in-List.is) c.put_list.ensures

pub returns-in-Search : goal.returns-in-Search
returns-in-Search c =
    subst (λ (b : Body). Puts canonical (of (named.Argument (asked_by (body_view b))) (node_of (body_nodes (body_view b) ++ controls_node (controls_view c.args.request.now.controls) ∷ []))) c.args.out.now c.put_search.new.out c.put_search.result)
    (sym c.in-Search.is) c.put_search.ensures
