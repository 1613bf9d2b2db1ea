-- A selection of all is left out; another stands in its tag.
use Rattle.std.proofs.Common.{List, map, refl, sym, subst}
use Rattle.std.specs.declared.option.Option.TheVariants.{Some}
use Rattle.std.specs.declared.result.Result.TheVariants.{Ok}
use Rattle.x5_model.specs.Requests as model
use Rattle.x5_model_messages.specs.Requests.{selection_node}
use Rattle.x5_model_octets.specs.Elements as elements
use Rattle.x5_model_octets.specs.Elements.{canonical_all}
use Rattle.x5_model_typed.specs.Forms.{at, or}
use Rattle.x5_model_typed.specs.Layouts.{all_attributes}
use Rattle.x5_model_typed.specs.Named as named
use Rattle.x5_ops.specs.RequestViews.{selection_view}
use Rattle.x5_ops.specs.declared.requests.Selection.{Selection}
use Rattle.x5_syntax.specs.TypeView.{type_view}
use Rattle.x5_syntax.specs.declared.kinds.TypeRef.{TypeRef}
use Rattle.x5_types.specs.FormView.{table}
use Rattle.x5_writer.specs.Puts.{Puts}
use Rattle.x5_dapber.specs.PutsPart.{part}
use Rattle.x5_dapber.proofs.write_arguments.put_selection.Goals as goal

pub returns-in-All : goal.returns-in-All
returns-in-All c =
    subst (λ (s : Selection). Puts {Y = Unit {0}} canonical_all (part table (or all_attributes (at c.args.tag named.Selection)) (selection_node (selection_view s)) (Some elements.Nil)) c.args.out.now c.args.out.now (Ok tt))
    (sym c.in-All.is) (elements.Nil, refl, refl)

pub returns-in-Only : goal.returns-in-Only
returns-in-Only c =
    subst (λ (s : Selection). Puts canonical_all (part table (or all_attributes (at c.args.tag named.Selection)) (selection_node (selection_view s)) (Some elements.Nil)) c.args.out.now c.put_chosen.new.out c.put_chosen.result)
    (sym c.in-Only.is)
    (subst (λ (l : List TypeRef). Puts canonical_all (part table (at c.args.tag named.Selection) (selection_node (model.Only (map type_view l))) (Some elements.Nil)) c.args.out.now c.put_chosen.new.out c.put_chosen.result)
    c.as_slice.ensures c.put_chosen.ensures)
