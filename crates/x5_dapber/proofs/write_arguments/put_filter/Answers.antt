-- It's left out where all entries meet it.
use Rattle.std.proofs.Common.{sym, subst, ◌∙◌}
use Rattle.std.specs.declared.option.Option.TheVariants.{Some}
use Rattle.x5_match.specs.FilterView.{filter_view}
use Rattle.x5_model_messages.specs.FilterTerms.{filter_node}
use Rattle.x5_model_octets.specs.Elements as elements
use Rattle.x5_model_octets.specs.Elements.{canonical_all}
use Rattle.x5_model_typed.specs.Forms.{at, or}
use Rattle.x5_model_typed.specs.Layouts.{everything}
use Rattle.x5_model_typed.specs.Named as named
use Rattle.x5_model_typed.specs.Nodes.{Node}
use Rattle.x5_types.specs.FormView.{table}
use Rattle.x5_writer.specs.Puts.{Puts}
use Rattle.x5_dapber.specs.PutsPart.{part}
use Rattle.x5_dapber.proofs.Components.{left_out, tagged_part}
use Rattle.x5_dapber.proofs.write_arguments.put_filter.Goals as goal

pub returns-then-is_everything : goal.returns-then-is_everything
returns-then-is_everything c =
    left_out table (or everything (at 2 (named.Filter 16))) (filter_node (filter_view c.args.filter.now)) c.args.out.now
    (sym c.is_everything.ensures ∙ c.if-is_everything.true)

pub returns : goal.returns
returns c =
    let n = filter_node (filter_view c.args.filter.now) in
    tagged_part table (or everything (at 2 (named.Filter 16))) n c.args.out.now c.put_tagged.new.out c.put_tagged.result
    (sym c.is_everything.ensures ∙ c.if-is_everything.false)
    (subst (λ (m : Node). Puts canonical_all (part table (at 2 (named.Filter 16)) m (Some elements.Nil)) c.args.out.now c.put_tagged.new.out c.put_tagged.result)
    c.in_ok-node.ensures c.put_tagged.ensures)
