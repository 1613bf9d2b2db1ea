-- The value is written as it is.
use Rattle.std.proofs.Common.{ℕ, List, [], ◌∷◌, ◌++◌, map, refl, ap, subst, sym, ◌∙◌}
use Rattle.x5_model_messages.specs.Shadows as shadows
use Rattle.x5_model_messages.specs.Terms.{node_of}
use Rattle.x5_model_octets.specs.Elements.{canonical}
use Rattle.x5_model_typed.specs.Named as named
use Rattle.x5_model_typed.specs.Nodes as nodes
use Rattle.x5_model_typed.specs.Written.{written}
use Rattle.x5_types.specs.FormView.{named_view, world}
use Rattle.x5_types.specs.NodeView.{node_view}
use Rattle.x5_writer.specs.Puts.{Puts}
use Rattle.x5_dispber.specs.ShadowViews.{told_known, told_other}
use Rattle.x5_dispber.specs.Totals.{sent_total, total_node}
use Rattle.x5_direct_writer.proofs.Wholes.{passed_on}
use Rattle.x5_dispber.proofs.Totals.{of}
use Rattle.x5_dispber.proofs.total.put_others.Goals as goal

pub returns : goal.returns
returns c =
    subst (λ (n : nodes.Node). Puts canonical (of (world c.args.start.now c.args.names.now) named.NonSpecifics n) c.args.out.now c.write_node.new.out c.write_node.result)
    c.in_ok-node.ensures c.write_node.ensures
