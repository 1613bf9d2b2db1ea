-- Writing ends since each part of a value is smaller. The elements of the members from a place on stand before what was
-- there.
use Rattle.std.proofs.Common.{◌≡◌, ◌++◌, ◌≤◌, ◌+◌, ◌*◌, length, drop, map}
use Rattle.std.specs.declared.option.Option.TheVariants.{Some}
use Rattle.x5_model_octets.specs.Elements.{Elements, canonical_all}
use Rattle.x5_model_typed.specs.Nodes as nodes
use Rattle.x5_model_typed.specs.Written as written
use Rattle.x5_types.specs.FormView.{named_view, table_in}
use Rattle.x5_types.specs.NodeView.{node_view}
use Rattle.x5_writer.specs.Contents.{weight, weights, more}
use Rattle.x5_writer.proofs.writer.+writing.Given as goal

abbrev pub decreases-write_node : goal.decreases-write_node
decreases-write_node l = 8 * weight (node_view l.node.now) + 3

abbrev pub decreases-write_element : goal.decreases-write_element
decreases-write_element l = 8 * weight (node_view l.node.now) + 2 + more l.chosen

abbrev pub decreases-write_content : goal.decreases-write_content
decreases-write_content l = 8 * weight (node_view l.node.now) + 1 + more l.chosen

abbrev pub decreases-write_component : goal.decreases-write_component
decreases-write_component l = 8 * weight (node_view l.value.now) + 4

abbrev pub decreases-write_parts : goal.decreases-write_parts
decreases-write_parts l = 8 * weight (node_view l.node.now)

abbrev pub decreases-write_members : goal.decreases-write_members
decreases-write_members l = 8 * weights (nodes.row (map node_view l.members.now)) + 4

abbrev pub decreases-write_components : goal.decreases-write_components
decreases-write_components l = 8 * weights (nodes.row (map node_view l.values.now)) + 4

abbrev pub invariant-write_members-loop-i : goal.invariant-write_members-loop-i
invariant-write_members-loop-i l = record {
  inside : l.i ≤ length l.members;
  put : (es : Elements)
      × (written.written_members (table_in l.surroundings) (table_in l.surroundings (named_view l.form)) (nodes.row (map node_view (drop l.i l.members))) ≡ Some es)
      × (l.out ≡ canonical_all es ++ l.fn.out);
}

abbrev pub decreases-write_members-loop-i : goal.decreases-write_members-loop-i
decreases-write_members-loop-i l = l.i
