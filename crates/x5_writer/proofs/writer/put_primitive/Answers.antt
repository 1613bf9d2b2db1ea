-- The header's length is that of the octets before it.
use Rattle.std.proofs.Common.{ℕ, ◌-◌, false, ap₂}
use Rattle.x5_model_octets.specs.Elements.{identifier}
use Rattle.x5_model_typed.specs.Written as written
use Rattle.x5_types.specs.FormView.{around, content_view}
use Rattle.x5_types.specs.NodeView.{node_view}
use Rattle.x5_writer.specs.Contents.{octets_in}
use Rattle.x5_writer.proofs.Elements.{headed}
use Rattle.x5_writer.proofs.writer.put_primitive.Goals as goal

pub returns : goal.returns
returns c =
    headed (identifier false c.args.a.class c.args.a.tag)
    (octets_in (written.leaf_octets (content_view (around c.args.surroundings) c.args.a.content) (node_view c.args.node.now))) c.args.out.now
    c.put_content.new.out c.put_header.new.self (c.len.result - c.len-behind.result) c.in_ok-put_content.ensures
    (ap₂ (λ (x y : ℕ). x - y) c.len.ensures c.len-behind.ensures) c.in_ok-put_header.ensures
