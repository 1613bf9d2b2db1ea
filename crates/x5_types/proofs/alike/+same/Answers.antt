-- Nodes of members, by the members: as many of them, and each the same.
use Rattle.std.proofs.Common.{◌≡◌, List, length, map, ap, sym, ◌∙◌}
use Rattle.std.specs.Cmp.Lexicographic.{pointwise}
use Rattle.x5_model_typed.specs.Nodes as nodes
use Rattle.x5_types.specs.declared.node.Node.{Node}
use Rattle.x5_types.specs.NodeView.{node_view}
use Rattle.x5_types.proofs.Sameness.{same_lengths, same_many, uneven, vec_lengths}
use Rattle.x5_types.proofs.alike.+same.Goals as goal

pub returns-then-len : goal.returns-then-len
returns-then-len t c =
    sym (same_many c.args.node.now c.args.other.now c.in-Many-Many.members c.in-Many-Many.others c.in-Many-Many.is-0
    c.in-Many-Many.is-1
    ∙ uneven c.in-Many-Many.members.items c.in-Many-Many.others.items
    (λ e. c.if-len.true (c.len.ensures ∙ same_lengths c.in-Many-Many.members c.in-Many-Many.others e
    ∙ sym c.len-in-Many-Many.ensures)))

pub loop-i-init : goal.loop-i-init
loop-i-init t c =
    let value = c.deref-member-items.ensures.value in (
      ap (λ (l : List Node). length l) value
          ∙ vec_lengths c.in-Many-Many.members c.in-Many-Many.others
          (sym c.len.ensures ∙ c.if-len.false ∙ c.len-in-Many-Many.ensures),
      ap (λ (l : List Node). pointwise nodes.same (map node_view l) (map node_view c.in-Many-Many.others.items)) value
          ∙ sym (same_many c.args.node.now c.args.other.now c.in-Many-Many.members c.in-Many-Many.others c.in-Many-Many.is-0
          c.in-Many-Many.is-1),
    )
