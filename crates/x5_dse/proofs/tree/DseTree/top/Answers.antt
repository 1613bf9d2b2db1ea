-- The first slot is the prefix's.
use Rattle.std.proofs.Common.{sym, ap, ◌∙◌}
use Rattle.std.specs.Option.{option_map}
use Rattle.x5_model.specs.Words.{first_of}
use Rattle.x5_dse.specs.Linked.{Nodes, id_of}
use Rattle.x5_dse.proofs.Named.{first_node}
use Rattle.x5_dse.proofs.tree.DseTree.top.Goals as goal

pub returns : goal.returns
returns c =
    ap (λ (n : Nodes). option_map id_of (first_of n.nodes)) (sym c.self.view_is)
    ∙ ap (option_map id_of) (first_node c.self.inside.prefix c.self.inside.slots.items c.self.inside.order.items c.self.invariant.0.row)
