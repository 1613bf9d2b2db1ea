-- Those so far, with those of the nodes that are left, are those of the nodes.
use Rattle.std.proofs.Common.{◌≡◌, ◌++◌, Some, drop, map}
use Rattle.std.specs.Option.{option_map}
use Rattle.x5_dse.specs.Linked.{named_of, node_with}
use Rattle.x5_supply.proofs.entries.named_at_all.Given as goal

abbrev pub invariant-loop-node : goal.invariant-loop-node
invariant-loop-node l =
    map Some l.all.items ++ map (λ id. option_map named_of (node_with l.tree.nodes id)) (drop l.node-index l.nodes)
    ≡ map (λ id. option_map named_of (node_with l.tree.nodes id)) l.nodes
