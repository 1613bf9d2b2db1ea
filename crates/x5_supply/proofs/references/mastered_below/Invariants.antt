-- Those so far, with those that are left, are all.
use Rattle.std.proofs.Common.{◌≡◌, ◌++◌, drop}
use Rattle.x5_dse.specs.Linked.{entries_of}
use Rattle.x5_supply.specs.Supplied as sent
use Rattle.x5_supply.proofs.references.mastered_below.Given as goal

abbrev pub invariant-loop-context : goal.invariant-loop-context
invariant-loop-context l =
    l.references.items ++ sent.mastered_among l.state.me (entries_of l.held.nodes.nodes) (drop l.context-index l.context-items)
    ≡ sent.mastered_below l.state (entries_of l.held.nodes.nodes)
