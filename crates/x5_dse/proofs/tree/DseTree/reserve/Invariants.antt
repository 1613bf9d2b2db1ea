-- The nodes stay, and the room only grows, by one in each step.
use Rattle.std.proofs.Common.{◌≡◌, ◌-◌, ◌≤◌}
use Rattle.x5_dse.proofs.tree.DseTree.reserve.Given as goal

abbrev pub invariant-loop-self : goal.invariant-loop-self
invariant-loop-self l = record {
  nodes : l.self.nodes ≡ l.initial.self.nodes;
  spare : l.initial.self.spare ≤ l.self.spare;
}

abbrev pub decreases-loop-self : goal.decreases-loop-self
decreases-loop-self l = l.count - l.self.spare
