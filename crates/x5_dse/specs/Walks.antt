-- What is left of a walk.
use Rattle.std.specs.Prelude.{List, []}
use Rattle.x5_model.specs.Words.{in_option}
use Rattle.x5_dse.specs.declared.node.NodeId.{NodeId}
use Rattle.x5_dse.specs.declared.walk.Walk.TheInside.{Inside}
use Rattle.x5_dse.specs.Linked.{walk_from, IsAt}

abbrev pub left : Inside → List NodeId
left w = in_option [] (walk_from w.tree.now.nodes w.from) w.at

abbrev pub Invariant : Inside → Type 0
Invariant w = IsAt w.tree.now.nodes w.from w.at
