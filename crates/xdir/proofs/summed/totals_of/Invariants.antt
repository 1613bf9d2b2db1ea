-- What stays true while commands are counted: the totals are the counts of the blocks of those so far, agents keep
-- their names, and the network has room after as many lines.
use Rattle.std.proofs.Common.{◌≡◌, ◌↔◌, [], IsTrue, map, take}
use Rattle.x5_model_tree.specs.Consistent.{IsConsistent}
use Rattle.x5_model_world.specs.WorldFile.{File}
use Rattle.x5_report.specs.Counted.{totals_view}
use Rattle.x5_world.specs.State.{HasRoom, StandsAt}
use Rattle.xdir.specs.Counted.{IsCounted}
use Rattle.x5_script.specs.Views.{command_view}
use Rattle.xdir.specs.Taken.{point}
use Rattle.xdir.proofs.summed.totals_of.Given as goal

abbrev pub invariant-loop-command : goal.invariant-loop-command
invariant-loop-command l = record {
  counted : (f : File) → StandsAt l.fn.network (point f.world []) → (IsTrue l.is_consistent ↔ IsConsistent f.world) → IsCounted f (map command_view (take l.command-index l.commands)) l.network (totals_view l.totals);
  names : l.network.names ≡ l.fn.network.names;
  room : HasRoom l.network l.command-index;
}
