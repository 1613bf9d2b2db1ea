-- What is printed so far, and the tree as it stands.
use Rattle.std.proofs.Common.{◌≤◌, map, take}
use Rattle.x5_load.specs.Views.{file_view}
use Rattle.x5_one.specs.One.{tree_in}
use Rattle.x5_script.specs.Views.{command_view}
use Rattle.xdir.proofs.Trees.{IsPrinted}
use Rattle.xdir.proofs.tree.print_tree.Given as goal

abbrev pub invariant-loop-place : goal.invariant-loop-place
invariant-loop-place g l = record {
  printed : IsPrinted (file_view l.world) (map command_view (take l.place l.commands)) (tree_in l.tree)
      (g.K.Sink.octets l.fn.out) (g.K.Sink.octets l.out);
  rising : g.K.Sink.fault_count l.fn.out ≤ g.K.Sink.fault_count l.out;
}
