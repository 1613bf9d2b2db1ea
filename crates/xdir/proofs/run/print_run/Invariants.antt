-- What stays true while a run is printed: the line on knowledge and the blocks of the commands so far are written,
-- agents keep their names, the network has room after as many lines, and the sink's count of faults hasn't fallen.
use Rattle.std.proofs.Common.{◌≤◌, ◌≡◌, map, take}
use Rattle.x5_load.specs.Views.{file_view}
use Rattle.x5_world.specs.State.{HasRoom}
use Rattle.x5_script.specs.Views.{command_view}
use Rattle.xdir.proofs.SoFar.{IsSoFar}
use Rattle.xdir.proofs.run.print_run.Given as goal

abbrev pub invariant-loop-place : goal.invariant-loop-place
invariant-loop-place g l = record {
  so_far : IsSoFar (file_view l.described) (map command_view (take l.place l.commands)) l.network (g.K.Sink.octets l.fn.out) (g.K.Sink.octets l.out);
  names : l.network.names ≡ l.fn.network.names;
  room : HasRoom l.network l.place;
  rising : g.K.Sink.fault_count l.fn.out ≤ g.K.Sink.fault_count l.out;
}
