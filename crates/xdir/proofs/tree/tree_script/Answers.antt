-- What is written for the script's octets is written for the file that holds them.
use Rattle.std.proofs.Common.{ℕ, List, sym, subst}
use Rattle.x5_load.specs.Views.{file_view}
use Rattle.x5_port.specs.Outside.{IsContent}
use Rattle.xdir.proofs.TreeEnds.{tells_file}
use Rattle.xdir.proofs.tree.tree_script.Goals as goal

pub returns-in-Ok-clause-writes : goal.returns-in-Ok-clause-writes
returns-in-Ok-clause-writes g c =
    tells_file (g.F.Files.contents c.args.files.now) c.args.script.now c.deref.result.now (file_view c.args.world.now)
    (subst (λ (octets : List ℕ). IsContent (g.F.Files.contents c.args.files.now) c.args.script.now octets)
    (sym c.deref.ensures.value) c.in-Ok.ensures.content)
    c.tree_octets.result (g.K.Sink.octets c.args.out.now) (g.K.Sink.octets c.tree_octets.new.out)
    (g.K.Sink.fault_count c.args.out.now) (g.K.Sink.fault_count c.tree_octets.new.out) c.tree_octets.ensures.writes
