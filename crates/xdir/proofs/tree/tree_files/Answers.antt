-- The world file comes first: what is asked for, read and written over its world is that of both files.
use Rattle.std.proofs.Common.{ℕ, List, Option, sym, subst}
use Rattle.x5_load.specs.Views.{file_view}
use Rattle.x5_port.specs.Outside.{File, IsContent}
use Rattle.x5_words.specs.Forms.{FileNames}
use Rattle.xdir.specs.Checked.{ReadsChecked}
use Rattle.xdir.specs.Tree.{TellsFile}
use Rattle.xdir.proofs.Asking.{asks_both, asks_refused}
use Rattle.xdir.proofs.Beginning.{loaded}
use Rattle.xdir.proofs.Files.{readable, takes}
use Rattle.xdir.proofs.TreeEnds.{writes_tree, reads_tree, writes_refused, reads_refused}
use Rattle.xdir.proofs.tree.tree_files.Goals as goal

pub tree_over-requires-clause-described : goal.tree_over-requires-clause-described
tree_over-requires-clause-described g c = loaded c.in-Ok-load.world c.deref.result.now c.in-Ok-load.ensures.loads

pub returns-in-Ok-load-clause-asks : goal.returns-in-Ok-load-clause-asks
returns-in-Ok-load-clause-asks g c =
    let told : Option (List File) = g.F.Files.contents c.args.files.now in
    let names : FileNames = record { world = c.args.world.now; script = c.args.script.now } in
    asks_both c.tree_over.result told names (g.F.Files.names_asked c.args.files.now)
    (g.F.Files.names_asked c.read_whole.new.self) (g.F.Files.names_asked c.tree_over.new.files) c.in-Ok.ensures.asked
    (takes told names c.deref.result.now
    (subst (λ (octets : List ℕ). IsContent told c.args.world.now octets) (sym c.deref.ensures.value) c.in-Ok.ensures.content)
    (file_view c.in-Ok-load.world) c.in-Ok-load.ensures.loads
    (readable told c.args.world.now c.in-Ok.octets.items c.in-Ok.ensures.content c.in-Ok.ensures.fits))
    c.tree_over.ensures.asks

pub returns-in-Ok-load-clause-reads : goal.returns-in-Ok-load-clause-reads
returns-in-Ok-load-clause-reads g c =
    reads_tree (g.F.Files.contents c.args.files.now) (record { world = c.args.world.now; script = c.args.script.now })
    c.deref.result.now
    (subst (λ (octets : List ℕ). IsContent (g.F.Files.contents c.args.files.now) c.args.world.now octets)
    (sym c.deref.ensures.value) c.in-Ok.ensures.content)
    (file_view c.in-Ok-load.world) c.in-Ok-load.ensures.loads
    c.tree_over.result (g.F.Files.fault_count c.args.files.now) (g.F.Files.fault_count c.read_whole.new.self)
    (g.F.Files.fault_count c.tree_over.new.files) (g.F.Files.last_failed c.tree_over.new.files)
    (g.K.Sink.octets c.args.out.now) (g.K.Sink.octets c.tree_over.new.out)
    (readable (g.F.Files.contents c.args.files.now) c.args.world.now c.in-Ok.octets.items c.in-Ok.ensures.content
    c.in-Ok.ensures.fits)
    c.read_whole.ensures.rising
    (subst (λ (told : Option (List File)). ReadsChecked c.tree_over.result c.args.script.now told
    (g.F.Files.fault_count c.read_whole.new.self) (g.F.Files.fault_count c.tree_over.new.files)
    (g.F.Files.last_failed c.tree_over.new.files)) c.read_whole.ensures.same_contents c.tree_over.ensures.reads)

pub returns-in-Ok-load-clause-writes : goal.returns-in-Ok-load-clause-writes
returns-in-Ok-load-clause-writes g c =
    writes_tree (g.F.Files.contents c.args.files.now) (record { world = c.args.world.now; script = c.args.script.now })
    c.deref.result.now
    (subst (λ (octets : List ℕ). IsContent (g.F.Files.contents c.args.files.now) c.args.world.now octets)
    (sym c.deref.ensures.value) c.in-Ok.ensures.content)
    (file_view c.in-Ok-load.world) c.in-Ok-load.ensures.loads
    c.tree_over.result (g.K.Sink.octets c.args.out.now) (g.K.Sink.octets c.tree_over.new.out)
    (g.K.Sink.fault_count c.args.out.now) (g.K.Sink.fault_count c.tree_over.new.out)
    (subst (λ (told : Option (List File)). TellsFile c.tree_over.result told c.args.script.now (file_view c.in-Ok-load.world)
    (g.K.Sink.octets c.args.out.now) (g.K.Sink.octets c.tree_over.new.out) (g.K.Sink.fault_count c.args.out.now)
    (g.K.Sink.fault_count c.tree_over.new.out)) c.read_whole.ensures.same_contents c.tree_over.ensures.writes)

pub returns-in-Ok-clause-asks : goal.returns-in-Ok-clause-asks
returns-in-Ok-clause-asks g c =
    asks_refused (g.F.Files.contents c.args.files.now) (record { world = c.args.world.now; script = c.args.script.now })
    (g.F.Files.names_asked c.args.files.now) (g.F.Files.names_asked c.read_whole.new.self) c.in-Ok.ensures.asked
    c.refuse_world.result _ _ _ _ _ c.refuse_world.ensures

pub returns-in-Ok-clause-reads : goal.returns-in-Ok-clause-reads
returns-in-Ok-clause-reads g c =
    reads_refused (g.F.Files.contents c.args.files.now) (record { world = c.args.world.now; script = c.args.script.now })
    c.deref.result.now
    (subst (λ (octets : List ℕ). IsContent (g.F.Files.contents c.args.files.now) c.args.world.now octets)
    (sym c.deref.ensures.value) c.in-Ok.ensures.content)
    c.in-Err.fault c.in-Err.ensures.loads
    c.refuse_world.result (g.F.Files.fault_count c.args.files.now) (g.F.Files.fault_count c.read_whole.new.self)
    (g.K.Sink.fault_count c.args.out.now) (g.K.Sink.fault_count c.refuse_world.new.out)
    (g.F.Files.last_failed c.read_whole.new.self) (g.K.Sink.octets c.args.out.now) (g.K.Sink.octets c.refuse_world.new.out)
    (readable (g.F.Files.contents c.args.files.now) c.args.world.now c.in-Ok.octets.items c.in-Ok.ensures.content
    c.in-Ok.ensures.fits)
    c.refuse_world.ensures

pub returns-in-Ok-clause-writes : goal.returns-in-Ok-clause-writes
returns-in-Ok-clause-writes g c =
    writes_refused (g.F.Files.contents c.args.files.now) (record { world = c.args.world.now; script = c.args.script.now })
    c.deref.result.now
    (subst (λ (octets : List ℕ). IsContent (g.F.Files.contents c.args.files.now) c.args.world.now octets)
    (sym c.deref.ensures.value) c.in-Ok.ensures.content)
    c.in-Err.fault c.in-Err.ensures.loads
    c.refuse_world.result (g.K.Sink.octets c.args.out.now) (g.K.Sink.octets c.refuse_world.new.out)
    (g.K.Sink.fault_count c.args.out.now) (g.K.Sink.fault_count c.refuse_world.new.out) c.refuse_world.ensures
