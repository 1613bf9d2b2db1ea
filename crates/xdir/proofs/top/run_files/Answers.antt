-- The world file comes first: what is asked for, read, written and summed over its world is that of both files, and
-- where it describes no world, its refusal is all, for the script isn't read.
use Rattle.std.proofs.Common.{ℕ, List, Option, sym, subst}
use Rattle.x5_load.specs.Views.{file_view}
use Rattle.x5_port.specs.Outside.{File, IsContent}
use Rattle.x5_words.specs.Forms.{FileNames}
use Rattle.xdir.specs.Steps.{ReadsFile, WritesScriptFile}
use Rattle.xdir.specs.Summed.{SumsScriptFile}
use Rattle.xdir.proofs.Asking.{asks_both, asks_refused}
use Rattle.xdir.proofs.Beginning.{in_utf8, loaded, references_in_utf8}
use Rattle.xdir.proofs.Files.{of_files, reads_both, refuses_file, reads_first, readable, takes}
use Rattle.xdir.proofs.Summaries.{sums_files, sums_refused_file}
use Rattle.xdir.proofs.top.run_files.Goals as goal

pub run_world-requires-clause-described : goal.run_world-requires-clause-described
run_world-requires-clause-described g c = loaded c.in-Ok-load.world c.deref.result.now c.in-Ok-load.ensures.loads

pub run_world-requires-clause-references : goal.run_world-requires-clause-references
run_world-requires-clause-references g c =
    references_in_utf8 c.in-Ok-load.world c.deref.result.now c.in-Ok-load.ensures.loads

pub run_world-requires-clause-utf8 : goal.run_world-requires-clause-utf8
run_world-requires-clause-utf8 g c = in_utf8 c.in-Ok-load.world c.deref.result.now c.in-Ok-load.ensures.loads

pub returns-in-Ok-load-clause-asks : goal.returns-in-Ok-load-clause-asks
returns-in-Ok-load-clause-asks g c =
    let told : Option (List File) = g.F.Files.contents c.args.files.now in
    let names : FileNames = record { world = c.args.world.now; script = c.args.script.now } in
    asks_both c.run_world.result told names (g.F.Files.names_asked c.args.files.now)
    (g.F.Files.names_asked c.read_whole.new.self) (g.F.Files.names_asked c.run_world.new.files) c.in-Ok.ensures.asked
    (takes told names c.deref.result.now
    (subst (λ (octets : List ℕ). IsContent told c.args.world.now octets) (sym c.deref.ensures.value) c.in-Ok.ensures.content)
    (file_view c.in-Ok-load.world) c.in-Ok-load.ensures.loads
    (readable told c.args.world.now c.in-Ok.octets.items c.in-Ok.ensures.content c.in-Ok.ensures.fits))
    c.run_world.ensures.asks

pub returns-in-Ok-load-clause-reads : goal.returns-in-Ok-load-clause-reads
returns-in-Ok-load-clause-reads g c =
    reads_both (g.F.Files.contents c.args.files.now) (record { world = c.args.world.now; script = c.args.script.now }) c.deref.result.now (subst (λ (octets : List ℕ). IsContent (g.F.Files.contents c.args.files.now) c.args.world.now octets) (sym c.deref.ensures.value) c.in-Ok.ensures.content) (file_view c.in-Ok-load.world) c.in-Ok-load.ensures.loads
    c.run_world.result (g.F.Files.fault_count c.args.files.now) (g.F.Files.fault_count c.read_whole.new.self) (g.F.Files.fault_count c.run_world.new.files) (g.F.Files.last_failed c.run_world.new.files) (g.K.Sink.octets c.args.out.now) (g.K.Sink.octets c.run_world.new.out)
    (readable (g.F.Files.contents c.args.files.now) c.args.world.now c.in-Ok.octets.items c.in-Ok.ensures.content c.in-Ok.ensures.fits) c.read_whole.ensures.rising
    (subst (λ (told : Option (List File)). ReadsFile c.run_world.result c.args.script.now told (g.F.Files.fault_count c.read_whole.new.self) (g.F.Files.fault_count c.run_world.new.files) (g.F.Files.last_failed c.run_world.new.files)) c.read_whole.ensures.same_contents c.run_world.ensures.reads)

pub returns-in-Ok-load-clause-writes : goal.returns-in-Ok-load-clause-writes
returns-in-Ok-load-clause-writes g c = λ printed.
    of_files (g.F.Files.contents c.args.files.now) (record { world = c.args.world.now; script = c.args.script.now }) c.deref.result.now (subst (λ (octets : List ℕ). IsContent (g.F.Files.contents c.args.files.now) c.args.world.now octets) (sym c.deref.ensures.value) c.in-Ok.ensures.content) (file_view c.in-Ok-load.world) c.in-Ok-load.ensures.loads
    c.run_world.result (g.K.Sink.octets c.args.out.now) (g.K.Sink.octets c.run_world.new.out) (g.K.Sink.fault_count c.args.out.now) (g.K.Sink.fault_count c.run_world.new.out)
    (subst (λ (told : Option (List File)). WritesScriptFile c.run_world.result told c.args.script.now (file_view c.in-Ok-load.world) (g.K.Sink.octets c.args.out.now) (g.K.Sink.octets c.run_world.new.out) (g.K.Sink.fault_count c.args.out.now) (g.K.Sink.fault_count c.run_world.new.out)) c.read_whole.ensures.same_contents (c.run_world.ensures.writes printed))

pub returns-in-Ok-load-clause-sums : goal.returns-in-Ok-load-clause-sums
returns-in-Ok-load-clause-sums g c = λ printed.
    sums_files (g.F.Files.contents c.args.files.now) (record { world = c.args.world.now; script = c.args.script.now }) c.deref.result.now (subst (λ (octets : List ℕ). IsContent (g.F.Files.contents c.args.files.now) c.args.world.now octets) (sym c.deref.ensures.value) c.in-Ok.ensures.content) (file_view c.in-Ok-load.world) c.in-Ok-load.ensures.loads
    c.run_world.result (g.K.Sink.octets c.args.out.now) (g.K.Sink.octets c.run_world.new.out) (g.K.Sink.fault_count c.args.out.now) (g.K.Sink.fault_count c.run_world.new.out)
    (subst (λ (told : Option (List File)). SumsScriptFile c.run_world.result told c.args.script.now (file_view c.in-Ok-load.world) (g.K.Sink.octets c.args.out.now) (g.K.Sink.octets c.run_world.new.out) (g.K.Sink.fault_count c.args.out.now) (g.K.Sink.fault_count c.run_world.new.out)) c.read_whole.ensures.same_contents (c.run_world.ensures.sums printed))

pub returns-in-Ok-clause-asks : goal.returns-in-Ok-clause-asks
returns-in-Ok-clause-asks g c =
    asks_refused (g.F.Files.contents c.args.files.now) (record { world = c.args.world.now; script = c.args.script.now })
    (g.F.Files.names_asked c.args.files.now) (g.F.Files.names_asked c.read_whole.new.self) c.in-Ok.ensures.asked
    c.refuse_world.result _ _ _ _ _ c.refuse_world.ensures

pub returns-in-Ok-clause-reads : goal.returns-in-Ok-clause-reads
returns-in-Ok-clause-reads g c =
    reads_first (g.F.Files.contents c.args.files.now) (record { world = c.args.world.now; script = c.args.script.now }) c.deref.result.now (subst (λ (octets : List ℕ). IsContent (g.F.Files.contents c.args.files.now) c.args.world.now octets) (sym c.deref.ensures.value) c.in-Ok.ensures.content) c.in-Err.fault c.in-Err.ensures.loads
    c.refuse_world.result (g.F.Files.fault_count c.args.files.now) (g.F.Files.fault_count c.read_whole.new.self) (g.K.Sink.fault_count c.args.out.now) (g.K.Sink.fault_count c.refuse_world.new.out) (g.F.Files.last_failed c.read_whole.new.self) (g.K.Sink.octets c.args.out.now) (g.K.Sink.octets c.refuse_world.new.out) (readable (g.F.Files.contents c.args.files.now) c.args.world.now c.in-Ok.octets.items c.in-Ok.ensures.content c.in-Ok.ensures.fits) c.refuse_world.ensures

pub returns-in-Ok-clause-writes : goal.returns-in-Ok-clause-writes
returns-in-Ok-clause-writes g c = λ printed.
    refuses_file (g.F.Files.contents c.args.files.now) (record { world = c.args.world.now; script = c.args.script.now }) c.deref.result.now (subst (λ (octets : List ℕ). IsContent (g.F.Files.contents c.args.files.now) c.args.world.now octets) (sym c.deref.ensures.value) c.in-Ok.ensures.content) c.in-Err.fault c.in-Err.ensures.loads
    c.refuse_world.result (g.K.Sink.octets c.args.out.now) (g.K.Sink.octets c.refuse_world.new.out) (g.K.Sink.fault_count c.args.out.now) (g.K.Sink.fault_count c.refuse_world.new.out) c.refuse_world.ensures

pub returns-in-Ok-clause-sums : goal.returns-in-Ok-clause-sums
returns-in-Ok-clause-sums g c = λ printed.
    sums_refused_file (g.F.Files.contents c.args.files.now) (record { world = c.args.world.now; script = c.args.script.now }) c.deref.result.now (subst (λ (octets : List ℕ). IsContent (g.F.Files.contents c.args.files.now) c.args.world.now octets) (sym c.deref.ensures.value) c.in-Ok.ensures.content) c.in-Err.fault c.in-Err.ensures.loads
    c.refuse_world.result (g.K.Sink.octets c.args.out.now) (g.K.Sink.octets c.refuse_world.new.out) (g.K.Sink.fault_count c.args.out.now) (g.K.Sink.fault_count c.refuse_world.new.out) c.refuse_world.ensures
