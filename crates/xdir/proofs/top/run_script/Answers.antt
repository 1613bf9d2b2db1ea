-- What is written or summed for the octets that are read is what it is for the script's file, since they are its
-- content.
use Rattle.std.proofs.Common.{ℕ, List, sym, subst}
use Rattle.x5_port.specs.Outside.{IsContent}
use Rattle.x5_load.specs.Views.{file_view}
use Rattle.xdir.proofs.Files.{of_file}
use Rattle.xdir.proofs.Summaries.{sums_of_file}
use Rattle.xdir.proofs.top.run_script.Goals as goal

pub returns-in-Ok-clause-writes : goal.returns-in-Ok-clause-writes
returns-in-Ok-clause-writes g c = λ printed.
    of_file (g.F.Files.contents c.args.files.now) c.args.script.now c.deref.result.now (file_view c.args.described.now)
    (subst (λ (octets : List ℕ). IsContent (g.F.Files.contents c.args.files.now) c.args.script.now octets) (sym c.deref.ensures.value) c.in-Ok.ensures.content)
    c.run_octets.result (g.K.Sink.octets c.args.out.now) (g.K.Sink.octets c.run_octets.new.out) (g.K.Sink.fault_count c.args.out.now) (g.K.Sink.fault_count c.run_octets.new.out) (c.run_octets.ensures.writes printed)

pub returns-in-Ok-clause-sums : goal.returns-in-Ok-clause-sums
returns-in-Ok-clause-sums g c = λ printed.
    sums_of_file (g.F.Files.contents c.args.files.now) c.args.script.now c.deref.result.now (file_view c.args.described.now)
    (subst (λ (octets : List ℕ). IsContent (g.F.Files.contents c.args.files.now) c.args.script.now octets) (sym c.deref.ensures.value) c.in-Ok.ensures.content)
    c.run_octets.result (g.K.Sink.octets c.args.out.now) (g.K.Sink.octets c.run_octets.new.out) (g.K.Sink.fault_count c.args.out.now) (g.K.Sink.fault_count c.run_octets.new.out) (c.run_octets.ensures.sums printed)
