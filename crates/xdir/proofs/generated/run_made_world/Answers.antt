-- Octets that load describe a world whose texts are UTF-8, and the summary over it is that of the made files, since the
-- world file holds these octets; where they don't load, the refusal is that of this file.
use Rattle.std.proofs.Common.{Some}
use Rattle.x5_load.specs.Views.{file_view}
use Rattle.xdir.specs.Generated.{made_files, made_names}
use Rattle.xdir.proofs.Beginning.{in_utf8, loaded, references_in_utf8}
use Rattle.xdir.proofs.Ends.{such_prints}
use Rattle.xdir.proofs.Making.{world_made}
use Rattle.xdir.proofs.Summaries.{sums_files, sums_refused_file}
use Rattle.xdir.proofs.generated.run_made_world.Goals as goal

pub run_made_over-requires-clause-described : goal.run_made_over-requires-clause-described
run_made_over-requires-clause-described g c = loaded c.in-Ok.world c.args.octets.now c.in-Ok.ensures.loads

pub run_made_over-requires-clause-references : goal.run_made_over-requires-clause-references
run_made_over-requires-clause-references g c =
    references_in_utf8 c.in-Ok.world c.args.octets.now c.in-Ok.ensures.loads

pub run_made_over-requires-clause-utf8 : goal.run_made_over-requires-clause-utf8
run_made_over-requires-clause-utf8 g c = in_utf8 c.in-Ok.world c.args.octets.now c.in-Ok.ensures.loads

pub returns-in-Ok-clause-sums : goal.returns-in-Ok-clause-sums
returns-in-Ok-clause-sums g c =
    sums_files (Some (made_files c.args.number)) made_names c.args.octets.now (world_made c.args.number c.args.octets.now c.requires) (file_view c.in-Ok.world) c.in-Ok.ensures.loads
    c.run_made_over.result (g.K.Sink.octets c.args.out.now) (g.K.Sink.octets c.run_made_over.new.out) (g.K.Sink.fault_count c.args.out.now) (g.K.Sink.fault_count c.run_made_over.new.out) c.run_made_over.ensures.sums

pub returns-in-Err-clause-prints : goal.returns-in-Err-clause-prints
returns-in-Err-clause-prints g c = such_prints c.refuse_world.result _ _ _ _ _ c.refuse_world.ensures

pub returns-in-Err-clause-sums : goal.returns-in-Err-clause-sums
returns-in-Err-clause-sums g c =
    sums_refused_file (Some (made_files c.args.number)) made_names c.args.octets.now (world_made c.args.number c.args.octets.now c.requires) c.in-Err.fault c.in-Err.ensures.loads
    c.refuse_world.result (g.K.Sink.octets c.args.out.now) (g.K.Sink.octets c.refuse_world.new.out) (g.K.Sink.fault_count c.args.out.now) (g.K.Sink.fault_count c.refuse_world.new.out) c.refuse_world.ensures
