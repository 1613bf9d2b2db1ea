-- The summary for the octets of the made script is that for the script file, since the file made of the number holds
-- them.
use Rattle.std.proofs.Common.{Some}
use Rattle.x5_gen.specs.Script.{script_text}
use Rattle.x5_load.specs.Views.{file_view}
use Rattle.xdir.specs.Generated.{made_files, script_name}
use Rattle.xdir.proofs.Making.{script_made}
use Rattle.xdir.proofs.Summaries.{sums_of_file}
use Rattle.xdir.proofs.generated.run_made_over.Goals as goal

pub returns-in-Ok-clause-sums : goal.returns-in-Ok-clause-sums
returns-in-Ok-clause-sums g c =
    let told = Some (made_files c.args.number) in
    let f = file_view c.args.world in
    sums_of_file told script_name (script_text c.args.number) f (script_made c.args.number) c.run_made_script-status.result (g.K.Sink.octets c.args.out.now) (g.K.Sink.octets c.run_made_script-status.new.out) (g.K.Sink.fault_count c.args.out.now) (g.K.Sink.fault_count c.run_made_script-status.new.out) c.run_made_script-status.ensures.sums
