-- A line that is refused ends the script, and one that is taken leaves the lines behind it.
use Rattle.std.proofs.Common.{◌<◌, ℕ, List, Err, sym, ap, subst, length, arith}
use Rattle.x5_model_script.proofs.ScriptLaws.{shorter_behind}
use Rattle.x5_script.specs.Views.{ReadsScript}
use Rattle.x5_script.proofs.ReaderLaws.{not_empty, ends, goes_on}
use Rattle.x5_script.proofs.script.read_script.Goals as goal

pub returns-in-Err : goal.returns-in-Err
returns-in-Err c =
    let some = not_empty c.lines.rest.now c.is_empty.result c.is_empty.ensures c.lines-test.true in
    subst (λ f. ReadsScript (Err f) c.args.agents.now c.args.lost_replies c.args.octets.now) (sym c.refusal.ensures)
    (ends c.args.agents.now c.lines.commands.items c.lines.before c.lines.lost c.args.lost_replies c.lines.rest.now c.first_line.result.0.now c.args.octets.now c.in-Err.fault
    c.first_line.ensures.line some c.in-Err.ensures.reads c.lines.invariant.read)

pub lines-preserved : goal.lines-preserved
lines-preserved c =
    let some : 0 < length c.lines.rest.now = not_empty c.lines.rest.now c.is_empty.result c.is_empty.ensures c.lines-test.true in
    let shorter = shorter_behind c.lines.rest.now some in
    let behind = ap (λ (t : List ℕ). length t) c.first_line.ensures.behind in
    record {
      within = omega (arith, shorter, behind, c.lines.invariant.within);
      read = goes_on c.args.agents.now c.lines.commands.items c.push.new.self.items c.lines.before c.lines.lost c.lost_behind-lost.result c.args.lost_replies c.lines.rest.now c.first_line.result.0.now c.first_line.result.1.now c.args.octets.now c.in-Ok.command
          c.first_line.ensures.line c.first_line.ensures.behind c.in_ok-push.ensures.items c.lost_behind-lost.ensures some c.in-Ok.ensures.reads c.lines.invariant.read;
    }
