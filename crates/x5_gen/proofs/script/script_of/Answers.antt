-- At first there is no line and the sequence is behind the world's draws; each step adds the next line and four draws.
use Rattle.std.proofs.Common.{sym, ◌∙◌, string_bytes}
use Rattle.x5_gen.specs.Draws.{after}
use Rattle.x5_gen.specs.Script.{world_draws}
use Rattle.x5_gen.proofs.Making.{none_drawn, no_lines, line_added, drawn_more}
use Rattle.x5_gen.proofs.script.script_of.Goals as goal

pub loop-before-preserved : goal.loop-before-preserved
loop-before-preserved c =
    let x = after c.args.seed world_draws in
    record {
      text = line_added (string_bytes c.loop-before.text) (string_bytes c.add_drawn_line.new.text) x c.loop-before.before c.loop-before.draws.x c.loop-before.invariant.text c.loop-before.invariant.draws c.in_ok-add_drawn_line.ensures.text;
      draws = drawn_more x 4 c.loop-before.before c.loop-before.draws.x c.add_drawn_line.new.draws.x c.loop-before.invariant.draws c.in_ok-add_drawn_line.ensures.draws;
    }

pub loop-before-init : goal.loop-before-init
loop-before-init c = record {
  text = c.new-text.ensures.bytes ∙ sym (no_lines (after c.args.seed world_draws));
  draws = c.after_world-draws.ensures ∙ sym (none_drawn (after c.args.seed world_draws));
}
