-- The text is the lines so far, and the sequence is four draws for each of them further on than the world's draws.
use Rattle.std.proofs.Common.{◌≡◌, ◌*◌, string_bytes}
use Rattle.x5_gen.specs.Draws.{after}
use Rattle.x5_gen.specs.Script.{lines, world_draws}
use Rattle.x5_gen.proofs.script.script_of.Given as goal

abbrev pub invariant-loop-before : goal.invariant-loop-before
invariant-loop-before l = record {
  text : string_bytes l.text ≡ lines (after l.seed world_draws) l.before;
  draws : l.draws.x ≡ after (after l.seed world_draws) (4 * l.before);
}
