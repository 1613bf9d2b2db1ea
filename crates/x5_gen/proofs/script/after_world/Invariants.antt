-- The sequence has gone on from the seed by as many numbers as have been drawn.
use Rattle.std.proofs.Common.{◌≡◌}
use Rattle.x5_gen.specs.Draws.{after}
use Rattle.x5_gen.proofs.script.after_world.Given as goal

abbrev pub invariant-loop-drawn : goal.invariant-loop-drawn
invariant-loop-drawn l = l.draws.x ≡ after l.seed l._drawn
