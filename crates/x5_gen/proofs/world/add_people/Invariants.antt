-- So many people were added, and as many numbers drawn.
use Rattle.std.proofs.Common.{◌≡◌, ◌++◌, string_bytes}
use Rattle.x5_gen.specs.Draws.{after}
use Rattle.x5_gen.specs.World.{people}
use Rattle.x5_gen.proofs.world.add_people.Given as goal

abbrev pub invariant-loop-before : goal.invariant-loop-before
invariant-loop-before l = record {
  text : string_bytes l.text ≡ string_bytes l.fn.text ++ people l.prefix l.fn.draws.x l.before;
  draws : l.draws.x ≡ after l.fn.draws.x l.before;
}
