-- The text is the one before with the agreements so far behind it.
use Rattle.std.proofs.Common.{◌≡◌, ◌++◌, string_bytes}
use Rattle.x5_gen.specs.World.{agreements}
use Rattle.x5_gen.proofs.world.add_agreements.Given as goal

abbrev pub invariant-loop-before : goal.invariant-loop-before
invariant-loop-before l = string_bytes l.text ≡ string_bytes l.fn.text ++ agreements l.before
