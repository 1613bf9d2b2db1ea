-- The text is the one before with two spaces behind it for each step so far.
use Rattle.std.proofs.Common.{◌≡◌, ◌++◌}
use Rattle.std.specs.Prelude.{string_bytes}
use Rattle.x5_show.specs.Show.{indent}
use Rattle.x5_show.proofs.print.put_indent.Given as goal

abbrev pub invariant-loop-depth : goal.invariant-loop-depth
invariant-loop-depth l = string_bytes l.out ≡ string_bytes l.fn.out ++ indent l.depth
