-- How the program's process ends, by how what it does ends (docs/FORMATS.md, words of the command line). The numbers
-- are this project's own.
use Rattle.std.specs.Prelude.{ℕ}
use Rattle.xdir.specs.declared.top.Status.{Status}
use Rattle.xdir.specs.declared.top.Status.TheVariants.{Done, Refused, Usage, ReadFault, WriteFault, NoMemory}
use Rattle.xdir.specs.declared.top.Status.TheVariants.{Inconsistent, TooLong}

abbrev pub exit_number : Status → ℕ
exit_number Done = 0
exit_number Refused = 1
exit_number Usage = 2
exit_number ReadFault = 3
exit_number WriteFault = 4
exit_number NoMemory = 5
exit_number Inconsistent = 6
exit_number TooLong = 7
