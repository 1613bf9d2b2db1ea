-- The lines so far have no message of a request.
use Rattle.std.proofs.Common.{◌≡◌, drop}
use Rattle.x5_report.specs.Spelled.{first_message}
use Rattle.x5_report.proofs.octets.first_message.Given as goal

abbrev pub invariant-loop-index : goal.invariant-loop-index
invariant-loop-index l = first_message (drop l.index l.lines) ≡ first_message l.lines
