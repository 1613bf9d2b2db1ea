-- What was read stands before what is left to read, and the lines behind are within the script.
use Rattle.std.proofs.Common.{◌≡◌, ◌+◌, ◌≤◌, length, map}
use Rattle.x5_model_script.specs.Script.{script_of}
use Rattle.x5_model_script.proofs.ScriptLaws.{left}
use Rattle.x5_script.specs.Views.{command_view}
use Rattle.x5_script.proofs.script.read_script.Given as goal

abbrev pub invariant-lines : goal.invariant-lines
invariant-lines l = record {
  within : l.before + length l.rest ≤ length l.octets;
  read : left l.agents (map command_view l.commands.items) l.before l.lost l.rest ≡ script_of l.agents l.lost_replies l.octets;
}

abbrev pub decreases-lines : goal.decreases-lines
decreases-lines l = length l.rest
