-- The text so far, with the lines of the agents that are left, is the lines of all agents that accepted the update.
use Rattle.std.proofs.Common.{◌≡◌, ◌++◌, drop, string_bytes}
use Rattle.std.specs.List.{flat_map}
use Rattle.x5_report.specs.Spelled as spelled
use Rattle.x5_report.proofs.lines.accepted.Given as goal

abbrev pub invariant-loop-agent : goal.invariant-loop-agent
invariant-loop-agent l = string_bytes l.text ++ flat_map spelled.accepted_text (drop l.agent-index l.agents) ≡ flat_map spelled.accepted_text l.agents
