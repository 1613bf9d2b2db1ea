-- The names so far, with those of the access points that are left, are the names of all agents of the reference.
use Rattle.std.proofs.Common.{◌≡◌, ◌++◌, map, drop, string_bytes}
use Rattle.x5_report.specs.Spelled as spelled
use Rattle.x5_report.proofs.lines.agent_texts.Given as goal

abbrev pub invariant-loop-access : goal.invariant-loop-access
invariant-loop-access l = map string_bytes l.texts.items ++ map spelled.access_text (drop l.access-index l.agents) ≡ map spelled.access_text l.agents
