-- So far the first agents are named.
use Rattle.x5_world.proofs.Journals.{AreNamedSoFar}
use Rattle.x5_world.proofs.journal.accepted_names.Given as goal

abbrev pub invariant-loop-agent : goal.invariant-loop-agent
invariant-loop-agent l = AreNamedSoFar l.names l.accepted l.agent-index l.list
