-- So far the first messages are printed.
use Rattle.x5_world.proofs.Journals.{IsSoFar}
use Rattle.x5_world.proofs.journal.lines.Given as goal

abbrev pub invariant-loop-message : goal.invariant-loop-message
invariant-loop-message l = IsSoFar l.names l.sent l.message-index l.lines
