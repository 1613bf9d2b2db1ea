-- So far the entries before are taken.
use Rattle.std.proofs.Common.{drop}
use Rattle.x5_agents.proofs.Several.{SoFar}
use Rattle.x5_agents.proofs.entries.with_entries.Given as goal

abbrev pub invariant-loop-named : goal.invariant-loop-named
invariant-loop-named l = SoFar l.fn.held l.entries l.filling (drop l.named-index l.entries)
