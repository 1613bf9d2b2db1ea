-- Those so far, with those that are left, are all.
use Rattle.std.proofs.Common.{◌≡◌, ◌++◌, drop}
use Rattle.x5_agents.proofs.references.crosses_of.Given as goal

abbrev pub invariant-loop-known : goal.invariant-loop-known
invariant-loop-known l = l.all ++ drop l.known-index l.crosses ≡ l.crosses
