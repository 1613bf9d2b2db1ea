-- Those so far, with those that are left, are all.
use Rattle.std.proofs.Common.{◌≡◌, ◌++◌, drop}
use Rattle.x5_one.specs.Scopes.{found_in}
use Rattle.x5_one.proofs.asking.all_of.Given as goal

abbrev pub invariant-loop-named : goal.invariant-loop-named
invariant-loop-named l = found_in l.found.items ++ drop l.named-index l.scope ≡ l.scope
