-- Those so far, with those that are left, are all.
use Rattle.std.proofs.Common.{◌≡◌, ◌++◌, drop, map}
use Rattle.x5_supply.specs.Supplied as sent
use Rattle.x5_supply.proofs.references.nssrs.Given as goal

abbrev pub invariant-loop-one : goal.invariant-loop-one
invariant-loop-one l = l.nssrs.items ++ map sent.nssr (drop l.one-index l.given) ≡ map sent.nssr l.given
