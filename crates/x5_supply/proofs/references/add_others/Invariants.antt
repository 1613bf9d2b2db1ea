-- Those so far, with those that are left, are all.
use Rattle.std.proofs.Common.{◌≡◌, ◌++◌, drop}
use Rattle.x5_supply.specs.Supplied as sent
use Rattle.x5_supply.proofs.references.add_others.Given as goal

abbrev pub invariant-loop-other : goal.invariant-loop-other
invariant-loop-other l =
    l.references.items ++ sent.others l.state (drop l.other-index l.given) ≡ l.fn.references.items ++ sent.others l.state l.given
