-- The entries so far, with those that are left, are all with their new names.
use Rattle.std.proofs.Common.{◌≡◌, ◌++◌, map, drop}
use Rattle.x5_one.specs.Moving.{respelled_entry}
use Rattle.x5_one.proofs.renaming.respelled_all.Given as goal

abbrev pub invariant-loop-named : goal.invariant-loop-named
invariant-loop-named l =
    l.moved.items ++ map (respelled_entry l.above l.rdn) (drop l.named-index l.run)
    ≡ map (respelled_entry l.above l.rdn) l.run
