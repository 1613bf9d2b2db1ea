-- The values so far, and those of the others.
use Rattle.std.proofs.Common.{◌≡◌, ◌+◌, drop}
use Rattle.x5_consume.specs.Ready.{values_in}
use Rattle.x5_consume.proofs.preparing.values_for_all.Given as goal

abbrev pub invariant-loop-one : goal.invariant-loop-one
invariant-loop-one l = l.count + values_in (drop l.one-index l.all) ≡ values_in l.all
