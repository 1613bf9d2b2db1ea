-- The places so far, with those of the rest, are those of the rows.
use Rattle.std.proofs.Common.{◌≡◌, ◌++◌, drop, map}
use Rattle.x5_eval.specs.Numbers.{own_place}
use Rattle.x5_eval.proofs.numbers.places.Given as goal

abbrev pub invariant-loop-row : goal.invariant-loop-row
invariant-loop-row l = l.places.items ++ map own_place (drop l.row-index l.rows) ≡ map own_place l.rows
