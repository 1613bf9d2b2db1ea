-- While the place of a pair is sought: no pair so far has a larger type number, so the place is the number of pairs
-- passed plus the place among those that are left.
use Rattle.std.proofs.Common.{◌≡◌, ◌+◌, nat_lt, drop}
use Rattle.std.specs.List.{position_or_len}
use Rattle.x5_syntax.proofs.names.place_of.Given as goal

abbrev pub invariant-loop-i : goal.invariant-loop-i
invariant-loop-i l = l.i + position_or_len (λ pair. nat_lt l.number pair.0) (drop l.i l.pairs) ≡ position_or_len (λ pair. nat_lt l.number pair.0) l.pairs
