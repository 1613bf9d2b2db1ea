-- The attributes passed and those left before the first whose type's number isn't smaller are as many as all before it.
use Rattle.std.proofs.Common.{◌≡◌, ◌+◌, not, nat_lt, drop}
use Rattle.std.specs.List.{position_or_len}
use Rattle.x5_ops.proofs.entries.place_of_type.Given as goal

abbrev pub invariant-loop-i : goal.invariant-loop-i
invariant-loop-i l = l.i + position_or_len (λ a. not (nat_lt a.kind l.kind)) (drop l.i l.attributes) ≡ position_or_len (λ a. not (nat_lt a.kind l.kind)) l.attributes
