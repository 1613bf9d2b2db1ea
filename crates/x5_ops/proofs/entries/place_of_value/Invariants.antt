-- The values passed and those left before the first whose normal form isn't smaller are as many as all before it.
use Rattle.std.proofs.Common.{◌≡◌, ◌+◌, not, drop}
use Rattle.std.specs.List.{position_or_len}
use Rattle.x5_model.specs.Words.{octets_below}
use Rattle.x5_ops.proofs.entries.place_of_value.Given as goal

abbrev pub invariant-loop-i : goal.invariant-loop-i
invariant-loop-i l = l.i + position_or_len (λ v. not (octets_below v.normal l.normal)) (drop l.i l.values) ≡ position_or_len (λ v. not (octets_below v.normal l.normal)) l.values
