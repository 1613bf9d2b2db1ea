-- The place among all is so many on as the place among those that are left.
use Rattle.std.proofs.Common.{◌≡◌, ◌+◌, not, drop}
use Rattle.std.specs.List.{position_or_len}
use Rattle.x5_model.specs.Words.{octets_below}
use Rattle.x5_rules.proofs.entry.place_of.Given as goal

abbrev pub invariant-loop-i : goal.invariant-loop-i
invariant-loop-i l =
    l.i + position_or_len (λ y. not (octets_below y l.normal)) (drop l.i l.normals)
    ≡ position_or_len (λ y. not (octets_below y l.normal)) l.normals
