-- The bits so far, and those of the octets that are left, are all.
use Rattle.std.proofs.Common.{◌≡◌, ◌++◌, drop, flat_map}
use Rattle.x5_model_typed.specs.Judged as judged
use Rattle.x5_types.proofs.bits.whole_octets.Given as goal

abbrev pub invariant-loop-octet : goal.invariant-loop-octet
invariant-loop-octet l = l.bits.items ++ flat_map judged.bits_of_octet (drop l.octet-index l.octets)
    ≡ flat_map judged.bits_of_octet l.octets
