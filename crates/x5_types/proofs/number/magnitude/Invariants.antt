-- The octets that are left give, behind the number so far, what all of them give.
use Rattle.std.proofs.Common.{◌≡◌, ◌^◌, ◌<◌, drop}
use Rattle.x5_model_octets.specs.Headers.{big_endian}
use Rattle.x5_types.proofs.number.magnitude.Given as goal

abbrev pub invariant-loop-octet : goal.invariant-loop-octet
invariant-loop-octet l = record {
  bound : l.number < 256 ^ l.octet-index;
  same : big_endian l.number (drop l.octet-index l.octets) ≡ big_endian 0 l.octets;
}
