-- While leading zeros are dropped: the digits that are left have the same octets without leading zeros as all octets,
-- they are no more than those, and their number falls.
use Rattle.std.proofs.Common.{◌≡◌, ◌≤◌, length}
use Rattle.x5_model_octets.specs.Elements.{without_zeros}
use Rattle.x5_ber.proofs.writer.significant.Given as goal

abbrev pub invariant-loop-digits : goal.invariant-loop-digits
invariant-loop-digits l = record {
  same : without_zeros l.digits ≡ without_zeros l.octets;
  fewer : length l.digits ≤ length l.octets;
}

abbrev pub decreases-loop-digits : goal.decreases-loop-digits
decreases-loop-digits l = length l.digits
