-- While a reader is read to its end: the octets so far are no more than the limit.
use Rattle.std.proofs.Common.{◌≤◌, vec_len}
use Rattle.x5_port.proofs.real.read_up_to.Given as goal

abbrev pub invariant-loop : goal.invariant-loop
invariant-loop g l = vec_len l.octets ≤ l.limit
