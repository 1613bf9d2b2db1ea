-- The digits that are left give, behind the number so far, what all of them give.
use Rattle.std.proofs.Common.{◌≡◌, ◌-◌, ◌^◌, ◌<◌, ◌≤◌, ◌++◌, take, drop}
use Rattle.x5_model_octets.specs.Headers.{big_endian}
use Rattle.x5_ber.proofs.header.read_number.Given as goal

abbrev pub invariant-loop-digit : goal.invariant-loop-digit
invariant-loop-digit l = record {
  past : l.start ≤ l.place;
  bound : l.number < 256 ^ (l.place - l.start);
  same : big_endian l.number (drop l.place (take l.end (l.front ++ l.piece))) ≡ big_endian 0 (drop l.start (take l.end (l.front ++ l.piece)));
}

abbrev pub decreases-loop-digit : goal.decreases-loop-digit
decreases-loop-digit l = l.end - l.place
