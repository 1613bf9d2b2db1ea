-- So far there are the entries before.
use Rattle.std.proofs.Common.{◌≡◌, take}
use Rattle.x5_direct.proofs.seen.named_by.Given as goal

abbrev pub invariant-loop-each : goal.invariant-loop-each
invariant-loop-each l = l.entries.items ≡ take l.each-index l.seen
