-- While the octets of an object identifier are counted: the total is within the limit of 1024, and with the octets of
-- the arcs that are left it makes up what is taken at the start and by all arcs.
use Rattle.std.proofs.Common.{◌≡◌, ◌+◌, ◌≤◌, map, sum, drop}
use Rattle.x5_model.specs.Normal.{subidentifier_len}
use Rattle.x5_syntax.proofs.values.are_long.Given as goal

abbrev pub invariant-loop-arc : goal.invariant-loop-arc
invariant-loop-arc l = record {
  short : l.total ≤ 1024;
  same : l.total + sum (map subidentifier_len (drop l.arc-index l.arcs)) ≡ l.fn.taken + sum (map subidentifier_len l.arcs);
}
