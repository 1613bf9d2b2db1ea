-- While the further arcs of an object identifier are printed: the text so far, then a dot and the decimals of each arc
-- that is left, is the text at the start followed by all of them.
use Rattle.std.proofs.Common.{◌≡◌, ◌++◌, flat_map, drop, string_bytes}
use Rattle.x5_syntax.specs.Dotted.{dot_and_arc}
use Rattle.x5_syntax.proofs.oid.add_arcs.Given as goal

abbrev pub invariant-loop-arc : goal.invariant-loop-arc
invariant-loop-arc l = string_bytes l.text ++ flat_map dot_and_arc (drop l.arc-index l.arcs) ≡ string_bytes l.fn.text ++ flat_map dot_and_arc l.arcs
