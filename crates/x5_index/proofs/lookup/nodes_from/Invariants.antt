-- The nodes found and those still to come are all nodes.
use Rattle.std.proofs.Common.{◌≡◌, ◌++◌, drop}
use Rattle.x5_index.specs.Places.{nodes_with}
use Rattle.x5_index.proofs.lookup.nodes_from.Given as goal

abbrev pub invariant-loop-posting : goal.invariant-loop-posting
invariant-loop-posting l =
    l.nodes.items ++ nodes_with (l.kind, l.normal) (drop l.posting-index l.postings) ≡ nodes_with (l.kind, l.normal) l.postings
