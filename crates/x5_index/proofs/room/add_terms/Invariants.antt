-- What is there and what is still to come are all terms.
use Rattle.std.proofs.Common.{◌≡◌, ◌++◌, map, drop}
use Rattle.x5_index.proofs.room.add_terms.Given as goal

abbrev pub invariant-loop-value : goal.invariant-loop-value
invariant-loop-value l =
    l.terms.items ++ map (λ v. (l.attribute.kind, v.normal)) (drop l.value-index l.value-items) ≡ l.initial.terms.items ++ map (λ v. (l.attribute.kind, v.normal)) l.value-items
