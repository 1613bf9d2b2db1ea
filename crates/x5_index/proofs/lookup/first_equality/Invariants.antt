-- Among the members before the index there is none.
use Rattle.std.proofs.Common.{◌≡◌, drop}
use Rattle.x5_match.specs.FilterView.{filters_of}
use Rattle.x5_index.specs.Lookup as model
use Rattle.x5_index.proofs.lookup.first_equality.Given as goal

abbrev pub invariant-loop-member : goal.invariant-loop-member
invariant-loop-member l = model.first_equality (filters_of (drop l.member-index l.members)) ≡ model.first_equality (filters_of l.members)
