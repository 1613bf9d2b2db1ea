-- While the members of an And or an Or are copied: what the copies so far stand for, then what the members that are
-- left stand for, is what all members stand for.
use Rattle.std.proofs.Common.{◌≡◌, drop}
use Rattle.x5_match.specs.FilterView.{filters_of}
use Rattle.x5_match.proofs.CopyLemmas.{filters_behind}
use Rattle.x5_match.proofs.copies.+copied.Given as goal

abbrev pub invariant-loop-member : goal.invariant-loop-member
invariant-loop-member l = filters_behind l.copies.items (filters_of (drop l.member-index l.member-items)) ≡ filters_of l.member-items

abbrev pub invariant-loop-member-2 : goal.invariant-loop-member-2
invariant-loop-member-2 l = filters_behind l.copies.items (filters_of (drop l.member-index l.member-items)) ≡ filters_of l.member-items
