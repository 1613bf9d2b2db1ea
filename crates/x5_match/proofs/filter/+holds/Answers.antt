-- Before the first member, True and all members, or False and all members, give the truth of the And or of the Or: the
-- truth of all members as a list is that of the filter as a tree.
use Rattle.x5_match.proofs.FilterLemmas.{members_and, members_or}
use Rattle.x5_match.proofs.filter.+holds.Goals as goal

pub loop-member-init : goal.loop-member-init
loop-member-init t c =
    let h = members_and c.in-And.members c.args.entry.now in rw (c.in-And.is, c.deref-member-items.ensures.value) h

pub loop-member-2-init : goal.loop-member-2-init
loop-member-2-init t c =
    let h = members_or c.in-Or.members c.args.entry.now in rw (c.in-Or.is, c.deref-member-items-in-Or.ensures.value) h
