-- A copy of an And or an Or has the members of the original: each copied member keeps the loop's invariant, and once
-- none is left the copies stand for the same filters, by the lemmas about members as a list.
use Rattle.std.proofs.Common.{sym, ap, ◌∙◌}
use Rattle.x5_model.specs.Filters as model
use Rattle.x5_match.specs.FilterView.{filter_view, filters_of}
use Rattle.x5_match.proofs.CopyLemmas.{all_copied, and_of_items, or_of_items, one_copied}
use Rattle.x5_match.proofs.copies.+copied.Goals as goal

pub returns-after-loop-member : goal.returns-after-loop-member
returns-after-loop-member t c =
    sym (and_of_items c.loop-member.copies)
    ∙ ap model.And (all_copied c.loop-member.copies.items c.deref-member-items.result.now c.loop-member.member-index c.loop-member-test.false c.loop-member.invariant ∙ ap filters_of c.deref-member-items.ensures.value)
    ∙ and_of_items c.in-And.members
    ∙ ap filter_view (sym c.in-And.is)

pub loop-member-preserved : goal.loop-member-preserved
loop-member-preserved t c =
    rw c.in_ok-push-in-And.ensures.items
    (one_copied c.loop-member.copies.items c.deref-member-items.result.now c.loop-member.member-index c.in_ok-copied-in-And.field-0 c.member-item.result c.in_ok-copied-in-And.ensures c.member-item.is c.loop-member-test.true c.loop-member.invariant)

pub returns-after-loop-member-2 : goal.returns-after-loop-member-2
returns-after-loop-member-2 t c =
    sym (or_of_items c.loop-member-2.copies)
    ∙ ap model.Or (all_copied c.loop-member-2.copies.items c.deref-member-items-in-Or.result.now c.loop-member-2.member-index c.loop-member-2-test.false c.loop-member-2.invariant ∙ ap filters_of c.deref-member-items-in-Or.ensures.value)
    ∙ or_of_items c.in-Or.members
    ∙ ap filter_view (sym c.in-Or.is)

pub loop-member-2-preserved : goal.loop-member-2-preserved
loop-member-2-preserved t c =
    rw c.in_ok-push-in-Or.ensures.items
    (one_copied c.loop-member-2.copies.items c.deref-member-items-in-Or.result.now c.loop-member-2.member-index c.in_ok-copied-in-Or.field-0 c.member-item-in-loop-member-2.result c.in_ok-copied-in-Or.ensures c.member-item-in-loop-member-2.is c.loop-member-2-test.true c.loop-member-2.invariant)
