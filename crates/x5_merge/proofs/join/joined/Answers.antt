-- Sorting the earlier list first is nothing to the join.
use Rattle.std.proofs.Common.{◌≡◌, ◌++◌, not, List, sym, ap, subst, ◌∙◌}
use Rattle.std.proofs.lemmas.List.MinMax.{ranks_by}
use Rattle.std.specs.List.{filter, list_any}
use Rattle.std.specs.List.Sorted.{ties}
use Rattle.x5_model.specs.Words.{sorted}
use Rattle.x5_model.proofs.KeyLaws.{key_cmp_total}
use Rattle.x5_merge.specs.Order.{below_by, Rising}
use Rattle.x5_merge.proofs.Sorting.{sorted_rising, joined_sorted}
use Rattle.x5_merge.proofs.join.joined.Goals as goal

pub drop_known-requires : goal.drop_known-requires
drop_known-requires g c =
    subst (λ xs. Rising (below_by g.T.Member.key) xs) (sym (c.deref.ensures.value ∙ c.in_ok-put_in_order.ensures))
    (sorted_rising (below_by g.T.Member.key) (ranks_by key_cmp_total g.T.Member.key) c.args.earlier.items)

pub returns : goal.returns
returns g c =
    let first : c.put_in_order.new.members.items ≡ sorted (below_by g.T.Member.key) c.args.earlier.items = c.in_ok-put_in_order.ensures in
    let known : c.deref.result.now ≡ sorted (below_by g.T.Member.key) c.args.earlier.items = c.deref.ensures.value ∙ first in
    c.in_ok-put_in_order-2.ensures
    ∙ ap (sorted (below_by g.T.Member.key))
    (c.in_ok-append.ensures.items
    ∙ (λ i. first i ++ (c.drop_known.ensures ∙ ap (λ xs. filter (λ y. not (list_any (λ x. ties (below_by g.T.Member.key) x y) xs)) c.args.later.items) known) i))
    ∙ joined_sorted (below_by g.T.Member.key) (ranks_by key_cmp_total g.T.Member.key) c.args.earlier.items c.args.later.items
