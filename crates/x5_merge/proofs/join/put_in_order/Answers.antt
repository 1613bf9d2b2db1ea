-- The closure compares by keys, and a stable sort has one outcome.
use Rattle.std.proofs.Common.{rules, of_calls}
use Rattle.std.proofs.lemmas.Fn.{always_returns_same}
use Rattle.std.proofs.lemmas.List.MinMax.{ranks_by}
use Rattle.x5_model.proofs.KeyLaws.{key_cmp_total}
use Rattle.x5_merge.specs.Order.{below_by}
use Rattle.x5_merge.proofs.Sorting.{stable_sort}
use Rattle.x5_merge.proofs.join.put_in_order.Goals as goal

pub returns : goal.returns
returns g c =
    stable_sort (below_by g.T.Member.key) (ranks_by key_cmp_total g.T.Member.key) c.args.members.now.items c.sort_by.new.self.items
    (c.in_ok-sort_by.ensures.sorted (below_by g.T.Member.key) (ranks_by key_cmp_total g.T.Member.key) (always_returns_same _ _ _ (λ a r f k. search (rules, of_calls))))
    (c.in_ok-sort_by.ensures.stable (below_by g.T.Member.key) (ranks_by key_cmp_total g.T.Member.key) (always_returns_same _ _ _ (λ a r f k. search (rules, of_calls))))
