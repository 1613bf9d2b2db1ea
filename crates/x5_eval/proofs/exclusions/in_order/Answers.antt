-- The closure compares by keys, and a stable sort has one outcome.
use Rattle.std.proofs.Common.{rules, of_calls}
use Rattle.std.proofs.lemmas.Fn.{always_returns_same}
use Rattle.x5_model_run.specs.Needs.{rdn_below}
use Rattle.x5_merge.proofs.Sorting.{stable_sort}
use Rattle.x5_eval.proofs.Excluding.{rdn_weak}
use Rattle.x5_eval.proofs.exclusions.in_order.Goals as goal

pub returns : goal.returns
returns c =
    stable_sort rdn_below rdn_weak c.args.rdns.items c.sort_by.new.self.items
    (c.in_ok-sort_by.ensures.sorted rdn_below rdn_weak (always_returns_same _ _ _ (λ a r f k. search (rules, of_calls))))
    (c.in_ok-sort_by.ensures.stable rdn_below rdn_weak (always_returns_same _ _ _ (λ a r f k. search (rules, of_calls))))
