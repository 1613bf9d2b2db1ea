-- The closure compares by keys, and a stable sort has one outcome.
use Rattle.std.proofs.Common.{rules, of_calls}
use Rattle.std.proofs.lemmas.Fn.{always_returns_same}
use Rattle.x5_report.specs.Order.{keyed_below}
use Rattle.x5_report.proofs.Comparing.{keyed_rank}
use Rattle.x5_report.proofs.Sorting.{stable_sort}
use Rattle.x5_report.proofs.order.put_in_order.Goals as goal

pub returns : goal.returns
returns c =
    stable_sort keyed_below keyed_rank c.args.keyed.now.items c.sort_by.new.self.items
    (c.in_ok-sort_by.ensures.sorted keyed_below keyed_rank (always_returns_same _ _ _ (λ a r f k. search
    (rules, of_calls))))
    (c.in_ok-sort_by.ensures.stable keyed_below keyed_rank (always_returns_same _ _ _ (λ a r f k. search
    (rules, of_calls))))
