-- The closure compares by prefixes, and a stable sort has one outcome.
use Rattle.std.proofs.Common.{ℕ, rules, of_calls, ◌∙◌}
use Rattle.std.proofs.lemmas.Fn.{always_returns_same}
use Rattle.std.proofs.lemmas.List.MinMax.{ranks_by}
use Rattle.x5_model.specs.Keys.{key_below}
use Rattle.x5_model.specs.Values.{key_of}
use Rattle.x5_model.proofs.KeyLaws.{key_cmp_total}
use Rattle.x5_holdings.specs.State.{holdings_view}
use Rattle.x5_merge.proofs.Sorting.{stable_sort}
use Rattle.x5_eval.specs.Numbers.{prefix_number}
use Rattle.x5_eval.proofs.Numbered.{ordered}
use Rattle.x5_eval.proofs.numbers.in_order.Goals as goal

pub returns : goal.returns
returns c =
    let h = holdings_view c.args.state.now in
    let root = c.root-root.result in
    stable_sort (λ (a b : ℕ). key_below (key_of (prefix_number h root a)) (key_of (prefix_number h root b)))
    (ranks_by key_cmp_total (λ (a : ℕ). key_of (prefix_number h root a)))
    c.args.numbers.items c.sort_by.new.self.items
    (c.in_ok-sort_by.ensures.sorted (λ (a b : ℕ). key_below (key_of (prefix_number h root a)) (key_of (prefix_number h root b)))
    (ranks_by key_cmp_total (λ (a : ℕ). key_of (prefix_number h root a)))
    (always_returns_same _ _ _ (λ a r f k. search (rules, of_calls))))
    (c.in_ok-sort_by.ensures.stable (λ (a b : ℕ). key_below (key_of (prefix_number h root a)) (key_of (prefix_number h root b)))
    (ranks_by key_cmp_total (λ (a : ℕ). key_of (prefix_number h root a)))
    (always_returns_same _ _ _ (λ a r f k. search (rules, of_calls))))
    ∙ ordered c.args.state.now root c.root-root.ensures c.args.numbers.items
