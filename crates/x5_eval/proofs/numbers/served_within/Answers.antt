-- Those that are mastered, and the copies that count behind them.
use Rattle.std.proofs.Common.{ℕ, ◌+◌, ◌++◌, List, length, map, ap, ◌∙◌}
use Rattle.std.specs.List.{filter}
use Rattle.x5_model.specs.Values.{key_of}
use Rattle.x5_ops.specs.RequestViews.{request_view}
use Rattle.x5_holdings.specs.Runs.{run_of}
use Rattle.x5_holdings.specs.State.{holdings_view}
use Rattle.x5_eval.specs.Numbers.{copy_number, copy_pins, counts, in_reach}
use Rattle.x5_eval.proofs.Numbered.{copy_places}
use Rattle.x5_eval.proofs.numbers.served_within.Goals as goal

pub returns : goal.returns
returns c =
    let s = c.args.state.now in
    c.in_ok-append.ensures.items
    ∙ (λ i. c.in_ok-numbers.ensures i
    ++ (c.in_ok-copies.ensures
    ∙ ap (λ (places : List ℕ). filter (λ n. counts (request_view c.args.request.now) (holdings_view s) (copy_number (holdings_view s) n))
    (map (λ p. length s.own + p) places)) (c.deref.ensures.value ∙ c.in_ok-places.ensures)
    ∙ ap (filter (λ n. counts (request_view c.args.request.now) (holdings_view s) (copy_number (holdings_view s) n)))
    (copy_places s (filter (in_reach c.args.depth) (run_of (copy_pins (holdings_view s)) (key_of c.args.rdns.now))))) i)
