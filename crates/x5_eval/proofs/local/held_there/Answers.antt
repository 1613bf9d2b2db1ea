-- What is said to be held there is.
use Rattle.std.proofs.Common.{◌≡◌, true, false}
use Rattle.x5_holdings.specs.State.{holdings_view}
use Rattle.x5_eval.specs.Numbers.{is_held}
use Rattle.x5_eval.proofs.local.held_there.Goals as goal

pub unreachable-requires : goal.unreachable-requires
unreachable-requires c = (
    let no : is_held (holdings_view c.args.state.now) c.args.number ≡ false = c.in_default.ensures.0 in
    let yes : is_held (holdings_view c.args.state.now) c.args.number ≡ true = c.requires in
    cc)
