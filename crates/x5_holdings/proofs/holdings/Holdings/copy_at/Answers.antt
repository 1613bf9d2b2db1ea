-- The place that the table gives is that of what the definitions find.
use Rattle.std.proofs.Common.{subst}
use Rattle.x5_model.specs.Values.{key_of}
use Rattle.x5_model_run.specs.Holdings.{copy_at}
use Rattle.x5_holdings.specs.Inside.{state_of}
use Rattle.x5_holdings.specs.Known.{IsPlaceOf}
use Rattle.x5_holdings.specs.State.{State, copy_view, holdings_view}
use Rattle.x5_holdings.proofs.Holding.{copy_placed}
use Rattle.x5_holdings.proofs.holdings.Holdings.copy_at.Goals as goal

pub returns : goal.returns
returns c =
    subst (λ (s : State). IsPlaceOf copy_view s.copies (copy_at (holdings_view s) (key_of c.args.prefix.now))
    c.first.result) c.self.view_is
    (copy_placed (state_of c.self.inside) c.self.inside.tables (key_of c.args.prefix.now) c.self.invariant.tables
    c.first.result c.first.ensures)
