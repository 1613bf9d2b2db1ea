-- The place that the table gives is that of what the definitions find.
use Rattle.std.proofs.Common.{subst}
use Rattle.x5_model.specs.Values.{key_of}
use Rattle.x5_model_run.specs.Holdings.{held_at}
use Rattle.x5_holdings.specs.Inside.{state_of}
use Rattle.x5_holdings.specs.Known.{IsPlaceOf}
use Rattle.x5_holdings.specs.State.{State, held_view, holdings_view}
use Rattle.x5_holdings.proofs.Holding.{own_placed}
use Rattle.x5_holdings.proofs.holdings.Holdings.own_at.Goals as goal

pub returns : goal.returns
returns c =
    subst (λ (s : State). IsPlaceOf held_view s.own (held_at (holdings_view s).own (key_of c.args.prefix.now))
    c.first.result) c.self.view_is
    (own_placed (state_of c.self.inside) c.self.inside.tables (key_of c.args.prefix.now) c.self.invariant.tables
    c.first.result c.first.ensures)
