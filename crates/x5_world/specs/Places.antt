-- What an agent of a network can hold, whatever the network (X.501, section 22: DSA information tree): its own, naming
-- agents of the network alone and no name that is too long for an octet to count, and within the limits of messages with
-- what is kept of changes.
use Rattle.std.specs.Prelude.{◌≡◌, ℕ, true}
use Rattle.x5_model_known.specs.Holding.{holdings_name}
use Rattle.x5_model_known.specs.Counted.{holdings_counted}
use Rattle.x5_model_limits.specs.Holding.{BoundedHoldings}
use Rattle.x5_holdings.specs.State.{State, holdings_view}
use Rattle.x5_world.specs.LogLimits.{BoundedLogs}
use Rattle.x5_world.specs.LogViews.{logs_view}

-- the agent of this place, of so many agents
pub record FitsPlace (agents a : ℕ) (s : State) : Type 0 where
  pub me : s.me ≡ a
  pub known : holdings_name agents (holdings_view s) ≡ true
  pub counted : holdings_counted (holdings_view s) ≡ true
  pub bounded : BoundedHoldings (holdings_view s)
  pub noted : BoundedLogs (logs_view s)
