-- What agents hold at every line is within the limits of messages, and names agents of the world alone, whether or not
-- knowledge is consistent (X.501, section 22: DSA information tree; X.525, section 9).
use Rattle.std.specs.Prelude.{◌≡◌, ℕ, true, List, length}
use Rattle.x5_model_tree.specs.World.{World}
use Rattle.x5_model_tree.specs.Described.{IsDescribed}
use Rattle.x5_model_run.specs.History.{Did, Point}
use Rattle.x5_model_updates.specs.Keeping.{NoneMoved}
use Rattle.x5_model_verdicts.specs.Committing.{IsStamped}
use Rattle.x5_model_known.specs.Holding.{holdings_name}
use Rattle.x5_model_settled.specs.Afterwards.{line_after}
use Rattle.x5_model_settled.specs.Held.{held_at}
use Rattle.x5_model_fitting.specs.Requests.{CountWithin}
use Rattle.x5_model_limits.specs.Holding.{BoundedHoldings}
use Rattle.x5_model_limits.specs.Described.{world_is_utf8, BoundedPast, BoundedMoments}

-- 1. The stamps of copies are moments of lines before: four octets have them as long as they count the lines.
abbrev pub MomentsBounded : Type 0
MomentsBounded = (p : Point) → IsStamped p → CountWithin (length p.past) → BoundedMoments p

-- 2. Where no context was moved, what agents hold is within the limits,
abbrev pub HeldBounded : Type 0
HeldBounded =
    (w : World) (past : List Did) (a : ℕ) → IsDescribed w → world_is_utf8 w ≡ true → NoneMoved past → BoundedPast past
    → BoundedMoments (line_after w past) → BoundedHoldings (held_at (line_after w past) a)

-- and names agents of the world alone.
abbrev pub HeldNameAgents : Type 0
HeldNameAgents =
    (w : World) (past : List Did) (a : ℕ) → IsDescribed w → NoneMoved past
    → holdings_name (length w.agents) (held_at (line_after w past) a) ≡ true
