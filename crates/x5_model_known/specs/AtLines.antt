-- What agents know at a line of a run, where copies may have been refreshed (X.525, section 9): so long as the
-- knowledge that the line finds is described, each agent is itself, names agents of the world alone, and knows no name
-- that is too long for an octet to count. Whether knowledge is consistent doesn't matter.
use Rattle.std.specs.Prelude.{◌≡◌, ℕ, true, length}
use Rattle.x5_model_tree.specs.Described.{IsDescribed}
use Rattle.x5_model_run.specs.History.{Point, knowledge_at, holdings_at}
use Rattle.x5_model_known.specs.Holding.{holdings_name}
use Rattle.x5_model_known.specs.Counted.{holdings_counted}

-- 5. So it is of what agents hold at every line that moved no context: it finds the knowledge that the file describes.
abbrev pub LinesNameAgents : Type 0
LinesNameAgents =
    (p : Point) (me : ℕ) → IsDescribed (knowledge_at p)
    → holdings_name (length (knowledge_at p).agents) (holdings_at p me) ≡ true

abbrev pub LinesCounted : Type 0
LinesCounted = (p : Point) (me : ℕ) → IsDescribed (knowledge_at p) → holdings_counted (holdings_at p me) ≡ true

abbrev pub LinesAreThemselves : Type 0
LinesAreThemselves = (p : Point) (me : ℕ) → (holdings_at p me).me ≡ me
