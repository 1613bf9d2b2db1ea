-- What agents hold at the line after a message, or after a line that changes nothing that they hold: so whoever keeps
-- their holdings from line to line has those of the next one.
use Rattle.std.specs.Prelude.{◌≡◌, ◌==◌, ℕ, Bool, true, if◌then◌else◌, List, [], ◌∷◌, length}
use Rattle.x5_model.specs.Words.{has}
use Rattle.x5_model.specs.References.{Chained}
use Rattle.x5_model.specs.Answers.{Reply}
use Rattle.x5_model_tree.specs.World.{World}
use Rattle.x5_model_tree.specs.Consistent.{IsConsistent}
use Rattle.x5_model_tree.specs.Described.{IsDescribed}
use Rattle.x5_model_run.specs.Journal.{Journal}
use Rattle.x5_model_run.specs.History.{Did, Point, knowledge_at, network_at, holdings_at, refresh_of}
use Rattle.x5_model_run.specs.Chain.{scene_with}
use Rattle.x5_model_run.specs.Refresh.{refresh_block}
use Rattle.x5_model_run.specs.Run.{Command, Updates, Block, Refreshing, Judge, IsBlock, accepted_by, did_by}
use Rattle.x5_model_updates.specs.Keeping.{MovesNone, NoneMoved}
use Rattle.x5_model_verdicts.specs.Committing.{IsStamped}
use Rattle.x5_model_serve.specs.Committed.{committed}
use Rattle.x5_model_serve.specs.Serving.{IsRequest}
use Rattle.x5_model_held.specs.Theorems.{is_still}

-- the line of this world after these
abbrev pub line_after : World → List Did → Point
line_after w past = record { described = w; past = past }

-- what a line did at which this message was sent
abbrev pub did_with : Chained → Journal → Did
did_with m j = record { deed = accepted_by m.request j; sent = length j.lines }

-- 1. What agents do with a message leaves each agent with what it held, changed where it accepted the message's update.
abbrev pub HoldsAfter : Type 0
HoldsAfter =
    (w : World) (past : List Did) (first : ℕ) (m : Chained) (most : ℕ) (j : Journal) (reply : Reply) (a : ℕ)
    → IsDescribed w → IsConsistent w → NoneMoved past → IsStamped (line_after w past)
    → IsRequest (scene_with (line_after w past) first m) most j reply
    → holdings_at (line_after w (did_with m j ∷ past)) a
    ≡ (if has ◌==◌ j.accepted a then committed m.request (holdings_at (line_after w past) a)
    else holdings_at (line_after w past) a)

-- A line at which nothing is accepted, refreshed or moved leaves it with just that.
abbrev pub HoldsOn : Type 0
HoldsOn =
    (w : World) (past : List Did) (d : Did) (a : ℕ) → is_still d.deed ≡ true
    → holdings_at (line_after w (d ∷ past)) a ≡ holdings_at (line_after w past) a

-- 2. A message leaves the network as it is, whatever was accepted.
abbrev pub NetworkStays : Type 0
NetworkStays =
    (w : World) (past : List Did) (m : Chained) (j : Journal)
    → network_at (line_after w (did_with m j ∷ past)) ≡ network_at (line_after w past)

-- 3. What these theorems ask of a line holds at the next one. No command moves a context, so knowledge is what the file
-- describes;
abbrev pub MovedNoneAfter : Type 0
MovedNoneAfter =
    (past : List Did) (command : Command) (block : Block) → NoneMoved past → NoneMoved (did_by command block ∷ past)

abbrev pub KnowsAsDescribed : Type 0
KnowsAsDescribed = (w : World) (past : List Did) → NoneMoved past → knowledge_at (line_after w past) ≡ w

-- and stamps are moments of lines before: so it is at first, after a line that refreshes no copy,
abbrev pub StampedAtFirst : Type 0
StampedAtFirst = (w : World) → IsStamped (line_after w [])

abbrev pub StampedOn : Type 0
StampedOn =
    (w : World) (past : List Did) (d : Did) → MovesNone d.deed → ((agreement : ℕ) → refresh_of d.deed agreement ≡ [])
    → IsStamped (line_after w past) → IsStamped (line_after w (d ∷ past))

-- after a refresh line, whose stamp is its own moment or that of its supplier's copy (X.525, section 9: last update),
abbrev pub StampedAfterRefresh : Type 0
StampedAfterRefresh =
    (w : World) (past : List Did) (number : ℕ) (pushes total : Bool) → IsStamped (line_after w past)
    → IsStamped (line_after w (did_by (Updates number pushes total)
    (Refreshing (refresh_block (line_after w past) number pushes total)) ∷ past))

-- and so after each command of a run, however messages are judged.
abbrev pub StampedAfter : Judge → Type 0
StampedAfter judge =
    (w : World) (past : List Did) (command : Command) (block : Block)
    → IsBlock judge (line_after w past) command block → IsStamped (line_after w past)
    → IsStamped (line_after w (did_by command block ∷ past))
