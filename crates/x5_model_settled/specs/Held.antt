-- What agents hold at a line of a run, whether or not knowledge is consistent (X.501, section 22: DSA information
-- tree). Over consistent knowledge that is their part of the one tree, with copies as of their refreshes (X.525,
-- section 9). Over any other knowledge there is no one tree, and no copy is refreshed: they hold what their world's
-- file describes, changed by each update that they accepted (X.511, section 11). So far nothing is moved.
use Rattle.std.specs.Prelude.{◌≡◌, ℕ, ◌==◌, true, if◌then◌else◌, List, [], ◌∷◌}
use Rattle.std.specs.List.{AllByRecursion}
use Rattle.std.specs.Option.{is_none}
use Rattle.x5_model.specs.Words.{has}
use Rattle.x5_model.specs.Values.{Text}
use Rattle.x5_model.specs.References.{Chained}
use Rattle.x5_model.specs.Answers.{Reply}
use Rattle.x5_model_tree.specs.World.{World}
use Rattle.x5_model_tree.specs.Consistent.{IsConsistent, first_breach}
use Rattle.x5_model_tree.specs.Described.{IsDescribed}
use Rattle.x5_model_run.specs.Journal.{Journal}
use Rattle.x5_model_run.specs.Holdings.{Holdings}
use Rattle.x5_model_run.specs.History.{Acceptance, Deed, Nothing, Outs, Loses, Accepts, Refreshes, Splits, Unsplits}
use Rattle.x5_model_run.specs.History.{Did, Point, holdings_at}
use Rattle.x5_model_run.specs.Stage.{budget}
use Rattle.x5_model_run.specs.Chain.{Scene, scene_with}
use Rattle.x5_model_run.specs.Run.{Command, Block, Judge, IsRun}
use Rattle.x5_model_output.specs.Output.{PrintsRun}
use Rattle.x5_model_updates.specs.Keeping.{NoneMoved}
use Rattle.x5_model_verdicts.specs.Committing.{IsStamped}
use Rattle.x5_model_held.specs.Beginning.{holdings_described}
use Rattle.x5_model_held.specs.Theorems.{is_still}
use Rattle.x5_model_serve.specs.Committed.{committed}
use Rattle.x5_model_serve.specs.Serving.{IsRequest}
use Rattle.x5_model_local.specs.Local.{ByTheirOwn}
use Rattle.x5_model_settled.specs.Judges.{RightAndWhole}
use Rattle.x5_model_settled.specs.Runs.{ByAgents, IsAskable}
use Rattle.x5_model_settled.specs.Afterwards.{line_after, did_with}

-- what this agent holds once these accepted: an agent accepts once in a line, since it answers `changed` at once when
-- the update comes again
abbrev pub held_accepting : List Acceptance → ℕ → Holdings → Holdings
held_accepting [] a h = h
held_accepting (x ∷ more) a h = if x.agent == a then committed x.request h else held_accepting more a h

-- what it holds after a line that did this, where no copy is refreshed
abbrev pub held_after : Deed → ℕ → Holdings → Holdings
held_after Nothing a h = h
held_after (Outs o) a h = h
held_after (Loses reply k) a h = h
held_after (Accepts accepted) a h = held_accepting accepted a h
held_after (Refreshes f) a h = h
held_after (Splits name o) a h = h
held_after (Unsplits name) a h = h

-- what it holds after these lines, step by step
abbrev pub held_by : World → List Did → ℕ → Holdings
held_by w [] a = holdings_described w a
held_by w (d ∷ before) a = held_after d.deed a (held_by w before a)

-- what it holds at this line
abbrev pub held_at : Point → ℕ → Holdings
held_at p a = if is_none (first_breach p.described) then holdings_at p a else held_by p.described p.past a

-- a message of a user who doesn't follow, to agents that hold this
abbrev pub scene_held : Point → ℕ → Chained → Scene
scene_held p first m = record (scene_with p first m) { holdings = held_at p }

-- A message's block is what agents do with it, step by step, by what they hold.
abbrev pub BySteps : Judge
BySteps p first m j reply = IsRequest (scene_held p first m) (budget p) j reply

-- So, whatever agents know of each other, each line has its cause, whoever accepts does so by its own ground, and the
-- answer is that of the own entries of agents that were heard.
abbrev pub IsByTheirOwn : Judge
IsByTheirOwn p first m j reply = ByTheirOwn (scene_held p first m) (budget p) j reply

-- And over consistent knowledge what is accepted is also right by the one tree, and so is what a user's request is
-- answered, and no message that it needs is left out.
abbrev pub Performed : Judge
Performed p first m j reply =
    BySteps p first m j reply × (IsConsistent p.described → RightAndWhole p first m j reply)
    × IsByTheirOwn p first m j reply

-- 1. Over consistent knowledge agents hold their part of the one tree, over other knowledge what each step leaves them;
abbrev pub HeldIsHoldings : Type 0
HeldIsHoldings = (p : Point) (a : ℕ) → IsConsistent p.described → held_at p a ≡ holdings_at p a

abbrev pub HeldIsByStep : Type 0
HeldIsByStep =
    (p : Point) (a : ℕ) → (IsConsistent p.described → ⊥) → held_at p a ≡ held_by p.described p.past a

-- 2. at the first line what the world's file describes of them,
abbrev pub HeldAtFirst : Type 0
HeldAtFirst = (w : World) (a : ℕ) → IsDescribed w → held_at (line_after w []) a ≡ holdings_described w a

-- 3. after a line at which nothing is accepted, refreshed or moved just what they held,
abbrev pub HeldOn : Type 0
HeldOn =
    (w : World) (past : List Did) (d : Did) (a : ℕ) → is_still d.deed ≡ true
    → held_at (line_after w (d ∷ past)) a ≡ held_at (line_after w past) a

-- 4. and after a message what they held, changed where they accepted its update.
abbrev pub HeldAfterLine : Type 0
HeldAfterLine =
    (w : World) (past : List Did) (first : ℕ) (m : Chained) (j : Journal) (reply : Reply) (a : ℕ)
    → IsDescribed w → NoneMoved past → (IsConsistent w → IsStamped (line_after w past))
    → BySteps (line_after w past) first m j reply
    → held_at (line_after w (did_with m j ∷ past)) a
    ≡ (if has ◌==◌ j.accepted a then committed m.request (held_at (line_after w past) a)
    else held_at (line_after w past) a)

-- 5. So over consistent knowledge a script that is carried out step by step is one that agents carry out,
abbrev pub StepsAreAgents : Type 0
StepsAreAgents =
    (w : World) (commands : List Command) (blocks : List Block) (past : List Did)
    → IsConsistent w → IsRun BySteps w commands blocks past → IsRun ByAgents w commands blocks past

-- 6. what is accepted is right, each request is answered right, and no message of it is left out,
abbrev pub StepsAreRight : Type 0
StepsAreRight =
    (w : World) (commands : List Command) (blocks : List Block) (past : List Did)
    → IsDescribed w → IsConsistent w → AllByRecursion (IsAskable w) commands → IsRun BySteps w commands blocks past
    → IsRun RightAndWhole w commands blocks past

-- 7. and what is printed of it is the output of such a run.
abbrev pub StepsPrintRun : Type 0
StepsPrintRun =
    (w : World) (moment : ℕ → Text) (commands : List Command) (octets : Text)
    → IsDescribed w → IsConsistent w → AllByRecursion (IsAskable w) commands
    → PrintsRun BySteps w moment commands octets → PrintsRun RightAndWhole w moment commands octets

-- 8. Whether or not knowledge is consistent, each block of a script is what agents do, and right where it is
-- consistent; so is what is printed of it.
abbrev pub StepsArePerformed : Type 0
StepsArePerformed =
    (w : World) (commands : List Command) (blocks : List Block) (past : List Did)
    → IsDescribed w → AllByRecursion (IsAskable w) commands → IsRun BySteps w commands blocks past
    → IsRun Performed w commands blocks past

abbrev pub StepsPrintPerformed : Type 0
StepsPrintPerformed =
    (w : World) (moment : ℕ → Text) (commands : List Command) (octets : Text)
    → IsDescribed w → AllByRecursion (IsAskable w) commands → PrintsRun BySteps w moment commands octets
    → PrintsRun Performed w moment commands octets

-- What is performed is right and whole over consistent knowledge.
abbrev pub PerformedIsRight : Type 0
PerformedIsRight =
    (w : World) (commands : List Command) (blocks : List Block) (past : List Did)
    → IsConsistent w → IsRun Performed w commands blocks past → IsRun RightAndWhole w commands blocks past
