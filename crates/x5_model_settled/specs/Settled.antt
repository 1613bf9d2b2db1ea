-- What the theorem on serving presumes of a point follows of a run over consistent knowledge (X.501, section 22; X.518,
-- sections 17 to 21).
use Rattle.std.specs.Prelude.{◌≡◌, ◌≤◌, ℕ, List, length}
use Rattle.std.specs.declared.option.Option.TheVariants.{Some}
use Rattle.x5_model.specs.Values.{Name}
use Rattle.x5_model.specs.Requests.{Request}
use Rattle.x5_model.specs.References.{Chained}
use Rattle.x5_model.specs.Answers.{Reply}
use Rattle.x5_model_tree.specs.World.{Agent, World}
use Rattle.x5_model_tree.specs.Masters.{agent_at}
use Rattle.x5_model_tree.specs.Consistent.{IsConsistent}
use Rattle.x5_model_tree.specs.Described.{IsDescribed}
use Rattle.x5_model_run.specs.Journal.{Journal}
use Rattle.x5_model_run.specs.Needs.{target_of, new_name}
use Rattle.x5_model_run.specs.History.{Did, Point}
use Rattle.x5_model_run.specs.Stage.{budget}
use Rattle.x5_model_run.specs.Chain.{scene_with, scene_at}
use Rattle.x5_model_run.specs.Right.{AnswersRight}
use Rattle.x5_model_run.specs.Thorough.{Thorough}
use Rattle.x5_model_run.specs.Run.{Command, Block, Judge, IsRun}
use Rattle.x5_model_updates.specs.Keeping.{NoneMoved}
use Rattle.x5_model_serve.specs.Serving.{IsRequest}
use Rattle.x5_model_serve.specs.Claims.{Setting}
use Rattle.x5_model_handed.specs.Handed.{AcceptedRight}
use Rattle.x5_model_settled.specs.Judges.{RightAndWhole}

-- the described world has an agent of this number
abbrev pub HasAgent : World → ℕ → Type 0
HasAgent w first = (a : Agent) × (agent_at w first ≡ Some a)

-- 1. A line that was led to without moving contexts, whatever was accepted and refreshed, is a setting for any request
-- of a user to an agent of the world.
abbrev pub LinesAreSettled : Type 0
LinesAreSettled =
    (w : World) (past : List Did) (first : ℕ) (r : Request)
    → IsDescribed w → IsConsistent w → NoneMoved past → HasAgent w first
    → Setting (record { described = w; past = past }) (scene_at (record { described = w; past = past }) first r)

-- 2. So is every line of a run, however its blocks are judged: a run moves no context.
abbrev pub RunsAreSettled : Judge → Type 0
RunsAreSettled judge =
    (w : World) (commands : List Command) (blocks : List Block) (past : List Did) (first : ℕ) (r : Request)
    → IsDescribed w → IsConsistent w → IsRun judge w commands blocks past → HasAgent w first
    → Setting (record { described = w; past = past }) (scene_at (record { described = w; past = past }) first r)

-- 3. So whatever agents do there with a request whose names have 16 RDNs at most, as all names in a directory have, is
-- right, and no message that it needs is left out.
abbrev pub ServesRight : Point → ℕ → Request → Type 0
ServesRight p first r =
    (j : Journal) (reply : Reply)
    → length (target_of r.body) ≤ 16 → ((name : Name) → new_name r.body ≡ Some name → length name ≤ 16)
    → IsRequest (scene_at p first r) (budget p) j reply
    → AnswersRight p first r j reply × Thorough (scene_at p first r) j

abbrev pub LinesAreRight : Type 0
LinesAreRight =
    (w : World) (past : List Did) (first : ℕ) (r : Request)
    → IsDescribed w → IsConsistent w → NoneMoved past → HasAgent w first
    → ServesRight (record { described = w; past = past }) first r

-- 4. And so it is at every line of a run.
abbrev pub RunsAreRight : Judge → Type 0
RunsAreRight judge =
    (w : World) (commands : List Command) (blocks : List Block) (past : List Did) (first : ℕ) (r : Request)
    → IsDescribed w → IsConsistent w → IsRun judge w commands blocks past → HasAgent w first
    → ServesRight (record { described = w; past = past }) first r

-- 5. Whatever message is handed to whomever at a line, what is accepted of it is right.
abbrev pub TakesRight : Point → ℕ → Chained → Type 0
TakesRight p first m =
    (most : ℕ) (j : Journal) (reply : Reply) → IsRequest (scene_with p first m) most j reply → AcceptedRight p first m j

abbrev pub LinesTakeRight : Type 0
LinesTakeRight =
    (w : World) (past : List Did) (first : ℕ) (m : Chained)
    → IsDescribed w → IsConsistent w → NoneMoved past → TakesRight (record { described = w; past = past }) first m

abbrev pub RunsTakeRight : Judge → Type 0
RunsTakeRight judge =
    (w : World) (commands : List Command) (blocks : List Block) (past : List Did) (first : ℕ) (m : Chained)
    → IsDescribed w → IsConsistent w → IsRun judge w commands blocks past
    → TakesRight (record { described = w; past = past }) first m

-- 6. So what agents do with a message is right, and where it is a user's request also whole.
abbrev pub HandlesRight : Point → ℕ → Chained → Type 0
HandlesRight p first m =
    (j : Journal) (reply : Reply)
    → length (target_of m.request.body) ≤ 16
    → ((name : Name) → new_name m.request.body ≡ Some name → length name ≤ 16)
    → IsRequest (scene_with p first m) (budget p) j reply
    → RightAndWhole p first m j reply

abbrev pub LinesHandleRight : Type 0
LinesHandleRight =
    (w : World) (past : List Did) (first : ℕ) (m : Chained)
    → IsDescribed w → IsConsistent w → NoneMoved past → HasAgent w first
    → HandlesRight (record { described = w; past = past }) first m

abbrev pub RunsHandleRight : Judge → Type 0
RunsHandleRight judge =
    (w : World) (commands : List Command) (blocks : List Block) (past : List Did) (first : ℕ) (m : Chained)
    → IsDescribed w → IsConsistent w → IsRun judge w commands blocks past → HasAgent w first
    → HandlesRight (record { described = w; past = past }) first m
