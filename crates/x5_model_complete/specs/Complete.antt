-- What a user is answered over consistent knowledge where each message arrives; and which errors he never gets,
-- whatever is (X.518, sections 17 to 21; X.511, section 12.8: service errors).
use Rattle.std.specs.Prelude.{◌≡◌, ◌<◌, ◌≤◌, ◌==◌, ℕ, ◌+◌, true, false, List, [], length}
use Rattle.std.specs.List.{list_any, list_all}
use Rattle.std.specs.declared.option.Option.TheVariants.{Some}
use Rattle.x5_model.specs.Words.{has}
use Rattle.x5_model.specs.Values.{Name}
use Rattle.x5_model.specs.Requests.{Request}
use Rattle.x5_model.specs.Answers.{Answer, Changed, DirError, Reply, Answered, Failed}
use Rattle.x5_model.specs.Problems.{unavailable, unable_to_proceed, invalid_reference, administrative_limit_exceeded}
use Rattle.x5_model.specs.Problems.{loop_detected}
use Rattle.x5_model_tree.specs.World.{Network, World}
use Rattle.x5_model_tree.specs.Ask.{Changes, Refuses, unexplored_of, is_update, ask}
use Rattle.x5_model_tree.specs.Consistent.{IsConsistent}
use Rattle.x5_model_tree.specs.Described.{IsDescribed}
use Rattle.x5_model_run.specs.Network.{is_up, is_pair, is_sent, refuses}
use Rattle.x5_model_run.specs.Journal.{Journal}
use Rattle.x5_model_run.specs.Needs.{target_of, new_name}
use Rattle.x5_model_run.specs.History.{Did, Point, tree_at, network_at, sent_before}
use Rattle.x5_model_run.specs.Stage.{budget}
use Rattle.x5_model_run.specs.Chain.{scene_at}
use Rattle.x5_model_run.specs.Blocked.{by_user}
use Rattle.x5_model_run.specs.Right.{IsResult}
use Rattle.x5_model_run.specs.Run.{Command, Block, Judge, IsRun}
use Rattle.x5_model_updates.specs.Keeping.{NoneMoved}
use Rattle.x5_model_serve.specs.Answering.{is_service}
use Rattle.x5_model_serve.specs.Serving.{IsRequest}
use Rattle.x5_model_settled.specs.Settled.{HasAgent}

-- ---- with nothing in the way
-- The answer is complete: the result of a query leaves nothing unexplored, so its sources are all the contexts that the
-- query touches; an update is `changed` where the one tree takes it; or the error is the one tree's own.
pub data IsComplete (p : Point) (first : ℕ) (r : Request) (j : Journal) : Reply → Type 0 where
  result : {a : Answer}
      → is_update r.body ≡ false → IsResult p (scene_at p first r) (by_user (scene_at p first r)) j.lines a
      → unexplored_of a ≡ []
      → IsComplete p first r j (Answered a)
  changed : ask (tree_at p) r ≡ Changes → IsComplete p first r j (Answered Changed)
  error : {x : DirError} → ask (tree_at p) r ≡ Refuses x → IsComplete p first r j (Failed x)

-- Where each message of the request arrived, and so did each reply, the user's agent is willing to chain, and the user
-- doesn't prohibit it, whatever agents do with his request is complete. Nothing is asked of agents and pairs that the
-- request doesn't meet, nor of messages that it doesn't take.
abbrev pub ServesWhole : Point → ℕ → Request → Type 0
ServesWhole p first r =
    (j : Journal) (reply : Reply)
    → length (target_of r.body) ≤ 16 → ((name : Name) → new_name r.body ≡ Some name → length name ≤ 16)
    → r.controls.nochain ≡ false → refuses (network_at p) first ≡ false
    → list_all (λ l. is_sent l.fate) j.lines ≡ true
    → IsRequest (scene_at p first r) (budget p) j reply
    → IsComplete p first r j reply

-- 1. So it is at a line that was led to without moving contexts, whatever was accepted, refreshed and lost before;
abbrev pub LinesAreComplete : Type 0
LinesAreComplete =
    (w : World) (past : List Did) (first : ℕ) (r : Request)
    → IsDescribed w → IsConsistent w → NoneMoved past → HasAgent w first
    → ServesWhole (record { described = w; past = past }) first r

-- 2. and at every line of a run.
abbrev pub RunsAreComplete : Judge → Type 0
RunsAreComplete judge =
    (w : World) (commands : List Command) (blocks : List Block) (past : List Did) (first : ℕ) (r : Request)
    → IsDescribed w → IsConsistent w → IsRun judge w commands blocks past → HasAgent w first
    → ServesWhole (record { described = w; past = past }) first r

-- Nothing is in the way of so many messages after those that were sent before: each agent is up, no pair is cut, each
-- agent is willing to chain, and none of these messages is to be lost, nor the reply to it.
pub record IsClear (net : Network) (sent count : ℕ) : Type 0 where
  pub up : (a : ℕ) → is_up net a ≡ true
  pub joined : (a b : ℕ) → list_any (is_pair a b) net.cut ≡ false
  pub willing : (a : ℕ) → refuses net a ≡ false
  pub carried : (n : ℕ) → sent < n → n ≤ sent + count → has ◌==◌ net.lost_messages n ≡ false
  pub replied : (n : ℕ) → sent < n → n ≤ sent + count → has ◌==◌ net.lost_replies n ≡ false

-- Where nothing is in the way of the messages of the request, and the user doesn't prohibit chaining, whatever agents do
-- with it is complete.
abbrev pub ServesClear : Point → ℕ → Request → Type 0
ServesClear p first r =
    (j : Journal) (reply : Reply)
    → length (target_of r.body) ≤ 16 → ((name : Name) → new_name r.body ≡ Some name → length name ≤ 16)
    → r.controls.nochain ≡ false → IsClear (network_at p) (sent_before p.past) (length j.lines)
    → IsRequest (scene_at p first r) (budget p) j reply
    → IsComplete p first r j reply

-- 3. So this follows at such a line,
abbrev pub ClearLinesAreComplete : Type 0
ClearLinesAreComplete =
    (w : World) (past : List Did) (first : ℕ) (r : Request)
    → IsDescribed w → IsConsistent w → NoneMoved past → HasAgent w first
    → ServesClear (record { described = w; past = past }) first r

-- 4. and at every line of a run.
abbrev pub ClearRunsAreComplete : Judge → Type 0
ClearRunsAreComplete judge =
    (w : World) (commands : List Command) (blocks : List Block) (past : List Did) (first : ℕ) (r : Request)
    → IsDescribed w → IsConsistent w → IsRun judge w commands blocks past → HasAgent w first
    → ServesClear (record { described = w; past = past }) first r

-- ---- whatever is in the way
-- A service error says that somebody is unavailable. So these four, which agents may tell each other, never come to a
-- user.
pub record IsSpared (reply : Reply) : Type 0 where
  pub only : (n : ℕ) → is_service n reply ≡ true → n ≡ unavailable
  pub reference : is_service invalid_reference reply ≡ false
  pub unable : is_service unable_to_proceed reply ≡ false
  pub looped : is_service loop_detected reply ≡ false
  pub limited : is_service administrative_limit_exceeded reply ≡ false

abbrev pub ServesSpared : Point → ℕ → Request → Type 0
ServesSpared p first r =
    (j : Journal) (reply : Reply)
    → length (target_of r.body) ≤ 16 → ((name : Name) → new_name r.body ≡ Some name → length name ≤ 16)
    → IsRequest (scene_at p first r) (budget p) j reply
    → IsSpared reply

-- 5. So it is whatever is down, cut, refusing or lost, at a line that was led to without moving contexts,
abbrev pub LinesAreSpared : Type 0
LinesAreSpared =
    (w : World) (past : List Did) (first : ℕ) (r : Request)
    → IsDescribed w → IsConsistent w → NoneMoved past → HasAgent w first
    → ServesSpared (record { described = w; past = past }) first r

-- 6. and at every line of a run.
abbrev pub RunsAreSpared : Judge → Type 0
RunsAreSpared judge =
    (w : World) (commands : List Command) (blocks : List Block) (past : List Did) (first : ℕ) (r : Request)
    → IsDescribed w → IsConsistent w → IsRun judge w commands blocks past → HasAgent w first
    → ServesSpared (record { described = w; past = past }) first r
