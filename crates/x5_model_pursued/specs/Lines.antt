-- What a user who follows references and aliases is told at lines of a run over consistent knowledge (X.518, section 20;
-- X.501, section 8.8). Each line is a setting for his requests, and each may take as many messages as the line's budget
-- says at its beginning.
use Rattle.std.specs.Prelude.{◌≡◌, ◌≤◌, ◌⊎◌, ℕ, true, List, length}
use Rattle.std.specs.declared.option.Option.TheVariants.{Some}
use Rattle.x5_model.specs.Members.{In}
use Rattle.x5_model.specs.Values.{Name}
use Rattle.x5_model.specs.Requests.{Request}
use Rattle.x5_model.specs.Answers.{Reply}
use Rattle.x5_model.specs.Problems.{unavailable}
use Rattle.x5_model_tree.specs.World.{World}
use Rattle.x5_model_tree.specs.Consistent.{IsConsistent}
use Rattle.x5_model_tree.specs.Described.{IsDescribed}
use Rattle.x5_model_run.specs.Network.{Sent}
use Rattle.x5_model_run.specs.Journal.{Line, Journal}
use Rattle.x5_model_run.specs.Needs.{target_of, new_name}
use Rattle.x5_model_run.specs.History.{Did, Point, network_at, sent_before}
use Rattle.x5_model_run.specs.Stage.{budget}
use Rattle.x5_model_run.specs.Run.{Command, Block, Judge, IsRun}
use Rattle.x5_model_updates.specs.Keeping.{NoneMoved}
use Rattle.x5_model_serve.specs.Answering.{is_service}
use Rattle.x5_model_settled.specs.Settled.{HasAgent}
use Rattle.x5_model_settled.specs.Afterwards.{line_after}
use Rattle.x5_model_follow.specs.Followed.{following_from, IsTold, FollowedRight}
use Rattle.x5_model_follow.specs.Whole.{IsHeard, IsFollowedWhole}
use Rattle.x5_model_follow.specs.Alias.{most_aliases, Resolves, ResolvedRight, EndsThere, AllArrived, ResolvedWhole}

-- names have 16 RDNs at most, as all names in a directory have
abbrev pub IsShort : Request → Type 0
IsShort r =
    (length (target_of r.body) ≤ 16) × ((name : Name) → new_name r.body ≡ Some name → length name ≤ 16)

-- ---- at a line, whoever refuses to chain
-- Whatever he is told is right: each line is licensed, and no message that is needed is left out; the answer is right,
-- with nothing left to follow.
abbrev pub FollowsRight : Point → ℕ → Request → Type 0
FollowsRight p first r =
    (j : Journal) (answer : Reply)
    → IsShort r → IsTold p (sent_before p.past) first r (budget p) j answer
    → FollowedRight p (sent_before p.past) first r j answer

-- With aliases each journal is right for its own request, nothing is accepted before the last, and he ends where the
-- tree's own resolution does, unless a copy answers before or somebody isn't heard.
abbrev pub ResolvesRight : Point → ℕ → Request → Type 0
ResolvesRight p first r =
    (js : List Journal) (answer : Reply) (end : Request)
    → IsShort r → Resolves (budget p) most_aliases (following_from p (sent_before p.past) first r) r js answer end
    → ResolvedRight p first most_aliases (sent_before p.past) r js answer end
    × (EndsThere p most_aliases r answer end ⊎ (is_service unavailable answer ≡ true))

-- Where each message arrived, and so did each reply, the answer is the whole one,
abbrev pub FollowsWhole : Point → ℕ → Request → Type 0
FollowsWhole p first r =
    (j : Journal) (answer : Reply)
    → IsShort r → IsTold p (sent_before p.past) first r (budget p) j answer
    → ((l : Line) → In l j.lines → l.fate ≡ Sent) → IsFollowedWhole p (sent_before p.past) first r j answer

-- with aliases that of the request at which the tree's own resolution ends, unless a copy answers before.
abbrev pub ResolvesWhole : Point → ℕ → Request → Type 0
ResolvesWhole p first r =
    (js : List Journal) (answer : Reply) (end : Request)
    → IsShort r → Resolves (budget p) most_aliases (following_from p (sent_before p.past) first r) r js answer end
    → AllArrived js → ResolvedWhole p first r js answer end

-- So it is where the network has nothing in the way of messages to come; agents may refuse.
abbrev pub FollowsHeard : Point → ℕ → Request → Type 0
FollowsHeard p first r =
    (j : Journal) (answer : Reply)
    → IsShort r → IsTold p (sent_before p.past) first r (budget p) j answer
    → IsHeard (network_at p) (sent_before p.past) → IsFollowedWhole p (sent_before p.past) first r j answer

-- ---- at lines
-- 1. So it is at a line that was led to without moving contexts, whatever was accepted, refreshed and lost before;
abbrev pub AtLines : (Point → ℕ → Request → Type 0) → Type 0
AtLines claim =
    (w : World) (past : List Did) (first : ℕ) (r : Request)
    → IsDescribed w → IsConsistent w → NoneMoved past → HasAgent w first → claim (line_after w past) first r

-- 2. and at every line of a run.
abbrev pub AtRuns : Judge → (Point → ℕ → Request → Type 0) → Type 0
AtRuns judge claim =
    (w : World) (commands : List Command) (blocks : List Block) (past : List Did) (first : ℕ) (r : Request)
    → IsDescribed w → IsConsistent w → IsRun judge w commands blocks past → HasAgent w first
    → claim (line_after w past) first r
