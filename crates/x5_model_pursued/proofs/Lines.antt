-- Each line of a run over consistent knowledge is a setting for a user's requests, so what is proved of such a setting holds
-- there: its budget is the one that is asked for.
use Rattle.std.proofs.Common.{◌≡◌, ◌≤◌, ℕ, refl, arith}
use Rattle.x5_model.specs.Requests.{Request}
use Rattle.x5_model_run.specs.History.{Point, sent_before}
use Rattle.x5_model_run.specs.Stage.{budget}
use Rattle.x5_model_run.specs.Chain.{scene_at}
use Rattle.x5_model_run.specs.Run.{Judge}
use Rattle.x5_model_serve.specs.Claims.{Setting}
use Rattle.x5_model_settled.specs.Afterwards.{line_after}
use Rattle.x5_model_settled.proofs.Settled.{lines_are_settled, run_none_moved}
use Rattle.x5_model_follow.specs.Followed.{budget_from}
use Rattle.x5_model_follow.specs.Alias.{most_aliases}
use Rattle.x5_model_follow.proofs.Followed.{followers_are_right}
use Rattle.x5_model_follow.proofs.Whole.{followers_have_all, followers_lack_nothing}
use Rattle.x5_model_follow.proofs.Alias.{aliases_are_right}
use Rattle.x5_model_follow.proofs.Reach.{aliases_reach, aliases_have_all}
use Rattle.x5_model_pursued.specs.Lines.{FollowsRight, ResolvesRight, FollowsWhole, ResolvesWhole, FollowsHeard, AtLines, AtRuns}

-- ---- at a setting

enough : (p : Point) → budget_from p (sent_before p.past) ≤ budget p
enough p = (let same : budget_from p (sent_before p.past) ≡ budget p = refl in omega (arith, same))

module _ (p : Point) (first : ℕ) (r : Request) (set : Setting p (scene_at p first r)) where
  follows_right : FollowsRight p first r
  follows_right j answer short is =
      followers_are_right p (sent_before p.past) first r (budget p) j answer set short.0 short.1 (enough p) is

  resolves_right : ResolvesRight p first r
  resolves_right js answer end short d =
      let x = aliases_are_right p (sent_before p.past) first r (budget p) js answer end set short.0 short.1 (enough p) d in
      (x, aliases_reach p first most_aliases (sent_before p.past) r js answer end x)

  follows_whole : FollowsWhole p first r
  follows_whole j answer short is arrived =
      followers_have_all p (sent_before p.past) first r (budget p) j answer set short.0 short.1 (enough p) is arrived

  resolves_whole : ResolvesWhole p first r
  resolves_whole js answer end short d all =
      aliases_have_all p (sent_before p.past) first r (budget p) js answer end set short.0 short.1 (enough p) d all

  follows_heard : FollowsHeard p first r
  follows_heard j answer short is clear =
      followers_lack_nothing p (sent_before p.past) first r (budget p) j answer set short.0 short.1 (enough p) is clear

-- ---- at lines, and so at lines of a run

pub at_lines : (claim : Point → ℕ → Request → Type 0)
    → ((p : Point) (first : ℕ) (r : Request) → Setting p (scene_at p first r) → claim p first r) → AtLines claim
at_lines claim f w past first r described consistent none agent =
    f (line_after w past) first r (lines_are_settled w past first r described consistent none agent)

pub at_runs : (judge : Judge) (claim : Point → ℕ → Request → Type 0) → AtLines claim → AtRuns judge claim
at_runs judge claim f w commands blocks past first r described consistent run agent =
    f w past first r described consistent (run_none_moved judge w commands blocks past run) agent

pub lines_follow_right : AtLines FollowsRight
lines_follow_right = at_lines FollowsRight follows_right

pub lines_resolve_right : AtLines ResolvesRight
lines_resolve_right = at_lines ResolvesRight resolves_right

pub lines_follow_whole : AtLines FollowsWhole
lines_follow_whole = at_lines FollowsWhole follows_whole

pub lines_resolve_whole : AtLines ResolvesWhole
lines_resolve_whole = at_lines ResolvesWhole resolves_whole

pub lines_follow_heard : AtLines FollowsHeard
lines_follow_heard = at_lines FollowsHeard follows_heard
