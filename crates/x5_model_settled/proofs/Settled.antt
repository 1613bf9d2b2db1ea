-- The setting of a user's request, part by part: what lines find and copies stand by is shown for lines that moved no
-- context, a user's message is placed wherever it is, and the agents are those of the described world. A run moves none,
-- by its commands. In a setting, what agents do is right by the one induction over all that is done.
use Rattle.std.proofs.Common.{◌≡◌, ◌≤◌, ℕ, List, [], ◌∷◌, map, length, reverse, refl, sym, subst, Some, Ok, Err}
use Rattle.x5_model.specs.Values.{Name}
use Rattle.x5_model.specs.Requests.{Request}
use Rattle.x5_model.specs.References.{Chained}
use Rattle.x5_model_tree.specs.World.{World}
use Rattle.x5_model_run.specs.Needs.{target_of, new_name}
use Rattle.x5_model_run.specs.Stage.{budget}
use Rattle.x5_model_run.specs.Chain.{opening, scene_with, scene_at}
use Rattle.x5_model_run.specs.Right.{AnswersRight}
use Rattle.x5_model_run.specs.Thorough.{Thorough}
use Rattle.x5_model_run.specs.Refresh.{RefreshOutcome, Done, Unheard, Problem, Missed, NotConsistent}
use Rattle.x5_model_run.specs.History.{Deed, Nothing, Outs, Loses, Accepts, Refreshes, Splits, Unsplits, Did, knowledge_by, knowledge_after}
use Rattle.x5_model_run.specs.Run.{Command, Blank, Asks, Changes, Drops, Updates, Hands, Block, Silent, Set, Replies, Refreshing, Handed, Rejected, Judge, refreshed_by, did_by, IsRun, begin, next}
use Rattle.x5_model_theory.proofs.Carrying.{opening_is_placed}
use Rattle.x5_model_updates.specs.Keeping.{MovesNone, NoneMoved}
use Rattle.x5_model_updates.specs.Standing as updates
use Rattle.x5_model_updates.proofs.Stood.{lines_stand}
use Rattle.x5_model_find.proofs.Standings.{stand_alike, copies_always}
use Rattle.x5_model_serve.specs.Serving.{IsRequest}
use Rattle.x5_model_right.proofs.Whole.{requests_are_right}
use Rattle.x5_model_handed.proofs.Induction.{any_is_right}
use Rattle.x5_model_settled.specs.Settled.{HasAgent, LinesAreSettled, RunsAreSettled, LinesAreRight, RunsAreRight, LinesTakeRight, RunsTakeRight, LinesHandleRight, RunsHandleRight}

-- agents stay
pub knowledge_stays : (w : World) (past : List Did) → NoneMoved past → knowledge_by w past ≡ w
knowledge_stays w [] n = refl
knowledge_stays w (d ∷ before) n = by d.deed n.0 (knowledge_stays w before n.1)
  where
    by : (x : Deed) → MovesNone x → knowledge_by w before ≡ w → knowledge_after w before x (knowledge_by w before) ≡ w
    by Nothing m q = q
    by (Outs o) m q = q
    by (Loses reply j) m q = q
    by (Accepts accepted) m q = q
    by (Refreshes f) m q = q
    by (Splits name a) m q = absurd m
    by (Unsplits name) m q = absurd m

pub lines_are_settled : LinesAreSettled
lines_are_settled w past first r described consistent none agent =
    let whole : updates.StandsWhole (record { described = w; past = past }) = lines_stand w past described consistent none in
    record {
      holdings = refl;
      whole = whole;
      by_keys = stand_alike (record { described = w; past = past }) whole;
      copies = copies_always w past described consistent none;
      first = (opening_is_placed (record { described = w; past = past }) first r).0;
      agent = subst (λ (x : World). HasAgent x first) (sym (knowledge_stays w past none)) agent;
      untraced = refl;
    }

pub lines_are_right : LinesAreRight
lines_are_right w past first r described consistent none agent j reply short fresh is =
    requests_are_right (record { described = w; past = past }) first r j reply
    (lines_are_settled w past first r described consistent none agent) short fresh is

-- ---- any message

pub lines_take_right : LinesTakeRight
lines_take_right w past first m described consistent none most j reply is =
    any_is_right (record { described = w; past = past }) first m most j reply (lines_stand w past described consistent none) is

pub lines_handle_right : LinesHandleRight
lines_handle_right w past first m described consistent none agent j reply short fresh is =
    let take = lines_take_right w past first m described consistent none (budget (record { described = w; past = past })) j reply is in
    record {
      sends = record { one = take.one; right = take.right; answers = λ r e. (serves r e).0 };
      whole = λ r e. (serves r e).1;
    }
  where
    serves : (r : Request) → m ≡ opening r
        → AnswersRight (record { described = w; past = past }) first r j reply × Thorough (scene_at (record { described = w; past = past }) first r) j
    serves r e =
        lines_are_right w past first r described consistent none agent j reply
        (subst (λ (x : Chained). length (target_of x.request.body) ≤ 16) e short)
        (subst (λ (x : Chained). (name : Name) → new_name x.request.body ≡ Some name → length name ≤ 16) e fresh)
        (subst (λ (x : Chained). IsRequest (scene_with (record { described = w; past = past }) first x) (budget (record { described = w; past = past })) j reply) e is)

-- ---- runs move no contexts

abbrev pub accepted_deed : Request → List ℕ → Deed
accepted_deed r [] = Nothing
accepted_deed r (a ∷ more) = Accepts (map (λ x. record { agent = x; request = r }) (a ∷ more))

accepts_none_moved : (r : Request) (accepted : List ℕ) → MovesNone (accepted_deed r accepted)
accepts_none_moved r [] = tt
accepts_none_moved r (a ∷ more) = tt

refreshed_none_moved : (o : RefreshOutcome) → MovesNone (refreshed_by o)
refreshed_none_moved (Done f) = tt
refreshed_none_moved Unheard = tt
refreshed_none_moved (Problem n) = tt
refreshed_none_moved (Missed a b) = tt
refreshed_none_moved NotConsistent = tt

pub did_none_move : (command : Command) (block : Block) → MovesNone (did_by command block).deed
did_none_move Blank block = tt
did_none_move (Changes o) block = tt
did_none_move (Drops reply n) block = tt
did_none_move (Asks to r) Silent = tt
did_none_move (Asks to r) Set = tt
did_none_move (Asks to r) (Replies j reply) = accepts_none_moved r (reverse j.accepted)
did_none_move (Asks to r) (Refreshing b) = tt
did_none_move (Asks to r) (Handed by n j reply) = tt
did_none_move (Asks to r) (Rejected raw breach) = tt
did_none_move (Updates number pushes total) Silent = tt
did_none_move (Updates number pushes total) Set = tt
did_none_move (Updates number pushes total) (Replies j reply) = tt
did_none_move (Updates number pushes total) (Refreshing b) = refreshed_none_moved b.outcome
did_none_move (Updates number pushes total) (Handed by n j reply) = tt
did_none_move (Updates number pushes total) (Rejected raw breach) = tt
did_none_move (Hands via to count (Ok m)) Silent = tt
did_none_move (Hands via to count (Ok m)) Set = tt
did_none_move (Hands via to count (Ok m)) (Replies j reply) = tt
did_none_move (Hands via to count (Ok m)) (Refreshing b) = tt
did_none_move (Hands via to count (Ok m)) (Handed by n j reply) = accepts_none_moved m.request (reverse j.accepted)
did_none_move (Hands via to count (Ok m)) (Rejected raw breach) = tt
did_none_move (Hands via to count (Err x)) Silent = tt
did_none_move (Hands via to count (Err x)) Set = tt
did_none_move (Hands via to count (Err x)) (Replies j reply) = tt
did_none_move (Hands via to count (Err x)) (Refreshing b) = tt
did_none_move (Hands via to count (Err x)) (Handed by n j reply) = tt
did_none_move (Hands via to count (Err x)) (Rejected raw breach) = tt

pub run_none_moved : (judge : Judge) (w : World) (commands : List Command) (blocks : List Block) (past : List Did)
    → IsRun judge w commands blocks past → NoneMoved past
run_none_moved judge w commands blocks past begin = tt
run_none_moved judge w commands blocks past (next {commands = cs} {blocks = bs} {past = before} command block run is) =
    (did_none_move command block, run_none_moved judge w cs bs before run)

pub runs_are_settled : (judge : Judge) → RunsAreSettled judge
runs_are_settled judge w commands blocks past first r described consistent run agent =
    lines_are_settled w past first r described consistent (run_none_moved judge w commands blocks past run) agent

pub runs_are_right : (judge : Judge) → RunsAreRight judge
runs_are_right judge w commands blocks past first r described consistent run agent =
    lines_are_right w past first r described consistent (run_none_moved judge w commands blocks past run) agent

pub runs_take_right : (judge : Judge) → RunsTakeRight judge
runs_take_right judge w commands blocks past first m described consistent run =
    lines_take_right w past first m described consistent (run_none_moved judge w commands blocks past run)

pub runs_handle_right : (judge : Judge) → RunsHandleRight judge
runs_handle_right judge w commands blocks past first m described consistent run agent =
    lines_handle_right w past first m described consistent (run_none_moved judge w commands blocks past run) agent
