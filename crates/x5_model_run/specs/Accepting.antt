-- Which message an update is accepted for (X.518, section 19.1: modification operations; X.511, section 11).
use Rattle.std.specs.Prelude.{ℕ, ◌-◌, Bool, true, not, ◌&&◌, ◌==◌, nat_lt, List, reverse}
use Rattle.std.specs.List.{list_any, list_all, find}
use Rattle.std.specs.declared.option.Option.{Option}
use Rattle.x5_model.specs.Words.{some_and}
use Rattle.x5_model_tree.specs.Ask.{is_update}
use Rattle.x5_model_run.specs.Network.{arrives, is_unheard, is_sent}
use Rattle.x5_model_run.specs.Journal.{Line, Journal, depth, operation_of, some_line, leads_up}
use Rattle.x5_model_run.specs.Needs.{is_unable, due_probes}
use Rattle.x5_model_run.specs.Chain.{Scene, is_probe_line, is_asked}

-- it carries the update
abbrev pub carries_update : Scene → Line → Bool
carries_update s l =
    is_update s.message.request.body && (operation_of l.message.request.body == operation_of s.message.request.body)

-- a line of a probe that isn't heard has the line of this number among those that it goes back to
abbrev pub lacks_probe : Scene → ℕ → Line → List Line → Bool
lacks_probe s number l before =
    is_probe_line s l && (is_unheard l.fate && leads_up (λ x. x.number == number) (λ x. true) (depth l - 1) before)

-- The accepting line of an agent: the first that brought it the update, for which it is able to proceed, and below
-- which each probe was heard.
abbrev pub may_accept : Scene → List Line → ℕ → Line → Bool
may_accept s lines a l =
    (l.receiver == a)
    && (arrives l.fate
    && (carries_update s l && (not (is_unable (s.holdings a) l.message)
    && not (some_line (lacks_probe s l.number) lines))))

abbrev pub accepting : Scene → List Line → ℕ → Option Line
accepting s lines a = find (may_accept s lines a) (reverse lines)

-- each agent that a probe of the accepting line is due to was asked for that line, and heard
abbrev pub is_probed : Scene → List Line → Line → Bool
is_probed s lines o =
    list_all (λ r. list_all (is_asked is_sent lines o.number r) r.agents) (due_probes (s.holdings o.receiver) o.message)

-- the line brings the update once more to an agent that has accepted it, and that answers `changed` at once
abbrev pub is_later : Scene → ℕ → Line → Line → Bool
is_later s a l o = (l.receiver == a) && (nat_lt o.number l.number && carries_update s l)

abbrev pub is_done_before : Scene → Journal → Line → Bool
is_done_before s j l = list_any (λ a. some_and (is_later s a l) (accepting s j.lines a)) j.accepted
