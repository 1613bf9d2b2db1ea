-- A refresh by an agreement, by what the network has: what its supplier sends or tells, what is said of it, and how the
-- network is then (X.525, sections 9 to 12).
use Rattle.std.specs.Prelude.{◌≡◌, ℕ, ◌+◌, ◌≤◌, ◌&&◌, Bool, true, false, if◌then◌else◌}
use Rattle.std.specs.Prelude.{List, [], ◌∷◌, ◌++◌, length, map}
use Rattle.std.specs.Prelude.{slice_get, slice_set, ⊤, ◌==◌}
use Rattle.std.specs.List.{find, list_all}
use Rattle.std.specs.declared.option.Option.{Option}
use Rattle.std.specs.declared.option.Option.TheVariants.{None, Some}
use Rattle.std.specs.declared.result.Result.{Result}
use Rattle.std.specs.declared.result.Result.TheVariants.{Ok, Err}
use Rattle.x5_model.specs.Values.{key_of}
use Rattle.x5_model_tree.specs.World.{Agreement}
use Rattle.x5_model_run.specs.Network.{Fate, fate_of}
use Rattle.x5_model_run.specs.Refresh as refresh
use Rattle.x5_model_run.specs.Refresh.{RefreshBlock, RefreshOutcome, Done, Unheard, Problem, Missed, NotConsistent}
use Rattle.x5_model_run.specs.Refresh.{UpdateShadow, ended, invalid_agreement_id}
use Rattle.x5_model_known.specs.Holding.{references_name, nssrs_name}
use Rattle.x5_model_known.specs.Counted.{references_counted, nssrs_counted}
use Rattle.x5_model_fitting.specs.Names.{Each}
use Rattle.x5_model_fitting.specs.Requests.{CountWithin}
use Rattle.x5_model_limits.specs.Holding.{BoundedEntry, BoundedSpecific}
use Rattle.x5_model_limits.specs.Steps.{BoundedStep}
use Rattle.x5_ops.specs.KnowledgeViews.{specific_view, nssr_view}
use Rattle.x5_ops.specs.RefreshViews.{shadows_view, refreshed_view}
use Rattle.x5_ops.specs.declared.journal.Line.{Line}
use Rattle.x5_ops.specs.declared.knowledge.Content.{Content}
use Rattle.x5_holdings.specs.State.{State, holdings_view}
use Rattle.x5_consume.specs.Steps.{steps_view}
use Rattle.x5_consume.specs.Taken.{IsTaken, stamp_at}
use Rattle.x5_refresh.specs.declared.brought.Brought.{Brought}
use Rattle.x5_refresh.specs.declared.brought.Brought.TheVariants.{Total, Steps}
use Rattle.x5_refresh.specs.Sent.{CanAccept, IsRefreshed, count_in, supply_of}
use Rattle.x5_refresh.specs.Course.{unsent, stopped, finished, opening, line_of, unless_ended}
use Rattle.x5_world.specs.Answered.{line_names_agents}
use Rattle.x5_world.specs.LogViews.{logs_view}
use Rattle.x5_world.specs.State.{Net, holdings_in, logs_in}
use Rattle.x5_world.specs.declared.refreshing.Supplied.{Supplied}
use Rattle.x5_world.specs.declared.refreshing.Supplied.TheVariants.{Sent, Refused}
use Rattle.x5_world.specs.declared.refreshing.Way.{Way}
use Rattle.x5_world.specs.declared.refreshment.Refreshment.{Refreshment}

-- ---- the supplier

-- what is sent, or the supplier's problem
abbrev pub sent_view : Supplied → Result (ℕ × Brought) ℕ
sent_view (Sent stamp brought) = Ok (stamp, brought)
sent_view (Refused problem) = Err problem

abbrev pub problem_in : Supplied → Option ℕ
problem_in (Sent stamp brought) = None
problem_in (Refused problem) = Some problem

abbrev pub stamp_in : Supplied → ℕ
stamp_in (Sent stamp brought) = stamp
stamp_in (Refused problem) = 0

abbrev pub count_of : Supplied → ℕ
count_of (Sent stamp brought) = count_in brought
count_of (Refused problem) = 0

-- It is what the agreement's supplier sends at the line's moment, by what it holds and keeps of changes.
pub record IsSupplied (n : Net) (g : Agreement) (total : Bool) (last : Option ℕ) (sent : Supplied) : Type 0 where
  pub state : State
  pub holds : holdings_view state ≡ holdings_in n g.supplier
  pub logs : logs_view state ≡ logs_in n g.supplier
  pub moment : state.moment ≡ n.line + 1
  pub sent_is : supply_of state (key_of g.context) total last ≡ sent_view sent

-- the references that come along name agents, and pins that an octet counts
abbrev pub is_known_in : ℕ → Brought → Bool
is_known_in agents (Total content) =
    (references_name agents (map specific_view content.specific) && nssrs_name agents (map nssr_view content.nssr))
    && (references_counted (map specific_view content.specific) && nssrs_counted (map nssr_view content.nssr))
is_known_in agents (Steps steps) = true

abbrev pub IsKnown : ℕ → Supplied → Type 0
IsKnown agents (Sent stamp brought) = is_known_in agents brought ≡ true
IsKnown agents (Refused problem) = ⊤

-- What is sent is within the limits of messages: the entries and the pins of references, or the steps; and so is the
-- moment as of which the supplier has the context. Of an NSSR nothing but its agents is carried.
pub record IsBoundedContent (content : Content) : Type 0 where
  pub entries : Each BoundedEntry content.entries
  pub references : Each BoundedSpecific (map specific_view content.specific)

abbrev pub IsBoundedIn : Brought → Type 0
IsBoundedIn (Total content) = IsBoundedContent content
IsBoundedIn (Steps steps) = Each BoundedStep (steps_view steps)

abbrev pub IsBounded : Supplied → Type 0
IsBounded (Sent stamp brought) = CountWithin stamp × IsBoundedIn brought
IsBounded (Refused problem) = ⊤

-- ---- the consumer

-- something is sent, and can be taken
abbrev pub CanBring : Net → Agreement → Supplied → Type 0
CanBring n g (Sent stamp brought) =
    CanAccept (holdings_in n g.consumer) (key_of g.context) brought × (is_known_in (length n.names) brought ≡ true)
    × CountWithin stamp × IsBoundedIn brought
CanBring n g (Refused problem) = ⊥

-- the consumer's copy becomes what was brought, and nothing else changes
pub record IsTakenAt (old : Net) (g : Agreement) (stamp : ℕ) (brought : Brought) (new : Net) : Type 0 where
  pub before : State
  pub after : State
  pub holds : slice_get old.agents g.consumer ≡ Some (holdings_view before)
  pub logs : slice_get old.logs g.consumer ≡ Some (logs_view before)
  pub taken : IsTaken before (key_of g.context) (IsRefreshed brought stamp) after
  pub new_is : new ≡ record old {
    agents = slice_set old.agents g.consumer (holdings_view after);
    logs = slice_set old.logs g.consumer (logs_view after);
  }

-- the supplier knows that it was taken
abbrev pub acknowledging : Bool → ℕ → ℕ → Net → Net
acknowledging true place stamp n = record n { acked = slice_set n.acked place (Some stamp) }
acknowledging false place stamp n = n

pub record IsBroughtAt (old : Net) (g : Agreement) (place : ℕ) (sent : Supplied) (heard : Bool) (new : Net) : Type 0
  where
    pub stamp : ℕ
    pub brought : Brought
    pub sent_is : sent ≡ Sent stamp brought
    pub taken : Net
    pub taken_is : IsTakenAt old g stamp brought taken
    pub new_is : new ≡ acknowledging heard place stamp taken

-- how the network is then: where nothing was taken, as before
abbrev pub IsLeft : Net → Agreement → ℕ → Supplied → RefreshOutcome → Net → Type 0
IsLeft old g place sent (Done f) new = IsBroughtAt old g place sent f.acknowledged new
IsLeft old g place sent Unheard new = new ≡ old
IsLeft old g place sent (Problem n) new = new ≡ old
IsLeft old g place sent (Missed own acked) new = new ≡ old
IsLeft old g place sent NotConsistent new = new ≡ old

-- ---- its messages, and what became of it

abbrev pub block_of : List (List ℕ) → Agreement → Refreshment → RefreshBlock
block_of names g r = ended (shadows_view names r.lines) (refreshed_view r.heard g.number r.became)

-- each line is a message of a refresh between agents, and they are no more than so many
pub record AreMessages (names : List (List ℕ)) (most : ℕ) (lines : List Line) : Type 0 where
  pub few : length lines ≤ most
  pub all : length (shadows_view names lines) ≡ length lines
  pub named : list_all (line_names_agents names) lines ≡ true

-- what becomes of its first message, and of its last one
abbrev pub first_fate : Net → Agreement → Bool → Fate
first_fate n g true = fate_of n.network (n.sent + 1) (Some g.supplier) g.consumer
first_fate n g false = fate_of n.network (n.sent + 1) (Some g.consumer) g.supplier

abbrev pub last_fate : Net → Agreement → Fate
last_fate n g = fate_of n.network (n.sent + 2) (Some g.supplier) g.consumer

-- behind its last message
abbrev pub last_block : Agreement → Bool → Supplied → List refresh.ShadowLine → Fate → RefreshBlock
last_block g total sent lines last =
    ended (lines ++ line_of g UpdateShadow last ∷ []) (finished total g.number (stamp_in sent) (count_of sent) last)

-- from its first message on
abbrev pub opened_block : Net → Way → Supplied → RefreshBlock
opened_block n by sent =
    unless_ended (stopped by.push by.total (problem_in sent) by.own by.acked (first_fate n by.agreement by.push))
    (line_of by.agreement (opening by.push) (first_fate n by.agreement by.push) ∷ [])
    (last_block by.agreement by.total sent
    (line_of by.agreement (opening by.push) (first_fate n by.agreement by.push) ∷ []) (last_fate n by.agreement))

-- the whole
abbrev pub whole_block : Net → Way → Supplied → RefreshBlock
whole_block n by sent = unless_ended (unsent by.push (problem_in sent)) [] (opened_block n by sent)

-- the moment from which the supplier goes on
abbrev pub last_of : Way → Option ℕ
last_of by = if by.push then by.acked else by.own

-- it looks at the agreement of its place, with the moment of the consumer's copy and the last that was acknowledged
pub record IsWay (n : Net) (by : Way) : Type 0 where
  pub there : slice_get n.agreements by.place ≡ Some by.agreement
  pub own : by.own ≡ stamp_at (holdings_in n by.agreement.consumer) (key_of by.agreement.context)
  pub acked : slice_get n.acked by.place ≡ Some by.acked

-- A refresh by the agreement of a place: its messages and what became of it are the whole course, and the network is
-- left so.
pub record IsDoneAt (old : Net) (place : ℕ) (push total : Bool) (r : Refreshment) (new : Net) : Type 0 where
  pub by : Way
  pub place_is : by.place ≡ place
  pub push_is : by.push ≡ push
  pub total_is : by.total ≡ total
  pub way : IsWay old by
  pub sent : Supplied
  pub supplied : IsSupplied old by.agreement by.total (last_of by) sent
  pub block : block_of old.names by.agreement r ≡ whole_block old by sent
  pub left : IsLeft old by.agreement by.place sent (refreshed_view r.heard by.agreement.number r.became) new

-- by no agreement
pub record IsInvalid (old : Net) (number : ℕ) (r : Refreshment) (new : Net) : Type 0 where
  pub none : find (λ g. g.number == number) old.agreements ≡ None
  pub lines : r.lines ≡ []
  pub became : refreshed_view r.heard number r.became ≡ Problem invalid_agreement_id
  pub same : new ≡ old

-- by the agreement of a number
pub record IsDoneBy (old : Net) (number : ℕ) (push total : Bool) (r : Refreshment) (new : Net) : Type 0 where
  pub place : ℕ
  pub agreement : Agreement
  pub found : find (λ g. g.number == number) old.agreements ≡ Some agreement
  pub there : slice_get old.agreements place ≡ Some agreement
  pub done : IsDoneAt old place push total r new

-- what agents hold, what they keep of changes, and what was acknowledged aside nothing changes
abbrev pub OnlyHeld : Net → Net → Type 0
OnlyHeld old new = new ≡ record old { agents = new.agents; logs = new.logs; acked = new.acked }
