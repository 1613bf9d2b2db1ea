-- An update that its master passes, made ready; and what is committed of it: the context of its target changes, and the
-- change is noted in that context's log with the agent's moment; nothing else does (X.511, section 11; X.525, section
-- 9).
use Rattle.std.specs.Prelude.{◌≡◌, ℕ, map, slice_get, slice_set}
use Rattle.std.specs.declared.option.Option.TheVariants.{Some}
use Rattle.x5_model.specs.Requests.{Request}
use Rattle.x5_model.specs.Values.{key_of}
use Rattle.x5_model_run.specs.Needs.{target_of}
use Rattle.x5_model_serve.specs.Committed.{committed}
use Rattle.x5_ops.specs.declared.knowledge.Step.{Step}
use Rattle.x5_dse.specs.declared.node.NodeId.{NodeId}
use Rattle.x5_dse.specs.Linked.{entries_of}
use Rattle.x5_holdings.specs.Logs.{IsLogged}
use Rattle.x5_holdings.specs.Making.{HasRoom}
use Rattle.x5_holdings.specs.State.{Kept, State, holdings_view}
use Rattle.x5_update.specs.declared.committing.Prepared.{Prepared}
use Rattle.x5_update.specs.Judging.{judged}
use Rattle.x5_update.specs.Plans.{IsPlanOf, IsStepOf, values_in}
use Rattle.x5_update.specs.Seats.{IsSeat}

-- by what the agent holds the plan is the update's, and its context has room for it and for its note
pub record IsPrepared (s : State) (r : Request) (update : Prepared) : Type 0 where
  pub node : NodeId
  pub seat : IsSeat s r (key_of (target_of r.body)) update.own node
  pub plan : IsPlanOf s update.own r.body update.plan (judged (holdings_view s) r)
  pub room : (c : Kept) → slice_get s.own update.own ≡ Some c → HasRoom c 1 (values_in update.plan.change)

pub record IsCommitted (old : State) (r : Request) (new : State) : Type 0 where
  pub place : ℕ
  pub before : Kept
  pub after : Kept
  pub step : Step
  pub was : slice_get old.own place ≡ Some before
  pub new_is : new ≡ record old { own = slice_set old.own place after }
  pub holdings : holdings_view new ≡ committed r (holdings_view old)
  pub told : IsStepOf (entries_of before.nodes.nodes) r.body step
  pub noted : IsLogged before.log (record { moment = old.moment; step = step }) after.log

-- nothing that is held or noted changed, nor the moment, but for room
pub record IsUncommitted (old new : State) : Type 0 where
  pub moment : new.moment ≡ old.moment
  pub holdings : holdings_view new ≡ holdings_view old
  pub bases : map (λ c. c.log.base) new.own ≡ map (λ c. c.log.base) old.own
  pub changes : map (λ c. c.log.changes) new.own ≡ map (λ c. c.log.changes) old.own
  pub copies : new.copies ≡ old.copies
