-- The target has its place, where the plan and the probe are made.
use Rattle.std.proofs.Common.{◌≡◌, ℕ, ◌<◌, true, List, length, sym, ap, subst, ◌∙◌}
use Rattle.x5_model.specs.Keys.{Key}
use Rattle.x5_model.specs.Values.{key_of}
use Rattle.x5_model.specs.References.{Reference}
use Rattle.x5_model_heard.specs.Told.{name_agents}
use Rattle.x5_ops.specs.ReferenceViews.{chained_view}
use Rattle.x5_model_run.specs.Needs.{target_of}
use Rattle.x5_model_theory.proofs.Stages.{key_length}
use Rattle.x5_ops.specs.RequestViews.{body_view, request_view}
use Rattle.x5_holdings.specs.State.{holdings_view}
use Rattle.x5_holdings.proofs.Holding.{some_within}
use Rattle.x5_update.specs.Seats.{IsSeat}
use Rattle.x5_update.proofs.Doing.{full}
use Rattle.x5_update.proofs.Placing.{target_of_due}
use Rattle.x5_update.proofs.Preparing.{due_here, named_by_target}
use Rattle.x5_update.proofs.Probing.{target_is}
use Rattle.x5_update.proofs.judging.prepare.Goals as goal

pub place_of-place-requires : goal.place_of-place-requires
place_of-place-requires c =
    target_of_due (holdings_view c.args.state.now) (chained_view c.args.names.now c.args.message.now) c.requires.due

pub planned-requires-clause-seat : goal.planned-requires-clause-seat
planned-requires-clause-seat c =
    subst (λ (k : Key). IsSeat c.args.state.now (request_view c.args.message.now.request) k c.place_of-place.result.own c.place_of-place.result.node)
    (sym (target_is (chained_view c.args.names.now c.args.message.now) c.requires.due.fit)) c.place_of-place.ensures

pub held_at-held-requires : goal.held_at-held-requires
held_at-held-requires c =
    some_within c.args.state.now.own c.place_of-place.result.own c.place_of-place.ensures.kept c.place_of-place.ensures.held

pub probe-requires-clause-there : goal.probe-requires-clause-there
probe-requires-clause-there c =
    subst (λ (rs : List Reference). name_agents (length c.args.names.now) rs ≡ true)
    (due_here c.args.state.now (chained_view c.args.names.now c.args.message.now) c.requires.due c.place_of-place.result.own
    c.place_of-place.result.node c.place_of-place.ensures c.in_ok-_plan._plan c.in_ok-_plan.ensures c.held_at-held.result.now c.held_at-held.ensures)
    c.requires.known

pub probe-requires-clause-named : goal.probe-requires-clause-named
probe-requires-clause-named c =
    let m = chained_view c.args.names.now c.args.message.now in
    let l : 0 < length (key_of c.args.message.now.target) = full c.args.state.now (request_view c.args.message.now.request)
    (key_of c.args.message.now.target) c.place_of-place.result.own c.place_of-place.result.node c.place_of-place.ensures in
    named_by_target (body_view c.args.message.now.request.body)
    (subst (λ (n : ℕ). 0 < n)
    (ap length (sym (target_is m c.requires.due.fit)) ∙ key_length (target_of (body_view c.args.message.now.request.body))) l)

pub returns : goal.returns
returns c = record {
  made = c.in_ok-_plan.ensures.made;
  passed = c.in_ok-_plan.ensures.passed;
  due = due_here c.args.state.now (chained_view c.args.names.now c.args.message.now) c.requires.due c.place_of-place.result.own
      c.place_of-place.result.node c.place_of-place.ensures c.in_ok-_plan._plan c.in_ok-_plan.ensures c.held_at-held.result.now c.held_at-held.ensures
      ∙ sym c.in_ok-probe.ensures;
}
