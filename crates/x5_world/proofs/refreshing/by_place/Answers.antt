-- A refresh by the agreement of a place is its whole course, from what is looked at before its first message.
use Rattle.std.proofs.Common.{◌≡◌, ℕ, Bool, false, refl, sym, ap, subst, ◌∙◌, Option, Some, None, Result, Ok, Err, IfOk}
use Rattle.x5_model_run.specs.Refresh.{RefreshOutcome, ended}
use Rattle.x5_model_refreshed.specs.Bringing.{BringsNothing}
use Rattle.x5_ops.specs.RefreshViews.{refreshed_view, shadows_view}
use Rattle.x5_refresh.specs.Course.{unsent}
use Rattle.x5_refresh.specs.Outcomes.{start_view}
use Rattle.x5_world.specs.Refreshes.{IsSound}
use Rattle.x5_world.specs.Refreshing.{IsDoneAt, IsLeft, IsSupplied, IsWay, block_of, last_of, opened_block, problem_in}
use Rattle.x5_world.specs.State.{Net}
use Rattle.x5_world.specs.declared.refreshing.Supplied.{Supplied}
use Rattle.x5_world.specs.declared.refreshing.Way.{Way}
use Rattle.x5_world.specs.declared.refreshment.Refreshment.{Refreshment}
use Rattle.x5_world.proofs.Rounding.{whole_ends, whole_goes_on}
use Rattle.x5_world.proofs.Stopping.{left_as_it_was, unsent_brings, way_agents}
use Rattle.x5_world.proofs.refreshing.by_place.Goals as goal

supplied_so : (n : Net) (by : Way) (total : Bool) (last : Option ℕ) (sent : Supplied) → by.total ≡ total → last ≡ last_of by
    → IsSupplied n by.agreement total last sent → IsSupplied n by.agreement by.total (last_of by) sent
supplied_so n by total last sent e f s =
    subst (λ (b : Bool). IsSupplied n by.agreement b (last_of by) sent) (sym e)
    (subst (λ (l : Option ℕ). IsSupplied n by.agreement total l sent) f s)

goes_on : {E : Type 0} (result : Result Refreshment E) (old mid new : Net) (by : Way) (sent : Supplied) (place : ℕ)
    (push total : Bool) → by.place ≡ place → by.push ≡ push → by.total ≡ total → IsWay old by
    → IsSupplied old by.agreement by.total (last_of by) sent → unsent by.push (problem_in sent) ≡ None → mid ≡ old
    → IfOk result (λ r. block_of mid.names by.agreement r ≡ opened_block mid by sent)
    → IfOk result (λ r. IsLeft mid by.agreement by.place sent (refreshed_view r.heard by.agreement.number r.became) new)
    → IfOk result (λ r. IsDoneAt old place push total r new)
goes_on (Ok r) old mid new by sent place push total at pushed whole way supplied more same block left = record {
  by = by;
  place_is = at;
  push_is = pushed;
  total_is = whole;
  way = way;
  sent = sent;
  supplied = supplied;
  block = subst (λ (n : Net). block_of n.names by.agreement r ≡ opened_block n by sent) same block
      ∙ whole_goes_on old by sent more;
  left = subst (λ (n : Net). IsLeft n by.agreement by.place sent (refreshed_view r.heard by.agreement.number r.became) new)
      same left;
}
goes_on (Err e) old mid new by sent place push total at pushed whole way supplied more same block left = tt

pub supply-requires : goal.supply-requires
supply-requires c =
    (way_agents c.args.world.now c.in_ok-by.by c.requires.sound
    (subst (IsWay c.args.world.now) (sym c.in_ok-by.ensures) c.in_ok-own.ensures.way)).0

pub returns-in-Ended-clause-done : goal.returns-in-Ended-clause-done
returns-in-Ended-clause-done c =
    let old : Net = c.args.world.now in
    let by : Way = c.in_ok-by.by in
    let same : by ≡ c.in_ok-own.own = c.in_ok-by.ensures in
    let pushes : by.push ≡ c.args.push = ap (λ (w : Way). w.push) same ∙ c.in_ok-own.ensures.push in
    let sent : Supplied = c.in_ok-supplied.supplied in
    let r : Refreshment = c.stopped.result in
    let o : RefreshOutcome = refreshed_view false by.agreement.number c.in-Ended.became in
    let stops : unsent by.push (problem_in sent) ≡ Some o =
    (λ i. unsent (pushes i) (sym c.problem_of.ensures i))
    ∙ sym (c.opens.ensures false by.agreement.number)
    ∙ ap (start_view false by.agreement.number) c.in-Ended.is in
    let became : refreshed_view r.heard by.agreement.number r.became ≡ o =
    (λ i. refreshed_view (c.stopped.ensures.2 i) by.agreement.number (c.stopped.ensures.1 i)) in
    record {
      by = by;
      place_is = ap (λ (w : Way). w.place) same ∙ c.in_ok-own.ensures.place;
      push_is = pushes;
      total_is = ap (λ (w : Way). w.total) same ∙ c.in_ok-own.ensures.total;
      way = subst (IsWay old) (sym same) c.in_ok-own.ensures.way;
      sent = sent;
      supplied = supplied_so old by by.total c.last_moment.result sent refl c.last_moment.ensures
          c.in_ok-supplied.ensures.supplied;
      block = (λ i. ended (shadows_view old.names ((c.stopped.ensures.0 ∙ c.new.ensures) i)) (became i))
          ∙ whole_ends old by sent o stops;
      left = left_as_it_was old c.supply.new.self by.agreement by.place sent
          (refreshed_view r.heard by.agreement.number r.became)
          (subst BringsNothing (sym became) (unsent_brings by.push (problem_in sent) o stops)) c.supply.ensures.same;
    }

-- the way at the network behind what the supplier looked up
told-way : (old mid : Net) (own by : Way) → by ≡ own → mid ≡ old → IsWay old own → IsWay mid by
told-way old mid own by same e way = subst (λ (n : Net). IsWay n by) (sym e) (subst (IsWay old) (sym same) way)

pub told-requires-clause-way : goal.told-requires-clause-way
told-requires-clause-way c =
    told-way c.args.world.now c.supply.new.self c.in_ok-own.own c.in_ok-by.by c.in_ok-by.ensures c.supply.ensures.same
    c.in_ok-own.ensures.way

pub told-requires-clause-sound : goal.told-requires-clause-sound
told-requires-clause-sound c = subst IsSound (sym c.supply.ensures.same) c.requires.sound

pub opened-requires-clause-way : goal.opened-requires-clause-way
opened-requires-clause-way c =
    subst (IsWay c.supply.new.self) (sym c.in_ok-way-in-GoesOn.ensures)
    (told-way c.args.world.now c.supply.new.self c.in_ok-own.own c.in_ok-by.by c.in_ok-by.ensures c.supply.ensures.same
    c.in_ok-own.ensures.way)

pub opened-requires-clause-supplied : goal.opened-requires-clause-supplied
opened-requires-clause-supplied c =
    let sent : Supplied = c.in_ok-supplied.supplied in
    let by : Way = c.in_ok-by.by in
    subst (λ (w : Way). IsSupplied c.supply.new.self w.agreement w.total (last_of w) sent) (sym c.in_ok-way-in-GoesOn.ensures)
    (subst (λ (n : Net). IsSupplied n by.agreement by.total (last_of by) sent) (sym c.supply.ensures.same)
    (supplied_so c.args.world.now by by.total c.last_moment.result sent refl c.last_moment.ensures
    c.in_ok-supplied.ensures.supplied))

pub opened-requires-clause-goes_on : goal.opened-requires-clause-goes_on
opened-requires-clause-goes_on c =
    (λ i. unsent ((ap (λ (w : Way). w.push) (c.in_ok-way-in-GoesOn.ensures ∙ c.in_ok-by.ensures) ∙ c.in_ok-own.ensures.push) i)
    (sym c.problem_of.ensures i))
    ∙ sym (c.opens.ensures false 0) ∙ ap (start_view false 0) c.in-GoesOn.is

pub returns-in_ok-way-in-GoesOn-clause-done : goal.returns-in_ok-way-in-GoesOn-clause-done
returns-in_ok-way-in-GoesOn-clause-done c =
    let old : Net = c.args.world.now in
    let by : Way = c.in_ok-way-in-GoesOn.way in
    let same : by ≡ c.in_ok-own.own = c.in_ok-way-in-GoesOn.ensures ∙ c.in_ok-by.ensures in
    let sent : Supplied = c.in_ok-supplied.supplied in
    let first : Way = c.in_ok-by.by in
    goes_on c.opened.result old c.supply.new.self c.opened.new.world by sent c.args.place c.args.push c.args.total
    (ap (λ (w : Way). w.place) same ∙ c.in_ok-own.ensures.place)
    (ap (λ (w : Way). w.push) same ∙ c.in_ok-own.ensures.push)
    (ap (λ (w : Way). w.total) same ∙ c.in_ok-own.ensures.total)
    (subst (IsWay old) (sym same) c.in_ok-own.ensures.way)
    (subst (λ (w : Way). IsSupplied old w.agreement w.total (last_of w) sent) (sym c.in_ok-way-in-GoesOn.ensures)
    (supplied_so old first first.total c.last_moment.result sent refl c.last_moment.ensures
    c.in_ok-supplied.ensures.supplied))
    ((λ i. unsent ((ap (λ (w : Way). w.push) (c.in_ok-way-in-GoesOn.ensures ∙ c.in_ok-by.ensures) ∙ c.in_ok-own.ensures.push) i)
    (sym c.problem_of.ensures i))
    ∙ sym (c.opens.ensures false 0) ∙ ap (start_view false 0) c.in-GoesOn.is)
    c.supply.ensures.same c.opened.ensures.block c.opened.ensures.left
