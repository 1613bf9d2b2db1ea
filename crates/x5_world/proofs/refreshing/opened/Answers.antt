-- Where the course ends behind the first message nothing is left changed; where it goes on what is sent can be taken.
use Rattle.std.proofs.Common.{◌≡◌, Bool, true, List, [], ◌∷◌, refl, sym, ap, ◌∙◌, Some, None}
use Rattle.std.proofs.lemmas.Result.{IfOk-weaker}
use Rattle.x5_model_run.specs.Network.{Fate}
use Rattle.x5_model_run.specs.Refresh.{RefreshOutcome, ended}
use Rattle.x5_ops.specs.declared.journal.Line.{Line}
use Rattle.x5_ops.specs.declared.journal.Refreshed.{Refreshed}
use Rattle.x5_ops.specs.RefreshViews.{refreshed_view, shadows_view}
use Rattle.x5_refresh.specs.Course.{line_of, opening, stopped}
use Rattle.x5_refresh.specs.Outcomes.{start_view}
use Rattle.x5_world.specs.Refreshing.{first_fate, problem_in}
use Rattle.x5_world.specs.State.{Net}
use Rattle.x5_world.specs.declared.refreshing.Way.{Way}
use Rattle.x5_world.proofs.Arriving.{is_sendable}
use Rattle.x5_world.proofs.Rounding.{opened_ends, opened_goes_on}
use Rattle.x5_world.proofs.Stopping.{can_bring, left_as_it_was, stopped_brings}
use Rattle.x5_world.proofs.refreshing.opened.Goals as goal

pub updated-requires-clause-can : goal.updated-requires-clause-can
updated-requires-clause-can c =
    let n : Net = c.args.world.now in
    let by : Way = c.args.by.now in
    let goes : stopped by.push by.total (problem_in c.args.supplied) by.own by.acked (first_fate n by.agreement by.push) ≡ None =
    (λ i. stopped by.push by.total (sym c.problem_of-problem.ensures i) by.own by.acked (sym c.fate_of_first-first.ensures i))
    ∙ sym (c.in_ok-begun.ensures true 0) ∙ ap (start_view true 0) c.in-GoesOn.is in
    can_bring n by c.args.supplied c.requires.sound c.requires.way c.requires.supplied c.requires.known c.requires.bounded c.requires.goes_on goes

pub updated-requires-clause-sendable : goal.updated-requires-clause-sendable
updated-requires-clause-sendable c =
    let n : Net = c.args.world.now in
    let by : Way = c.args.by.now in
    let goes : stopped by.push by.total (problem_in c.args.supplied) by.own by.acked (first_fate n by.agreement by.push) ≡ None =
    (λ i. stopped by.push by.total (sym c.problem_of-problem.ensures i) by.own by.acked (sym c.fate_of_first-first.ensures i))
    ∙ sym (c.in_ok-begun.ensures true 0) ∙ ap (start_view true 0) c.in-GoesOn.is in
    is_sendable c.args.start.now n by c.args.supplied c.requires.sound c.requires.way c.requires.few c.requires.supplied
    c.requires.bounded c.requires.goes_on goes

pub returns-in-Ended-clause-left : goal.returns-in-Ended-clause-left
returns-in-Ended-clause-left c =
    let n : Net = c.args.world.now in
    let by : Way = c.args.by.now in
    let heard : Bool = c.stopped.result.heard in
    let outcome : RefreshOutcome = refreshed_view heard by.agreement.number c.stopped.result.became in
    let first : Fate = first_fate n by.agreement by.push in
    let ends : stopped by.push by.total (problem_in c.args.supplied) by.own by.acked first ≡ Some outcome =
    (λ i. stopped by.push by.total (sym c.problem_of-problem.ensures i) by.own by.acked (sym c.fate_of_first-first.ensures i))
    ∙ sym (c.in_ok-begun.ensures heard by.agreement.number) ∙ ap (start_view heard by.agreement.number) c.in-Ended.is
    ∙ ap (λ (r : Refreshed). Some (refreshed_view heard by.agreement.number r)) (sym c.stopped.ensures.1) in
    left_as_it_was n n by.agreement by.place c.args.supplied outcome
    (stopped_brings by.push by.total (problem_in c.args.supplied) by.own by.acked first outcome ends) refl

pub returns-in-Ended-clause-block : goal.returns-in-Ended-clause-block
returns-in-Ended-clause-block c =
    let n : Net = c.args.world.now in
    let by : Way = c.args.by.now in
    let heard : Bool = c.stopped.result.heard in
    let outcome : RefreshOutcome = refreshed_view heard by.agreement.number c.stopped.result.became in
    let stops : stopped by.push by.total (problem_in c.args.supplied) by.own by.acked (first_fate n by.agreement by.push) ≡ Some outcome =
    (λ i. stopped by.push by.total (sym c.problem_of-problem.ensures i) by.own by.acked (sym c.fate_of_first-first.ensures i))
    ∙ sym (c.in_ok-begun.ensures heard by.agreement.number) ∙ ap (start_view heard by.agreement.number) c.in-Ended.is
    ∙ ap (λ (r : Refreshed). Some (refreshed_view heard by.agreement.number r)) (sym c.stopped.ensures.1) in
    let first : shadows_view n.names c.in_ok-lines.lines
    ≡ line_of by.agreement (opening by.push) (first_fate n by.agreement by.push) ∷ [] =
    c.in_ok-lines.ensures.view
    ∙ ap (λ (f : Fate). line_of by.agreement (opening by.push) f ∷ []) c.fate_of_first-first.ensures in
    ap (λ (ls : List Line). ended (shadows_view n.names ls) outcome) c.stopped.ensures.0
    ∙ opened_ends n by c.args.supplied (shadows_view n.names c.in_ok-lines.lines) first outcome stops

pub returns-in-GoesOn-clause-block : goal.returns-in-GoesOn-clause-block
returns-in-GoesOn-clause-block c =
    let n : Net = c.args.world.now in
    let by : Way = c.args.by.now in
    let goes : stopped by.push by.total (problem_in c.args.supplied) by.own by.acked (first_fate n by.agreement by.push) ≡ None =
    (λ i. stopped by.push by.total (sym c.problem_of-problem.ensures i) by.own by.acked (sym c.fate_of_first-first.ensures i))
    ∙ sym (c.in_ok-begun.ensures true 0) ∙ ap (start_view true 0) c.in-GoesOn.is in
    let first : shadows_view n.names c.in_ok-lines.lines
    ≡ line_of by.agreement (opening by.push) (first_fate n by.agreement by.push) ∷ [] =
    c.in_ok-lines.ensures.view
    ∙ ap (λ (f : Fate). line_of by.agreement (opening by.push) f ∷ []) c.fate_of_first-first.ensures in
    IfOk-weaker c.updated.result _ _
    (λ r block. block ∙ opened_goes_on n by c.args.supplied (shadows_view n.names c.in_ok-lines.lines) first goes)
    c.updated.ensures.block
