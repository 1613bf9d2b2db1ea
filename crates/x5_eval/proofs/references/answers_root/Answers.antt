-- Each of the four things that the definition asks.
use Rattle.std.proofs.Common.{arith, ◌≡◌, false, ap, sym, true, ◌∙◌}
use Rattle.std.specs.Option.{is_none}
use Rattle.x5_ops.specs.ReferenceViews.{chained_view}
use Rattle.x5_holdings.specs.State.{holdings_view}
use Rattle.x5_eval.proofs.Answered.{none_of_some}
use Rattle.x5_eval.proofs.Resting.{root_by, root_unresolved}
use Rattle.x5_eval.proofs.references.answers_root.Goals as goal

pub returns-then-not-resolves : goal.returns-then-not-resolves
returns-then-not-resolves c names some =
    let e : c.resolves.result ≡ false = grind (arith, c.if-not-resolves.true) in
    sym (root_unresolved (holdings_view c.args.state.now) (chained_view names c.args.message.now) (sym (c.resolves.ensures names) ∙ e))

pub returns : goal.returns
returns c names some =
    let e : c.resolves.result ≡ true = grind (arith, c.if-not-resolves.false) in
    let f : c.is_root.result ≡ true = grind (arith, c.if-not-is_root.false) in
    c.is_unknown.ensures
    ∙ root_by (holdings_view c.args.state.now) (chained_view names c.args.message.now) some
    (ap is_none (sym c.superior.ensures) ∙ none_of_some c.superior.result (sym c.is_some.ensures ∙ c.if-is_some.false))
    (sym c.is_root.ensures ∙ f) (sym (c.resolves.ensures names) ∙ e)
