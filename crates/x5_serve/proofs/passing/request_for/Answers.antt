-- The three requests are those of the definition, by its two tests.
use Rattle.std.proofs.Common.{false, None, sym, ap, ◌∙◌}
use Rattle.x5_model_run.specs.Chain.{part_body}
use Rattle.x5_ops.specs.RequestViews.{body_view, request_view}
use Rattle.x5_ops.specs.ReferenceViews.{reference_view}
use Rattle.x5_serve.proofs.Values.{as_asked, as_part}
use Rattle.x5_serve.proofs.passing.request_for.Goals as goal

pub returns-then-not-asks_part : goal.returns-then-not-asks_part
returns-then-not-asks_part c = λ names.
    c.in_ok-copy.ensures
    ∙ sym (as_asked (request_view c.args.asked.now) c.args.reference.now.target (reference_view names
    c.args.reference.now)
    (sym c.in_ok-is_probe.ensures ∙ c.if-branch.false) (sym (c.asks_part.ensures names) ∙ c.if-not-asks_part.true))

pub returns : goal.returns
returns c = λ names.
    let body = c.in_ok-part_body.ensures
    ∙ ap (λ w. part_body w c.args.reference.now.target (body_view c.args.asked.now.body)) c.is_wide-wide.ensures in
    (λ i. record {
      controls = record { nocopy = c.args.asked.now.controls.nocopy; nochain = false; size = None };
      body = body i;
    })
    ∙ sym (as_part (request_view c.args.asked.now) c.args.reference.now.target (reference_view names
    c.args.reference.now)
    (sym c.in_ok-is_probe.ensures ∙ c.if-branch.false) (sym (c.asks_part.ensures names) ∙ c.if-not-asks_part.false))
