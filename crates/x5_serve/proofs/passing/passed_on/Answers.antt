-- What is carried is the definition's, part by part; and its trace has the agent's own item more, which isn't in it yet.
use Rattle.std.proofs.Common.{ap, ◌∙◌, map}
use Rattle.x5_model_run.specs.Journal.{item_of}
use Rattle.x5_ops.specs.ReferenceViews.{chained_view, item_view, progress_view, kind_view}
use Rattle.x5_serve.proofs.Arriving.{trace_more}
use Rattle.x5_serve.proofs.Limits.{sent_on}
use Rattle.x5_serve.proofs.passing.passed_on.Goals as goal

pub returns-clause-carried : goal.returns-clause-carried
returns-clause-carried c = λ from.
    let trace = ap (map (item_view c.args.names.now)) c.in_ok-longer.ensures
    ∙ trace_more c.args.names.now c.args.message.now.trace c.in_ok-item.item
    (item_of c.args.owner (chained_view c.args.names.now c.args.message.now)) c.in_ok-item.ensures.item in
    λ i. record {
      target = c.in_ok-clone.ensures.cases i;
      progress = progress_view c.args.reference.now.progress;
      kind = kind_view c.args.reference.now.kind;
      exclusions = c.in_ok-copied_rdns.ensures i;
      trace = trace i;
      request = c.in_ok-request_for.ensures c.args.names.now i;
    }

pub returns-clause-sent : goal.returns-clause-sent
returns-clause-sent c =
    sent_on c.args.names.now c.args.owner c.args.message.now c.args.reference.now _ c.in_ok-item.item c.requires.sent
    c.requires.passable c.requires.bounded c.requires.plain c.in_ok-longer.ensures c.in_ok-item.ensures.item
    c.in_ok-item.ensures.named (returns-clause-carried c 0)
