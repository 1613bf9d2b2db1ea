-- One more part is merged at the end.
use Rattle.std.proofs.Common.{ap, ◌∙◌}
use Rattle.x5_serve.specs.Steps.{whole_view}
use Rattle.x5_serve.proofs.Values.{whole_more}
use Rattle.x5_serve.proofs.parts.take_up.Goals as goal

pub returns-in_ok-push-clause-view : goal.returns-in_ok-push-clause-view
returns-in_ok-push-clause-view c = λ names.
    ap (whole_view names) c.in_ok-push.ensures.items
    ∙ whole_more names c.args.parts.now.items c.args.answer c.requires.filled
