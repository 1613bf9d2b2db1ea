-- No two contexts that are mastered have one prefix, and no two copies.
use Rattle.std.proofs.Common.{false, true, []}
use Rattle.x5_ops.specs.ReferenceViews.{chained_view}
use Rattle.x5_ops.specs.RequestViews.{request_view, subset_view}
use Rattle.x5_eval.proofs.Coming.{came_to}
use Rattle.x5_eval.proofs.Telling.{ok_by}
use Rattle.x5_eval.proofs.local.walked.Goals as goal

pub walk-requires : goal.walk-requires
walk-requires c = (c.requires.begins []).served

pub returns-clause-entered : goal.returns-clause-entered
returns-clause-entered c =
    ok_by _ _ (λ visits e names.
    came_to c.args.state.now (chained_view names c.args.message.now) (subset_view c.args.subset) c.own.ensures.apart c.copies.ensures.once
    (c.requires.subset names) c.args.begins.now (c.requires.begins names) false visits.entered.items e)
    c.walk.result c.walk.ensures.entered

pub returns-clause-left : goal.returns-clause-left
returns-clause-left c =
    ok_by _ _ (λ visits e names.
    came_to c.args.state.now (chained_view names c.args.message.now) (subset_view c.args.subset) c.own.ensures.apart c.copies.ensures.once
    (c.requires.subset names) c.args.begins.now (c.requires.begins names) true visits.left.items e)
    c.walk.result c.walk.ensures.left
