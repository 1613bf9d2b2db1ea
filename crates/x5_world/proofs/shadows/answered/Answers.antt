-- What is read is what was replied, and a problem is one of the format's.
use Rattle.std.proofs.Common.{ℕ, Bool, ap, ◌∙◌}
use Rattle.std.proofs.lemmas.Result.{IfOk-weaker}
use Rattle.x5_ops.specs.JournalViews.{fate_view}
use Rattle.x5_refresh.specs.Outcomes.{start_view}
use Rattle.x5_world.proofs.Arriving.{start_fine}
use Rattle.x5_world.proofs.shadows.answered.Goals as goal

pub replied-requires : goal.replied-requires
replied-requires c =
    let by = c.args.by.now in
    start_fine c.begins-begun.result by.push by.total c.args.problem by.own by.acked (fate_view c.args.first) c.requires
    c.begins-begun.ensures

pub returns : goal.returns
returns c =
    IfOk-weaker c.replied.result _ _
    (λ start same heard number. ap (start_view heard number) same ∙ c.begins-begun.ensures heard number) c.replied.ensures
