-- The pair at the place is the next.
use Rattle.std.proofs.Common.{◌+◌, List, drop, sym, ◌∙◌, ap}
use Rattle.x5_model.specs.Values.{Pair}
use Rattle.x5_model.specs.Entries.{Entry}
use Rattle.x5_model.specs.Attributes as model
use Rattle.x5_ops.proofs.Dropping.{drop_at}
use Rattle.x5_ops.proofs.entries.without_rdn.Goals as goal

pub loop-pair-preserved : goal.loop-pair-preserved
loop-pair-preserved c =
    ap (λ (e : Entry). model.without_rdn (drop (c.loop-pair.pair-index + 1) c.pairs-pair-items.result.now) c.args.kept.now e) c.in_ok-entry.ensures
    ∙ ap (λ (l : List Pair). model.without_rdn l c.args.kept.now c.loop-pair.entry) (sym (drop_at c.pairs-pair-items.result.now c.loop-pair.pair-index c.pair-item.result c.loop-pair-test.true c.pair-item.is))
    ∙ c.loop-pair.invariant
