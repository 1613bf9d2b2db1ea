-- The octets kept are the first of all that were taken, by cases on the count: where there is no room nothing is
-- copied, else as much of the piece as there is room for.
use Rattle.xdir.proofs.Keeping.{kept_all, kept_more}
use Rattle.xdir.proofs.told.keep.Goals as goal

pub returns-then-count-ge-KEPT : goal.returns-then-count-ge-KEPT
returns-then-count-ge-KEPT c =
    kept_all c.args.first.now c.args.piece.now c.args.count c.told-first c.if-count-ge-KEPT.true

pub returns : goal.returns
returns c =
    kept_more c.args.first.now c.args.piece.now c.copy_from_slice.new.self _ c.args.count c.min-taken.result c.told-first
    c.if-count-ge-KEPT.false c.min-taken.ensures c.copy_from_slice.ensures.after
