-- The number is one octet.
use Rattle.x5_ops.specs.ReferenceViews.{kind_view}
use Rattle.x5_dspber.proofs.ChainedWritten.{kind_put}
use Rattle.x5_dspber.proofs.write_chained.put_kind.Goals as goal

pub returns : goal.returns
returns c =
    kind_put (kind_view c.args.kind) c.number.result c.args.out.now c.put_all.new.self c.number.ensures
    c.in_ok-put_all.ensures
