-- The total refresh stands in its tag.
use Rattle.x5_types.specs.FormView.{world}
use Rattle.x5_dispber.proofs.Totals.{refresh_lost, refresh_put}
use Rattle.x5_dispber.proofs.total.put_refresh.Goals as goal

pub returns-in_err-put_total : goal.returns-in_err-put_total
returns-in_err-put_total c =
    refresh_lost (world c.args.start.now c.args.names.now) c.args.names.now c.args.content.now
    c.in_err-put_total.field-0.0 c.args.out.now c.put_total.new.out c.args.out.now c.put_total.new.out
    c.from_residual.result c.from_residual.ensures.1 c.in_err-put_total.ensures

pub returns : goal.returns
returns c =
    refresh_put (world c.args.start.now c.args.names.now) c.args.names.now c.args.content.now
    c.len-behind.result c.args.out.now c.put_total.new.out c.enclose.new.out c.len-behind.ensures
    c.in_ok-enclose.ensures c.in_ok-put_total.ensures
