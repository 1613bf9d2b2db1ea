-- The chaining arguments and the argument stand in the element.
use Rattle.x5_dspber.specs.ChainedViews.{told_chained}
use Rattle.x5_dspber.proofs.ChainedWritten.{argument_lost, carried_put, chaining_lost}
use Rattle.x5_dspber.proofs.write_chained.put_carried.Goals as goal

pub returns-in_err-put_argument : goal.returns-in_err-put_argument
returns-in_err-put_argument c =
    argument_lost (told_chained c.args.message.now) c.in_err-put_argument.field-0.0 c.args.out.now c.put_argument.new.out
    c.args.out.now c.put_argument.new.out c.from_residual.result c.from_residual.ensures.1 c.in_err-put_argument.ensures

pub returns-in_err-put_chaining : goal.returns-in_err-put_chaining
returns-in_err-put_chaining c =
    chaining_lost (told_chained c.args.message.now) c.in_err-put_chaining.field-0.0 c.put_argument.new.out
    c.put_chaining.new.out c.args.out.now c.put_chaining.new.out c.from_residual-in_err-put_chaining.result
    c.from_residual-in_err-put_chaining.ensures.1 c.in_err-put_chaining.ensures

pub returns : goal.returns
returns c =
    carried_put (told_chained c.args.message.now) c.len-behind.result c.args.out.now c.put_argument.new.out
    c.put_chaining.new.out c.enclose.new.out c.len-behind.ensures c.in_ok-enclose.ensures c.in_ok-put_argument.ensures
    c.in_ok-put_chaining.ensures
