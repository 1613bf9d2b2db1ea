-- The first attribute that is repeated gives the refusal.
use Rattle.std.proofs.Common.{Some, ap, ◌∙◌}
use Rattle.x5_ops.proofs.Refusing.{repeats_stop, repeats_step}
use Rattle.x5_ops.proofs.statics.attribute_repeats.Goals as goal

pub returns-then-branch : goal.returns-then-branch
returns-then-branch c =
    ap Some c.in_ok-refusal.ensures
    ∙ repeats_stop c.args.attributes.now c.loop-i.i c.index-attributes-i.result _ c.loop-i-test.true c.index-attributes-i.is c.loop-i.invariant c.in_ok-is_repeated.field-0 c.if-branch.true c.in_ok-is_repeated.ensures

pub loop-i-preserved : goal.loop-i-preserved
loop-i-preserved c =
    repeats_step c.args.attributes.now c.loop-i.i c.index-attributes-i.result _ c.loop-i-test.true c.index-attributes-i.is c.loop-i.invariant c.in_ok-is_repeated.field-0 c.if-branch.false c.in_ok-is_repeated.ensures
