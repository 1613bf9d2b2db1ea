-- The value at the place comes before those behind it.
use Rattle.std.proofs.Common.{sym, ap, ◌∙◌, arith}
use Rattle.x5_model.specs.Words.{insert_sorted}
use Rattle.x5_model.specs.Attributes.{value_below}
use Rattle.x5_syntax.specs.ValueView.{value_view}
use Rattle.x5_syntax.specs.declared.values.Value.{Value}
use Rattle.x5_ops.proofs.Offering.{stored_one, stored_none}
use Rattle.x5_ops.proofs.changes.stored_values.Goals as goal

pub loop-left-preserved-in-Continue-branch-4 : goal.loop-left-preserved-in-Continue-branch-4
loop-left-preserved-in-Continue-branch-4 c = (
  omega arith,
  c.in_ok-insert_value.ensures
      ∙ ap (λ (v : Value). insert_sorted value_below (record { value = value_view v; normal = c.in-Some.normal }) c.loop-left.stored.items) c.in_ok-value.ensures
      ∙ ap (insert_sorted value_below (record { value = value_view c.index-values-left.result; normal = c.in-Some.normal })) c.loop-left.invariant.1
      ∙ sym (stored_one c.args.kind c.args.values.now c.loop-left.left c.index-values-left.result c.in-Some.normal c.loop-left-test.true c.loop-left.invariant.0 c.index-values-left.is (sym c.in-Some.is ∙ c.in_ok-normal.ensures)),
)

pub loop-left-preserved : goal.loop-left-preserved
loop-left-preserved c = (
  omega arith,
  c.loop-left.invariant.1
      ∙ sym (stored_none c.args.kind c.args.values.now c.loop-left.left c.index-values-left.result c.loop-left-test.true c.loop-left.invariant.0 c.index-values-left.is (sym c.in_default.is ∙ c.in_ok-normal.ensures)),
)
