-- The first change that is refused gives the refusal.
use Rattle.std.proofs.Common.{List, map, refl, sym, ◌∙◌}
use Rattle.std.specs.List.{flat_map}
use Rattle.x5_model.specs.Statics as model
use Rattle.x5_ops.specs.RefusalView.{refusal_view}
use Rattle.x5_ops.specs.RequestViews.{change_view}
use Rattle.x5_ops.specs.declared.requests.Change.{Change}
use Rattle.x5_ops.proofs.Refusing.{refuse_stop, refuse_step}
use Rattle.x5_ops.proofs.statics.changes_refusal.Goals as goal

pub returns-then-is_some : goal.returns-then-is_some
returns-then-is_some c =
    refuse_stop refusal_view (λ (l : List Change). flat_map model.value_refusals (map model.attribute_of (map change_view l))) (λ (x : Change). model.value_refusals (model.attribute_of (change_view x))) (λ x xs. refl)
    c.args.changes.now c.loop-change.change-index c.change-item.result c.in_ok-refusal.refusal _ c.loop-change-test.true c.change-item.is (sym c.is_some.ensures ∙ c.if-is_some.true) c.in_ok-refusal.ensures c.loop-change.invariant

pub loop-change-preserved : goal.loop-change-preserved
loop-change-preserved c =
    refuse_step refusal_view (λ (l : List Change). flat_map model.value_refusals (map model.attribute_of (map change_view l))) (λ (x : Change). model.value_refusals (model.attribute_of (change_view x))) (λ x xs. refl)
    c.args.changes.now c.loop-change.change-index c.change-item.result c.in_ok-refusal.refusal _ c.loop-change-test.true c.change-item.is (sym c.is_some.ensures ∙ c.if-is_some.false) c.in_ok-refusal.ensures c.loop-change.invariant
