-- The first attribute that is refused gives the refusal.
use Rattle.std.proofs.Common.{List, map, refl, sym, ◌∙◌}
use Rattle.std.specs.List.{flat_map}
use Rattle.x5_model.specs.Statics as model
use Rattle.x5_ops.specs.RefusalView.{refusal_view}
use Rattle.x5_ops.specs.RequestViews.{attribute_view}
use Rattle.x5_ops.specs.declared.requests.Attribute.{Attribute}
use Rattle.x5_ops.proofs.Refusing.{refuse_stop, refuse_step}
use Rattle.x5_ops.proofs.statics.attributes_refusal.Goals as goal

pub returns-then-is_some : goal.returns-then-is_some
returns-then-is_some c =
    refuse_stop refusal_view (λ (l : List Attribute). flat_map model.value_refusals (map attribute_view l)) (λ (a : Attribute). model.value_refusals (attribute_view a)) (λ x xs. refl)
    c.args.attributes.now c.loop-attribute.attribute-index c.attribute-item.result c.in_ok-refusal.refusal _ c.loop-attribute-test.true c.attribute-item.is (sym c.is_some.ensures ∙ c.if-is_some.true)
    c.in_ok-refusal.ensures c.loop-attribute.invariant

pub loop-attribute-preserved : goal.loop-attribute-preserved
loop-attribute-preserved c =
    refuse_step refusal_view (λ (l : List Attribute). flat_map model.value_refusals (map attribute_view l)) (λ (a : Attribute). model.value_refusals (attribute_view a)) (λ x xs. refl)
    c.args.attributes.now c.loop-attribute.attribute-index c.attribute-item.result c.in_ok-refusal.refusal _ c.loop-attribute-test.true c.attribute-item.is (sym c.is_some.ensures ∙ c.if-is_some.false)
    c.in_ok-refusal.ensures c.loop-attribute.invariant
