-- The value joins the attribute at the type's place, or stands at the end.
use Rattle.std.proofs.Common.{sym, ◌∙◌, ap, map}
use Rattle.std.specs.List.{position}
use Rattle.x5_model.specs.Statics.{same_type}
use Rattle.x5_ops.specs.RequestViews.{attribute_view}
use Rattle.x5_syntax.specs.TypeView.{type_view}
use Rattle.x5_syntax.specs.ValueView.{value_view}
use Rattle.x5_script.proofs.ValueLaws.{at_place, at_end, joined, alone}
use Rattle.x5_script.proofs.operations.put_value.Goals as goal

pub returns-in_ok-push-in-Some : goal.returns-in_ok-push-in-Some
returns-in_ok-push-in-Some c =
    at_place (type_view c.args.kind) (value_view c.args.value) _ c.index_mut-attribute.result.now c.args.attributes.now.items c.in-Some.place
    (sym c.in-Some.is ∙ c.place_of.ensures ∙ ap (position (λ a. same_type (type_view a.kind) (type_view c.args.kind))) c.deref.ensures.value)
    c.index_mut-attribute.ensures.value
    (joined c.index_mut-attribute.result.now.kind c.args.value c.index_mut-attribute.result.now.values c.push.new.self c.in_ok-push-in-Some.ensures.ok)

pub returns-in_ok-push-in-None-2 : goal.returns-in_ok-push-in-None-2
returns-in_ok-push-in-None-2 c =
    ap (map attribute_view) c.in_ok-push-in-None-2.ensures.items
    ∙ at_end (type_view c.args.kind) (value_view c.args.value) _ c.args.attributes.now.items
    (sym c.in-None.is ∙ c.place_of.ensures ∙ ap (position (λ a. same_type (type_view a.kind) (type_view c.args.kind))) c.deref.ensures.value)
    (alone c.args.kind c.args.value c.new-values.result c.push-in-None.new.self c.new-values.ensures c.in_ok-push-in-None.ensures.ok)
