-- The slice has the attribute's values.
use Rattle.std.proofs.Common.{◌≡◌, List, IfOk, subst}
use Rattle.std.specs.Option.{option_map}
use Rattle.x5_model.specs.Statics as model
use Rattle.x5_model.specs.Words.{first_of}
use Rattle.x5_syntax.specs.TypeView.{type_view}
use Rattle.x5_syntax.specs.declared.values.Value.{Value}
use Rattle.x5_ops.specs.RefusalView.{refusal_view, given_values}
use Rattle.x5_ops.proofs.statics.attribute_refusal.Goals as goal

pub returns : goal.returns
returns c =
    subst (λ (v : List Value). IfOk c.values_refusal.result (λ r. option_map refusal_view r ≡ first_of (model.value_refusals (record { kind = type_view c.args.attribute.now.kind; values = given_values (type_view c.args.attribute.now.kind) v }))))
    c.as_slice.ensures c.values_refusal.ensures
