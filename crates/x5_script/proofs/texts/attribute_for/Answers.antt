-- The values that were read are the attribute's.
use Rattle.x5_model_script.specs.Texts.{values_in}
use Rattle.x5_syntax.specs.TypeView.{type_view}
use Rattle.x5_script.proofs.ValueLaws.{attribute_made}
use Rattle.x5_script.proofs.texts.attribute_for.Goals as goal

pub returns-in-Some : goal.returns-in-Some
returns-in-Some c =
    attribute_made c.args.kind c.in-Some.values.items c.from_vec.result (values_in (type_view c.args.kind) c.args.text.now) c.from_vec.ensures
    (rw c.in-Some.is at c.in_ok-values.ensures)
