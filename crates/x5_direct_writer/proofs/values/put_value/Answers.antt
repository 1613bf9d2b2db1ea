-- A value is written by its form.
use Rattle.std.proofs.Common.{subst, sym}
use Rattle.x5_model_messages.specs.Terms as terms
use Rattle.x5_model_typed.specs.Named as named
use Rattle.x5_syntax.specs.ValueView.{value_view}
use Rattle.x5_syntax.specs.declared.values.Value.{Value}
use Rattle.x5_direct_writer.specs.PutsOf.{PutsOf}
use Rattle.x5_direct_writer.proofs.values.put_value.Goals as goal

pub returns-in-Text : goal.returns-in-Text
returns-in-Text c =
    subst (λ (v : Value). PutsOf named.Value (terms.value_node (value_view v)) c.args.out.now c.put_text.new.out c.put_text.result)
    (sym c.in-Text.is) c.put_text.ensures

pub returns-in-Oid : goal.returns-in-Oid
returns-in-Oid c =
    subst (λ (v : Value). PutsOf named.Value (terms.value_node (value_view v)) c.args.out.now c.put_oid_value.new.out c.put_oid_value.result)
    (sym c.in-Oid.is) c.put_oid_value.ensures

pub returns-in-Name : goal.returns-in-Name
returns-in-Name c =
    subst (λ (v : Value). PutsOf named.Value (terms.value_node (value_view v)) c.args.out.now c.put_name_value.new.out c.put_name_value.result)
    (sym c.in-Name.is) c.put_name_value.ensures
