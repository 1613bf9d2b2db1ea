-- A stored value is written as its value.
use Rattle.std.proofs.Common.{subst}
use Rattle.x5_model.specs.Values as values
use Rattle.x5_model_messages.specs.Terms as terms
use Rattle.x5_model_typed.specs.Named as named
use Rattle.x5_direct_writer.specs.PutsOf.{PutsOf}
use Rattle.x5_direct_writer.proofs.values.put_stored_value.Goals as goal

pub returns : goal.returns
returns c =
    subst (λ (s : values.StoredValue). PutsOf named.Value (terms.value_node s.value) c.args.out.now c.put_value.new.out c.put_value.result)
    c.stored.view_is c.put_value.ensures
