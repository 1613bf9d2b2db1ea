-- The values are the members.
use Rattle.std.proofs.Common.{ap, map, sym, ◌∙◌}
use Rattle.std.proofs.Common.{refl}
use Rattle.x5_model_messages.specs.Terms as terms
use Rattle.x5_model_messages.specs.Terms.{node_of}
use Rattle.x5_model_typed.specs.Named as named
use Rattle.x5_direct_writer.proofs.Putting.{all_fail, all_put, by_error}
use Rattle.x5_direct_writer.proofs.values.put_stored_value_set.Goals as goal

pub returns-in_err-put_stored_values : goal.returns-in_err-put_stored_values
returns-in_err-put_stored_values c =
    by_error named.Values (node_of (map (λ v. terms.value_node v.value) c.args.values.now)) c.args.out.now c.put_stored_values.new.out c.in_err-put_stored_values.field-0.0 c.from_residual.result
    c.from_residual.ensures.1
    (all_fail 17 named.Values named.Value (map (λ v. terms.value_node v.value) c.args.values.now) (node_of (map (λ v. terms.value_node v.value) c.args.values.now)) c.in_err-put_stored_values.field-0.0 c.args.out.now
    c.put_stored_values.new.out c.put_stored_values.new.out (λ w. refl) c.in_err-put_stored_values.ensures)

pub returns : goal.returns
returns c =
    all_put 17 c.len-behind.result named.Values named.Value (map (λ v. terms.value_node v.value) c.args.values.now) (node_of (map (λ v. terms.value_node v.value) c.args.values.now)) c.args.out.now c.put_stored_values.new.out c.enclose.new.out
    (λ w. refl) c.len-behind.ensures c.in_ok-enclose.ensures c.in_ok-put_stored_values.ensures
