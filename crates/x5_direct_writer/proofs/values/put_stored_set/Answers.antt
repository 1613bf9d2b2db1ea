-- The attributes are the members.
use Rattle.std.proofs.Common.{ap, map, sym, ◌∙◌}
use Rattle.std.proofs.Common.{refl}
use Rattle.x5_model_messages.specs.Shadows as shadows
use Rattle.x5_model_messages.specs.Terms.{node_of}
use Rattle.x5_model_typed.specs.Named as named
use Rattle.x5_direct_writer.proofs.Putting.{all_fail, all_put, by_error}
use Rattle.x5_direct_writer.proofs.values.put_stored_set.Goals as goal

pub returns-in_err-put_all_stored : goal.returns-in_err-put_all_stored
returns-in_err-put_all_stored c =
    by_error named.Attributes (node_of (map (shadows.stored_node) c.args.attributes.now)) c.args.out.now c.put_all_stored.new.out c.in_err-put_all_stored.field-0.0 c.from_residual.result
    c.from_residual.ensures.1
    (all_fail 17 named.Attributes named.Attribute (map (shadows.stored_node) c.args.attributes.now) (node_of (map (shadows.stored_node) c.args.attributes.now)) c.in_err-put_all_stored.field-0.0 c.args.out.now
    c.put_all_stored.new.out c.put_all_stored.new.out (λ w. refl) c.in_err-put_all_stored.ensures)

pub returns : goal.returns
returns c =
    all_put 17 c.len-behind.result named.Attributes named.Attribute (map (shadows.stored_node) c.args.attributes.now) (node_of (map (shadows.stored_node) c.args.attributes.now)) c.args.out.now c.put_all_stored.new.out c.enclose.new.out
    (λ w. refl) c.len-behind.ensures c.in_ok-enclose.ensures c.in_ok-put_all_stored.ensures
