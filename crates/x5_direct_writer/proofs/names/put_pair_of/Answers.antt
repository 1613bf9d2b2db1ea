-- The type and the text are the components.
use Rattle.std.proofs.Common.{refl}
use Rattle.x5_model.specs.Values as values
use Rattle.x5_model_messages.specs.Terms as terms
use Rattle.x5_model_typed.specs.Nodes as nodes
use Rattle.x5_model_typed.specs.Named as named
use Rattle.x5_direct_writer.proofs.Putting.{by_error, first_fails, second_fails, two_put}
use Rattle.x5_direct_writer.proofs.names.put_pair_of.Goals as goal

pub returns-in_err-put_text : goal.returns-in_err-put_text
returns-in_err-put_text c =
    by_error named.Pair (terms.pair_node (c.args.kind, c.args.text.now)) c.args.out.now c.put_text.new.out c.in_err-put_text.field-0.0 c.from_residual.result
    c.from_residual.ensures.1
    (second_fails named.Pair named.AnyOid named.Value (terms.type_node (values.Known c.args.kind)) (nodes.Text c.args.text.now) (terms.pair_node (c.args.kind, c.args.text.now)) c.in_err-put_text.field-0.0 c.args.out.now
    c.put_text.new.out c.put_text.new.out (λ w. refl) c.in_err-put_text.ensures)

pub returns-in_err-put_known_type : goal.returns-in_err-put_known_type
returns-in_err-put_known_type c =
    by_error named.Pair (terms.pair_node (c.args.kind, c.args.text.now)) c.args.out.now c.put_known_type.new.out c.in_err-put_known_type.field-0.0
    c.from_residual-in_err-put_known_type.result c.from_residual-in_err-put_known_type.ensures.1
    (first_fails named.Pair named.AnyOid named.Value (terms.type_node (values.Known c.args.kind)) (nodes.Text c.args.text.now) (terms.pair_node (c.args.kind, c.args.text.now)) c.in_err-put_known_type.field-0.0 c.put_text.new.out
    c.put_known_type.new.out c.args.out.now c.put_known_type.new.out (λ w. refl) c.in_err-put_known_type.ensures)

pub returns : goal.returns
returns c =
    two_put c.len-behind.result named.Pair named.AnyOid named.Value (terms.type_node (values.Known c.args.kind)) (nodes.Text c.args.text.now) (terms.pair_node (c.args.kind, c.args.text.now)) c.args.out.now c.put_text.new.out
    c.put_known_type.new.out c.enclose.new.out (λ w. refl) c.len-behind.ensures c.in_ok-enclose.ensures c.in_ok-put_text.ensures
    c.in_ok-put_known_type.ensures
