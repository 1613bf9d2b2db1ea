-- The RDNs are the members.
use Rattle.std.proofs.Common.{map}
use Rattle.x5_direct_writer.proofs.Naming.{has_written_rdns}
use Rattle.x5_model_messages.specs.Terms as terms
use Rattle.x5_model_typed.specs.Named as named
use Rattle.x5_direct_writer.proofs.Putting.{all_fail, all_put, by_error}
use Rattle.x5_direct_writer.proofs.names.put_name_value.Goals as goal

pub returns-in_err-put_written_rdns : goal.returns-in_err-put_written_rdns
returns-in_err-put_written_rdns c =
    by_error named.Value (terms.name_value_node c.args.name.now) c.args.out.now c.put_written_rdns.new.out c.in_err-put_written_rdns.field-0.0 c.from_residual.result
    c.from_residual.ensures.1
    (all_fail 16 named.Value named.Rdn (map terms.pairs_node c.rdns.result.now) (terms.name_value_node c.args.name.now) c.in_err-put_written_rdns.field-0.0 c.args.out.now
    c.put_written_rdns.new.out c.put_written_rdns.new.out (has_written_rdns c.args.name.now c.rdns.result.now c.rdns.ensures) c.in_err-put_written_rdns.ensures)

pub returns : goal.returns
returns c =
    all_put 16 c.len-behind.result named.Value named.Rdn (map terms.pairs_node c.rdns.result.now) (terms.name_value_node c.args.name.now) c.args.out.now c.put_written_rdns.new.out c.enclose.new.out
    (has_written_rdns c.args.name.now c.rdns.result.now c.rdns.ensures) c.len-behind.ensures c.in_ok-enclose.ensures c.in_ok-put_written_rdns.ensures
