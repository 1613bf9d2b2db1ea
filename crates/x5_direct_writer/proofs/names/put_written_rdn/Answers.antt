-- The pairs are the members.
use Rattle.std.proofs.Common.{map}
use Rattle.x5_direct_writer.proofs.Naming.{has_written_pairs}
use Rattle.x5_model_messages.specs.Terms as terms
use Rattle.x5_model_typed.specs.Named as named
use Rattle.x5_direct_writer.proofs.Putting.{all_fail, all_put, by_error}
use Rattle.x5_direct_writer.proofs.names.put_written_rdn.Goals as goal

pub returns-in_err-put_written_pairs : goal.returns-in_err-put_written_pairs
returns-in_err-put_written_pairs c =
    by_error named.Rdn (terms.pairs_node c.args.rdn.now) c.args.out.now c.put_written_pairs.new.out c.in_err-put_written_pairs.field-0.0 c.from_residual.result
    c.from_residual.ensures.1
    (all_fail 17 named.Rdn named.Pair (map terms.pair_node c.pairs.result.now) (terms.pairs_node c.args.rdn.now) c.in_err-put_written_pairs.field-0.0 c.args.out.now
    c.put_written_pairs.new.out c.put_written_pairs.new.out (has_written_pairs c.args.rdn.now c.pairs.result.now c.pairs.ensures) c.in_err-put_written_pairs.ensures)

pub returns : goal.returns
returns c =
    all_put 17 c.len-behind.result named.Rdn named.Pair (map terms.pair_node c.pairs.result.now) (terms.pairs_node c.args.rdn.now) c.args.out.now c.put_written_pairs.new.out c.enclose.new.out
    (has_written_pairs c.args.rdn.now c.pairs.result.now c.pairs.ensures) c.len-behind.ensures c.in_ok-enclose.ensures c.in_ok-put_written_pairs.ensures
