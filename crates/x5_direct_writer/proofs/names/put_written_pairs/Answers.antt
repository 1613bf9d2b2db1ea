-- The pairs are put from the last to the first.
use Rattle.std.proofs.Common.{arith, map}
use Rattle.x5_model_messages.specs.Terms as terms
use Rattle.x5_model_typed.specs.Named as named
use Rattle.x5_direct_writer.proofs.Putting.{each_error, each_fails, end_put, more_put, start_put}
use Rattle.x5_direct_writer.proofs.names.put_written_pairs.Goals as goal

pub loop-i-init : goal.loop-i-init
loop-i-init c = record {
  inside = omega arith;
  put = start_put named.Pair (terms.pair_node) c.args.pairs.now c.args.out.now;
}

pub loop-i-preserved : goal.loop-i-preserved
loop-i-preserved c = record {
  inside = omega (arith, c.loop-i.invariant.inside);
  put =
      more_put named.Pair (terms.pair_node) c.args.pairs.now c.loop-i.i c.index-pairs-i.result c.args.out.now c.loop-i.out
      c.put_written_pair.new.out c.loop-i.invariant.inside c.loop-i-test.true c.index-pairs-i.is c.loop-i.invariant.put
      c.in_ok-put_written_pair.ensures;
}

pub returns-in_err-put_written_pair : goal.returns-in_err-put_written_pair
returns-in_err-put_written_pair c =
    each_error named.Pair (map (terms.pair_node) c.args.pairs.now) c.args.out.now c.put_written_pair.new.out
    c.in_err-put_written_pair.field-0.0 c.from_residual.result c.from_residual.ensures.1
    (each_fails named.Pair (terms.pair_node) c.args.pairs.now c.loop-i.i c.index-pairs-i.result c.in_err-put_written_pair.field-0.0
    c.args.out.now c.loop-i.out c.put_written_pair.new.out c.put_written_pair.new.out c.loop-i.invariant.inside c.loop-i-test.true
    c.index-pairs-i.is c.in_err-put_written_pair.ensures)

pub returns : goal.returns
returns c =
    end_put named.Pair (terms.pair_node) c.args.pairs.now c.loop-i.i c.args.out.now c.loop-i.out
    (omega (arith, c.loop-i-test.false)) c.loop-i.invariant.put
