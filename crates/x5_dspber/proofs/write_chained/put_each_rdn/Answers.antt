-- The RDNs are put from the last to the first.
use Rattle.std.proofs.Common.{arith, map}
use Rattle.x5_model_messages.specs.Terms.{rdn_node}
use Rattle.x5_model_typed.specs.Named as named
use Rattle.x5_direct_writer.proofs.Putting.{each_error, each_fails, end_put, more_put, start_put}
use Rattle.x5_dspber.proofs.write_chained.put_each_rdn.Goals as goal

pub loop-i-init : goal.loop-i-init
loop-i-init c = record {
  inside = omega arith;
  put = start_put named.Rdn rdn_node c.args.rdns.now c.args.out.now;
}

pub loop-i-preserved : goal.loop-i-preserved
loop-i-preserved c = record {
  inside = omega (arith, c.loop-i.invariant.inside);
  put =
      more_put named.Rdn rdn_node c.args.rdns.now c.loop-i.i c.index-rdns-i.result c.args.out.now c.loop-i.out
      c.put_rdn.new.out c.loop-i.invariant.inside c.loop-i-test.true c.index-rdns-i.is c.loop-i.invariant.put
      c.in_ok-put_rdn.ensures;
}

pub returns-in_err-put_rdn : goal.returns-in_err-put_rdn
returns-in_err-put_rdn c =
    each_error named.Rdn (map rdn_node c.args.rdns.now) c.args.out.now c.put_rdn.new.out
    c.in_err-put_rdn.field-0.0 c.from_residual.result c.from_residual.ensures.1
    (each_fails named.Rdn rdn_node c.args.rdns.now c.loop-i.i c.index-rdns-i.result c.in_err-put_rdn.field-0.0
    c.args.out.now c.loop-i.out c.put_rdn.new.out c.put_rdn.new.out c.loop-i.invariant.inside c.loop-i-test.true
    c.index-rdns-i.is c.in_err-put_rdn.ensures)

pub returns : goal.returns
returns c =
    end_put named.Rdn rdn_node c.args.rdns.now c.loop-i.i c.args.out.now c.loop-i.out
    (omega (arith, c.loop-i-test.false)) c.loop-i.invariant.put
