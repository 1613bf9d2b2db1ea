-- The types are put from the last to the first.
use Rattle.std.proofs.Common.{arith, map}
use Rattle.x5_model_messages.specs.Terms.{type_node}
use Rattle.x5_model_typed.specs.Named as named
use Rattle.x5_syntax.specs.TypeView.{type_view}
use Rattle.x5_direct_writer.proofs.Putting.{each_error, each_fails, end_put, more_put, start_put}
use Rattle.x5_dapber.proofs.write_arguments.put_types.Goals as goal

pub loop-i-init : goal.loop-i-init
loop-i-init c = record {
  inside = omega arith;
  put = start_put named.AnyOid (λ k. type_node (type_view k)) c.args.kinds.now c.args.out.now;
}

pub loop-i-preserved : goal.loop-i-preserved
loop-i-preserved c = record {
  inside = omega (arith, c.loop-i.invariant.inside);
  put =
      more_put named.AnyOid (λ k. type_node (type_view k)) c.args.kinds.now c.loop-i.i c.index-kinds-i.result c.args.out.now
      c.loop-i.out c.put_type.new.out c.loop-i.invariant.inside c.loop-i-test.true c.index-kinds-i.is
      c.loop-i.invariant.put c.in_ok-put_type.ensures;
}

pub returns-in_err-put_type : goal.returns-in_err-put_type
returns-in_err-put_type c =
    each_error named.AnyOid (map (λ k. type_node (type_view k)) c.args.kinds.now) c.args.out.now c.put_type.new.out
    c.in_err-put_type.field-0.0 c.from_residual.result c.from_residual.ensures.1
    (each_fails named.AnyOid (λ k. type_node (type_view k)) c.args.kinds.now c.loop-i.i c.index-kinds-i.result
    c.in_err-put_type.field-0.0 c.args.out.now c.loop-i.out c.put_type.new.out c.put_type.new.out c.loop-i.invariant.inside
    c.loop-i-test.true c.index-kinds-i.is c.in_err-put_type.ensures)

pub returns : goal.returns
returns c =
    end_put named.AnyOid (λ k. type_node (type_view k)) c.args.kinds.now c.loop-i.i c.args.out.now c.loop-i.out
    (omega (arith, c.loop-i-test.false)) c.loop-i.invariant.put
