-- What a list says of entries is put from the last to the first.
use Rattle.std.proofs.Common.{arith, map}
use Rattle.x5_ops.specs.AnswerViews.{sub_view}
use Rattle.x5_model_messages.specs.Replies as replies
use Rattle.x5_model_typed.specs.Named as named
use Rattle.x5_direct_writer.proofs.Putting.{each_error, each_fails, end_put, more_put, start_put}
use Rattle.x5_direct_writer.proofs.answers.put_subs.Goals as goal

pub loop-i-init : goal.loop-i-init
loop-i-init c = record {
  inside = omega arith;
  put = start_put named.Sub (λ e. replies.sub_node (sub_view e)) c.args.subs.now c.args.out.now;
}

pub loop-i-preserved : goal.loop-i-preserved
loop-i-preserved c = record {
  inside = omega (arith, c.loop-i.invariant.inside);
  put =
      more_put named.Sub (λ e. replies.sub_node (sub_view e)) c.args.subs.now c.loop-i.i c.index-subs-i.result c.args.out.now c.loop-i.out
      c.put_sub.new.out c.loop-i.invariant.inside c.loop-i-test.true c.index-subs-i.is c.loop-i.invariant.put
      c.in_ok-put_sub.ensures;
}

pub returns-in_err-put_sub : goal.returns-in_err-put_sub
returns-in_err-put_sub c =
    each_error named.Sub (map (λ e. replies.sub_node (sub_view e)) c.args.subs.now) c.args.out.now c.put_sub.new.out
    c.in_err-put_sub.field-0.0 c.from_residual.result c.from_residual.ensures.1
    (each_fails named.Sub (λ e. replies.sub_node (sub_view e)) c.args.subs.now c.loop-i.i c.index-subs-i.result c.in_err-put_sub.field-0.0
    c.args.out.now c.loop-i.out c.put_sub.new.out c.put_sub.new.out c.loop-i.invariant.inside c.loop-i-test.true
    c.index-subs-i.is c.in_err-put_sub.ensures)

pub returns : goal.returns
returns c =
    end_put named.Sub (λ e. replies.sub_node (sub_view e)) c.args.subs.now c.loop-i.i c.args.out.now c.loop-i.out
    (omega (arith, c.loop-i-test.false)) c.loop-i.invariant.put
