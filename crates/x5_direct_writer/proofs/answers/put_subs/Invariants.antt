-- What a list says of entries from a place on stands before what was there.
use Rattle.std.proofs.Common.{◌≤◌, length, drop, map}
use Rattle.std.specs.declared.result.Result.TheVariants.{Ok}
use Rattle.x5_ops.specs.AnswerViews.{sub_view}
use Rattle.x5_model_messages.specs.Replies as replies
use Rattle.x5_model_typed.specs.Named as named
use Rattle.x5_direct_writer.specs.PutsOf.{PutsEach}
use Rattle.x5_direct_writer.proofs.answers.put_subs.Given as goal

abbrev pub invariant-loop-i : goal.invariant-loop-i
invariant-loop-i l = record {
  inside : l.i ≤ length l.subs;
  put : PutsEach {Y = Unit {0}} named.Sub (map (λ e. replies.sub_node (sub_view e)) (drop l.i l.subs)) l.fn.out l.out (Ok tt);
}

abbrev pub decreases-loop-i : goal.decreases-loop-i
decreases-loop-i l = l.i
