-- The items from a place on stand before what was there.
use Rattle.std.proofs.Common.{◌≤◌, length, drop, map}
use Rattle.std.specs.declared.result.Result.TheVariants.{Ok}
use Rattle.x5_dapreply.specs.ReplyViews.{told_item}
use Rattle.x5_model_messages.specs.Replies as replies
use Rattle.x5_model_typed.specs.Named as named
use Rattle.x5_direct_writer.specs.PutsOf.{PutsEach}
use Rattle.x5_dspber.proofs.write_trace.put_items.Given as goal

abbrev pub invariant-loop-i : goal.invariant-loop-i
invariant-loop-i l = record {
  inside : l.i ≤ length l.items;
  put : PutsEach {Y = Unit {0}} named.TraceItem (map (λ i. replies.item_node (told_item i)) (drop l.i l.items)) l.fn.out l.out (Ok tt);
}

abbrev pub decreases-loop-i : goal.decreases-loop-i
decreases-loop-i l = l.i
