-- The entries from a place on stand before what was there.
use Rattle.std.proofs.Common.{◌≤◌, length, drop, map}
use Rattle.std.specs.declared.result.Result.TheVariants.{Ok}
use Rattle.x5_model_messages.specs.Shadows as shadows
use Rattle.x5_model_typed.specs.Named as named
use Rattle.x5_direct_writer.specs.PutsOf.{PutsEach}
use Rattle.x5_direct_writer.proofs.entries.put_entries.Given as goal

abbrev pub invariant-loop-i : goal.invariant-loop-i
invariant-loop-i l = record {
  inside : l.i ≤ length l.entries;
  put : PutsEach {Y = Unit {0}} named.Entry (map (shadows.entry_node) (drop l.i l.entries)) l.fn.out l.out (Ok tt);
}

abbrev pub decreases-loop-i : goal.decreases-loop-i
decreases-loop-i l = l.i
