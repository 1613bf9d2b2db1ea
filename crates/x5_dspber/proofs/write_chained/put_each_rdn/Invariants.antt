-- The RDNs from a place on stand before what was there.
use Rattle.std.proofs.Common.{◌≤◌, length, drop, map}
use Rattle.std.specs.declared.result.Result.TheVariants.{Ok}
use Rattle.x5_model_messages.specs.Terms.{rdn_node}
use Rattle.x5_model_typed.specs.Named as named
use Rattle.x5_direct_writer.specs.PutsOf.{PutsEach}
use Rattle.x5_dspber.proofs.write_chained.put_each_rdn.Given as goal

abbrev pub invariant-loop-i : goal.invariant-loop-i
invariant-loop-i l = record {
  inside : l.i ≤ length l.rdns;
  put : PutsEach {Y = Unit {0}} named.Rdn (map rdn_node (drop l.i l.rdns)) l.fn.out l.out (Ok tt);
}

abbrev pub decreases-loop-i : goal.decreases-loop-i
decreases-loop-i l = l.i
