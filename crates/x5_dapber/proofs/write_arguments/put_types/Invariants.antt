-- The types from a place on stand before what was there.
use Rattle.std.proofs.Common.{◌≤◌, length, drop, map}
use Rattle.std.specs.declared.result.Result.TheVariants.{Ok}
use Rattle.x5_model_messages.specs.Terms.{type_node}
use Rattle.x5_model_typed.specs.Named as named
use Rattle.x5_syntax.specs.TypeView.{type_view}
use Rattle.x5_direct_writer.specs.PutsOf.{PutsEach}
use Rattle.x5_dapber.proofs.write_arguments.put_types.Given as goal

abbrev pub invariant-loop-i : goal.invariant-loop-i
invariant-loop-i l = record {
  inside : l.i ≤ length l.kinds;
  put : PutsEach {Y = Unit {0}} named.AnyOid (map (λ k. type_node (type_view k)) (drop l.i l.kinds)) l.fn.out l.out (Ok tt);
}

abbrev pub decreases-loop-i : goal.decreases-loop-i
decreases-loop-i l = l.i
