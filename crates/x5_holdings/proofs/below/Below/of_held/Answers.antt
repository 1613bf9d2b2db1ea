-- The references of one member more.
use Rattle.std.proofs.Common.{◌≡◌, ◌++◌, List, map, subst}
use Rattle.x5_model.specs.Keys.{Key}
use Rattle.x5_model.specs.Values.{key_of}
use Rattle.x5_ops.specs.declared.knowledge.Specific.{Specific}
use Rattle.x5_holdings.specs.Rows.{numbered}
use Rattle.x5_holdings.specs.Spots.{spots_from}
use Rattle.x5_holdings.specs.State.{Kept}
use Rattle.x5_holdings.proofs.Spotted.{more_pins, more_spots}
use Rattle.x5_holdings.proofs.below.Below.of_held.Goals as goal

pub loop-list-preserved : goal.loop-list-preserved
loop-list-preserved c = record {
  rows = more_pins (λ (x : Kept). x.subordinate) c.args.contexts.now c.loop-list.list c.index-contexts-list.result
      c.loop-list-test.true c.index-contexts-list.is c.loop-list.rows.items c.add_list.new.rows.items
      c.loop-list.invariant.rows
      (subst (λ (l : List Specific). (keys : List Key) → c.loop-list.rows.items ≡ numbered keys →
      c.add_list.new.rows.items ≡ numbered (keys ++ map (λ (k : Specific). key_of k.pin) l)) c.subordinate.ensures
      c.in_ok-add_list.ensures.rows);
  spots = more_spots (λ (x : Kept). x.subordinate) c.args.contexts.now c.loop-list.list c.index-contexts-list.result
      c.loop-list-test.true c.index-contexts-list.is c.loop-list.spots.items c.add_list.new.spots.items
      c.loop-list.invariant.spots
      (subst (λ (l : List Specific). c.add_list.new.spots.items ≡ c.loop-list.spots.items ++ spots_from
      c.loop-list.list 0 l) c.subordinate.ensures c.in_ok-add_list.ensures.spots);
}
