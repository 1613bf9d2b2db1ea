-- The references of one member more, which are the new ones where it is the replaced one.
use Rattle.std.proofs.Common.{◌≡◌, ◌<◌, List, map, length, get_or, slice_set, arith}
use Rattle.std.proofs.lemmas.List.{length-map, length-set}
use Rattle.x5_ops.specs.declared.knowledge.Specific.{Specific}
use Rattle.x5_holdings.specs.State.{CopyKept, brought_references}
use Rattle.x5_holdings.proofs.Replacing.{placed}
use Rattle.x5_holdings.proofs.Spotted.{more_pins, more_spots}
use Rattle.x5_holdings.proofs.below.Below.with_copy.Goals as goal

pub loop-list-preserved : goal.loop-list-preserved
loop-list-preserved c =
    let f : CopyKept → List Specific = λ x. brought_references x.refreshed in
    let xs : List (List Specific) = slice_set (map f c.args.copies.now) c.args.place c.args.references.now in
    let lt : c.loop-list.list < length (slice_set (map f c.args.copies.now) c.args.place c.args.references.now) =
    omega (
      arith,
      c.loop-list-test.true,
      length-set (map f c.args.copies.now) c.args.place c.args.references.now,
      length-map c.args.copies.now f,
    ) in
    let is : c.references_of-these.result.now ≡ get_or xs c.loop-list.list c.references_of-these.result.now =
    placed f c.args.copies.now c.loop-list.list c.args.place c.index-copies-list.result c.args.references.now
    c.loop-list-test.true c.index-copies-list.is c.references_of-these.result.now c.references_of-these.ensures in
    record {
      rows = more_pins (λ (x : List Specific). x) xs c.loop-list.list c.references_of-these.result.now lt is
          c.loop-list.rows.items c.add_list.new.rows.items c.loop-list.invariant.rows c.in_ok-add_list.ensures.rows;
      spots = more_spots (λ (x : List Specific). x) xs c.loop-list.list c.references_of-these.result.now lt is
          c.loop-list.spots.items c.add_list.new.spots.items c.loop-list.invariant.spots c.in_ok-add_list.ensures.spots;
    }
