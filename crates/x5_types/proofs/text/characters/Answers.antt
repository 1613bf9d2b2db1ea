-- Each cell is a character more, or there is no text: it's cut off, or no character's number.
use Rattle.std.proofs.Common.{◌≡◌, ◌+◌, drop, arith, length-drop, string_bytes}
use Rattle.std.proofs.Common.{true}
use Rattle.x5_model_typed.specs.Leaves as leaves
use Rattle.x5_types.specs.Cells.{encoded}
use Rattle.x5_types.proofs.Cells.{cut_cells, bad_cell, next_text, none_from, size_of_cell}
use Rattle.x5_types.proofs.text.characters.Goals as goal

pub returns-in_default : goal.returns-in_default
returns-in_default c =
    none_from (string_bytes c.loop-at.text) (encoded (leaves.cells (drop c.loop-at.at c.args.octets.now)))
    (encoded (leaves.cells c.args.octets.now)) c.loop-at.invariant.same
    (cut_cells (drop c.loop-at.at c.args.octets.now) c.in_default.ensures
    (omega (arith, length-drop c.loop-at.at c.args.octets.now, c.loop-at-test.true)))

pub returns-then-not-branch : goal.returns-then-not-branch
returns-then-not-branch c =
    none_from (string_bytes c.loop-at.text) (encoded (leaves.cells (drop c.loop-at.at c.args.octets.now)))
    (encoded (leaves.cells c.args.octets.now)) c.loop-at.invariant.same
    (bad_cell c.in-Some.number (drop c.loop-at.at c.args.octets.now) (drop (c.loop-at.at + 4) c.args.octets.now)
    c.in-Some.ensures (cc (c.in_ok-add_character.ensures.0, c.if-not-branch.true)))

pub loop-at-preserved : goal.loop-at-preserved
loop-at-preserved c =
    let is : leaves.is_character c.in-Some.number ≡ true =
    cc (c.in_ok-add_character.ensures.0, c.if-not-branch.false) in
    let added : c.in_ok-add_character.field-0 ≡ true = cc (c.in_ok-add_character.ensures.0, c.if-not-branch.false) in
    record {
      there = size_of_cell c.in-Some.number c.args.octets.now c.loop-at.at (drop (c.loop-at.at + 4) c.args.octets.now)
          c.in-Some.ensures;
      same =
          next_text c.in-Some.number (string_bytes c.loop-at.text) _ (drop c.loop-at.at c.args.octets.now)
          (drop (c.loop-at.at + 4) c.args.octets.now) (encoded (leaves.cells c.args.octets.now)) c.in-Some.ensures
          is (c.in_ok-add_character.ensures.1 added)
          c.loop-at.invariant.same;
    }
