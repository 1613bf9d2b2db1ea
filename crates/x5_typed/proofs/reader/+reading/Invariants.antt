-- Reading ends since each element is read from a later place: five steps to each octet that is left.
use Rattle.std.proofs.Common.{◌≤◌, ◌+◌, ◌-◌, ◌*◌, ℕ, List, length}
use Rattle.x5_ber.specs.Reading.{Stands}
use Rattle.x5_model_typed.specs.Trees as trees
use Rattle.x5_types.specs.FormView.{around, table_in}
use Rattle.x5_typed.specs.Ahead.{Ahead}
use Rattle.x5_typed.specs.Places.{EndsAt}
use Rattle.x5_typed.specs.StateView.{state_view, IsState}
use Rattle.x5_typed.proofs.reader.+reading.Given as goal

abbrev pub decreases-read_element : goal.decreases-read_element
decreases-read_element l = 5 * (length l.bytes.now - l.at)

abbrev pub decreases-read_member : goal.decreases-read_member
decreases-read_member l = 5 * (length l.bytes.now - l.at) + 1

abbrev pub decreases-read_members : goal.decreases-read_members
decreases-read_members l = 5 * (length l.bytes.now - l.start) + 2

abbrev pub decreases-read_content : goal.decreases-read_content
decreases-read_content l = 5 * (length l.bytes.now - l.place) + 3

abbrev pub decreases-read_open : goal.decreases-read_open
decreases-read_open l = 5 * (length l.bytes.now - l.head.content) + 4

abbrev pub invariant-read_members-loop-alloc : goal.invariant-read_members-loop-alloc
invariant-read_members-loop-alloc l = record {
  kept : IsState l.state;
  order : l.start ≤ l.place;
  inside : l.place ≤ length l.bytes;
  ahead : (depth : ℕ) (ts : trees.Trees) (octets : List ℕ) → trees.LieAll depth l.start ts octets
      → Stands l.bytes l.start octets
      → EndsAt l.bytes l.end (l.start + length octets)
      → Ahead (table_in l.surroundings) l.bytes depth l.start ts octets (state_view (around l.surroundings) l.fn.state) l.place
      (state_view (around l.surroundings) l.state);
}

abbrev pub decreases-read_members-loop-alloc : goal.decreases-read_members-loop-alloc
decreases-read_members-loop-alloc l = length l.bytes - l.place
