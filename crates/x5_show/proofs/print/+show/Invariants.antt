-- Members lie between the header's end and the next element.
use Rattle.std.proofs.Common.{◌≡◌, ℕ, ◌+◌, ◌-◌, ◌*◌, ◌≤◌, List, length}
use Rattle.std.specs.Prelude.{string_bytes}
use Rattle.x5_model_octets.specs.Elements.{Elements, SpellsAll}
use Rattle.x5_ber.specs.Reading.{Stands}
use Rattle.x5_show.proofs.Printing.{Left}
use Rattle.x5_show.proofs.print.+show.Given as goal

abbrev pub decreases-put_element : goal.decreases-put_element
decreases-put_element l = 2 * (l.next - l.at)

abbrev pub decreases-put_members : goal.decreases-put_members
decreases-put_members l = 2 * (l.end - l.start) + 1

abbrev pub invariant-put_members-loop-at : goal.invariant-put_members-loop-at
invariant-put_members-loop-at l = record {
  past : l.start ≤ l.at;
  left : (es : Elements) (octets : List ℕ) → SpellsAll 1 es octets → Stands l.bytes l.start octets → l.end ≡ l.start + length octets
      → Left l.bytes l.level l.start l.end es octets (string_bytes l.fn.out) l.at (string_bytes l.out);
}

abbrev pub decreases-put_members-loop-at : goal.decreases-put_members-loop-at
decreases-put_members-loop-at l = l.end - l.at
