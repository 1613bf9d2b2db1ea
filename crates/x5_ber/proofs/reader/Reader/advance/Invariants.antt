-- While a value is read step by step: at most 64 elements are open, those that are open at the start lead to those open
-- around this place, and twice the octets that are left plus the number of open elements falls.
use Rattle.std.proofs.Common.{ℕ, ◌+◌, ◌-◌, ◌*◌, ◌≤◌, ◌++◌, length}
use Rattle.x5_ber.specs.Reading.{AreOpen}
use Rattle.x5_ber.proofs.reader.Reader.advance.Given as goal

abbrev pub invariant-loop : goal.invariant-loop
invariant-loop l = record {
  shallow : l.self.depth ≤ 64;
  open_here : (start : ℕ) → AreOpen (l.front ++ l.piece) l.fn.self.enclosing start l.fn.self.depth l.fn.self.at
      → AreOpen (l.front ++ l.piece) l.self.enclosing start l.self.depth l.self.at;
}

abbrev pub decreases-loop : goal.decreases-loop
decreases-loop l = 2 * (length l.front + length l.piece - l.self.at) + l.self.depth
