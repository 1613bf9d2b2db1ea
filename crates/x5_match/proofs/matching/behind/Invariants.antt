-- While a part is sought in a text: what stands behind its first occurrence is the same in the rest as in the whole
-- text, and the rest grows shorter.
use Rattle.std.proofs.Common.{◌≡◌, length}
use Rattle.x5_match.specs.Occurrence.{behind_occurrence}
use Rattle.x5_match.proofs.matching.behind.Given as goal

abbrev pub invariant-loop-behind : goal.invariant-loop-behind
invariant-loop-behind l = behind_occurrence l.part l.rest ≡ behind_occurrence l.part l.text

abbrev pub decreases-loop-behind : goal.decreases-loop-behind
decreases-loop-behind l = length l.rest
