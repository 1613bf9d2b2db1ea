-- What was read makes, with what is left, entries of a refresh, and the octets that are left are fewer.
use Rattle.std.proofs.Common.{length}
use Rattle.x5_model_messages.specs.Shadows.{entry_in}
use Rattle.x5_model_messages.specs.Terms.{rdn_of}
use Rattle.x5_model_typed.specs.Named as named
use Rattle.x5_direct.specs.Spelled.{BeginEach}
use Rattle.x5_direct.proofs.Spelling.{Goes}
use Rattle.x5_direct.proofs.seen.all_read.Given as goal

abbrev pub invariant-loop-above_octets : goal.invariant-loop-above_octets
invariant-loop-above_octets l = Goes 7 named.Entry entry_in l.octets l.entries.items l.rest
    × BeginEach 2 named.Rdn rdn_of l.above.items l.above_octets

abbrev pub decreases-loop-above_octets : goal.decreases-loop-above_octets
decreases-loop-above_octets l = length l.rest
