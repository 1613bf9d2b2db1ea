-- The contexts from the place on have what all have: the earlier ones lack the entry or have another master. The loop ends since fewer
-- are left each time.
use Rattle.std.proofs.Common.{◌≡◌, ◌-◌, drop, length}
use Rattle.std.specs.List.{list_any}
use Rattle.x5_model_tree.specs.Masters.{mastered}
use Rattle.x5_check.specs.Numbers.{owners_in}
use Rattle.x5_check.proofs.Owning.{owns}
use Rattle.x5_check.proofs.known.Known.owns.Given as goal

abbrev pub invariant-loop-place : goal.invariant-loop-place
invariant-loop-place l =
    list_any (owns (mastered l.self) l.entry l.agent) (drop l.from (mastered l.self)) ≡ owners_in (mastered l.self) l.entry l.agent

abbrev pub decreases-loop-place : goal.decreases-loop-place
decreases-loop-place l = length (mastered l.self) - l.from
