-- All may be missing where those that are left may.
use Rattle.std.proofs.Common.{◌≡◌, drop}
use Rattle.std.specs.List.{list_all}
use Rattle.x5_model_typed.specs.Judged as judged
use Rattle.x5_typed.proofs.slots.Left.may_all_be_missing.Given as goal
use Rattle.x5_typed.specs.StateView.{left_view}

abbrev pub invariant-loop-i : goal.invariant-loop-i
invariant-loop-i l = list_all judged.may_be_missing (drop l.i (left_view l.self)) ≡ list_all judged.may_be_missing
    (left_view l.self)
