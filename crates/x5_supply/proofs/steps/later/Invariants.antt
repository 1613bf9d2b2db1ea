-- Those so far, with those that are left, are all.
use Rattle.std.proofs.Common.{◌≡◌, ◌++◌, drop, map, nat_lt}
use Rattle.std.specs.List.{filter}
use Rattle.x5_supply.specs.Supplied.{steps_later}
use Rattle.x5_supply.proofs.steps.later.Given as goal

abbrev pub invariant-loop-change : goal.invariant-loop-change
invariant-loop-change l =
    l.steps.items ++ map (λ x. x.step) (filter (λ x. nat_lt l.fn.moment x.moment) (drop l.change-index l.change-items))
    ≡ steps_later l.log l.fn.moment
