-- Those found so far, with those that the rest has, are those of the scope.
use Rattle.std.proofs.Common.{◌≡◌, ◌++◌, ◌-◌, ◌≤◌, length, drop}
use Rattle.std.specs.List.{filter}
use Rattle.x5_model.specs.Keys.{is_child}
use Rattle.x5_model_tree.specs.Tree.{key_at}
use Rattle.x5_one.specs.Scopes.{found_in}
use Rattle.x5_one.proofs.asking.just_below.Given as goal

abbrev pub invariant-loop-place : goal.invariant-loop-place
invariant-loop-place l = (l.place ≤ length l.scope)
    × (found_in l.found.items ++ filter (λ e. is_child l.key (key_at e)) (drop l.place l.scope)
    ≡ filter (λ e. is_child l.key (key_at e)) l.scope)

abbrev pub decreases-loop-place : goal.decreases-loop-place
decreases-loop-place l = length l.scope - l.place
