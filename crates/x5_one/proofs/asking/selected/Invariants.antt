-- Those selected so far, with those that the rest has, are all.
use Rattle.std.proofs.Common.{◌≡◌, ◌++◌, drop}
use Rattle.std.specs.List.{filter}
use Rattle.x5_match.specs.FilterView.{filter_view}
use Rattle.x5_model.specs.Truth.{selects_entry}
use Rattle.x5_one.specs.Scopes.{found_in}
use Rattle.x5_one.proofs.asking.selected.Given as goal

abbrev pub invariant-loop-named : goal.invariant-loop-named
invariant-loop-named l =
    found_in l.found.items ++ filter (λ e. selects_entry (filter_view l.wanted) e.entry) (found_in
    (drop l.named-index l.scope)) ≡ filter (λ e. selects_entry (filter_view l.wanted) e.entry) (found_in l.scope)
