-- Those so far, with what is held of the rest, are what is held of all.
use Rattle.std.proofs.Common.{◌≡◌, ◌++◌, drop, map}
use Rattle.x5_holdings.specs.State.{held_view, holdings_view}
use Rattle.x5_eval.specs.Numbers.{held_number}
use Rattle.x5_eval.specs.Rest.{unnamed}
use Rattle.x5_eval.proofs.local.held_of.Given as goal

abbrev pub invariant-loop-number : goal.invariant-loop-number
invariant-loop-number l =
    map (λ c. unnamed (held_view c.now)) l.all.items ++ map (λ n. unnamed (held_number (holdings_view l.state) n)) (drop l.number-index l.numbers)
    ≡ map (λ n. unnamed (held_number (holdings_view l.state) n)) l.numbers
