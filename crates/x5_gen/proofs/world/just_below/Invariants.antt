-- Of the three numbers those seen were kept or left out.
use Rattle.std.proofs.Common.{◌≡◌, ◌&&◌, ◌==◌, ◌%◌, ◌+◌, ◌*◌, ◌++◌, ◌∷◌, [], nat_lt, drop}
use Rattle.std.specs.List.{filter}
use Rattle.x5_gen.specs.World.{agents_count}
use Rattle.x5_gen.proofs.world.just_below.Given as goal

abbrev pub invariant-loop-number : goal.invariant-loop-number
invariant-loop-number l = record {
  three : l.number-items ≡ (3 * l.agent + 1) ∷ (3 * l.agent + 2) ∷ (3 * l.agent + 3) ∷ [];
  kept : l.numbers.items ++ filter (λ c. nat_lt c agents_count && (c % 2 == l.rest)) (drop l.number-index l.number-items) ≡ filter (λ c. nat_lt c agents_count && (c % 2 == l.rest)) l.number-items;
}
