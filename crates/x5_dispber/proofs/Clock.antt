-- The clock of a world reads the times that it writes, and no moment that it writes has more than four octets.
use Rattle.std.proofs.Common.{◌≡◌, ℕ, ◌<◌, ◌^◌, nat_lt, List, subst, arith}
use Rattle.std.proofs.lemmas.Bool.{ltb-true}
use Rattle.std.specs.declared.option.Option.TheVariants.{Some}
use Rattle.x5_know.specs.Moments.{Start, moment_count, moment_of, moment_text}
use Rattle.x5_know.proofs.Stamps.{count_is}
use Rattle.x5_model_typed.specs.Layouts.{Surroundings}
use Rattle.x5_model_typed_laws.specs.Fits.{ClockReadsBack}
use Rattle.x5_model_typed_laws.proofs.Leaves.{so}
use Rattle.x5_types.specs.FormView.{world}

-- what has a time has four octets at most
abbrev pub AreFew : Surroundings → Type 0
AreFew w = (m : ℕ) (octets : List ℕ) → w.time m ≡ Some octets → m < 2 ^ 32

pub few : (start : Start) (names : List (List ℕ)) → AreFew (world start names)
few start names m octets h =
    let there = so (nat_lt m moment_count) (moment_text start m) octets h in
    omega (arith, count_is, ltb-true m moment_count there.0)

pub clock : (start : Start) (names : List (List ℕ))
    → ((m : ℕ) → m < 4_294_967_296 → moment_of start (moment_text start m) ≡ Some m) → ClockReadsBack (world start names)
clock start names back m octets h =
    let there = so (nat_lt m moment_count) (moment_text start m) octets h in
    subst (λ (t : List ℕ). moment_of start t ≡ Some m) there.1 (back m (few start names m octets h))
