-- Numbers of an object identifier that are read in part.
use Rattle.std.specs.Prelude.{◌≡◌, ℕ, ◌<◌, ◌^◌, nat_lt, Bool, true, List, ◌++◌, drop}
use Rattle.std.specs.List.{list_all}
use Rattle.std.specs.declared.option.Option.{Option}
use Rattle.std.specs.declared.option.Option.TheVariants.{None, Some}
use Rattle.x5_model_typed.specs.Leaves as leaves

-- numbers behind those that were read
abbrev pub after : List ℕ → Option (List ℕ) → Option (List ℕ)
after ns None = None
after ns (Some ms) = Some (ns ++ ms)

abbrev pub is_small : ℕ → Bool
is_small n = nat_lt n (2 ^ 33)

-- Where reading stands in the octets: the numbers that are whole, and what the one that has begun says so far.
pub record IsRead (octets : List ℕ) (i : ℕ) (numbers : List ℕ) (fresh : Bool) (before : ℕ) : Type 0 where
  pub same : after numbers (leaves.subidentifiers fresh before (drop i octets)) ≡ leaves.subidentifiers true 0 octets
  pub small : list_all is_small numbers ≡ true
  pub below : before < 2 ^ 33
  pub begun : fresh ≡ true → before ≡ 0
