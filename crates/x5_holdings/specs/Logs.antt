-- The changes of a context that its holder keeps, since a base moment (X.525, section 9: incremental refreshes bring
-- the changes since the last one). That a holder keeps the last 256 is this project's own.
use Rattle.std.specs.Prelude.{◌≡◌, ℕ, ◌-◌, nat_lt, if◌then◌else◌, List, [], ◌∷◌, ◌++◌, length, drop}
use Rattle.x5_model.specs.Words.{first_of, in_option}
use Rattle.x5_holdings.specs.declared.log.Logged.{Logged}

-- what contracts see: the oldest change first, and how many more can be noted without memory
pub record Log : Type 0 where
  pub base : ℕ
  pub changes : List Logged
  pub spare : ℕ

-- where 256 are kept the oldest goes, and its moment is the base
abbrev pub base_after : Log → ℕ
base_after l = if nat_lt (length l.changes) 256 then l.base else in_option l.base (λ x. x.moment) (first_of l.changes)

abbrev pub latest : List Logged → List Logged
latest xs = drop (length xs - 255) xs

pub record IsLogged (old : Log) (change : Logged) (after : Log) : Type 0 where
  pub base : after.base ≡ base_after old
  pub changes : after.changes ≡ latest old.changes ++ change ∷ []
