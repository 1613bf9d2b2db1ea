-- Filters within the limits of messages (X.511, section 7.8): nested no deeper than there are levels, 16 in a search.
-- Each item, `and`, `or` and `not` takes one.
use Rattle.std.specs.Prelude.{ℕ, ◌-◌, ◌≤◌}
use Rattle.x5_model.specs.Filters.{Item, Equality, Substrings, GreaterOrEqual, LessOrEqual, Present, Approximate}
use Rattle.x5_model.specs.Filters.{Filter, Filters, Is, And, Or, Not, Nil, More}
use Rattle.x5_model_fitting.specs.Terms.{TypeWithin, AssertionWithin, SubstringsWithin}

abbrev pub ItemWithin : Item → Type 0
ItemWithin (Equality a) = AssertionWithin a
ItemWithin (Substrings s) = SubstringsWithin s
ItemWithin (GreaterOrEqual a) = AssertionWithin a
ItemWithin (LessOrEqual a) = AssertionWithin a
ItemWithin (Present type) = TypeWithin type
ItemWithin (Approximate a) = AssertionWithin a

abbrev mutual
  pub FilterWithin : ℕ → Filter → Type 0
  FilterWithin levels (Is i) = (1 ≤ levels) × ItemWithin i
  FilterWithin levels (And fs) = (1 ≤ levels) × FiltersWithin (levels - 1) fs
  FilterWithin levels (Or fs) = (1 ≤ levels) × FiltersWithin (levels - 1) fs
  FilterWithin levels (Not f) = (1 ≤ levels) × FilterWithin (levels - 1) f

  pub FiltersWithin : ℕ → Filters → Type 0
  FiltersWithin levels Nil = Unit {0}
  FiltersWithin levels (More f fs) = FilterWithin levels f × FiltersWithin levels fs

abbrev pub most_levels : ℕ
most_levels = 16
