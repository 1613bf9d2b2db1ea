-- Rows of a key and a number, in the order of keys and then of numbers; and the tests that a table of such rows
-- answers.
use Rattle.std.specs.Prelude.{◌≡◌, ℕ, ◌<◌, ◌≤◌, Bool, true, false, ◌&&◌, ◌==◌, List}
use Rattle.std.specs.List.{list_any}
use Rattle.std.specs.Option.{MatchOption}
use Rattle.std.specs.declared.option.Option.{Option}
use Rattle.std.specs.declared.cmp.Ordering.{Ordering}
use Rattle.std.specs.Ordering.{ordering_then, nat_cmp}
use Rattle.x5_model.specs.Keys.{Key, same_key, key_cmp}

abbrev pub KeyRow : Type 0
KeyRow = Key × ℕ

abbrev pub same_row : KeyRow → KeyRow → Bool
same_row a b = same_key a.0 b.0 && (a.1 == b.1)

abbrev pub row_cmp : KeyRow → KeyRow → Ordering
row_cmp a b = ordering_then (key_cmp a.0 b.0) (nat_cmp a.1 b.1)

-- which keys have which numbers
abbrev pub Numbers : Type 0
Numbers = Key → ℕ → Bool

-- by these rows
abbrev pub numbers_of : List KeyRow → Numbers
numbers_of rows key number = list_any (λ row. same_row row (key, number)) rows

-- the least number of the key from that number on
abbrev pub IsNext : Numbers → Key → ℕ → Option ℕ → Type 0
IsNext numbers key from found =
    MatchOption found ((n : ℕ) → from ≤ n → numbers key n ≡ false)
    (λ n. (numbers key n ≡ true) × (from ≤ n) × ((m : ℕ) → from ≤ m → m < n → numbers key m ≡ false))
