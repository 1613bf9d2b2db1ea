-- Names by their keys, each with its place in a list; in the order of keys and then of places. The tables are this
-- project's
-- own.
use Rattle.std.specs.Prelude.{◌≡◌, ℕ, ◌<◌, Bool, true, false, ◌&&◌, ◌==◌, List, map, slice_get}
use Rattle.std.specs.List.{list_any, enumerate_from}
use Rattle.std.specs.Option.{MatchOption}
use Rattle.std.specs.declared.option.Option.{Option}
use Rattle.std.specs.declared.cmp.Ordering.{Ordering}
use Rattle.std.specs.Ordering.{is_lt, ordering_then, nat_cmp}
use Rattle.x5_model.specs.Words.{some_and, sorted}
use Rattle.x5_model.specs.Keys.{Key, same_key, key_cmp}

abbrev pub KeyRow : Type 0
KeyRow = Key × ℕ

abbrev pub same_row : KeyRow → KeyRow → Bool
same_row a b = same_key a.0 b.0 && (a.1 == b.1)

abbrev pub row_cmp : KeyRow → KeyRow → Ordering
row_cmp a b = ordering_then (key_cmp a.0 b.0) (nat_cmp a.1 b.1)

-- which key stands at which place
abbrev pub Places : Type 0
Places = Key → ℕ → Bool

-- by these rows
abbrev pub places_of : List KeyRow → Places
places_of rows key place = list_any (λ row. same_row row (key, place)) rows

-- in this list
abbrev pub places_in : List Key → Places
places_in keys key place = some_and (λ k. same_key k key) (slice_get keys place)

-- the members in their order, each with its place
abbrev pub numbered : List Key → List KeyRow
numbered keys = map (λ p. (p.1, p.0)) (enumerate_from 0 keys)

-- in the order of their keys, and those of one key in that of the list
abbrev pub row_below : KeyRow → KeyRow → Bool
row_below a b = is_lt (row_cmp a b)

abbrev pub rows_of : List Key → List KeyRow
rows_of keys = sorted row_below (numbered keys)

-- the rows are those of the list's members
abbrev pub AreRowsOf : List KeyRow → List Key → Type 0
AreRowsOf rows keys = rows ≡ rows_of keys

-- the first place of a key
abbrev pub IsFirstPlace : Places → Key → Option ℕ → Type 0
IsFirstPlace places key found =
    MatchOption found ((n : ℕ) → places key n ≡ false)
    (λ n. (places key n ≡ true) × ((m : ℕ) → m < n → places key m ≡ false))
