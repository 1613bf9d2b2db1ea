-- The members of a list whose names stand at or below a name, each with its place: in the order of their keys, and
-- those of one key in that of the list. Of them those with so many RDNs.
use Rattle.std.specs.Prelude.{ℕ, Bool, ◌==◌, List, length, map}
use Rattle.std.specs.List.{filter}
use Rattle.x5_model.specs.Keys.{Key, is_prefix}
use Rattle.x5_holdings.specs.Rows.{KeyRow, rows_of}

abbrev pub stands_under : Key → KeyRow → Bool
stands_under at row = is_prefix at row.0

abbrev pub run_of : List Key → Key → List KeyRow
run_of keys at = filter (stands_under at) (rows_of keys)

abbrev pub is_long : ℕ → KeyRow → Bool
is_long count row = length row.0 == count

abbrev pub long_places : ℕ → List KeyRow → List ℕ
long_places count rows = map (λ row. row.1) (filter (is_long count) rows)
