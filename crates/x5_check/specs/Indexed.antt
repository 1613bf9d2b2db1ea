-- What an index says: a number of each key in a map, or others in rows.
use Rattle.std.specs.Prelude.{ℕ, ◌||◌, ◌==◌, List}
use Rattle.indexmap.specs.IndexMap.{IndexMap, get}
use Rattle.x5_model.specs.Words.{some_and}
use Rattle.x5_model.specs.Keys.{Key, same_key}
use Rattle.x5_check.specs.Rows.{KeyRow, Numbers, numbers_of}

-- one or the other says so
abbrev pub either : Numbers → Numbers → Numbers
either a b key number = a key number || b key number

-- the key's number in the map
abbrev pub first_numbers : {S : Type 0} → IndexMap Key ℕ S → Numbers
first_numbers firsts key number = some_and (λ n. n == number) (get same_key firsts key)

abbrev pub indexed : {S : Type 0} → IndexMap Key ℕ S → List KeyRow → Numbers
indexed firsts more = either (first_numbers firsts) (numbers_of more)
