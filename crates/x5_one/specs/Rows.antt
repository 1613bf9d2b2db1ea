-- The pins of contexts in order, each with the place of its context, so that a context is found without a walk.
use Rattle.std.specs.Prelude.{ℕ, Bool, List, map}
use Rattle.std.specs.List.{enumerate_from}
use Rattle.x5_model.specs.Keys.{Key, key_below}
use Rattle.x5_one.specs.One.{Held, pin_in}

-- a pin, and the place of its context
abbrev pub Row : Type 0
Row = Key × ℕ

abbrev pub row_below : Row → Row → Bool
row_below a b = key_below a.0 b.0

abbrev pub row_of : ℕ × Held → Row
row_of p = (pin_in p.1, p.0)

abbrev pub rows_from : ℕ → List Held → List Row
rows_from n contexts = map row_of (enumerate_from n contexts)

abbrev pub rows_of : List Held → List Row
rows_of contexts = rows_from 0 contexts
