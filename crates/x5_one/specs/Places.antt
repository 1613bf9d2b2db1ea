-- Where a key is among keys in order, or where it would go.
use Rattle.std.specs.Prelude.{◌≡◌, ℕ, ◌+◌, ◌<◌, ◌≤◌, true, false, List, ◌∷◌, length, take, drop}
use Rattle.std.specs.declared.result.Result.{Result}
use Rattle.std.specs.declared.result.Result.TheVariants.{Ok, Err}
use Rattle.x5_model.specs.Members.{In}
use Rattle.x5_model.specs.Keys.{Key, key_below}

-- at a place at which it would go, all before are below it, and it is below all from there on
abbrev pub IsPlace : List Key → Key → Result ℕ ℕ → Type 0
IsPlace keys key (Ok i) = (i < length keys) × (drop i keys ≡ key ∷ drop (i + 1) keys)
IsPlace keys key (Err i) = (i ≤ length keys)
    × ((x : Key) → In x (take i keys) → key_below x key ≡ true)
    × ((x : Key) → In x (drop i keys) → key_below key x ≡ true)

-- where what isn't below the key begins
abbrev pub IsStart : List Key → Key → ℕ → Type 0
IsStart keys key i = (i ≤ length keys)
    × ((x : Key) → In x (take i keys) → key_below x key ≡ true)
    × ((x : Key) → In x (drop i keys) → key_below x key ≡ false)
