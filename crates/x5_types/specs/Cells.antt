-- Characters of four octets each.
use Rattle.std.specs.Prelude.{◌≡◌, ℕ, List, [], ◌∷◌, encode_utf8_all}
use Rattle.std.specs.List.{list_all}
use Rattle.std.specs.declared.option.Option.{Option}
use Rattle.std.specs.declared.option.Option.TheVariants.{None, Some}
use Rattle.x5_model_octets.specs.Headers.{big_endian}
use Rattle.x5_model_typed.specs.Leaves as leaves

-- The first four octets are the number, and the others stand behind them.
pub data Cell (n : ℕ) : List ℕ → List ℕ → Type 0 where
  cell : {a b c d : ℕ} {os : List ℕ} → n ≡ big_endian 0 (a ∷ b ∷ c ∷ d ∷ []) → Cell n (a ∷ b ∷ c ∷ d ∷ os) os

-- One to three octets.
pub data Cut : List ℕ → Type 0 where
  nothing : Cut []
  one : {a : ℕ} → Cut (a ∷ [])
  two : {a b : ℕ} → Cut (a ∷ b ∷ [])
  three : {a b c : ℕ} → Cut (a ∷ b ∷ c ∷ [])

-- The octets of UTF-8 of the numbers, where all are characters'.
abbrev pub encoded_all : List ℕ → Option (List ℕ)
encoded_all cs = leaves.where_so (list_all leaves.is_character cs) (encode_utf8_all cs)

abbrev pub encoded : Option (List ℕ) → Option (List ℕ)
encoded None = None
encoded (Some cs) = encoded_all cs
