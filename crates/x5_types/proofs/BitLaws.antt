-- Bits of octets of which the last one has unused bits.
use Rattle.std.proofs.Common.{◌≡◌, ℕ, zero, suc, ◌+◌, ◌-◌, ◌<◌, Bool, List, [], ◌∷◌, ◌++◌, length, take}
use Rattle.std.proofs.Common.{flat_map, refl, ap, sym, ◌∙◌, arith, length-append}
use Rattle.std.proofs.Math.Seq.{take-append-add}
use Rattle.x5_model_typed.specs.Judged.{bits_of_octet, bits_of_octets}

pub whole_bits : (unused : ℕ) (os : List ℕ) → unused < 8
    → bits_of_octets unused os ≡ take (length (flat_map bits_of_octet os) - unused) (flat_map bits_of_octet os)
whole_bits unused [] few = sym (take_nil (0 - unused))
  where
    take_nil : (n : ℕ) → take {A = Bool} n [] ≡ []
    take_nil zero = refl
    take_nil (suc n) = refl
whole_bits unused (o ∷ []) few = refl
whole_bits unused (o ∷ p ∷ os) few =
    let rest : List Bool = flat_map bits_of_octet (p ∷ os) in
    let size : length rest ≡ 8 + length (flat_map bits_of_octet os) =
    length-append (bits_of_octet p) (flat_map bits_of_octet os) in
    let count : length (bits_of_octet o ++ rest) - unused ≡ 8 + (length rest - unused) =
    omega (arith, length-append (bits_of_octet o) rest, size) in
    ap (λ (l : List Bool). bits_of_octet o ++ l) (whole_bits unused (p ∷ os) few)
    ∙ sym (take-append-add (bits_of_octet o) rest (length rest - unused))
    ∙ ap (λ n. take n (bits_of_octet o ++ rest)) (sym count)
