-- Octets that are taken in two pieces.
use Rattle.std.proofs.Common.{◌≡◌, ℕ, ◌+◌, ◌-◌, List, ◌++◌, take, drop, length, length-drop, Option, Some, None, refl, sym, ap, ◌∙◌, append_assoc}
use Rattle.std.proofs.Math.Seq.{take-add, take-length}
use Rattle.x5_port.specs.Outside.{with_octets}

-- one piece after another is their concatenation
pub with_octets-with_octets : (first second : List ℕ) (taken : Option (List ℕ)) → with_octets second (with_octets first taken) ≡ with_octets (first ++ second) taken
with_octets-with_octets first second None = refl
with_octets-with_octets first second (Some before) = ap (λ octets. Some octets) (append_assoc before first second)

-- what lies past the first n octets, as a slice has it
rest-is : (n : ℕ) (octets : List ℕ) → take (length octets - n) (drop n octets) ≡ drop n octets
rest-is n octets = ap (λ count. take count (drop n octets)) (sym (length-drop n octets)) ∙ take-length (drop n octets)

-- after the first n octets, the next m are the first n + m
pub with_octets-take : (n m : ℕ) (octets : List ℕ) (taken : Option (List ℕ)) → with_octets (take m (take (length octets - n) (drop n octets))) (with_octets (take n octets) taken) ≡ with_octets (take (n + m) octets) taken
with_octets-take n m octets taken =
    ap (λ rest. with_octets (take m rest) (with_octets (take n octets) taken)) (rest-is n octets)
    ∙ with_octets-with_octets (take n octets) (take m (drop n octets)) taken
    ∙ ap (λ piece. with_octets piece taken) (sym (take-add n m octets))
