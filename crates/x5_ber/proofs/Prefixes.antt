-- What is kept over several writes.
use Rattle.std.proofs.Common.{◌≡◌, ℕ, ◌≤◌, List, ◌++◌, length, take, ap, sym, ◌∙◌, arith, length-take}
use Rattle.std.proofs.lemmas.List.{take-take}
use Rattle.std.proofs.Math.Seq.{take-append_seam}
use Rattle.x5_ber.specs.Written.{IsPrefixOf}

pub kept_append : (a b more : List ℕ) → b ≡ a ++ more → IsPrefixOf a b
kept_append a b more e = ap (λ (l : List ℕ). take (length a) l) e ∙ take-append_seam a more

pub kept_on : (a b c : List ℕ) → IsPrefixOf a b → IsPrefixOf b c → IsPrefixOf a c
kept_on a b c p q =
    let shorter : length a ≤ length b = omega (arith, length-take (length a) b, ap length p) in
    sym (take-take (length a) (length b) c shorter) ∙ ap (λ (l : List ℕ). take (length a) l) q ∙ p
