-- A sink keeps the first octets that it took, as many as there is room for.
use Rattle.std.proofs.Common.{◌≡◌, ◌≤◌, ◌<◌, ◌+◌, ◌-◌, ◌++◌, ℕ, List, length, take, min, sym, ap, ◌∙◌, arith, length-append, append_assoc}
use Rattle.std.proofs.Math.Seq.{take-append-add}
use Rattle.std.proofs.lemmas.List.{length-take-le, take_all, take_at, take-append-le, take_min}

-- nothing more where there is none
pub kept_all : (first piece : List ℕ) (count : ℕ) → length first ≡ 512 → 512 ≤ count
    → take count first ≡ take 512 (take count first ++ piece)
kept_all first piece count as_many full =
    let whole : take count first ≡ first = take_all count first (omega (arith, as_many, full)) in
    whole
    ∙ sym (ap (λ (octets : List ℕ). take 512 (octets ++ piece)) whole
    ∙ take-append-le 512 first piece (omega (arith, as_many))
    ∙ take_all 512 first (omega (arith, as_many)))

-- else the piece as far as there is, in the place of what stood there
pub kept_more : (first piece new rest : List ℕ) (count taken : ℕ) → length first ≡ 512 → count < 512
    → taken ≡ min (512 - count) (length piece) → new ≡ take taken piece
    → take (count + taken) (take count first ++ (new ++ rest)) ≡ take 512 (take count first ++ piece)
kept_more first piece new rest count taken as_many room is copied =
    let old : List ℕ = take count first in
    let so_many : length old ≡ count = length-take-le count first (omega (arith, as_many, room)) in
    let within : taken ≤ length piece = omega (arith, is) in
    let more : length new ≡ taken = ap length copied ∙ length-take-le taken piece within in
    let both : length (old ++ new) ≡ count + taken =
    length-append old new ∙ (let e : length old + length new ≡ count + taken = omega (arith, so_many, more) in e) in
    let all : length old + (512 - count) ≡ 512 = omega (arith, so_many, room) in
    ap (take (count + taken)) (sym (append_assoc old new rest))
    ∙ take_at (old ++ new) rest (count + taken) both
    ∙ ap (λ (octets : List ℕ). old ++ octets) (copied ∙ ap (λ (n : ℕ). take n piece) is ∙ take_min (512 - count) piece)
    ∙ sym (take-append-add old piece (512 - count))
    ∙ ap (λ (n : ℕ). take n (old ++ piece)) all
