-- How large the number of a few octets is.
use Rattle.std.proofs.Common.{◌≡◌, ℕ, ◌+◌, ◌-◌, ◌*◌, ◌^◌, ◌<◌, ◌≤◌, suc, zero, List, [], ◌∷◌, length, get_or}
use Rattle.std.proofs.Common.{refl, subst, ap, sym, ◌∙◌, arith, add-one, zero-add, pow-add, lit<}
use Rattle.std.proofs.Math.Nat.{pow-le-pow_right, pow-suc, mul-le-mul_right}
use Rattle.x5_model_octets.specs.Headers.{big_endian}

pub octets_room : (n k : ℕ) → n < 256 ^ k → k ≤ 7 → n < 256 ^ 7
octets_room n k below few =
    let more : 256 ^ k ≤ 256 ^ 7 = pow-le-pow_right (lit< tt) few in
    omega arith

pub octets_step : (n d k : ℕ) → n < 256 ^ k → d < 256 → n * 256 + d < 256 ^ (k + 1)
octets_step n d k below small =
    let next : 256 ^ (k + 1) ≡ 256 ^ k * 256 = rw add-one (pow-suc 256 k) in
    rw next (omega arith)

spread : (b o w n : ℕ) → (b * 256 + o) * w + n ≡ b * (w * 256) + (o * w + n)
spread b o w n = grind arith

below_all : (a k w n : ℕ) → a < k → n < w → a * w + n < k * w
below_all a k w n less small =
    let m : (a + 1) * w ≤ k * w = mul-le-mul_right w (omega arith) in
    let e : (a + 1) * w ≡ a * w + w = grind arith in
    omega (arith, m, e)

-- What stands before makes the number larger by its weight.
pub number_from : (before : ℕ) (os : List ℕ) → big_endian before os ≡ before * 256 ^ length os + big_endian 0 os
number_from before [] = omega arith
number_from before (o ∷ os) =
    let w : ℕ = 256 ^ length os in
    let next : 256 ^ length (o ∷ os) ≡ w * 256 = pow-suc 256 (length os) in
    let there : big_endian before (o ∷ os) ≡ (before * 256 + o) * w + big_endian 0 os =
    number_from (before * 256 + o) os in
    let here : big_endian 0 (o ∷ os) ≡ o * w + big_endian 0 os = rw zero-add (number_from o os) in
    there ∙ spread before o w (big_endian 0 os)
    ∙ sym (ap (λ (v : ℕ). before * v + big_endian 0 (o ∷ os)) next ∙ ap (λ (n : ℕ). before * (w * 256) + n) here)

pub first_number : (o : ℕ) (os : List ℕ) → big_endian 0 (o ∷ os) ≡ o * 256 ^ length os + big_endian 0 os
first_number o os = rw zero-add (number_from o os)

pub number_below : (os : List ℕ) → ((k : ℕ) → get_or os k 0 < 256) → big_endian 0 os < 256 ^ length os
number_below [] small = omega arith
number_below (o ∷ os) small =
    let w : ℕ = 256 ^ length os in
    let next : 256 ^ length (o ∷ os) ≡ w * 256 = pow-suc 256 (length os) in
    let less : o * w + big_endian 0 os < 256 * w =
    below_all o 256 w (big_endian 0 os) (small 0) (number_below os (λ k. small (suc k))) in
    subst (λ (v : ℕ). big_endian 0 (o ∷ os) < v) (sym next) (omega (arith, less, first_number o os))

pub power_of_octets : (k : ℕ) → 2 ^ (8 * k) ≡ 256 ^ k
power_of_octets zero = refl
power_of_octets (suc k) =
    let whole : 2 ^ (8 * k + 8) ≡ 2 ^ (8 * k) * 2 ^ 8 = pow-add 2 (8 * k) 8 in
    let left : 8 * suc k ≡ 8 * k + 8 = omega arith in
    ap (λ n. 2 ^ n) left ∙ whole ∙ ap (λ n. n * 256) (power_of_octets k) ∙ sym (pow-suc 256 k)

weight : (L : ℕ) → L ≤ 7 → 128 * 256 ^ L ≤ 2 ^ 63
weight L few =
    let more : 256 ^ L ≤ 256 ^ 7 = pow-le-pow_right (lit< tt) few in
    omega (arith, more)

-- The number of octets that begin with the first: where its first bit is clear, and where it is set.
pub low_number : (octets others : List ℕ) (a : ℕ) → octets ≡ a ∷ others → length octets ≤ 8 → a < 128
    → ((k : ℕ) → get_or octets k 0 < 256) → big_endian 0 octets < 2 ^ 63
low_number octets others a e few low small =
    let below : big_endian 0 others < 256 ^ length others =
    number_below others (λ k. subst (λ (l : List ℕ). get_or l (suc k) 0 < 256) e (small (suc k))) in
    let less : a * 256 ^ length others + big_endian 0 others < 128 * 256 ^ length others =
    below_all a 128 (256 ^ length others) (big_endian 0 others) low below in
    let room : 128 * 256 ^ length others ≤ 2 ^ 63 = weight (length others) (omega (arith, few, ap length e)) in
    subst (λ (l : List ℕ). big_endian 0 l < 2 ^ 63) (sym e) (omega (arith, less, room, first_number a others))

pub high_number : (octets others : List ℕ) (a : ℕ) → octets ≡ a ∷ others → length octets ≤ 8 → 128 ≤ a
    → ((k : ℕ) → get_or octets k 0 < 256)
    → (big_endian 0 octets ≤ 2 ^ (8 * length octets) - 1) × (2 ^ (8 * length octets) - 1 - big_endian 0 octets < 2 ^ 63)
high_number octets others a e few high small =
    let w : ℕ = 256 ^ length others in
    let all : big_endian 0 octets < 256 ^ length octets = number_below octets small in
    let whole : 256 ^ length octets ≡ w * 256 = ap (λ (l : List ℕ). 256 ^ length l) e ∙ pow-suc 256 (length others) in
    let power : 2 ^ (8 * length octets) ≡ 256 ^ length octets = power_of_octets (length octets) in
    let more : 128 * w ≤ a * w = mul-le-mul_right w high in
    let room : 128 * w ≤ 2 ^ 63 = weight (length others) (omega (arith, few, ap length e)) in
    let number : big_endian 0 octets ≡ a * w + big_endian 0 others = ap (λ (l : List ℕ). big_endian 0 l) e
    ∙ first_number a others in
    (omega (arith, all, power), omega (arith, all, power, whole, more, room, number))
