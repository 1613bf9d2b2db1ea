-- How large a number of a few octets is.
use Rattle.std.proofs.Common.{◌≡◌, ℕ, ◌+◌, ◌*◌, ◌^◌, ◌<◌, ◌≤◌, arith, add-one, lit<}
use Rattle.std.proofs.Math.Nat.{pow-le-pow_right, pow-suc}

pub octets_room : (n k : ℕ) → n < 256 ^ k → k ≤ 7 → n < 256 ^ 7
octets_room n k below few =
    let more : 256 ^ k ≤ 256 ^ 7 = pow-le-pow_right (lit< tt) few in
    omega arith

pub octets_step : (n d k : ℕ) → n < 256 ^ k → d < 256 → n * 256 + d < 256 ^ (k + 1)
octets_step n d k below small =
    let next : 256 ^ (k + 1) ≡ 256 ^ k * 256 = rw add-one (pow-suc 256 k) in
    rw next (omega arith)
