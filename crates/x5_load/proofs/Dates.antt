-- Which dates are true ones.
use Rattle.std.proofs.Common.{◌≡◌, ℕ, ◌≤◌, true, nat_le, arith, pos}
use Rattle.jiff_core.specs.Calendar.{days_in_month, IsDate}
use Rattle.jiff_core.proofs.SignedLemmas.{signed_arith}
use Rattle.x5_model.proofs.Lists.{both_true, and_true}
use Rattle.x5_model_world.specs.StartText.{is_day}

within : (a b : ℕ) → nat_le a b ≡ true → a ≤ b
within a b h = grind arith

tested : (a b : ℕ) → a ≤ b → nat_le a b ≡ true
tested a b h = grind arith

pub is_true_date : (y m d : ℕ) → y ≤ 9000 → is_day y m d ≡ true → IsDate (pos y) (pos m) (pos d)
is_true_date y m d most e =
    let a = both_true (nat_le 1 m) _ e in
    let b = both_true (nat_le m 12) _ a.1 in
    let c = both_true (nat_le 1 d) _ b.1 in
    let l1 : 1 ≤ m = within 1 m a.0 in
    let l2 : m ≤ 12 = within m 12 b.0 in
    let l3 : 1 ≤ d = within 1 d c.0 in
    let l4 : d ≤ days_in_month (pos y) m = within d (days_in_month (pos y) m) c.1 in (
      (omega (arith, signed_arith), omega (arith, signed_arith)),
      (omega (arith, signed_arith), omega (arith, signed_arith)),
      (omega (arith, signed_arith), omega (arith, signed_arith)),
    )

pub true_date_is : (y m d : ℕ) → IsDate (pos y) (pos m) (pos d) → is_day y m d ≡ true
true_date_is y m d h =
    and_true (nat_le 1 m) _ (tested 1 m (omega (arith, signed_arith, h.1.0)))
    (and_true (nat_le m 12) _ (tested m 12 (omega (arith, signed_arith, h.1.1)))
    (and_true (nat_le 1 d) _ (tested 1 d (omega (arith, signed_arith, h.2.0)))
    (tested d (days_in_month (pos y) m) (omega (arith, signed_arith, h.2.1)))))
