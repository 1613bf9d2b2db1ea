-- The days after a date are those whose day numbers follow.
use Rattle.std.proofs.Common.{◌≡◌, ℕ, zero, suc, ◌+◌, ◌*◌, ◌<◌, ◌≤◌, Bool, true, false, nat_lt, refl, sym, ap, ap₂, ◌∙◌, arith, ℤ, pos, neg_ℤ, ◌+ℤ◌, ◌<ℤ◌, ◌≤ℤ◌}
use Rattle.jiff_core.specs.declared.civil.date.Date.{Date}
use Rattle.jiff_core.specs.Calendar.{days_in_month, days_from_civil, day_count, IsCivilDate}
use Rattle.jiff_core.specs.Date.{epoch_day}
use Rattle.jiff_core.proofs.SignedLemmas.{signed_arith}
use Rattle.jiff_core.proofs.CalendarLemmas.{days_in_month_bounds, days_in_year_bounds, day_count-next_year, day_count-lt_year, day_count-end, days_from_civil-day_count}
use Rattle.jiff_core.proofs.DateLemmas.{epoch_day_injective, epoch_day_range, days_from_civil-day, days_from_civil-next_month, days_from_civil-next_year, days_from_civil-max}
use Rattle.x5_know.specs.Moments.{day_of, day_after, days_after}

under : (a b : ℕ) → nat_lt a b ≡ true → a < b
under a b h = grind arith

at_least : (a b : ℕ) → nat_lt a b ≡ false → b ≤ a
at_least a b h = grind arith

-- the date after this one
record Next (d : Date) : Type 0 where
  pub next : Date
  pub is : day_of next ≡ day_after (day_of d)
  pub number : epoch_day next ≡ epoch_day d +ℤ pos 1
  pub later : d.year ≤ℤ next.year

in_month : (d : Date) → nat_lt d.day (days_in_month d.year d.month) ≡ true → Next d
in_month d h =
    let next : Date = record { year = d.year; month = d.month; day = d.day + 1; year_in = d.year_in; month_in = d.month_in; day_in = (omega arith, omega (arith, under _ _ h)) } in
    record {
      next = next;
      is = rw h refl;
      number = omega (arith, signed_arith, days_from_civil-day d.year d.month d.day (d.day + 1) d.day_in.0 (omega arith));
      later = omega (arith, signed_arith);
    }

in_year : (d : Date) → nat_lt d.day (days_in_month d.year d.month) ≡ false → nat_lt d.month 12 ≡ true → Next d
in_year d h k =
    let next : Date = record { year = d.year; month = d.month + 1; day = 1; year_in = d.year_in; month_in = (omega arith, omega (arith, under _ _ k)); day_in = (omega arith, omega (arith, days_in_month_bounds d.year (d.month + 1))) } in
    record {
      next = next;
      is = rw (h, k) refl;
      number = days_from_civil-next_month d.year d.month d.day d.month_in.0 (omega (arith, d.day_in.1, at_least _ _ h));
      later = omega (arith, signed_arith);
    }

last_day : (d : Date) → nat_lt d.day (days_in_month d.year d.month) ≡ false → d.month ≡ 12 → d.day ≡ 31
last_day d h e =
    let long : days_in_month d.year d.month ≡ 31 = ap (days_in_month d.year) e in
    omega (arith, long, d.day_in.1, at_least _ _ h)

at_end : (d : Date) → epoch_day d <ℤ pos 2_932_896 → nat_lt d.day (days_in_month d.year d.month) ≡ false → nat_lt d.month 12 ≡ false → Next d
at_end d low h k =
    let month : d.month ≡ 12 = omega (arith, d.month_in.1, at_least _ _ k) in
    let day : d.day ≡ 31 = last_day d h month in
    let is_last : epoch_day d ≡ days_from_civil d.year 12 31 = ap₂ (days_from_civil d.year) month day in
    let year : ¬ (d.year ≡ pos 9999) = λ e. let max = is_last ∙ ap (λ y. days_from_civil y 12 31) e ∙ days_from_civil-max in omega (arith, signed_arith) in
    let next : Date = record { year = d.year +ℤ pos 1; month = 1; day = 1; year_in = (omega (arith, signed_arith, d.year_in), omega (arith, signed_arith, d.year_in, year)); month_in = (omega arith, omega arith); day_in = (omega arith, omega (arith, days_in_month_bounds (d.year +ℤ pos 1) 1)) } in
    record {
      next = next;
      is = rw (h, k) refl;
      number = days_from_civil-next_year d.year (d.year +ℤ pos 1) (omega (arith, signed_arith, d.year_in)) refl ∙ ap (λ n. n +ℤ pos 1) (sym is_last);
      later = omega (arith, signed_arith);
    }

next_of : (d : Date) → epoch_day d <ℤ pos 2_932_896 → Next d
next_of d low = by (nat_lt d.day (days_in_month d.year d.month)) (nat_lt d.month 12) refl refl
  where
    by : (p q : Bool) → nat_lt d.day (days_in_month d.year d.month) ≡ p → nat_lt d.month 12 ≡ q → Next d
    by true q h k = in_month d h
    by false true h k = in_year d h k
    by false false h k = at_end d low h k

same_day : (a b : Date) → (a.year ≡ b.year) × (a.month ≡ b.month) × (a.day ≡ b.day) → day_of a ≡ day_of b
same_day a b e = cc

pub days_after_is : (n : ℕ) (d later : Date) → epoch_day later ≡ epoch_day d +ℤ pos n → day_of later ≡ days_after n (day_of d)
days_after_is zero d later e = same_day later d (epoch_day_injective later d (omega (arith, signed_arith)))
days_after_is (suc n) d later e =
    let range = epoch_day_range later in
    let s = next_of d (omega (arith, signed_arith)) in
    days_after_is n s.next later (omega (arith, signed_arith, s.number)) ∙ ap (days_after n) s.is

-- the date so many days later, where the calendar has it
pub record Later (d : Date) (n : ℕ) : Type 0 where
  pub date : Date
  pub number : epoch_day date ≡ epoch_day d +ℤ pos n
  pub year : d.year ≤ℤ date.year

pub later_date : (n : ℕ) (d : Date) → (epoch_day d +ℤ pos n) ≤ℤ pos 2_932_896 → Later d n
later_date zero d low = record { date = d; number = omega (arith, signed_arith); year = omega (arith, signed_arith) }
later_date (suc n) d low =
    let s = next_of d (omega (arith, signed_arith)) in
    let rest = later_date n s.next (omega (arith, signed_arith, s.number)) in
    record { date = rest.date; number = omega (arith, signed_arith, s.number, rest.number); year = omega (arith, signed_arith, s.later, rest.year) }

-- ---- years

civil : (d : Date) → IsCivilDate d.year d.month d.day
civil d = (d.year_in, d.month_in, d.day_in)

-- a year has 365 days at least
years_later : (n : ℕ) (y later : ℤ) → neg_ℤ (pos 10000) ≤ℤ y → later ≡ y +ℤ pos n → day_count y 1 1 + 365 * n ≤ day_count later 1 1
years_later zero y later low e =
    let same : later ≡ y = omega (arith, signed_arith, e) in
    rw same (omega arith)
years_later (suc n) y later low e =
    let next : ℤ = y +ℤ pos 1 in
    let one = day_count-next_year y (y +ℤ pos 1) low refl in
    let rest = years_later n (y +ℤ pos 1) later (omega (arith, signed_arith)) (omega (arith, signed_arith, e)) in
    let long = days_in_year_bounds y in
    omega arith

-- the days up to the year 9000 leave room for as many as moments can count
pub until_9000 : (d : Date) → d.year ≤ℤ pos 9000 → epoch_day d ≤ℤ pos 2_570_000
until_9000 d h =
    let before = day_count-lt_year d.year d.month d.day (pos 9001) 1 1 (civil d) (omega arith) (omega (arith, signed_arith)) in
    let left = years_later 999 (pos 9001) (pos 10000) (omega (arith, signed_arith)) refl in
    omega (arith, signed_arith, before, left, day_count-end, days_from_civil-day_count d.year d.month d.day)
