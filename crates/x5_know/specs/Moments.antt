-- Moments: whole seconds after the start of the world, and how they are printed, as dates and times of the Gregorian
-- calendar (X.680, section 46: GeneralizedTime, whole seconds in UTC).
use Rattle.std.specs.Prelude.{ℕ, zero, suc, ◌+◌, ◌/◌, ◌%◌, ℤ, pos, ◌+ℤ◌, unsigned_abs, Bool, nat_lt, if◌then◌else◌}
use Rattle.std.specs.Prelude.{[], ◌∷◌, codes, Option, None, Some}
use Rattle.std.specs.List.{concat}
use Rattle.std.specs.Fmt.{decimal}
use Rattle.jiff_core.specs.declared.civil.date.Date.{Date}
use Rattle.jiff_core.specs.Calendar.{days_in_month}
use Rattle.x5_model.specs.Values.{Text}
use Rattle.x5_model.specs.Words.{same_octets}

-- a date
pub record Day : Type 0 where
  pub year : ℤ
  pub month : ℕ
  pub day : ℕ

-- the date of the calendar
abbrev pub day_of : Date → Day
day_of d = record { year = d.year; month = d.month; day = d.day }

-- a start: a date, and the second of that day
pub record Start : Type 0 where
  pub day : Day
  pub second : ℕ

-- the next day, which may begin a month or a year
abbrev pub day_after : Day → Day
day_after d =
    if nat_lt d.day (days_in_month d.year d.month) then record { year = d.year; month = d.month; day = d.day + 1 }
    else (if nat_lt d.month 12 then record { year = d.year; month = d.month + 1; day = 1 }
    else record { year = d.year +ℤ pos 1; month = 1; day = 1 })

-- so many days later
abbrev pub days_after : ℕ → Day → Day
days_after zero d = d
days_after (suc n) d = days_after n (day_after d)

-- a day has 86400 seconds
abbrev pub day_length : ℕ
day_length = 86_400

-- the last digits of a number
abbrev pub two_digits : ℕ → Text
two_digits n = concat (decimal (n / 10 % 10) ∷ decimal (n % 10) ∷ [])

abbrev pub four_digits : ℕ → Text
four_digits n =
    concat (decimal (n / 1000 % 10) ∷ decimal (n / 100 % 10) ∷ decimal (n / 10 % 10) ∷ decimal (n % 10) ∷ [])

-- `YYYYMMDDHHMMSSZ`
abbrev pub stamp_text : Day → ℕ → Text
stamp_text d second =
    concat (four_digits (unsigned_abs d.year) ∷ two_digits d.month ∷ two_digits d.day ∷ two_digits (second / 3600)
    ∷ two_digits (second / 60 % 60) ∷ two_digits (second % 60) ∷ codes "Z" ∷ [])

-- the text of a moment
abbrev pub moment_text : Start → ℕ → Text
moment_text s m = stamp_text (days_after ((s.second + m) / day_length) s.day) ((s.second + m) % day_length)

-- the greatest number below that one of which it's true
abbrev pub greatest_below : (ℕ → Bool) → ℕ → Option ℕ
greatest_below is_true zero = None
greatest_below is_true (suc n) = if is_true n then Some n else greatest_below is_true n

-- so many moments there are
unfoldable pub moment_count : ℕ
moment_count = 4_294_967_296

-- the moment of a text: the one whose text it is
abbrev pub moment_of : Start → Text → Option ℕ
moment_of s t = greatest_below (λ m. same_octets (moment_text s m) t) moment_count
