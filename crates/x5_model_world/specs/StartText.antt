-- The start of the world: a true date and time of the years 1900 to 9000, as `YYYYMMDDHHMMSSZ` (X.680, section 46:
-- GeneralizedTime).
use Rattle.std.specs.Prelude.{ℕ, ◌+◌, ◌*◌, ◌-◌, Bool, ◌&&◌, ◌==◌, nat_le, nat_lt, if◌then◌else◌, pos, length, take}
use Rattle.std.specs.Prelude.{slice_index, Option, Some, None}
use Rattle.std.specs.Char.{is_ascii_digit}
use Rattle.std.specs.List.{list_all}
use Rattle.jiff_core.specs.Calendar.{days_in_month}
use Rattle.x5_model.specs.Values.{Text}
use Rattle.x5_know.specs.Moments.{Start}

abbrev pub digit : Text → ℕ → ℕ
digit t i = slice_index t i - 48

-- the number that the two digits at the place spell
abbrev pub two : Text → ℕ → ℕ
two t i = digit t i * 10 + digit t (i + 1)

-- fourteen digits and `Z`
abbrev pub is_stamp : Text → Bool
is_stamp t = (length t == 15) && (list_all is_ascii_digit (take 14 t) && (slice_index t 14 == 90))

abbrev pub year_of : Text → ℕ
year_of t = two t 0 * 100 + two t 2

abbrev pub is_day : ℕ → ℕ → ℕ → Bool
is_day year month day =
    nat_le 1 month && (nat_le month 12 && (nat_le 1 day && nat_le day (days_in_month (pos year) month)))

abbrev pub is_time : ℕ → ℕ → ℕ → Bool
is_time hour minute second = nat_lt hour 24 && (nat_lt minute 60 && nat_lt second 60)

abbrev pub is_start : Text → Bool
is_start t =
    is_stamp t
    && ((nat_le 1900 (year_of t) && nat_le (year_of t) 9000)
    && (is_day (year_of t) (two t 4) (two t 6) && is_time (two t 8) (two t 10) (two t 12)))

abbrev pub start_at : Text → Start
start_at t = record {
  day = record { year = pos (year_of t); month = two t 4; day = two t 6 };
  second = (two t 8 * 60 + two t 10) * 60 + two t 12;
}

abbrev pub start_of : Text → Option Start
start_of t = if is_start t then Some (start_at t) else None
