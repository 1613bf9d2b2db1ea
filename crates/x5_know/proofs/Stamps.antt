-- A moment's text as digits, which say its date and its second of the day; so no two moments of a start have one text.
use Rattle.std.proofs.Common.{◌≡◌, ℕ, zero, suc, ◌+◌, ◌-◌, ◌*◌, ◌/◌, ◌%◌, ◌<◌, ◌≤◌, Bool, true, false, List, []}
use Rattle.std.proofs.Common.{◌∷◌, refl, sym, ap, ◌∙◌, subst, length, arith, ℤ, pos, negsuc, IsSome, IfSome, ◌+ℤ◌}
use Rattle.std.proofs.Common.{◌≤ℤ◌, unsigned_abs, slice_index, if◌then◌else◌}
use Rattle.std.specs.declared.option.Option.{Option}
use Rattle.std.specs.declared.option.Option.TheVariants.{None, Some}
use Rattle.std.specs.Fmt.{decimal}
use Rattle.std.proofs.lemmas.Fmt.{decimal_digit}
use Rattle.std.specs.Cmp.Lexicographic.{bytes_decides}
use Rattle.jiff_core.specs.declared.civil.date.Date.{Date}
use Rattle.jiff_core.specs.Calendar.{IsCivilDate, days_from_civil}
use Rattle.jiff_core.specs.Date.{epoch_day}
use Rattle.jiff_core.proofs.CalendarLemmas.{days_in_month_bounds}
use Rattle.jiff_core.proofs.SignedLemmas.{signed_arith}
use Rattle.x5_model.specs.Words.{same_octets}
use Rattle.x5_know.specs.Moments.{Day, Start, day_of, days_after, stamp_text, moment_text, moment_count, moment_of}
use Rattle.x5_know.specs.Moments.{greatest_below}
use Rattle.x5_know.proofs.Days.{days_after_is, later_date}

digit : (n : ℕ) → decimal (n % 10) ≡ (48 + n % 10) ∷ []
digit n = decimal_digit (n % 10) (omega arith)

-- fourteen digits, and `Z`
abbrev stamp_digits : ℕ → ℕ → ℕ → ℕ → ℕ → ℕ → List ℕ
stamp_digits y m d h i s =
    (48 + y / 1000 % 10) ∷ (48 + y / 100 % 10) ∷ (48 + y / 10 % 10) ∷ (48 + y % 10) ∷ (48 + m / 10 % 10) ∷ (48 + m % 10)
    ∷ (48 + d / 10 % 10) ∷ (48 + d % 10) ∷ (48 + h / 10 % 10) ∷ (48 + h % 10) ∷ (48 + i / 10 % 10) ∷ (48 + i % 10)
    ∷ (48 + s / 10 % 10) ∷ (48 + s % 10) ∷ 90 ∷ []

stamp_is : (d : Day) (s : ℕ)
    → stamp_text d s ≡ stamp_digits (unsigned_abs d.year) d.month d.day (s / 3600) (s / 60 % 60) (s % 60)
stamp_is d s =
    let y = unsigned_abs d.year in
    rw (digit (y / 1000), digit (y / 100), digit (y / 10), digit y, digit (d.month / 10), digit d.month, digit (d.day / 10), digit d.day)
    (rw (digit (s / 3600 / 10), digit (s / 3600), digit (s / 60 % 60 / 10), digit (s / 60 % 60), digit (s % 60 / 10), digit (s % 60)) refl)

-- the number that two digits spell
abbrev pub two_in : List ℕ → ℕ → ℕ
two_in octets place = (slice_index octets place - 48) * 10 + (slice_index octets (place + 1) - 48)

-- what a text says
pub record Says (octets : List ℕ) (d : Day) (s : ℕ) : Type 0 where
  pub year : two_in octets 0 * 100 + two_in octets 2 ≡ unsigned_abs d.year
  pub month : two_in octets 4 ≡ d.month
  pub day : two_in octets 6 ≡ d.day

pub stamp_says : (octets : List ℕ) (d : Day) (s : ℕ) → octets ≡ stamp_text d s → unsigned_abs d.year < 10_000 → d.month < 100
    → d.day < 100 → Says octets d s
stamp_says octets d s e year month day =
    let is = e ∙ stamp_is d s in
    record { year = rw is (omega (arith, year)); month = rw is (omega (arith, month)); day = rw is (omega (arith, day)) }

pub second_says : (octets : List ℕ) (d : Day) (s : ℕ) → octets ≡ stamp_text d s → s < 86_400
    → (two_in octets 8 * 60 + two_in octets 10) * 60 + two_in octets 12 ≡ s
second_says octets d s e small = let is = e ∙ stamp_is d s in rw is (omega (arith, small))

-- ---- the one number of which it's true

step_none : (b : Bool) (n : ℕ) (o : Option ℕ) → (b ≡ true → ⊥) → o ≡ None → (if b then Some n else o) ≡ None
step_none true n o never e = absurd (never refl)
step_none false n o never e = e

pub none_below : (is_true : ℕ → Bool) (n : ℕ) → ((m : ℕ) → m < n → is_true m ≡ true → ⊥) → greatest_below is_true n ≡ None
none_below is_true zero never = refl
none_below is_true (suc n) never =
    step_none (is_true n) n (greatest_below is_true n) (never n (omega arith)) (none_below is_true n (λ m lt. never m (omega (arith, lt))))

step_only : (b : Bool) (n m : ℕ) (o : Option ℕ) → (b ≡ true → n ≡ m) → (b ≡ false → o ≡ Some m) → (if b then Some n else o) ≡ Some m
step_only true n m o here later = ap (λ (k : ℕ). let x : Option ℕ = Some k in x) (here refl)
step_only false n m o here later = later refl

earlier : (is_true : ℕ → Bool) (n m : ℕ) → m < suc n → is_true m ≡ true → is_true n ≡ false → m < n
earlier is_true n m lt holds never =
    let other : ¬ (m ≡ n) = λ e. absurd (cc (holds, never, e)) in
    omega (arith, lt, other)

pub only_below : (is_true : ℕ → Bool) (n m : ℕ) → m < n → is_true m ≡ true → ((k : ℕ) → k < n → is_true k ≡ true → k ≡ m)
    → greatest_below is_true n ≡ Some m
only_below is_true zero m lt holds only = absurd (omega (arith, lt))
only_below is_true (suc n) m lt holds only =
    step_only (is_true n) n m (greatest_below is_true n) (only n (omega arith))
    (λ never. only_below is_true n m (earlier is_true n m lt holds never) holds (λ k below. only k (omega (arith, below))))

-- ---- a moment's text

pub count_is : moment_count ≡ 4_294_967_296
unfolding moment_count
count_is = refl

pub stamp_length : (octets : List ℕ) (d : Day) (s : ℕ) → octets ≡ stamp_text d s → length octets ≡ 15
stamp_length octets d s e = let is = e ∙ stamp_is d s in rw is refl

-- The octets are the text of the date so many days after, and of the second of it.
pub record IsText (date : Date) (second m : ℕ) (octets : List ℕ) : Type 0 where
  pub later : Date
  pub number : epoch_day later ≡ epoch_day date +ℤ pos ((second + m) / 86_400)
  pub year : pos 0 ≤ℤ later.year
  pub is : octets ≡ stamp_text (day_of later) ((second + m) % 86_400)

pub text_of : (date : Date) (second m : ℕ) (octets : List ℕ) → second < 86_400 → epoch_day date ≤ℤ pos 2_570_000 → pos 0 ≤ℤ date.year
    → m < 4_294_967_296 → same_octets (moment_text (record { day = day_of date; second = second }) m) octets ≡ true
    → IsText date second m octets
text_of date second m octets small low first few same =
    let k = (second + m) / 86_400 in
    let most : k ≤ 49_711 = omega (arith, small, few) in
    let later = later_date k date (omega (arith, signed_arith, most, low)) in
    let day : day_of later.date ≡ days_after k (day_of date) = days_after_is k date later.date later.number in
    let text = (bytes_decides (moment_text (record { day = day_of date; second = second }) m) octets).0 same in
    record {
      later = later.date;
      number = later.number;
      year = omega (arith, signed_arith, first, later.year);
      is = sym text ∙ ap (λ (d : Day). stamp_text d ((second + m) % 86_400)) (sym day);
    }

pub same_number : (a b : Date) → day_of a ≡ day_of b → epoch_day a ≡ epoch_day b
same_number a b e = ap (λ (d : Day). days_from_civil d.year d.month d.day) e

-- ---- the date that octets say

small_year : (z : ℤ) → z ≤ℤ pos 9999 → pos 0 ≤ℤ z → unsigned_abs z < 10_000
small_year (pos n) h g = omega (arith, signed_arith, h)
small_year (negsuc n) h g = absurd (omega (arith, signed_arith, g))

year_is : (y : ℕ) (z : ℤ) → pos 0 ≤ℤ z → y ≡ unsigned_abs z → pos y ≡ z
year_is y (pos n) h e = ap pos e
year_is y (negsuc n) h e = absurd (omega (arith, signed_arith, h))

abbrev date_as : ℤ → ℕ → ℕ → Day
date_as y m d = record { year = y; month = m; day = d }

days_same : (y z : ℤ) (m n d e : ℕ) → y ≡ z → m ≡ n → d ≡ e → date_as y m d ≡ date_as z n e
days_same y z m n d e f g h = cc

pub found_date : (octets : List ℕ) (date : Date) (second y m d : ℕ) (o : Option Date) → pos 0 ≤ℤ date.year
    → octets ≡ stamp_text (day_of date) second → y ≡ two_in octets 0 * 100 + two_in octets 2 → m ≡ two_in octets 4
    → d ≡ two_in octets 6 → (IsCivilDate (pos y) m d → IsSome o)
    → IfSome o (λ x. day_of x ≡ record { year = pos y; month = m; day = d })
    → (found : Date) × (o ≡ Some found) × (day_of found ≡ day_of date)
found_date octets date second y m d o first e ey em ed there value =
    let bound = days_in_month_bounds date.year date.month in
    let long : unsigned_abs date.year < 10_000 = small_year date.year date.year_in.1 first in
    let said = stamp_says octets (day_of date) second e long (omega (arith, date.month_in)) (omega (arith, bound, date.day_in)) in
    let year : pos y ≡ date.year = year_is y date.year first (ey ∙ said.year) in
    let month : m ≡ date.month = em ∙ said.month in
    let day : d ≡ date.day = ed ∙ said.day in
    let civil : IsCivilDate (pos y) m d =
    subst (λ (z : ℤ). IsCivilDate z m d) (sym year)
    (subst (λ (k : ℕ). IsCivilDate date.year k d) (sym month)
    (subst (λ (k : ℕ). IsCivilDate date.year date.month k) (sym day) (date.year_in, date.month_in, date.day_in))) in
    by o (there civil) value (days_same (pos y) date.year m date.month d date.day year month day)
  where
    by : (q : Option Date) → IsSome q → IfSome q (λ x. day_of x ≡ record { year = pos y; month = m; day = d })
        → date_as (pos y) m d ≡ day_of date
        → (found : Date) × (q ≡ Some found) × (day_of found ≡ day_of date)
    by None there value same = absurd (cc there)
    by (Some x) there value same = (x, refl, value ∙ same)

-- ---- the moment, where it's the only one that can be

pub found_moment : (is_true : ℕ → Bool) (n m : ℕ) (b : Bool) → b ≡ is_true m → m < n
    → ((k : ℕ) → k < n → is_true k ≡ true → m ≡ k) → (if b then Some m else None) ≡ greatest_below is_true n
found_moment is_true n m true e lt only = sym (only_below is_true n m lt (sym e) (λ k less holds. sym (only k less holds)))
found_moment is_true n m false e lt only =
    sym (none_below is_true n (λ k less holds. cc (e, only k less holds, holds)))

-- ---- a moment's text is that of no other moment

same_year : (y z : ℤ) → pos 0 ≤ℤ y → pos 0 ≤ℤ z → unsigned_abs y ≡ unsigned_abs z → y ≡ z
same_year (pos n) (pos k) p q e = ap pos e
same_year (pos n) (negsuc k) p q e = absurd (omega (arith, signed_arith, q))
same_year (negsuc n) z p q e = absurd (omega (arith, signed_arith, p))

said_date : (octets : List ℕ) (d : Date) (s : ℕ) → octets ≡ stamp_text (day_of d) s → pos 0 ≤ℤ d.year
    → Says octets (day_of d) s
said_date octets d s e first =
    let bound = days_in_month_bounds d.year d.month in
    stamp_says octets (day_of d) s e (small_year d.year d.year_in.1 first) (omega (arith, d.month_in))
    (omega (arith, bound, d.day_in))

one_day : (octets : List ℕ) (a b : Date) (s t : ℕ) → octets ≡ stamp_text (day_of a) s → octets ≡ stamp_text (day_of b) t
    → pos 0 ≤ℤ a.year → pos 0 ≤ℤ b.year → day_of a ≡ day_of b
one_day octets a b s t e f p q =
    let x = said_date octets a s e p in
    let y = said_date octets b t f q in
    days_same a.year b.year a.month b.month a.day b.day (same_year a.year b.year p q (sym x.year ∙ y.year))
    (sym x.month ∙ y.month) (sym x.day ∙ y.day)

one_moment : (date : Date) (second k m : ℕ) (octets : List ℕ) → IsText date second k octets → IsText date second m octets
    → k ≡ m
one_moment date second k m octets a b =
    let same : day_of a.later ≡ day_of b.later =
    one_day octets a.later b.later ((second + k) % 86_400) ((second + m) % 86_400) a.is b.is a.year b.year in
    let number : epoch_day a.later ≡ epoch_day b.later = same_number a.later b.later same in
    let days : (second + k) / 86_400 ≡ (second + m) / 86_400 = omega (arith, signed_arith, a.number, b.number, number) in
    let seconds : (second + k) % 86_400 ≡ (second + m) % 86_400 =
    sym (second_says octets (day_of a.later) ((second + k) % 86_400) a.is (omega arith))
    ∙ second_says octets (day_of b.later) ((second + m) % 86_400) b.is (omega arith) in
    omega (arith, days, seconds)

pub reads_back : (date : Date) (second m : ℕ) → second < 86_400 → epoch_day date ≤ℤ pos 2_570_000 → pos 0 ≤ℤ date.year
    → m < 4_294_967_296
    → moment_of (record { day = day_of date; second = second }) (moment_text (record { day = day_of date; second = second }) m)
    ≡ Some m
reads_back date second m small low first few =
    let s : Start = record { day = day_of date; second = second } in
    let t : List ℕ = moment_text s m in
    let itself : same_octets t t ≡ true = (bytes_decides t t).1 refl in
    only_below (λ k. same_octets (moment_text s k) t) moment_count m (omega (arith, few, count_is)) itself
    (λ k less same. one_moment date second k m t (text_of date second k t small low first (omega (arith, less, count_is)) same)
    (text_of date second m t small low first few itself))
