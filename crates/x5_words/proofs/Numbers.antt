-- A parsed number is that of its digits.
use Rattle.std.proofs.Common.{◌≡◌, ℕ, zero, suc, ◌^◌, ◌<◌, ◌≤◌, ◌==◌, Bool, true, false, ◌&&◌, nat_lt, List, length, Option, None, Some, Result, Ok, Err, sym, ◌∙◌, ap, ap₂, if◌then◌else◌, inl, inr, rules, arith}
use Rattle.std.proofs.lemmas.Bool.{cases_lt, lt-ltb, le-ltb, le-leb}
use Rattle.std.proofs.lemmas.Str.Parse.{IsNumeralModel, numerals_by_value, parse_digits}
use Rattle.std.specs.Char.{is_ascii_digit}
use Rattle.std.specs.List.{list_all}
use Rattle.std.specs.Result.{OkIff, result_ok}
use Rattle.std.specs.Str.Parse.{digits_value, ParsesUnsigned}
use Rattle.x5_words.specs.Forms.{are_digits, is_numeral, number_in}

numerals : IsNumeralModel (λ ds. list_all is_ascii_digit ds ≡ true) (digits_value 10)
numerals = numerals_by_value _ (search rules)

number_at : (bs : List ℕ) (t : Bool) → is_numeral bs ≡ true → nat_lt (digits_value 10 bs) (2 ^ 32) ≡ t → number_in bs ≡ (if t then Some (digits_value 10 bs) else None)
number_at bs t h e = ap (λ b. if b then Some (digits_value 10 bs) else None) (ap₂ ◌&&◌ h e)

by_cases : {E : Type 0} (bs : List ℕ) (r : Result ℕ E) → is_numeral bs ≡ true → 0 < length bs → OkIff r ((0 < length bs) × (digits_value 10 bs < 2 ^ 32)) (digits_value 10 bs) → result_ok r ≡ number_in bs
by_cases bs (Ok n) h some found = ap Some found.1 ∙ sym (number_at bs true h (lt-ltb _ _ found.0.1))
by_cases bs (Err e) h some none =
    elim (cases_lt (digits_value 10 bs) (2 ^ 32)) [
      | inl small ↦ absurd (none (some, small))
      | inr large ↦ sym (number_at bs false h (le-ltb _ _ large))
    ]

number_gives : {E : Type 0} (bs : List ℕ) (r : Result ℕ E) → is_numeral bs ≡ true → are_digits bs ≡ true → 0 < length bs → ParsesUnsigned 32 10 bs r → result_ok r ≡ number_in bs
number_gives bs r h digits some p = by_cases bs r h some (parse_digits numerals 32 bs r p digits)

pub some_digits : (n : ℕ) → false ≡ (n == 0) → 0 < n
some_digits zero h = absurd (cc)
some_digits (suc n) h = omega arith

numeral_is : (bs : List ℕ) → are_digits bs ≡ true → 0 < length bs → length bs ≤ 10 → is_numeral bs ≡ true
numeral_is bs digits some short = ap₂ ◌&&◌ (ap₂ ◌&&◌ digits (lt-ltb 0 (length bs) some)) (le-leb (length bs) 10 short)

pub number_is : {E : Type 0} (bs word : List ℕ) (r : Result ℕ E) (o : Option ℕ) → bs ≡ word → are_digits bs ≡ true → 0 < length bs → length bs ≤ 10 → ParsesUnsigned 32 10 bs r → o ≡ result_ok r → o ≡ number_in word
number_is bs word r o same digits some short p h = h ∙ number_gives bs r (numeral_is bs digits some short) digits some p ∙ ap (number_in) same
