-- A text of decimal digits, read as a number.
use Rattle.std.proofs.Common.{◌≡◌, ℕ, ◌^◌, ◌<◌, Bool, true, false, ◌&&◌, nat_lt, length, None, Some, Result, Ok, Err, sym, ◌∙◌, ap, ap₂, if◌then◌else◌, inl, inr}
use Rattle.std.proofs.lemmas.Bool.{and_parts, cases_lt, lt-ltb, ltb-true, le-ltb}
use Rattle.std.specs.Char.{is_ascii_digit}
use Rattle.std.specs.List.{list_all}
use Rattle.std.specs.Result.{OkIff, result_ok}
use Rattle.std.specs.Str.Parse.{digits_value, ParsesUnsigned}
use Rattle.std.proofs.lemmas.Str.Parse.{parse_digits}
use Rattle.x5_syntax.proofs.OidLemmas.{numerals}
use Rattle.x5_model.specs.Values.{Text}
use Rattle.x5_model_script.specs.Texts.{is_numeral, number_in}

number_at : (most : ℕ) (t : Text) (b : Bool) → is_numeral most t ≡ true → nat_lt (digits_value 10 t) (2 ^ 32) ≡ b
    → number_in most t ≡ (if b then Some (digits_value 10 t) else None)
number_at most t b h e = ap (λ c. if c then Some (digits_value 10 t) else None) (ap₂ ◌&&◌ h e)

by_cases : {E : Type 0} (most : ℕ) (t : Text) (r : Result ℕ E) → 0 < length t → is_numeral most t ≡ true
    → OkIff r ((0 < length t) × (digits_value 10 t < 2 ^ 32)) (digits_value 10 t) → result_ok r ≡ number_in most t
by_cases most t (Ok n) some h found = ap Some found.1 ∙ sym (number_at most t true h (lt-ltb _ _ found.0.1))
by_cases most t (Err e) some h none = elim (cases_lt (digits_value 10 t) (2 ^ 32)) [
  | inl small ↦ absurd (none (some, small))
  | inr large ↦ sym (number_at most t false h (le-ltb _ _ large))
]

pub number_gives : {E : Type 0} (most : ℕ) (t : Text) (r : Result ℕ E) → is_numeral most t ≡ true
    → ParsesUnsigned 32 10 t r → result_ok r ≡ number_in most t
number_gives most t r h p =
    let front = (and_parts (list_all is_ascii_digit t && nat_lt 0 (length t)) _ h).0 in
    let parts = and_parts (list_all is_ascii_digit t) _ front in
    by_cases most t r (ltb-true 0 (length t) parts.1) h (parse_digits numerals 32 t r p parts.0)
