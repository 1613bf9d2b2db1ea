-- Texts of the kinds of strings are octets of ASCII, and so of UTF-8: octet by octet.
use Rattle.std.proofs.Common.{◌≡◌, ℕ, ◌<◌, Bool, true, false, List, [], ◌∷◌, ◌&&◌, not, nat_le, length, codes, if◌then◌else◌, arith, refl}
use Rattle.std.proofs.lemmas.Bool.{and_parts}
use Rattle.std.proofs.lemmas.Bool.Decides.{nat_tests}
use Rattle.std.proofs.lemmas.Str.Ascii.{IsAscii-nil, IsAscii-cons}
use Rattle.std.proofs.lemmas.Str.{IsUtf8-from_ascii}
use Rattle.std.specs.List.{list_all}
use Rattle.std.specs.Str.{IsAscii, IsUtf8}
use Rattle.x5_model.specs.Normal.{is_printable}
use Rattle.x5_model.specs.Words.{same_octets}
use Rattle.x5_model_typed.specs.Layouts.{Surroundings}
use Rattle.x5_model_typed.specs.Leaves as leaves
use Rattle.x5_types.specs.declared.form.Letters.{Letters}
use Rattle.x5_types.specs.declared.form.Letters.TheVariants as letters
use Rattle.x5_types.specs.FormView.{letters_view}

all_low : (p : ℕ → Bool) → ((b : ℕ) → p b ≡ true → b < 128) → (t : List ℕ) → list_all p t ≡ true → IsAscii t
all_low p low [] e = IsAscii-nil
all_low p low (b ∷ t) e =
    let parts = and_parts (p b) (list_all p t) e in
    IsAscii-cons b t (low b parts.0) (all_low p low t parts.1)

numeric_low : (b : ℕ) → leaves.is_numeric b ≡ true → b < 128
numeric_low b e = grind (arith, nat_tests)

printable_low : (b : ℕ) → is_printable b ≡ true → b < 128
printable_low b e = grind (arith, nat_tests)

seven_low : (b : ℕ) → leaves.is_seven_bit b ≡ true → b < 128
seven_low b e = grind (arith, nat_tests)

agent_low : (b : ℕ) → leaves.may_stand_in_agent b ≡ true → b < 128
agent_low b e = grind (arith, nat_tests)

-- a condition whose other side is false
first_so : (a b : Bool) → (if a then b else false) ≡ true → a ≡ true
first_so true b e = refl
first_so false b e = e

text_low : (p : ℕ → Bool) → ((b : ℕ) → p b ≡ true → b < 128) → (t : List ℕ) → leaves.text_of p t ≡ true → IsAscii t
text_low p low t e = all_low p low t (and_parts (list_all p t) (leaves.is_length t) e).0

agent_text : (t : List ℕ) → leaves.is_agent_name t ≡ true → IsAscii t
agent_text t e =
    let front : (leaves.begins_with_letter t && list_all leaves.may_stand_in_agent t) ≡ true =
    (and_parts _ (nat_le (length t) 32) (and_parts _ (not (same_octets t (codes "user"))) e).0).0 in
    all_low leaves.may_stand_in_agent agent_low t (and_parts (leaves.begins_with_letter t) _ front).1

are_ascii : (w : Surroundings) (ls : Letters) (t : List ℕ) → letters_view w ls t ≡ true → IsAscii t
are_ascii w letters.Numeric t e = text_low leaves.is_numeric numeric_low t e
are_ascii w letters.Printable t e = text_low is_printable printable_low t e
are_ascii w letters.SevenBit t e = text_low leaves.is_seven_bit seven_low t e
are_ascii w letters.Agent t e = agent_text t (first_so (leaves.is_agent_name t) _ e)
are_ascii w letters.WorldAgent t e = agent_text t (first_so (leaves.is_agent_name t) _ e)

pub are_utf8 : (w : Surroundings) (ls : Letters) (t : List ℕ) → letters_view w ls t ≡ true → IsUtf8 t
are_utf8 w ls t e = IsUtf8-from_ascii t (are_ascii w ls t e)

pub agents_are_utf8 : (t : List ℕ) → leaves.is_agent_name t ≡ true → IsUtf8 t
agents_are_utf8 t e = IsUtf8-from_ascii t (agent_text t e)
