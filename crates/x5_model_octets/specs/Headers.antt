-- Identifier octets and length octets of the Basic Encoding Rules (X.690, 8.1.2 and 8.1.3).
-- An octet is a number below 256, and bit 8 is its highest bit, as in X.690.
use Rattle.std.specs.Prelude.{◌≡◌, ◌≢◌, ℕ, ◌+◌, ◌-◌, ◌*◌, ◌/◌, ◌%◌, ◌^◌, ◌<◌, ◌≤◌, ◌==◌, Bool, if◌then◌else◌, nat_lt}
use Rattle.std.specs.Prelude.{List, [], ◌∷◌, ◌++◌, length, take, drop}
use Rattle.std.specs.declared.option.Option.{Option}
use Rattle.std.specs.declared.option.Option.TheVariants.{None, Some}
use Rattle.std.specs.declared.result.Result.{Result}
use Rattle.std.specs.declared.result.Result.TheVariants.{Ok, Err}

-- What identifier octets say: the class (0 universal, 1 application, 2 context-specific, 3 private),
-- whether the content is made of elements, and the tag number.
pub record Identifier : Type 0 where
  pub class : ℕ
  pub constructed : Bool
  pub tag : ℕ

-- Bit 6 of the first identifier octet (8.1.2.5).
abbrev pub form_bit : Bool → ℕ
form_bit constructed = if constructed then 32 else 0

-- The first identifier octet: the class in bits 8 and 7, the form in bit 6, and a number below 32.
abbrev pub leading : Identifier → ℕ → ℕ
leading i low = 64 * i.class + form_bit i.constructed + low

-- Groups of seven bits, the highest first, each but the last with bit 8 set: behind those that gave
-- the first number, they give the second one (8.1.2.4.2).
abbrev pub IsGroups : ℕ → List ℕ → ℕ → Type 0
IsGroups before [] tag = ⊥
IsGroups before (g ∷ []) tag = (g < 128) × (tag ≡ before * 128 + g % 128)
IsGroups before (g ∷ h ∷ more) tag = (128 ≤ g) × IsGroups (before * 128 + g % 128) (h ∷ more) tag

-- The first group has a bit set besides bit 8 (8.1.2.4.2 c).
abbrev pub IsUnpadded : List ℕ → Type 0
IsUnpadded [] = Unit {0}
IsUnpadded (g ∷ more) = g ≢ 128

-- Identifier octets: one octet for a tag number below 31, and else the number 31 in their place and
-- the groups of the tag number behind it (8.1.2.2, 8.1.2.4). Tag numbers are below 2 ^ 31.
pub data IsIdentifier (i : Identifier) (octets : List ℕ) : Type 0 where
  low : i.class < 4 → i.tag < 31 → octets ≡ leading i i.tag ∷ [] → IsIdentifier i octets
  high : (groups : List ℕ) → i.class < 4 → 31 ≤ i.tag → i.tag < 2 ^ 31 → IsUnpadded groups → IsGroups 0 groups i.tag →
      octets ≡ leading i 31 ∷ groups → IsIdentifier i octets

-- The number that octets give, the highest first, behind those that gave the first number.
abbrev pub big_endian : ℕ → List ℕ → ℕ
big_endian before [] = before
big_endian before (d ∷ digits) = big_endian (before * 256 + d) digits

-- Length octets: the short form, the long form with one to eight octets of which the first may be
-- zero, and the indefinite form, which is None (8.1.3.4 to 8.1.3.6).
pub data IsLength (n : Option ℕ) (octets : List ℕ) : Type 0 where
  short : (k : ℕ) → k < 128 → n ≡ Some k → octets ≡ k ∷ [] → IsLength n octets
  long : (digits : List ℕ) → 1 ≤ length digits → length digits ≤ 8 → n ≡ Some (big_endian 0 digits) → octets
      ≡ (128 + length digits) ∷ digits → IsLength n octets
  indefinite : n ≡ None → octets ≡ 128 ∷ [] → IsLength n octets

-- Identifier octets and then length octets.
pub record IsHeader (i : Identifier) (n : Option ℕ) (octets : List ℕ) : Type 0 where
  pub identifier_octets : List ℕ
  pub length_octets : List ℕ
  pub identifier : IsIdentifier i identifier_octets
  pub length_form : IsLength n length_octets
  pub whole : octets ≡ identifier_octets ++ length_octets

-- What reading finds in place of identifier or length octets: the octets end first, or no going on
-- makes them right.
pub data Stop : Type 0 where
  Short : Stop
  Malformed : Stop

-- Reads groups, behind those that gave the number: the tag number and the octets after them. A tag
-- number from 2 ^ 31 on is malformed with the group that shows it.
abbrev pub groups_at : ℕ → List ℕ → Result (ℕ × List ℕ) Stop
groups_at before [] = Err Short
groups_at before (g ∷ rest) =
    if nat_lt (before * 128 + g % 128) (2 ^ 31) then
    (if nat_lt g 128 then Ok (before * 128 + g % 128, rest) else groups_at (before * 128 + g % 128) rest)
    else Err Malformed

-- The identifier of a first octet and a tag number.
abbrev pub identifier_of : ℕ → ℕ → Identifier
identifier_of first tag = record { class = first / 64; constructed = first / 32 % 2 == 1; tag = tag }

abbrev pub with_high_tag : ℕ → Result (ℕ × List ℕ) Stop → Result (Identifier × List ℕ) Stop
with_high_tag first (Ok found) = if nat_lt found.0 31 then Err Malformed else Ok (identifier_of first found.0, found.1)
with_high_tag first (Err stop) = Err stop

abbrev pub high_tag_at : ℕ → List ℕ → Result (Identifier × List ℕ) Stop
high_tag_at first [] = Err Short
high_tag_at first (g ∷ rest) = if g == 128 then Err Malformed else with_high_tag first (groups_at 0 (g ∷ rest))

-- Reads identifier octets: what they say, and the octets after them.
abbrev pub identifier_at : List ℕ → Result (Identifier × List ℕ) Stop
identifier_at [] = Err Short
identifier_at (first ∷ rest) =
    if first % 32 == 31 then high_tag_at first rest else Ok (identifier_of first (first % 32), rest)

-- Reads length octets: the length, or None for the indefinite form, and the octets after them. More
-- than eight octets are malformed, 0xFF among them.
abbrev pub length_at : List ℕ → Result (Option ℕ × List ℕ) Stop
length_at [] = Err Short
length_at (l ∷ rest) =
    if nat_lt l 128 then Ok (Some l, rest)
    else if l == 128 then Ok (None, rest)
    else if nat_lt 136 l then Err Malformed
    else if nat_lt (length rest) (l - 128) then Err Short
    else Ok (Some (big_endian 0 (take (l - 128) rest)), drop (l - 128) rest)
