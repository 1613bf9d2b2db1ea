-- Contents of primitive types (X.690, section 8), both ways.
use Rattle.std.specs.Prelude.{ℕ, ◌+◌, ◌-◌, ◌*◌, ◌%◌, ◌^◌, ℤ, pos, negsuc, Bool, true, false, not, ◌&&◌, ◌||◌, ◌==◌}
use Rattle.std.specs.Prelude.{nat_lt, nat_le, if◌then◌else◌, List, [], ◌∷◌, length, map, flat_map, chars}
use Rattle.std.specs.Prelude.{encode_utf8_all, codes}
use Rattle.std.specs.List.{list_all, list_any}
use Rattle.std.specs.Int.{to_be_bytes, w32, w64}
use Rattle.std.specs.Char.{is_ascii_alphabetic, is_ascii_alphanumeric, is_ascii_digit}
use Rattle.std.specs.declared.option.Option.{Option}
use Rattle.std.specs.declared.option.Option.TheVariants.{None, Some}
use Rattle.x5_model.specs.Words.{in_option, same_octets}
use Rattle.x5_model.specs.Normal.{is_oid, most_octets, oid_content_len}
use Rattle.x5_model_octets.specs.Headers.{big_endian}
use Rattle.x5_model_octets.specs.Elements.{groups, without_zeros}
use Rattle.x5_model_typed.specs.Nodes.{Node, Vacant, Flag, Number, Oid, Octets, Text, Many, row, parts, whole}
use Rattle.x5_model_typed.specs.Forms.{Leaf}

abbrev pub where_so : {X : Type 0} → Bool → X → Option X
where_so true x = Some x
where_so false x = None

-- ---- BOOLEAN: false is 0, true is written as 255 (8.2, 11.1)

abbrev pub boolean : Leaf (List ℕ)
boolean = record { reads = reads; writes = writes }
  where
    reads : List ℕ → Option Node
    reads (o ∷ []) = Some (Flag (not (o == 0)))
    reads octets = None

    writes : Node → Option (List ℕ)
    writes (Flag true) = Some (255 ∷ [])
    writes (Flag false) = Some (0 ∷ [])
    writes n = None

-- ---- NULL (8.8)

abbrev pub null : Leaf (List ℕ)
null = record { reads = reads; writes = writes }
  where
    reads : List ℕ → Option Node
    reads [] = Some Vacant
    reads octets = None

    writes : Node → Option (List ℕ)
    writes Vacant = Some []
    writes n = None

-- ---- INTEGER and ENUMERATED: two's complement in the fewest octets (8.3), here at most eight

-- the first nine bits aren't all zeros, nor all ones
abbrev pub is_shortest : List ℕ → Bool
is_shortest [] = false
is_shortest (a ∷ []) = true
is_shortest (a ∷ b ∷ os) = not ((a == 0) && nat_lt b 128) && not ((a == 255) && nat_le 128 b)

abbrev pub complement : List ℕ → ℤ
complement [] = pos 0
complement (a ∷ os) =
    if nat_lt a 128 then pos (big_endian 0 (a ∷ os)) else negsuc (2 ^ (8 * length (a ∷ os)) - 1 - big_endian 0 (a ∷ os))

abbrev pub number_of : List ℕ → Option ℤ
number_of octets = where_so (is_shortest octets && nat_le (length octets) 8) (complement octets)

-- with an octet before those whose first bit is set
abbrev pub unsigned : List ℕ → List ℕ
unsigned [] = 0 ∷ []
unsigned (a ∷ os) = if nat_lt a 128 then a ∷ os else 0 ∷ a ∷ os

abbrev pub number_octets : ℤ → List ℕ
number_octets (pos n) = unsigned (without_zeros (to_be_bytes w64 n))
number_octets (negsuc n) = map (λ o. 255 - o) (unsigned (without_zeros (to_be_bytes w64 n)))

-- a number that has eight octets at most
abbrev pub is_short_number : ℤ → Bool
is_short_number (pos n) = nat_lt n (2 ^ 63)
is_short_number (negsuc n) = nat_lt n (2 ^ 63)

abbrev pub number : (ℤ → Bool) → Leaf (List ℕ)
number test = record { reads = λ octets. in_option None tested (number_of octets); writes = writes }
  where
    tested : ℤ → Option Node
    tested k = where_so (test k) (Number k)

    writes : Node → Option (List ℕ)
    writes (Number k) = where_so (is_short_number k && test k) (number_octets k)
    writes n = None

abbrev pub any_number : ℤ → Bool
any_number k = true

abbrev pub from_to : ℕ → ℕ → ℤ → Bool
from_to low high (pos n) = nat_le low n && nat_le n high
from_to low high (negsuc n) = false

abbrev pub one_of : List ℕ → ℤ → Bool
one_of numbers (pos n) = list_any (λ m. m == n) numbers
one_of numbers (negsuc n) = false

-- ---- OBJECT IDENTIFIER: numbers in base 128, the two first arcs in one (8.19)

abbrev pub cons_to : Option (List ℕ) → ℕ → Option (List ℕ)
cons_to None n = None
cons_to (Some ns) n = Some (n ∷ ns)

-- `fresh` where a number begins, `before` what its octets so far say
abbrev pub subidentifiers : Bool → ℕ → List ℕ → Option (List ℕ)
subidentifiers fresh before [] = where_so fresh []
subidentifiers fresh before (o ∷ os) =
    if fresh && (o == 128) then None
    else if nat_lt o 128 then cons_to (subidentifiers true 0 os) (before * 128 + o)
    else subidentifiers false (before * 128 + o % 128) os

abbrev pub first_arc : ℕ → ℕ
first_arc n = if nat_lt n 40 then 0 else if nat_lt n 80 then 1 else 2

abbrev pub arcs_of : List ℕ → List ℕ
arcs_of [] = []
arcs_of (n ∷ ns) = first_arc n ∷ (n - 40 * first_arc n) ∷ ns

abbrev pub oid_of : List ℕ → Option (List ℕ)
oid_of octets = in_option None checked (subidentifiers true 0 octets)
  where
    checked : List ℕ → Option (List ℕ)
    checked ns = where_so (is_oid (arcs_of ns)) (arcs_of ns)

abbrev pub oid_octets : List ℕ → List ℕ
oid_octets [] = []
oid_octets (a ∷ []) = []
oid_octets (a ∷ b ∷ arcs) = flat_map groups ((40 * a + b) ∷ arcs)

abbrev pub oid : (List ℕ → Bool) → Leaf (List ℕ)
oid test = record { reads = λ octets. in_option None tested (oid_of octets); writes = writes }
  where
    tested : List ℕ → Option Node
    tested arcs = where_so (test arcs) (Oid arcs)

    writes : Node → Option (List ℕ)
    writes (Oid arcs) = where_so (is_oid arcs && test arcs) (oid_octets arcs)
    writes n = None

abbrev pub any_oid : List ℕ → Bool
any_oid arcs = true

abbrev pub short_oid : List ℕ → Bool
short_oid arcs = nat_le (oid_content_len arcs) most_octets

-- ---- strings

abbrev pub octet_string : Leaf (List ℕ)
octet_string =
    record { reads = λ octets. where_so (nat_le (length octets) most_octets) (Octets octets); writes = writes }
  where
    writes : Node → Option (List ℕ)
    writes (Octets octets) = where_so (nat_le (length octets) most_octets) octets
    writes n = None

-- of whatever length
abbrev pub any_octets : Leaf (List ℕ)
any_octets = record { reads = λ octets. Some (Octets octets); writes = writes }
  where
    writes : Node → Option (List ℕ)
    writes (Octets octets) = Some octets
    writes n = None

-- so, with a number before them
abbrev pub is_place : ℕ → Node → Bool
is_place place (Number (pos k)) = k == place
is_place place n = false

abbrev pub octets_in : Node → Option (List ℕ)
octets_in (Octets octets) = Some octets
octets_in n = None

abbrev pub placed : ℕ → Leaf (List ℕ)
placed place =
    record { reads = λ octets. Some (Many (row (whole place ∷ Octets octets ∷ []))); writes = λ n. by (parts n) }
  where
    by : List Node → Option (List ℕ)
    by (p ∷ q ∷ []) = if is_place place p then octets_in q else None
    by other = None

abbrev pub is_length : List ℕ → Bool
is_length text = nat_lt 0 (length text) && nat_le (length text) most_octets

-- a text all of whose octets may stand there: NumericString, PrintableString, IA5String
abbrev pub text_where : (List ℕ → Bool) → Leaf (List ℕ)
text_where test = record { reads = λ octets. where_so (test octets) (Text octets); writes = writes }
  where
    writes : Node → Option (List ℕ)
    writes (Text octets) = where_so (test octets) octets
    writes n = None

abbrev pub text_of : (ℕ → Bool) → List ℕ → Bool
text_of may_stand text = list_all may_stand text && is_length text

abbrev pub is_numeric : ℕ → Bool
is_numeric o = is_ascii_digit o || (o == 32)

abbrev pub is_seven_bit : ℕ → Bool
is_seven_bit o = nat_lt o 128

-- UniversalString: four octets a character, the highest first (X.680, section 41)
abbrev pub cells : List ℕ → Option (List ℕ)
cells [] = Some []
cells (a ∷ b ∷ c ∷ d ∷ os) = cons_to (cells os) (big_endian 0 (a ∷ b ∷ c ∷ d ∷ []))
cells os = None

abbrev pub is_character : ℕ → Bool
is_character c = nat_lt c 55296 || (nat_lt 57343 c && nat_lt c 1114112)

-- octets of UTF-8, which are those of their characters
abbrev pub are_characters : List ℕ → Bool
are_characters text = list_all is_character (chars text) && same_octets (encode_utf8_all (chars text)) text

abbrev pub universal_string : Leaf (List ℕ)
universal_string = record { reads = λ octets. in_option None checked (cells octets); writes = writes }
  where
    checked : List ℕ → Option Node
    checked cs = where_so (list_all is_character cs && is_length (encode_utf8_all cs)) (Text (encode_utf8_all cs))

    writes : Node → Option (List ℕ)
    writes (Text text) = where_so (are_characters text && is_length text) (flat_map (to_be_bytes w32) (chars text))
    writes n = None

-- an agent's name: a letter, then letters, digits and hyphens, 32 in all at most, and not the user
abbrev pub may_stand_in_agent : ℕ → Bool
may_stand_in_agent o = is_ascii_alphanumeric o || (o == 45)

abbrev pub begins_with_letter : List ℕ → Bool
begins_with_letter [] = false
begins_with_letter (o ∷ os) = is_ascii_alphabetic o

abbrev pub is_agent_name : List ℕ → Bool
is_agent_name text =
    begins_with_letter text && list_all may_stand_in_agent text && nat_le (length text) 32
    && not (same_octets text (codes "user"))

-- ---- BIT STRING: the service controls' options, of which chainingProhibited is bit 1 and dontUseCopy
-- bit 3; preferChaining and dontDereferenceAliases, 0 and 4, aren't kept, and no other may be set

abbrev pub none_set : List Bool → Bool
none_set bits = list_all not bits

abbrev pub may_be_set : List Bool → Bool
may_be_set (a ∷ b ∷ c ∷ d ∷ e ∷ more) = not c && none_set more
may_be_set (a ∷ b ∷ c ∷ d ∷ []) = not c
may_be_set (a ∷ b ∷ c ∷ []) = not c
may_be_set bits = true

abbrev pub second : List Bool → Bool
second (a ∷ b ∷ more) = b
second bits = false

abbrev pub fourth : List Bool → Bool
fourth (a ∷ b ∷ c ∷ d ∷ more) = d
fourth bits = false

-- dontUseCopy and chainingProhibited
abbrev pub options_node : Bool → Bool → Node
options_node nocopy nochain = Many (row (Flag nocopy ∷ Flag nochain ∷ []))

abbrev pub options : Leaf (List Bool)
options = record {
  reads = λ bits. where_so (may_be_set bits) (options_node (fourth bits) (second bits));
  writes = λ n. by (parts n);
}
  where
    by : List Node → Option (List Bool)
    by (Flag true ∷ Flag nochain ∷ []) = Some (false ∷ nochain ∷ false ∷ true ∷ [])
    by (Flag false ∷ Flag true ∷ []) = Some (false ∷ true ∷ [])
    by (Flag false ∷ Flag false ∷ []) = Some []
    by other = None
