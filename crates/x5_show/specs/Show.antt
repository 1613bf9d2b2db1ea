-- What `show` prints for a file's octets.
use Rattle.std.specs.Prelude.{◌≡◌, ℕ, zero, suc, ◌+◌, ◌<◌, ◌==◌, if◌then◌else◌, List, [], ◌∷◌, ◌++◌, length}
use Rattle.std.specs.Prelude.{string_bytes}
use Rattle.std.specs.Fmt.{decimal}
use Rattle.std.specs.List.{concat}
use lib.Chars.{codes}
use Rattle.hex.specs.Hex.{encode_lower}
use Rattle.x5_model_octets.specs.Elements.{Element, Elements, Primitive, Constructed, Nil, More, Spells, SpellsAll}
use Rattle.x5_model_octets.specs.Faults.{Fault, FirstFault, outermost}
use Rattle.x5_model_output.specs.Output.{fault_word, fault_place}
use Rattle.x5_ber.specs.Reading.{Stands}
use Rattle.x5_ber.specs.Found.{Frames}
use Rattle.x5_show.specs.declared.Shown.{Shown}
use Rattle.x5_show.specs.declared.Shown.TheVariants as shown

-- The octets are values, one after the other.
abbrev pub AreValues : List ℕ → Type 0
AreValues bytes = (values : Elements) × SpellsAll 1 values bytes

-- The first fault from a place on, where a value has to begin: that value's, or behind it the first.
pub data FaultyFrom (bytes : List ℕ) : ℕ → Fault → Type 0 where
  here : {at : ℕ} {fault : Fault} → at < length bytes → FirstFault bytes outermost at fault → FaultyFrom bytes at fault
  behind : {at : ℕ} {fault : Fault} (value : Element) (octets : List ℕ) → Spells 1 value octets →
      Stands bytes at octets → FaultyFrom bytes (at + length octets) fault → FaultyFrom bytes at fault

-- The fault's place and word.
abbrev pub refusal_text : Fault → List ℕ
refusal_text fault =
    concat (codes "refused octet " ∷ decimal (fault_place fault) ∷ codes " " ∷ fault_word fault ∷ codes "\n" ∷ [])

-- Two spaces for each element around.
abbrev pub indent : ℕ → List ℕ
indent zero = []
indent (suc level) = indent level ++ codes "  "

-- U for universal, A for application, C for context-specific, P for private.
abbrev pub class_letter : ℕ → List ℕ
class_letter class =
    if class == 0 then codes "U" else if class == 1 then codes "A" else if class == 2 then codes "C" else codes "P"

-- Octets in hexadecimal behind a space, if there are any.
abbrev pub hex_text : List ℕ → List ℕ
hex_text [] = []
hex_text (o ∷ octets) = codes " " ++ encode_lower (o ∷ octets)

-- The line of an element that lies in so many others, with its place.
abbrev pub head_text : ℕ → ℕ → ℕ → List ℕ → List ℕ
head_text at class tag form = concat (decimal at ∷ codes " " ∷ class_letter class ∷ decimal tag ∷ codes " " ∷ form ∷ [])

abbrev pub line : ℕ → ℕ → ℕ → ℕ → List ℕ → List ℕ → List ℕ
line level at class tag form octets = indent level ++ head_text at class tag form ++ hex_text octets ++ codes "\n"

-- Lines level at e octets text: the octets spell the element, which begins at that place, and the
-- text has its line and then those of its members. LinesAll: the same of elements in a row.
abbrev mutual
  pub Lines : ℕ → ℕ → Element → List ℕ → List ℕ → Type 0
  Lines level at (Primitive class tag content) octets text = text ≡ line level at class tag (codes "prim") content
  Lines level at (Constructed class tag members) octets text =
      (header : List ℕ) × (content : List ℕ) × (tail : List ℕ) × (more : List ℕ)
      × (octets ≡ header ++ (content ++ tail)) × Frames class tag (length content) header tail
      × LinesAll (level + 1) (at + length header) members content more
      × (text ≡ line level at class tag (codes "cons") [] ++ more)

  pub LinesAll : ℕ → ℕ → Elements → List ℕ → List ℕ → Type 0
  LinesAll level at Nil octets text = (octets ≡ []) × (text ≡ [])
  LinesAll level at (More e es) octets text =
      (first : List ℕ) × (rest : List ℕ) × (one : List ℕ) × (more : List ℕ) × Spells 1 e first
      × (octets ≡ first ++ rest)
      × Lines level at e first one × LinesAll level (at + length first) es rest more × (text ≡ one ++ more)

-- The text for octets that are values: the lines of their elements.
pub record ShowsValues (bytes text : List ℕ) : Type 0 where
  pub values : Elements
  pub spelled : SpellsAll 1 values bytes
  pub lines : LinesAll 0 0 values bytes text

-- The text for octets that aren't: the line of their first fault alone.
pub record ShowsFault (bytes text : List ℕ) : Type 0 where
  pub not_values : AreValues bytes → ⊥
  pub fault : Fault
  pub first : FaultyFrom bytes 0 fault
  pub line : text ≡ refusal_text fault

-- What is shown of a file's octets: lines of elements exactly where they are values.
abbrev pub Shows : List ℕ → Shown → Type 0
Shows bytes (shown.Elements text) = ShowsValues bytes (string_bytes text)
Shows bytes (shown.Refused text) = ShowsFault bytes (string_bytes text)
