-- Elements with definite lengths alone, as LDAP has them (RFC 4511, section 5.1): which octets spell one, and the first
-- fault. All else is as for any element (X.690).
use Rattle.std.specs.Prelude.{◌≡◌, ℕ, ◌+◌, ◌-◌, ◌≤◌, true, false, if◌then◌else◌, List, [], ◌++◌, length}
use Rattle.std.specs.declared.option.Option.TheVariants.{Some}
use Rattle.std.specs.declared.result.Result.{Result}
use Rattle.std.specs.declared.result.Result.TheVariants.{Ok, Err}
use Rattle.x5_model_octets.specs.Headers.{IsHeader}
use Rattle.x5_model_octets.specs.Elements.{identifier, deepest, SpellsPrimitive}
use Rattle.x5_model_octets.specs.Faults.{Fault, Truncated, BadLength, Around, Head, head_at, is_indefinite, within}
use Rattle.x5_model_octets.specs.Faults.{limit_within, IsCutOff}
use Rattle.x5_model_typed.specs.Trees.{Tree, Trees, Leaf, Branch, Bare, Row}

-- A header, or its first fault: the indefinite form is one, at its one length octet, which is the last before the
-- content.
abbrev pub refuse_indefinite : Result Head Fault → Result Head Fault
refuse_indefinite (Ok head) = if is_indefinite head.extent then Err (BadLength (head.content - 1)) else Ok head
refuse_indefinite (Err fault) = Err fault

abbrev pub definite_head_at : Around → List ℕ → ℕ → Result Head Fault
definite_head_at a input at = refuse_indefinite (head_at a input at)

-- The octets, which begin at that place, are the element with definite lengths, and each element in it begins where it
-- says.
abbrev mutual
  pub LiesDefinitely : ℕ → ℕ → Tree → List ℕ → Type 0
  LiesDefinitely depth at (Leaf place class tag content) octets =
      (place ≡ at) × SpellsPrimitive depth class tag content octets
  LiesDefinitely depth at (Branch place class tag members) octets =
      (place ≡ at) × (depth ≤ deepest) × (header : List ℕ) × (content : List ℕ)
      × LieDefinitely (depth + 1) (at + length header) members content
      × IsHeader (identifier true class tag) (Some (length content)) header × (octets ≡ header ++ content)

  pub LieDefinitely : ℕ → ℕ → Trees → List ℕ → Type 0
  LieDefinitely depth at Bare octets = octets ≡ []
  LieDefinitely depth at (Row t ts) octets =
      (first : List ℕ) × (rest : List ℕ) × LiesDefinitely depth at t first
      × LieDefinitely depth (at + length first) ts rest × (octets ≡ first ++ rest)

-- The octets stand at the place of the input, as far as it goes.
abbrev pub StandsIn : List ℕ → ℕ → List ℕ → Type 0
StandsIn input at octets = (before : List ℕ) × (behind : List ℕ) × (input ≡ before ++ (octets ++ behind))
    × (length before ≡ at)

-- The first fault of an element that has to begin at the place: a fault of its header, the input's end within the
-- content of a primitive one, or the first fault in the content of a constructed one, behind members that are whole.
pub data FirstDefiniteFault (input : List ℕ) : Around → ℕ → Fault → Type 0 where
  in_header : {a : Around} {at : ℕ} {fault : Fault} → definite_head_at a input at ≡ Err fault
      → FirstDefiniteFault input a at fault
  in_octets : {a : Around} {at : ℕ} {head : Head} → definite_head_at a input at ≡ Ok head
      → head.identifier.constructed ≡ false → IsCutOff head input
      → FirstDefiniteFault input a at (Truncated (length input))
  in_member : {a : Around} {at end : ℕ} {fault : Fault} {head : Head} (members : Trees) (octets : List ℕ)
      → definite_head_at a input at ≡ Ok head → head.identifier.constructed ≡ true
      → LieDefinitely (a.depth + 1) head.content members octets → StandsIn input head.content octets
      → limit_within a.limit head ≡ Some end → head.content + length octets + 1 ≤ end
      → FirstDefiniteFault input (within a head) (head.content + length octets) fault
      → FirstDefiniteFault input a at fault
