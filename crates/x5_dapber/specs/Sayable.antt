-- Values of types of messages for whose parts the code has types: each type of an attribute is an object identifier,
-- sizes, ids and codes have four octets at most, and the name that an argument begins with is no longer than names may
-- be. What octets spell of a request is such a value.
use Rattle.std.specs.Prelude.{◌≡◌, ℕ, ◌<◌, ◌≤◌, ◌^◌, ◌==◌, Bool, true, false, List, [], ◌∷◌, All, length}
use Rattle.std.specs.declared.option.Option.TheVariants.{Some}
use Rattle.x5_model.specs.Normal.{is_oid, most_rdns}
use Rattle.x5_model.specs.Words.{in_option}
use Rattle.x5_model_typed.specs.Nodes as nodes
use Rattle.x5_model_typed.specs.Nodes.{Node, Nodes, Oid, Chosen, Many, parts}
use Rattle.x5_model_typed.specs.Judged.{last_node}
use Rattle.x5_model_messages.specs.Terms.{number_in}

abbrev pub pick : Bool → Type 0 → Type 0 → Type 0
pick true P Q = P
pick false P Q = Q

abbrev pub IsType : Node → Type 0
IsType (Oid arcs) = is_oid arcs ≡ true
IsType n = ⊥

abbrev pub IsValue : Node → Type 0
IsValue (Oid arcs) = is_oid arcs ≡ true
IsValue n = Unit {0}

-- of just so many parts

abbrev pub OfOne : (Node → Type 0) → List Node → Type 0
OfOne P (a ∷ []) = P a
OfOne P other = ⊥

abbrev pub OfTwo : (Node → Node → Type 0) → List Node → Type 0
OfTwo P (a ∷ b ∷ []) = P a b
OfTwo P other = ⊥

abbrev pub OfThree : (Node → Node → Node → Type 0) → List Node → Type 0
OfThree P (a ∷ b ∷ c ∷ []) = P a b c
OfThree P other = ⊥

abbrev pub OfFour : (Node → Node → Node → Node → Type 0) → List Node → Type 0
OfFour P (a ∷ b ∷ c ∷ d ∷ []) = P a b c d
OfFour P other = ⊥

abbrev pub OfFive : (Node → Node → Node → Node → Node → Type 0) → List Node → Type 0
OfFive P (a ∷ b ∷ c ∷ d ∷ e ∷ []) = P a b c d e
OfFive P other = ⊥

-- ---- attributes, assertions and changes

abbrev pub IsAttribute : Node → Type 0
IsAttribute n = OfTwo (λ type values. IsType type × All IsValue (parts values)) (parts n)

abbrev pub IsAssertion : Node → Type 0
IsAssertion n = OfTwo (λ type value. IsType type × IsValue value) (parts n)

abbrev pub IsChange : Node → Type 0
IsChange (Chosen tag n) = pick (tag == 0) (IsAttribute n) (pick (tag == 1) (IsType n) (IsAttribute n))
IsChange n = ⊥

-- ---- filters

abbrev pub IsPiece : Node → Type 0
IsPiece (Chosen tag n) = IsValue n
IsPiece n = ⊥

abbrev pub IsSubstrings : Node → Type 0
IsSubstrings n = OfTwo (λ type pieces. IsType type × All IsPiece (parts pieces)) (parts n)

abbrev pub IsItem : Node → Type 0
IsItem (Chosen tag n) =
    pick (tag == 0) (IsAssertion n)
    (pick (tag == 1) (IsSubstrings n)
    (pick (tag == 2) (IsAssertion n)
    (pick (tag == 3) (IsAssertion n)
    (pick (tag == 4) (IsType n) (IsAssertion n)))))
IsItem n = ⊥

abbrev mutual
  pub IsFilter : Node → Type 0
  IsFilter (Chosen tag n) =
      pick (tag == 0) (IsItem n) (pick (tag == 1) (HasFilters n) (pick (tag == 2) (HasFilters n) (IsFilter n)))
  IsFilter n = ⊥

  pub HasFilters : Node → Type 0
  HasFilters (Many ns) = AreFilters ns
  HasFilters n = ⊥

  pub AreFilters : Nodes → Type 0
  AreFilters nodes.Nil = Unit {0}
  AreFilters (nodes.More n ns) = IsFilter n × AreFilters ns

-- ---- requests

-- a number that isn't negative has four octets at most
abbrev pub IsCount : Node → Type 0
IsCount n = (k : ℕ) → number_in n ≡ Some k → k < 2 ^ 32

abbrev pub IsSelection : Node → Type 0
IsSelection n = OfOne (λ types. All IsType (parts types)) (parts n)

abbrev pub AreControls : Node → Type 0
AreControls n = OfFour (λ options priority time size. IsCount size) (parts n)

abbrev pub AreParts : ℕ → List Node → Type 0
AreParts code ns =
    pick (code == 1) (OfThree (λ name selection controls. IsSelection selection) ns)
    (pick (code == 2) (OfThree (λ name assertion controls. IsAssertion assertion) ns)
    (pick (code == 4) (OfTwo (λ name controls. Unit {0}) ns)
    (pick (code == 5) (OfFive (λ base subset filter selection controls. IsCount subset × IsFilter filter
    × IsSelection selection) ns)
    (pick (code == 6) (OfThree (λ name attributes controls. All IsAttribute (parts attributes)) ns)
    (pick (code == 7) (OfTwo (λ name controls. Unit {0}) ns)
    (pick (code == 8) (OfThree (λ name changes controls. All IsChange (parts changes)) ns)
    (OfFour (λ name rdn drops controls. Unit {0}) ns)))))))

-- a name of no more RDNs than names may have
abbrev pub IsShortName : Node → Type 0
IsShortName n = length (parts n) ≤ most_rdns

-- the first component of each argument is a name
abbrev pub BeginShort : List Node → Type 0
BeginShort (name ∷ ns) = IsShortName name
BeginShort [] = ⊥

abbrev pub IsArgument : ℕ → Node → Type 0
IsArgument code n = AreControls (last_node (parts n)) × AreParts code (parts n) × BeginShort (parts n)

abbrev pub IsRequest : Node → Type 0
IsRequest (Chosen tag n) =
    OfThree (λ id code argument. IsCount id × IsCount code
    × IsArgument (in_option 0 (λ k. k) (number_in code)) argument) (parts n)
IsRequest n = ⊥
