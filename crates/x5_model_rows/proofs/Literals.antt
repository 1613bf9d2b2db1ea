-- Short ways to write names, values and entries out, with their normal forms.
use Rattle.std.specs.Prelude.{ℕ, false, List, [], ◌∷◌, ◌++◌}
use Rattle.std.specs.List.{flat_map}
use Rattle.std.specs.declared.option.Option.TheVariants.{None, Some}
use Rattle.x5_model.specs.Values.{Text, Known, TextValue, OidValue, StoredValue, Offered, Rdn, Name}
use Rattle.x5_model.specs.Entries.{Stored, Named}
use Rattle.x5_model.specs.Requests.{Attribute, Body, Request}

-- one RDN: a type number, the text as spelled, and its normal form
abbrev pub rdn : ℕ → Text → Text → Rdn
rdn kind text normal = (record { kind = kind; text = text; normal = normal }) ∷ []

abbrev pub under : Name → Rdn → Name
under above last = above ++ last ∷ []

abbrev pub text : Text → Text → StoredValue
text spelled normal = record { value = TextValue spelled; normal = normal }

-- an object identifier with arcs below 256: four octets for each arc
abbrev pub oid : List ℕ → StoredValue
oid arcs = record { value = OidValue arcs; normal = flat_map (λ a. 0 ∷ 0 ∷ 0 ∷ a ∷ []) arcs }

abbrev pub one : ℕ → StoredValue → Stored
one kind value = record { kind = kind; values = value ∷ [] }

-- an objectClass 2.5.6 and a number
abbrev pub class : ℕ → Stored
class number = one 0 (oid (2 ∷ 5 ∷ 6 ∷ number ∷ []))

abbrev pub named : Name → List Stored → Named
named name attributes = record { name = name; entry = record { attributes = attributes } }

-- what somebody offers
abbrev pub offered : StoredValue → Offered
offered v = record { value = v.value; normal = Some v.normal }

abbrev pub give : ℕ → List StoredValue → Attribute
give kind values = record { kind = Known kind; values = offered_values values }
  where
    offered_values : List StoredValue → List Offered
    offered_values [] = []
    offered_values (v ∷ vs) = offered v ∷ offered_values vs

abbrev pub plainly : Body → Request
plainly body = record { controls = record { nocopy = false; nochain = false; size = None }; body = body }

abbrev pub within : ℕ → Body → Request
within n body = record { controls = record { nocopy = false; nochain = false; size = Some n }; body = body }
