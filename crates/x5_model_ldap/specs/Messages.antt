-- Messages of users (RFC 4511, section 4), what the nodes of the table's types say of them, and what octets that begin
-- at a place come to as one message. What isn't kept of a message is read all the same.
use Rattle.std.specs.Prelude.{◌≡◌, ℕ, ◌+◌, ◌<◌, pos, negsuc, Bool, true, false, ◌==◌, if◌then◌else◌, List, [], ◌∷◌}
use Rattle.std.specs.Prelude.{map, length}
use Rattle.std.specs.List.{list_any}
use Rattle.std.specs.declared.result.Result.{Result}
use Rattle.std.specs.declared.result.Result.TheVariants.{Ok, Err}
use Rattle.x5_model.specs.Filters.{PiecePlace, Initial, Any, Last}
use Rattle.x5_model_octets.specs.Breaches.{Breach, Ber, Unrecognised}
use Rattle.x5_model_octets.specs.Faults.{Fault, BadContent, outermost}
use Rattle.x5_model_typed.specs.Trees.{Tree}
use Rattle.x5_model_typed.specs.Nodes as nodes
use Rattle.x5_model_typed.specs.Nodes.{Node, Nodes, Vacant, Flag, Number, Octets, Chosen, Many, parts, is_vacant}
use Rattle.x5_model_typed.specs.Named.{LdapMessage}
use Rattle.x5_model_typed.specs.Forms.{Layout}
use Rattle.x5_model_typed.specs.Judged.{judged}
use Rattle.x5_model_ldap.specs.Definite.{LiesDefinitely, StandsIn, FirstDefiniteFault}

-- names, words and values: strings of octets, of whatever length
abbrev pub String : Type 0
String = List ℕ

pub record Attribute : Type 0 where
  pub kind : String
  pub values : List String

-- add, delete or replace, by its number
pub record Change : Type 0 where
  pub operation : ℕ
  pub attribute : Attribute

pub record Assertion : Type 0 where
  pub kind : String
  pub value : String

pub record Piece : Type 0 where
  pub place : PiecePlace
  pub value : String

mutual
  pub data Filter : Type 0 where
    And : Filters → Filter
    Or : Filters → Filter
    Not : Filter → Filter
    Equality : Assertion → Filter
    Substrings : String → List Piece → Filter
    GreaterOrEqual : Assertion → Filter
    LessOrEqual : Assertion → Filter
    Present : String → Filter
    Approximate : Assertion → Filter
    Extensible : Filter

  pub data Filters : Type 0 where
    Nil : Filters
    More : Filter → Filters → Filters

pub record SearchAsked : Type 0 where
  pub base : String
  pub scope : ℕ
  pub size : ℕ
  pub types_only : Bool
  pub filter : Filter
  pub attributes : List String

pub data Operation : Type 0 where
  Bind : Operation
  Unbind : Operation
  Abandon : Operation
  Extended : Operation
  Search : SearchAsked → Operation
  Modify : String → List Change → Operation
  Add : String → List Attribute → Operation
  Delete : String → Operation
  -- the name, the new RDN, deleteoldrdn, and whether there is a new superior
  ModifyDn : String → String → Bool → Bool → Operation
  Compare : String → Assertion → Operation

-- `critical`: one of its controls is
pub record Message : Type 0 where
  pub id : ℕ
  pub critical : Bool
  pub operation : Operation

-- ---- what nodes say; a node of another type says nothing, for which something stands

abbrev pub octets_in : Node → String
octets_in (Octets o) = o
octets_in n = []

abbrev pub count_in : Node → ℕ
count_in (Number (pos k)) = k
count_in n = 0

abbrev pub flag_in : Node → Bool
flag_in (Flag b) = b
flag_in n = false

abbrev pub attribute_in : Node → Attribute
attribute_in n = by (parts n)
  where
    by : List Node → Attribute
    by (kind ∷ values ∷ []) = record { kind = octets_in kind; values = map octets_in (parts values) }
    by other = record { kind = []; values = [] }

abbrev pub change_in : Node → Change
change_in n = by (parts n)
  where
    by : List Node → Change
    by (operation ∷ attribute ∷ []) = record { operation = count_in operation; attribute = attribute_in attribute }
    by other = record { operation = 0; attribute = record { kind = []; values = [] } }

abbrev pub assertion_in : Node → Assertion
assertion_in n = by (parts n)
  where
    by : List Node → Assertion
    by (kind ∷ value ∷ []) = record { kind = octets_in kind; value = octets_in value }
    by other = record { kind = []; value = [] }

abbrev pub place_of : ℕ → PiecePlace
place_of k = if k == 0 then Initial else if k == 1 then Any else Last

abbrev pub piece_in : Node → Piece
piece_in n = by (parts n)
  where
    by : List Node → Piece
    by (place ∷ value ∷ []) = record { place = place_of (count_in place); value = octets_in value }
    by other = record { place = Any; value = [] }

abbrev pub substrings_in : Node → Filter
substrings_in n = by (parts n)
  where
    by : List Node → Filter
    by (kind ∷ pieces ∷ []) = Substrings (octets_in kind) (map piece_in (parts pieces))
    by other = Substrings [] []

-- an item, by its tag
abbrev pub item_in : ℕ → Node → Filter
item_in tag n =
    if tag == 3 then Equality (assertion_in n)
    else if tag == 4 then substrings_in n
    else if tag == 5 then GreaterOrEqual (assertion_in n)
    else if tag == 6 then LessOrEqual (assertion_in n)
    else if tag == 8 then Approximate (assertion_in n)
    else Extensible

abbrev mutual
  pub filter_in : Node → Filter
  filter_in (Octets o) = Present o
  filter_in (Chosen tag (Many ns)) =
      if tag == 0 then And (filters_in ns) else if tag == 1 then Or (filters_in ns) else item_in tag (Many ns)
  filter_in (Chosen tag n) = Not (filter_in n)
  filter_in n = Extensible

  pub filters_in : Nodes → Filters
  filters_in nodes.Nil = Nil
  filters_in (nodes.More n ns) = More (filter_in n) (filters_in ns)

abbrev pub search_in : List Node → Operation
search_in (base ∷ scope ∷ aliases ∷ size ∷ time ∷ types ∷ filter ∷ attributes ∷ []) =
    Search (record {
      base = octets_in base;
      scope = count_in scope;
      size = count_in size;
      types_only = flag_in types;
      filter = filter_in filter;
      attributes = map octets_in (parts attributes);
    })
search_in other = Unbind

abbrev pub modify_in : List Node → Operation
modify_in (object ∷ changes ∷ []) = Modify (octets_in object) (map change_in (parts changes))
modify_in other = Unbind

abbrev pub add_in : List Node → Operation
add_in (object ∷ attributes ∷ []) = Add (octets_in object) (map attribute_in (parts attributes))
add_in other = Unbind

abbrev pub move_in : List Node → Operation
move_in (object ∷ rdn ∷ drops ∷ Vacant ∷ []) = ModifyDn (octets_in object) (octets_in rdn) (flag_in drops) false
move_in (object ∷ rdn ∷ drops ∷ superior ∷ []) = ModifyDn (octets_in object) (octets_in rdn) (flag_in drops) true
move_in other = Unbind

abbrev pub compare_in : List Node → Operation
compare_in (object ∷ assertion ∷ []) = Compare (octets_in object) (assertion_in assertion)
compare_in other = Unbind

-- by the application tag
abbrev pub operation_by : ℕ → List Node → Operation
operation_by tag ns =
    if tag == 0 then Bind
    else if tag == 3 then search_in ns
    else if tag == 6 then modify_in ns
    else if tag == 8 then add_in ns
    else if tag == 12 then move_in ns
    else if tag == 14 then compare_in ns
    else Extended

abbrev pub operation_in : Node → Operation
operation_in (Octets o) = Delete o
operation_in (Number k) = Abandon
operation_in (Chosen tag n) = operation_by tag (parts n)
operation_in n = Unbind

abbrev pub is_critical : Node → Bool
is_critical control = by (parts control)
  where
    by : List Node → Bool
    by (type ∷ critical ∷ value ∷ []) = flag_in critical
    by other = false

abbrev pub message_in : Node → Message
message_in n = by (parts n)
  where
    by : List Node → Message
    by (id ∷ operation ∷ controls ∷ []) = record {
      id = count_in id;
      critical = list_any is_critical (parts controls);
      operation = operation_in operation;
    }
    by other = record { id = 0; critical = false; operation = Unbind }

-- ---- octets

-- no type of LDAP has a code, so there is none that names nothing
abbrev pub fault_of : ℕ → Breach → Fault
fault_of at (Ber fault) = fault
fault_of at (Unrecognised k) = BadContent at

-- the message and the place behind it, or the first breach
abbrev pub told : ℕ → ℕ → Result Node Breach → Result (Message × ℕ) Fault
told at behind (Ok n) = Ok (message_in n, behind)
told at behind (Err b) = Err (fault_of at b)

-- What the octets from the place on come to as a message. They are read twice, as an element with definite lengths and
-- then by type; what stands behind the element is nothing to it.
pub data Comes (layout : Layout) (bytes : List ℕ) (at : ℕ) : Result (Message × ℕ) Fault → Type 0 where
  faulty : (fault : Fault) → FirstDefiniteFault bytes outermost at fault → Comes layout bytes at (Err fault)
  whole : (tree : Tree) (octets : List ℕ) → LiesDefinitely 1 at tree octets → StandsIn bytes at octets
      → Comes layout bytes at (told at (at + length octets) (judged layout (layout LdapMessage) tree))

-- The messages of a whole file, one behind the other, 100,000 at most, or the first breach; `before` are those before
-- the place.
abbrev pub most_messages : ℕ
most_messages = 100000

abbrev pub before_all : Message → Result (List Message) Fault → Result (List Message) Fault
before_all m (Ok ms) = Ok (m ∷ ms)
before_all m (Err fault) = Err fault

pub data FileComes (layout : Layout) (bytes : List ℕ) : ℕ → ℕ → Result (List Message) Fault → Type 0 where
  over : {before at : ℕ} → at ≡ length bytes → FileComes layout bytes before at (Ok [])
  too_many : {before at : ℕ} → at < length bytes → before ≡ most_messages → FileComes layout bytes before at
      (Err (BadContent at))
  refused : {before at : ℕ} (fault : Fault) → at < length bytes → before < most_messages → Comes layout bytes at
      (Err fault)
      → FileComes layout bytes before at (Err fault)
  next : {before at : ℕ} {rest : Result (List Message) Fault} (m : Message) (behind : ℕ) → at < length bytes
      → before < most_messages → Comes layout bytes at (Ok (m, behind)) → FileComes layout bytes (before + 1) behind
      rest
      → FileComes layout bytes before at (before_all m rest)
