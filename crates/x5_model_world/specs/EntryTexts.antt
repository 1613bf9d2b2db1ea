-- The entry that texts `T=value` give.
use Rattle.std.specs.Prelude.{ℕ, ◌+◌, Bool, ◌&&◌, ◌==◌, if◌then◌else◌, List, [], ◌∷◌, ◌++◌, Option, Some, None}
use Rattle.std.specs.Prelude.{option_and_then, Result, Ok, Err}
use Rattle.std.specs.List.{list_any, before_first, after_first}
use Rattle.std.specs.Option.{is_none}
use Rattle.serde_json.specs.Data.{Data, Items, no_items, item}
use Rattle.serde_json.specs.Find.{as_str}
use Rattle.x5_model.specs.Values.{Text, TypeRef, Known, Unknown, Value, Rdn}
use Rattle.x5_model.specs.Normal.{ValueFault, WrongSyntax, TooLong}
use Rattle.x5_model.specs.Assertions.{normal_for}
use Rattle.x5_model.specs.Entries.{Entry}
use Rattle.x5_model.specs.Attributes.{has_value, put_value, is_present, with_rdn, doubled}
use Rattle.x5_model_text.specs.TypeText.{type_of_text}
use Rattle.x5_model_text.specs.NameText.{value_of_text}
use Rattle.x5_model_world.specs.Reading.{Read, ◌>>=◌, BadShape, OverLimit, nth, needed}

abbrev pub is_equals : ℕ → Bool
is_equals b = b == 61

-- a type with a value
abbrev pub Given : Type 0
Given = TypeRef × Value

-- the text of the value; one that passes a limit is over it, and one that's no value's is of the wrong shape
abbrev pub if_value : Text → TypeRef → Result Value ValueFault → Read Given
if_value path kind (Ok v) = Ok (kind, v)
if_value path kind (Err WrongSyntax) = Err (BadShape path)
if_value path kind (Err (TooLong most)) = Err (OverLimit path most)

-- a type stands before the first `=`, and the text of a value behind it
abbrev pub given_by : Text → Text → Read Given
given_by path t =
    if list_any is_equals t
    then (needed path (type_of_text (before_first is_equals t)) >>= λ kind. if_value path kind
    (value_of_text kind (after_first is_equals t)))
    else Err (BadShape path)

abbrev pub given_in : Text → Data → Read Given
given_in path d = needed path (as_str d) >>= λ t. given_by path t

-- the values of a list, from the place i on, behind those before
abbrev pub given_behind : Text → ℕ → List Given → Items → Read (List Given)
given_behind path i before no_items = Ok before
given_behind path i before (item d ds) =
    given_in (nth path i) d >>= λ g. given_behind path (i + 1) (before ++ g ∷ []) ds

-- ---- The entry with these values: each type is known, each value is of its kind, and none is given twice. The values
-- of its RDN are added where they lack. Then it has an object class, and one value at most of a single-valued type
-- (X.501, section 8; X.511, section 11.1).

abbrev pub with_normal : ℕ → Value → Entry → Option (List ℕ) → Option Entry
with_normal kind v e None = None
with_normal kind v e (Some n) =
    if has_value e kind n then None else Some (put_value kind (record { value = v; normal = n }) e)

abbrev pub with_value : Entry → TypeRef → Value → Option Entry
with_value e (Known kind) v = with_normal kind v e (normal_for (Known kind) v)
with_value e (Unknown arcs) v = None

abbrev pub with_all : Entry → List Given → Option Entry
with_all e [] = Some e
with_all e (g ∷ gs) = option_and_then (λ f. with_all f gs) (with_value e g.0 g.1)

abbrev pub if_complete : Entry → Option Entry
if_complete e = if is_present e 0 && is_none (doubled e) then Some e else None

abbrev pub nothing_yet : Entry
nothing_yet = record { attributes = [] }

abbrev pub entry_given : Rdn → List Given → Option Entry
entry_given rdn gs = option_and_then (λ e. if_complete (with_rdn rdn e)) (with_all nothing_yet gs)
