-- What is read of a value of JSON (RFC 8259), member by member, or the first breach with its path.
use Rattle.std.specs.Prelude.{ℕ, Bool, not, ◌||◌, ◌==◌, nat_le, nat_lt, if◌then◌else◌, List, [], ◌∷◌, Option, Some, None}
use Rattle.std.specs.Prelude.{option_and_then, Result, Ok, Err, codes}
use Rattle.std.specs.List.{concat, flat_map}
use Rattle.std.specs.Fmt.{decimal}
use Rattle.std.specs.Str.{chars}
use Rattle.std.specs.Char.{encode_utf8}
use Rattle.serde_json.specs.Data.{Data, Items, no_items, Members, no_members, member}
use Rattle.serde_json.specs.Events.{items_len}
use Rattle.serde_json.specs.Find.{get, as_str, as_array, as_object, as_number, as_u64}
use Rattle.x5_model.specs.Words.{has, same_octets, is_empty}
use Rattle.x5_model.specs.Values.{Text, Name}
use Rattle.x5_model.specs.Normal.{stored, is_control}
use Rattle.x5_model_text.specs.NameText.{NameFault, name_of_text}
use Rattle.x5_model_text.specs.ValueText as value_text
use Rattle.x5_model_tree.specs.Described.{is_number}

-- What can be wrong, each with its path: something isn't as it must be; a text is no name; a list or a value passes
-- this limit; a second agent has a name; a name is no agent's.
pub data Breach : Type 0 where
  BadShape : Text → Breach
  BadName : Text → Breach
  OverLimit : Text → ℕ → Breach
  RepeatedAgent : Text → Breach
  UnknownAgent : Text → Breach

abbrev pub Read : Type 0 → Type 0
Read X = Result X Breach

infixl 10 ◌>>=◌
abbrev pub ◌>>=◌ : {A B : Type 0} → Read A → (A → Read B) → Read B
Ok x >>= f = f x
Err e >>= f = Err e

-- ---- paths are JSON pointers (RFC 6901)

-- the member of an object, and the member of a list by its place from 0
abbrev pub at : Text → Text → Text
at path name = concat (path ∷ codes "/" ∷ name ∷ [])

abbrev pub nth : Text → ℕ → Text
nth path i = concat (path ∷ codes "/" ∷ decimal i ∷ [])

-- a character that no path shows as it is, so that a path never prints a line of its own: a control character, or a
-- backslash. It's spelled as in the text of a value.
abbrev pub is_hidden : ℕ → Bool
is_hidden c = is_control c || (c == 92)

abbrev pub shown_char : ℕ → Text
shown_char c = if is_hidden c then value_text.escaped (encode_utf8 c) else encode_utf8 c

-- in a member's name `~` is spelled `~0`, and `/` is spelled `~1`
abbrev pub escaped_char : ℕ → Text
escaped_char c = if c == 126 then codes "~0" else (if c == 47 then codes "~1" else shown_char c)

abbrev pub escaped : Text → Text
escaped name = flat_map escaped_char (chars name)

-- ---- what must be there, or hold

abbrev pub needed : {X : Type 0} → Text → Option X → Read X
needed path None = Err (BadShape path)
needed path (Some x) = Ok x

abbrev pub if_fit : {X : Type 0} → Text → Bool → X → Read X
if_fit path fit x = if fit then Ok x else Err (BadShape path)

abbrev pub if_few : {X : Type 0} → Text → ℕ → ℕ → X → Read X
if_few path most count x = if nat_le count most then Ok x else Err (OverLimit path most)

-- ---- members of an object, by their types

abbrev pub members_at : Text → Data → Read Members
members_at path d = needed path (as_object d)

abbrev pub text_at : Text → Text → Data → Read Text
text_at path name d = needed (at path name) (option_and_then as_str (get name d))

abbrev pub list_at : Text → Text → Data → Read Items
list_at path name d = needed (at path name) (option_and_then as_array (get name d))

-- a list that may be left out, which says the same as an empty one
abbrev pub or_left_out : Text → Option Data → Read Items
or_left_out path None = Ok no_items
or_left_out path (Some d) = needed path (as_array d)

abbrev pub list_if_any : Text → Text → Data → Read Items
list_if_any path name d = or_left_out (at path name) (get name d)

-- a list that isn't empty
abbrev pub some_at : Text → Text → Data → Read Items
some_at path name d = list_at path name d >>= λ items. if_fit (at path name) (nat_lt 0 (items_len items)) items

-- a whole number from 1 to 1,000,000
abbrev pub if_number : ℕ → Option ℕ
if_number n = if is_number n then Some n else None

abbrev pub number_of : Data → Option ℕ
number_of d = option_and_then if_number (option_and_then as_u64 (as_number d))

abbrev pub number_at : Text → Text → Data → Read ℕ
number_at path name d = needed (at path name) (option_and_then number_of (get name d))

-- ---- names

abbrev pub if_name : {X Y : Type 0} → (X → Y) → Text → Result X NameFault → Read Y
if_name f path (Ok n) = Ok (f n)
if_name f path (Err fault) = Err (BadName path)

abbrev pub name_in : Text → Text → Read Name
name_in path t = if_name stored path (name_of_text t)

abbrev pub name_at : Text → Text → Data → Read Name
name_at path name d = text_at path name d >>= λ t. name_in (at path name) t

-- a name of one RDN at least
abbrev pub entry_name_at : Text → Text → Data → Read Name
entry_name_at path name d = name_at path name d >>= λ n. if_fit (at path name) (not (is_empty n)) n

-- ---- no member has another name than these; members are tried in the order of their names

abbrev pub first_other : List Text → Members → Option Text
first_other listed no_members = None
first_other listed (member k d ms) = if has same_octets listed k then first_other listed ms else Some k

abbrev pub unlisted : {X : Type 0} → Text → X → Option Text → Read X
unlisted path x None = Ok x
unlisted path x (Some k) = Err (BadShape (at path (escaped k)))

abbrev pub only : {X : Type 0} → Text → List Text → Members → X → Read X
only path listed ms x = unlisted path x (first_other listed ms)
