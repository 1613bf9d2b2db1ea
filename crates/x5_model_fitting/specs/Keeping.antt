-- What stays within the limits of messages: beginnings of names and names with one RDN more, the names that a file
-- describes, trace information with one more item, and what has a normal form for its kind.
use Rattle.std.specs.Prelude.{◌≡◌, ℕ, ◌<◌, Bool, true, false, List, [], ◌∷◌, ◌++◌, length, take, Ok}
use Rattle.std.specs.List.{list_all}
use Rattle.std.specs.Str.{is_utf8}
use Rattle.x5_model.specs.Words.{has}
use Rattle.x5_model.specs.Values.{Value, TextValue, OctetsValue, OidValue, NameOf, Rdn, Name, written}
use Rattle.x5_model.specs.Types.{Kind}
use Rattle.x5_model.specs.Normal.{most_rdns, normal_of, IsStored}
use Rattle.x5_model_typed.specs.Rules.{most_items}
use Rattle.x5_model_messages.specs.Replies.{TraceItem}
use Rattle.x5_model_fitting.specs.Names.{are_utf8, RdnWithin, NameWithin}
use Rattle.x5_model_fitting.specs.Terms.{ValueWithin}
use Rattle.x5_model_fitting.specs.Chained.{ItemWithin, same_item, TraceWithin}

-- a name as the world describes it, of texts in UTF-8
abbrev pub StoredNameIsWithin : Type 0
StoredNameIsWithin = (n : Name) → IsStored n → list_all are_utf8 (written n) ≡ true → NameWithin n

abbrev pub BeginningIsWithin : Type 0
BeginningIsWithin = (k : ℕ) (n : Name) → NameWithin n → NameWithin (take k n)

abbrev pub LongerNameIsWithin : Type 0
LongerNameIsWithin = (n : Name) (r : Rdn) → NameWithin n → RdnWithin r → length n < most_rdns → NameWithin (n ++ r ∷ [])

abbrev pub LongerTraceIsWithin : Type 0
LongerTraceIsWithin = (trace : List TraceItem) (i : TraceItem) → TraceWithin trace → ItemWithin i
    → length trace < most_items → has same_item trace i ≡ false → TraceWithin (trace ++ i ∷ [])

-- the texts in a value are UTF-8
abbrev pub has_utf8 : Value → Bool
has_utf8 (TextValue t) = is_utf8 t
has_utf8 (OctetsValue octets) = true
has_utf8 (OidValue arcs) = true
has_utf8 (NameOf n) = list_all are_utf8 n

-- a value that has a normal form for a kind, as those that entries keep
abbrev pub NormalIsWithin : Type 0
NormalIsWithin = (k : Kind) (v : Value) (normal : List ℕ) → normal_of k v ≡ Ok normal → has_utf8 v ≡ true
    → ValueWithin v
