-- What is offered or asserted of a type, with its normal form (X.511, sections 7.8 and 9.2; X.520: matching rules).
use Rattle.std.specs.Prelude.{ℕ, Bool, true, false, if◌then◌else◌, List, [], ◌∷◌, ◌++◌}
use Rattle.std.specs.Result.{result_ok}
use Rattle.std.specs.declared.option.Option.{Option}
use Rattle.std.specs.declared.option.Option.TheVariants.{None, Some}
use Rattle.x5_model.specs.Words.{in_option}
use Rattle.x5_model.specs.Values.{TypeRef, Known, Unknown, Value, Offered}
use Rattle.x5_model.specs.Types.{Kind, kind_of, has_substrings}
use Rattle.x5_model.specs.Normal.{normal_of, part_normal_of}
use Rattle.x5_model.specs.Filters.{Assertion, Parts, PiecePlace, Initial, Any, Last, Piece, SubstringItem}

-- there is no normal form where the type is unknown or the value isn't of its kind
abbrev pub normal_for : TypeRef → Value → Option (List ℕ)
normal_for (Known kind) v = result_ok (normal_of (kind_of kind) v)
normal_for (Unknown arcs) v = None

abbrev pub offered : TypeRef → Value → Offered
offered type v = record { value = v; normal = normal_for type v }

abbrev pub assertion_of : TypeRef → Value → Assertion
assertion_of type v = record { kind = type; value = v; normal = normal_for type v }

-- ---- substrings: only an initial part begins a value, and only a last one ends it

abbrev pub begins_value : PiecePlace → Bool
begins_value Initial = true
begins_value Any = false
begins_value Last = false

abbrev pub ends_value : PiecePlace → Bool
ends_value Initial = false
ends_value Any = false
ends_value Last = true

abbrev pub piece_normal : Kind → Piece → Option (List ℕ)
piece_normal k p = result_ok (part_normal_of k (begins_value p.place) (ends_value p.place) p.value)

abbrev pub no_parts : Parts
no_parts = record { initial = None; any = []; last = None }

-- the parts with one more behind them
abbrev pub with_part : PiecePlace → List ℕ → Parts → Parts
with_part Initial n parts = record { initial = Some n; any = parts.any; last = parts.last }
with_part Any n parts = record { initial = parts.initial; any = parts.any ++ n ∷ []; last = parts.last }
with_part Last n parts = record { initial = parts.initial; any = parts.any; last = Some n }

-- the normal forms of the parts behind those before them, where each part is of the kind
abbrev pub parts_behind : Kind → Parts → List Piece → Option Parts
parts_behind k parts [] = Some parts
parts_behind k parts (p ∷ ps) = in_option None (λ n. parts_behind k (with_part p.place n parts) ps) (piece_normal k p)

abbrev pub parts_of : Kind → List Piece → Option Parts
parts_of k pieces = parts_behind k no_parts pieces

-- there are none where the type is unknown, its kind has no substrings, or a part isn't of the kind
abbrev pub parts_for : TypeRef → List Piece → Option Parts
parts_for (Known kind) pieces = if has_substrings (kind_of kind) then parts_of (kind_of kind) pieces else None
parts_for (Unknown arcs) pieces = None

abbrev pub substring_item_of : TypeRef → List Piece → SubstringItem
substring_item_of type pieces = record { kind = type; pieces = pieces; normal = parts_for type pieces }
