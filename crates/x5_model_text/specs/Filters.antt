-- Filters as text: a filter in brackets, its sign before its members (the form of RFC 1558), for the filters of X.511,
-- section 7.8. Each reading takes what it reads off the front of a text; a fault is the place of the first octet that
-- can't stand there.
use Rattle.std.specs.Prelude.{ℕ, zero, suc, ◌+◌, ◌-◌, Bool, not, if◌then◌else◌, ◌==◌, nat_lt, List, [], ◌∷◌, ◌++◌}
use Rattle.std.specs.Prelude.{length, min, Option, None, Some, Result, Ok, Err, codes}
use Rattle.std.specs.Option.{option_map}
use Rattle.std.specs.List.{list_any, position, position_or_len, before_first, after_first, slice_split}
use Rattle.x5_model.specs.Values.{Text, TypeRef, Value}
use Rattle.x5_model.specs.Types.{Kind, TextKind}
use Rattle.x5_model.specs.Words.{in_option, same_octets}
use Rattle.x5_model.specs.Normal.{ValueFault}
use Rattle.x5_model.specs.Assertions.{assertion_of, substring_item_of}
use Rattle.x5_model.specs.Filters.{Assertion, PiecePlace, Initial, Any, Last, Piece, Item, Equality, Substrings}
use Rattle.x5_model.specs.Filters.{GreaterOrEqual, LessOrEqual, Present, Approximate, Filter, Is, And, Or, Not, Filters}
use Rattle.x5_model.specs.Filters.{Nil, More}
use Rattle.x5_model_text.specs.TypeText.{type_of_text}
use Rattle.x5_model_text.specs.ValueText.{resolved}
use Rattle.x5_model_text.specs.NameText.{equals, kind_of_type, value_of_resolved}

-- how deep filters may be nested; one without members has nesting 1
abbrev pub deepest : ℕ
deepest = 16

abbrev pub star : ℕ
star = 42

abbrev pub opens : ℕ → Bool
opens b = b == 40

abbrev pub closes : ℕ → Bool
closes b = b == 41

infixl 10 ◌>>=◌
abbrev pub ◌>>=◌ : {A B : Type 0} → Result A ℕ → (A → Result B ℕ) → Result B ℕ
Ok x >>= f = f x
Err place >>= f = Err place

-- ---- values: what stands for itself in a value's text, but not in a filter

abbrev pub is_reserved : ℕ → Bool
is_reserved b = list_any (λ c. c == b) (codes " ()*")

-- the text as it is resolved, unless such an octet stands at this place or before the first fault
abbrev pub unless_reserved : Option ℕ → Result Text ℕ → Result Text ℕ
unless_reserved None read = read
unless_reserved (Some place) (Ok t) = Err place
unless_reserved (Some place) (Err fault) = Err (min place fault)

abbrev pub place_from : ℕ → Option ℕ → Option ℕ
place_from at None = None
place_from at (Some i) = Some (at + i)

abbrev pub spelled_at : ℕ → Text → Result Text ℕ
spelled_at at t = unless_reserved (place_from at (position is_reserved t)) (resolved at t)

-- what is no value, or too long for one, can't stand at its first octet
abbrev pub or_place : ℕ → Result Value ValueFault → Result Value ℕ
or_place at (Ok v) = Ok v
or_place at (Err fault) = Err at

abbrev pub value_at : Kind → ℕ → Text → Result Value ℕ
value_at kind at t = do
  u ← spelled_at at t
  or_place at (value_of_resolved kind (resolved 0 t))

abbrev pub assertion_at : TypeRef → ℕ → Text → Result Assertion ℕ
assertion_at type at t = do
  v ← value_at (kind_of_type type) at t
  Ok (assertion_of type v)

-- ---- parts of a value, between stars: each is kept as a text, and none is empty

abbrev pub piece_at : PiecePlace → ℕ → Text → Result (Option Piece) ℕ
piece_at place at [] = Ok None
piece_at place at (b ∷ t) = do
  v ← value_at TextKind at (b ∷ t)
  Ok (Some (record { place = place; value = v }))

abbrev pub with_piece : List Piece → Option Piece → List Piece
with_piece before None = before
with_piece before (Some p) = before ++ p ∷ []

-- where a part stands before which there is a star, by the parts behind it
abbrev pub behind_star : List Text → PiecePlace
behind_star [] = Last
behind_star (t ∷ ts) = Any

-- the parts that follow those before, each behind a star
abbrev pub pieces_at : List Piece → ℕ → List Text → Result (List Piece) ℕ
pieces_at before at [] = Ok before
pieces_at before at (t ∷ ts) = do
  p ← piece_at (behind_star ts) at t
  pieces_at (with_piece before p) (at + length t + 1) ts

abbrev pub all_pieces : ℕ → List Text → Result (List Piece) ℕ
all_pieces at [] = Ok []
all_pieces at (t ∷ ts) = do
  p ← piece_at Initial at t
  pieces_at (with_piece [] p) (at + length t + 1) ts

-- one part at least isn't empty, else one is due where the text ends
abbrev pub some_pieces : ℕ → List Piece → Result (List Piece) ℕ
some_pieces end [] = Err end
some_pieces end (p ∷ ps) = Ok (p ∷ ps)

abbrev pub substrings_at : TypeRef → ℕ → Text → Result Item ℕ
substrings_at type at t = do
  all ← all_pieces at (slice_split (λ b. b == star) t)
  some ← some_pieces (at + length t) all
  Ok (Substrings (substring_item_of type some))

-- ---- items: a type, one of the signs = >= <= ~=, and what is asserted of the type

abbrev pub has_star : Text → Bool
has_star t = list_any (λ b. b == star) t

abbrev pub asserted : (Assertion → Item) → Result Assertion ℕ → Result Item ℕ
asserted relation read = do
  a ← read
  Ok (relation a)

abbrev pub equal_at : TypeRef → ℕ → Text → Result Item ℕ
equal_at type at t =
    if not (has_star t) then asserted Equality (assertion_at type at t)
    else if same_octets t (star ∷ []) then Ok (Present type)
    else substrings_at type at t

-- a word that is no type can't stand at its first octet
abbrev pub type_at : ℕ → Text → Result TypeRef ℕ
type_at at word = in_option (Err at) Ok (type_of_text word)

-- an assertion of the value at a place, of the type that the word spells
abbrev pub compared_at : ℕ → Text → ℕ → Text → Result Assertion ℕ
compared_at at word place t = do
  type ← type_at at word
  assertion_at type place t

-- what stands before the octet, if the text ends in it
abbrev pub before_last : ℕ → Text → Option Text
before_last c [] = None
before_last c (b ∷ []) = if b == c then Some [] else None
before_last c (b ∷ d ∷ t) = option_map (λ front. b ∷ front) (before_last c (d ∷ t))

-- an item by what stands before its first `=`, and behind it, each at its place: the left side is a word and > or < or
-- ~, or the word alone
abbrev pub item_of_sides : ℕ → Text → ℕ → Text → Option Text → Option Text → Option Text → Result Item ℕ
item_of_sides at left place right (Some word) below near = asserted GreaterOrEqual (compared_at at word place right)
item_of_sides at left place right None (Some word) near = asserted LessOrEqual (compared_at at word place right)
item_of_sides at left place right None None (Some word) = asserted Approximate (compared_at at word place right)
item_of_sides at left place right None None None = do
  type ← type_at at left
  equal_at type place right

abbrev pub item_by_sides : ℕ → Text → ℕ → Text → Result Item ℕ
item_by_sides at left place right =
    item_of_sides at left place right (before_last 62 left) (before_last 60 left) (before_last 126 left)

-- an item without its brackets
abbrev pub item_at : ℕ → Text → Result Item ℕ
item_at at t = let cut = position_or_len (λ b. b == equals) t in
    if nat_lt cut (length t)
    then item_by_sides at (before_first (λ b. b == equals) t) (at + cut + 1) (after_first (λ b. b == equals) t)
    else Err (at + length t)

-- ---- filters: each reading gives what it has read and the text behind it; `all` is the length of the whole text,
-- which tells the places

abbrev pub Read : Type 0 → Type 0
Read A = Result (A × Text) ℕ

abbrev pub place : ℕ → Text → ℕ
place all t = all - length t

-- a filter, if its last bracket stands here
abbrev pub closed : ℕ → Filter → Text → Read Filter
closed all f [] = Err (place all [])
closed all f (b ∷ t) = if closes b then Ok (f, t) else Err (place all (b ∷ t))

abbrev pub item_read : ℕ → Text → Read Filter
item_read all t = do
  item ← item_at (place all t) (before_first closes t)
  if nat_lt (position_or_len closes t) (length t) then Ok (Is item, after_first closes t) else Err (place all [])

-- filters one behind another, as `one` reads them; there are at most as many as octets
abbrev pub members_read : (Text → Read Filter) → ℕ → Text → Read Filters
members_read one most [] = Ok (Nil, [])
members_read one zero (b ∷ t) = Ok (Nil, b ∷ t)
members_read one (suc most) (b ∷ t) =
    if opens b then (do
      f ← one (b ∷ t)
      fs ← members_read one most f.1
      Ok (More f.0 fs.0, fs.1))
    else Ok (Nil, b ∷ t)

-- what stands behind the first bracket of a filter, whose members `one` reads
abbrev pub inside_read : (Text → Read Filter) → ℕ → Text → Read Filter
inside_read one all [] = item_read all []
inside_read one all (b ∷ t) =
    if b == 38 then (do
      fs ← members_read one (length t) t
      closed all (And fs.0) fs.1)
    else if b == 124 then (do
      fs ← members_read one (length t) t
      closed all (Or fs.0) fs.1)
    else if b == 33 then (do
      f ← one t
      closed all (Not f.0) f.1)
    else item_read all (b ∷ t)

-- a filter of this nesting at most
abbrev pub filter_read : ℕ → ℕ → Text → Read Filter
filter_read zero all t = Err (place all t)
filter_read (suc nesting) all [] = Err (place all [])
filter_read (suc nesting) all (b ∷ t) =
    if opens b then inside_read (filter_read nesting all) all t else Err (place all (b ∷ t))

abbrev pub ended : ℕ → Filter → Text → Result Filter ℕ
ended all f [] = Ok f
ended all f (b ∷ t) = Err (place all (b ∷ t))

-- the filter that a text spells, or the place of the first octet outside the grammar
abbrev pub filter_of_text : Text → Result Filter ℕ
filter_of_text t = do
  f ← filter_read deepest (length t) t
  ended (length t) f.0 f.1
