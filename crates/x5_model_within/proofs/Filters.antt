-- What a text gives as a filter is within the limits: each item by the type and the values in it, parts of a value by
-- where they stand between stars, and the filter by the grammar, which has no deeper nesting.
use Rattle.std.proofs.Common.{◌≡◌, ℕ, zero, suc, ◌+◌, ◌-◌, Bool, true, false, not, ◌&&◌, ◌==◌, nat_lt, List, [], ◌∷◌, ◌++◌, length, refl, ap, subst, arith, Option, Some, None, Result, Ok, Err, IfOk, if◌then◌else◌}
use Rattle.std.specs.List.{list_all, position_or_len, before_first, after_first, slice_split}
use Rattle.x5_model.specs.Words.{is_empty, in_option, same_octets}
use Rattle.x5_model.specs.Values.{Text, TypeRef, Unknown, Value}
use Rattle.x5_model.specs.Types.{TextKind}
use Rattle.x5_model.specs.Normal.{ValueFault}
use Rattle.x5_model.specs.Assertions.{assertion_of, substring_item_of, begins_value, ends_value}
use Rattle.x5_model.specs.Filters.{Assertion, PiecePlace, Initial, Any, Last, Piece, Item, Equality, Substrings, GreaterOrEqual, LessOrEqual, Present, Approximate, Filter, Is, And, Or, Not, Filters, Nil, More}
use Rattle.x5_model.proofs.Lists.{both_true, and_true}
use Rattle.x5_model_text.specs.TypeText.{type_of_text}
use Rattle.x5_model_text.specs.NameText.{equals, kind_of_type, value_of_text}
use Rattle.x5_model_text.specs.Filters.{deepest, star, ◌>>=◌, spelled_at, or_place, value_at, assertion_at, piece_at, with_piece, pieces_at, all_pieces, some_pieces, substrings_at, has_star, asserted, equal_at, type_at, before_last, compared_at, item_of_sides, item_at, filter_of_text}
use Rattle.x5_model_text.specs.FilterGrammar.{Spells, SpellsAll}
use Rattle.x5_model_text.proofs.FilterLaws.{read_is_spelled}
use Rattle.x5_model_fitting.specs.Names.{Each}
use Rattle.x5_model_fitting.specs.Terms.{TypeWithin, ValueWithin, AssertionWithin, PartWithin, stand_right}
use Rattle.x5_model_fitting.specs.Filters.{ItemWithin, FilterWithin, FiltersWithin, most_levels}
use Rattle.x5_model_limits.proofs.Lists.{each_none, each_one, each_both}
use Rattle.x5_model_within.proofs.Texts.{type_within, value_within, part_within}

-- ---- what holds of what is read holds through a step

whatever : {A B : Type 0} (P : B → Type 0) (r : Result A ℕ) (f : A → Result B ℕ) → ((x : A) → IfOk (f x) P)
    → IfOk (r >>= f) P
whatever P (Err e) f h = tt
whatever P (Ok x) f h = h x

given : {A B : Type 0} (P : B → Type 0) (Q : A → Type 0) (r : Result A ℕ) (f : A → Result B ℕ) → IfOk r Q
    → ((x : A) → Q x → IfOk (f x) P) → IfOk (r >>= f) P
given P Q (Err e) f q h = tt
given P Q (Ok x) f q h = h x q

either : {A : Type 0} (P : A → Type 0) (b : Bool) (r s : Result A ℕ) → IfOk r P → IfOk s P
    → IfOk (if b then r else s) P
either P true r s p q = p
either P false r s p q = q

-- ---- values and assertions

placed : (P : Value → Type 0) (at : ℕ) (r : Result Value ValueFault) → IfOk r P → IfOk (or_place at r) P
placed P at (Ok v) h = h
placed P at (Err fault) h = tt

value_at_within : (type : TypeRef) (at : ℕ) (t : Text) → IfOk (value_at (kind_of_type type) at t) ValueWithin
value_at_within type at t =
    whatever ValueWithin (spelled_at at t) (λ u. or_place at (value_of_text type t))
    (λ u. placed ValueWithin at (value_of_text type t) (value_within type t))

part_at_within : (at : ℕ) (t : Text) → IfOk (value_at TextKind at t) PartWithin
part_at_within at t =
    whatever PartWithin (spelled_at at t) (λ u. or_place at (value_of_text (Unknown []) t))
    (λ u. placed PartWithin at (value_of_text (Unknown []) t) (part_within t))

assertion_within : (type : TypeRef) (at : ℕ) (t : Text) → TypeWithin type
    → IfOk (assertion_at type at t) AssertionWithin
assertion_within type at t w =
    given AssertionWithin ValueWithin (value_at (kind_of_type type) at t) (λ v. Ok (assertion_of type v))
    (value_at_within type at t) (λ v h. record { type = w; value = h; normal = refl })

type_at_within : (at : ℕ) (word : Text) → IfOk (type_at at word) TypeWithin
type_at_within at word = by (type_of_text word) refl
  where
    by : (o : Option TypeRef) → type_of_text word ≡ o
        → IfOk (in_option (let r : Result TypeRef ℕ = Err at in r) (λ x. Ok x) o) TypeWithin
    by None e = tt
    by (Some type) e = type_within word type e

compared_within : (at : ℕ) (word : Text) (place : ℕ) (t : Text) → IfOk (compared_at at word place t) AssertionWithin
compared_within at word place t =
    given AssertionWithin TypeWithin (type_at at word) (λ type. assertion_at type place t) (type_at_within at word)
    (λ type w. assertion_within type place t w)

-- ---- parts of a value

abbrev PieceWithin : Piece → Type 0
PieceWithin p = PartWithin p.value

-- parts that stand right and within the limits
record Right (ps : List Piece) : Type 0 where
  places : stand_right ps ≡ true
  pieces : Each PieceWithin ps

-- and of which none ends a value, so that others may follow
record Open (ps : List Piece) : Type 0 where
  right : Right ps
  goes_on : list_all (λ p. not (ends_value p.place)) ps ≡ true

one_behind : (ps : List Piece) (q : Piece) → stand_right ps ≡ true
    → list_all (λ p. not (ends_value p.place)) ps ≡ true
    → not (begins_value q.place) ≡ true → stand_right (ps ++ q ∷ []) ≡ true
one_behind [] q places goes_on behind = refl
one_behind (p ∷ []) q places goes_on behind =
    let a = both_true (not (ends_value p.place)) true goes_on in
    and_true (not (ends_value p.place) && not (begins_value q.place)) true
    (and_true (not (ends_value p.place)) (not (begins_value q.place)) a.0 behind) refl
one_behind (p ∷ r ∷ ps) q places goes_on behind =
    let a = both_true (not (ends_value p.place)) (list_all (λ (x : Piece). not (ends_value x.place)) (r ∷ ps))
    goes_on in
    let b = both_true (not (ends_value p.place) && not (begins_value r.place)) (stand_right (r ∷ ps)) places in
    and_true (not (ends_value p.place) && not (begins_value r.place)) (stand_right (r ∷ ps ++ q ∷ [])) b.0
    (one_behind (r ∷ ps) q b.1 a.1 behind)

all_behind : (test : Piece → Bool) (ps : List Piece) (q : Piece) → list_all test ps ≡ true → test q ≡ true
    → list_all test (ps ++ q ∷ []) ≡ true
all_behind test [] q all e = and_true (test q) true e refl
all_behind test (p ∷ ps) q all e =
    let a = both_true (test p) (list_all test ps) all in
    and_true (test p) (list_all test (ps ++ q ∷ [])) a.0 (all_behind test ps q a.1 e)

right_with : (ps : List Piece) (q : Piece) → Open ps → PieceWithin q → not (begins_value q.place) ≡ true
    → Right (ps ++ q ∷ [])
right_with ps q o h behind = record {
  places = one_behind ps q o.right.places o.goes_on behind;
  pieces = each_both PieceWithin ps (q ∷ []) o.right.pieces (each_one PieceWithin q h);
}

-- what one part is, if it isn't empty
abbrev IsPiece : PiecePlace → Option Piece → Type 0
IsPiece place None = Unit {0}
IsPiece place (Some p) = PieceWithin p × (p.place ≡ place)

piece_within : (place : PiecePlace) (at : ℕ) (t : Text) → IfOk (piece_at place at t) (IsPiece place)
piece_within place at [] = tt
piece_within place at (b ∷ t) =
    given (IsPiece place) PartWithin (value_at TextKind at (b ∷ t))
    (λ v. Ok (Some (record { place = place; value = v })))
    (part_at_within at (b ∷ t)) (λ v h. (h, refl))

last_within : (before : List Piece) (o : Option Piece) → Open before → IsPiece Last o → Right (with_piece before o)
last_within before None h k = h.right
last_within before (Some p) h k = right_with before p h k.0 (ap (λ (x : PiecePlace). not (begins_value x)) k.1)

open_with : (before : List Piece) (o : Option Piece) → Open before → IsPiece Any o → Open (with_piece before o)
open_with before None h k = h
open_with before (Some p) h k = record {
  right = right_with before p h k.0 (ap (λ (x : PiecePlace). not (begins_value x)) k.1);
  goes_on = all_behind (λ (x : Piece). not (ends_value x.place)) before p h.goes_on
      (ap (λ (x : PiecePlace). not (ends_value x)) k.1);
}

pieces_within : (before : List Piece) (at : ℕ) (ts : List Text) → Open before → IfOk (pieces_at before at ts) Right
pieces_within before at [] h = h.right
pieces_within before at (t ∷ []) h =
    given Right (IsPiece Last) (piece_at Last at t) (λ p. pieces_at (with_piece before p) (at + length t + 1) [])
    (piece_within Last at t) (λ p k. last_within before p h k)
pieces_within before at (t ∷ u ∷ ts) h =
    given Right (IsPiece Any) (piece_at Any at t) (λ p. pieces_at (with_piece before p) (at + length t + 1) (u ∷ ts))
    (piece_within Any at t)
    (λ p k. pieces_within (with_piece before p) (at + length t + 1) (u ∷ ts) (open_with before p h k))

first_open : (o : Option Piece) → IsPiece Initial o → Open (with_piece [] o)
first_open None h = record { right = record { places = refl; pieces = each_none PieceWithin }; goes_on = refl }
first_open (Some p) h = record {
  right = record { places = refl; pieces = each_one PieceWithin p h.0 };
  goes_on = and_true (not (ends_value p.place)) true (ap (λ (x : PiecePlace). not (ends_value x)) h.1) refl;
}

all_within : (at : ℕ) (ts : List Text) → IfOk (all_pieces at ts) Right
all_within at [] = record { places = refl; pieces = each_none PieceWithin }
all_within at (t ∷ ts) =
    given Right (IsPiece Initial) (piece_at Initial at t) (λ p. pieces_at (with_piece [] p) (at + length t + 1) ts)
    (piece_within Initial at t) (λ p k. pieces_within (with_piece [] p) (at + length t + 1) ts (first_open p k))

-- one part at least
record SomePieces (ps : List Piece) : Type 0 where
  some : is_empty ps ≡ false
  right : Right ps

some_within : (end : ℕ) (ps : List Piece) → Right ps → IfOk (some_pieces end ps) SomePieces
some_within end [] h = tt
some_within end (p ∷ ps) h = record { some = refl; right = h }

substrings_within : (type : TypeRef) (at : ℕ) (t : Text) → TypeWithin type → IfOk (substrings_at type at t) ItemWithin
substrings_within type at t w =
    given ItemWithin Right (all_pieces at (slice_split (λ b. b == star) t))
    (λ all. some_pieces (at + length t) all >>= (λ some. Ok (Substrings (substring_item_of type some))))
    (all_within at (slice_split (λ b. b == star) t))
    (λ all h. given ItemWithin SomePieces (some_pieces (at + length t) all)
    (λ some. Ok (Substrings (substring_item_of type some))) (some_within (at + length t) all h)
    (λ some k. record {
      type = w;
      some = k.some;
      places = k.right.places;
      pieces = k.right.pieces;
      normal = refl;
    }))

-- ---- items

asserted_within : (relation : Assertion → Item) (r : Result Assertion ℕ)
    → ((a : Assertion) → AssertionWithin a → ItemWithin (relation a)) → IfOk r AssertionWithin
    → IfOk (asserted relation r) ItemWithin
asserted_within relation r so h = given ItemWithin AssertionWithin r (λ a. Ok (relation a)) h so

equal_within : (type : TypeRef) (at : ℕ) (t : Text) → TypeWithin type → IfOk (equal_at type at t) ItemWithin
equal_within type at t w =
    either ItemWithin (not (has_star t)) _ _
    (asserted_within Equality (assertion_at type at t) (λ a h. h) (assertion_within type at t w))
    (either ItemWithin (same_octets t (star ∷ [])) (Ok (Present type)) _ w (substrings_within type at t w))

sides_within : (at : ℕ) (left : Text) (place : ℕ) (right : Text) (above below near : Option Text)
    → IfOk (item_of_sides at left place right above below near) ItemWithin
sides_within at left place right (Some word) below near =
    asserted_within GreaterOrEqual (compared_at at word place right) (λ a h. h) (compared_within at word place right)
sides_within at left place right None (Some word) near =
    asserted_within LessOrEqual (compared_at at word place right) (λ a h. h) (compared_within at word place right)
sides_within at left place right None None (Some word) =
    asserted_within Approximate (compared_at at word place right) (λ a h. h) (compared_within at word place right)
sides_within at left place right None None None =
    given ItemWithin TypeWithin (type_at at left) (λ type. equal_at type place right) (type_at_within at left)
    (λ type w. equal_within type place right w)

item_within : (at : ℕ) (t : Text) → IfOk (item_at at t) ItemWithin
item_within at t =
    let cut : ℕ = position_or_len (λ b. b == equals) t in
    let left : Text = before_first (λ b. b == equals) t in
    either ItemWithin (nat_lt cut (length t)) _ (Err (at + length t))
    (sides_within at left (at + cut + 1) (after_first (λ b. b == equals) t) (before_last 62 left) (before_last 60 left)
    (before_last 126 left)) tt

-- ---- filters

each_within : (n : ℕ) → ((f : Filter) (t : Text) → Spells n f t → FilterWithin n f) → (fs : Filters) (t : Text)
    → SpellsAll (Spells n) fs t → FiltersWithin n fs
each_within n one Nil t s = tt
each_within n one (More f fs) t s = (one f s.0 s.2, each_within n one fs s.1 s.3)

one_less : (n : ℕ) → n ≡ suc n - 1
one_less n = omega arith

spelled_within : (n : ℕ) (f : Filter) (t : Text) → Spells n f t → FilterWithin n f
spelled_within zero f t s = absurd s
spelled_within (suc n) (Is item) t s =
    (omega arith, subst (λ (r : Result Item ℕ). IfOk r ItemWithin) s.2 (item_within s.0 s.1))
spelled_within (suc n) (And fs) t s = (
  omega arith,
  subst (λ (m : ℕ). FiltersWithin m fs) (one_less n) (each_within n (spelled_within n) fs s.0 s.1),
)
spelled_within (suc n) (Or fs) t s = (
  omega arith,
  subst (λ (m : ℕ). FiltersWithin m fs) (one_less n) (each_within n (spelled_within n) fs s.0 s.1),
)
spelled_within (suc n) (Not f) t s =
    (omega arith, subst (λ (m : ℕ). FilterWithin m f) (one_less n) (spelled_within n f s.0 s.1))

pub filter_within : (t : Text) → IfOk (filter_of_text t) (FilterWithin most_levels)
filter_within t = by (filter_of_text t) refl
  where
    by : (r : Result Filter ℕ) → filter_of_text t ≡ r → IfOk r (FilterWithin most_levels)
    by (Ok f) e = spelled_within deepest f t (read_is_spelled t f e)
    by (Err place) e = tt
