-- An element that is read in part: the elements that are open around a place, each with its header
-- and with the members that are whole.
use Rattle.std.specs.Prelude.{◌≡◌, ℕ, suc, zero, ◌+◌, ◌≤◌, Bool, true, false, List, ◌++◌, length, drop, slice_index_or}
use Rattle.std.specs.Prelude.{◌==◌}
use Rattle.std.specs.declared.option.Option.{Option}
use Rattle.std.specs.declared.option.Option.TheVariants.{None, Some}
use Rattle.x5_model_octets.specs.Headers.{IsHeader}
use Rattle.x5_model_octets.specs.Elements.{Element, Elements, Spells, SpellsAll, deepest}
use Rattle.x5_model_octets.specs.Faults.{Around, Head, within, limit_within, is_indefinite, may_extend, begins_with_end}
use Rattle.x5_model_octets.specs.Faults.{outermost, seen}
use Rattle.x5_ber.specs.declared.reader.Enclosing.{Enclosing}

-- The octets stand at the place of the input.
pub record Stands (input : List ℕ) (at : ℕ) (octets : List ℕ) : Type 0 where
  pub split : drop at input ≡ octets ++ drop (at + length octets) input
  pub there : at + length octets ≤ length input

-- The place doesn't pass the end, if there is one.
abbrev pub EndsWithin : Option ℕ → ℕ → Type 0
EndsWithin None place = Unit {0}
EndsWithin (Some end) place = place ≤ end

-- An element, the value, spelled from the start to the end.
pub record ValueAt (input : List ℕ) (start end : ℕ) : Type 0 where
  pub element : Element
  pub octets : List ℕ
  pub spells : Spells 1 element octets
  pub stands : Stands input start octets
  pub ends : end ≡ start + length octets

-- A header stands at the place and may stand there.
pub record Headed (input : List ℕ) (a : Around) (at : ℕ) (head : Head) : Type 0 where
  pub header : List ℕ
  pub is_header : IsHeader head.identifier head.extent header
  pub stands : Stands input at header
  pub content : head.content ≡ at + length header
  pub fits : EndsWithin a.limit head.content
  pub shallow : a.depth ≤ deepest
  pub may : may_extend a.limit head ≡ true
  pub no_end : begins_with_end header ≡ false

-- The header of a constructed element stands at the place, and behind it whole members, as far as
-- the other place.
pub record Inside (input : List ℕ) (outer : Around) (place : ℕ) (inner : Around) (at : ℕ) : Type 0 where
  pub head : Head
  pub headed : Headed input outer place head
  pub form : head.identifier.constructed ≡ true
  pub around : inner ≡ within outer head
  pub members : Elements
  pub octets : List ℕ
  pub spelled : SpellsAll (outer.depth + 1) members octets
  pub stands : Stands input head.content octets
  pub ends : at ≡ head.content + length octets
  pub fits : EndsWithin inner.limit at

abbrev pub bare : Enclosing
bare = record { limit = None; closes = false }

-- What stands around the next element where so many are open.
abbrev pub around_at : List Enclosing → ℕ → Around
around_at enclosing depth = let e : Enclosing = slice_index_or enclosing depth bare in record {
  depth = depth + 1;
  limit = e.limit;
  closes = e.closes;
}

-- What stands around the members of a header's element.
abbrev pub enclosing_of : Around → Head → Enclosing
enclosing_of a head = record { limit = limit_within a.limit head; closes = is_indefinite head.extent }

-- So many elements are open at the place, the outermost of which begins at the start.
abbrev pub AreOpen : List ℕ → List Enclosing → ℕ → ℕ → ℕ → Type 0
AreOpen input enclosing start zero at = (at ≡ start) × (around_at enclosing 0 ≡ outermost) × (at ≤ length input)
AreOpen input enclosing start (suc depth) at =
    (place : ℕ) × AreOpen input enclosing start depth place
    × Inside input (around_at enclosing depth) place (around_at enclosing (suc depth)) at

-- Behind a step: the value is whole, or elements are open.
abbrev pub IsRead : List ℕ → List Enclosing → ℕ → ℕ → ℕ → Type 0
IsRead input enclosing start zero at = ValueAt input start at
IsRead input enclosing start (suc depth) at = AreOpen input enclosing start (suc depth) at

-- The content of the innermost open element is over at the place.
abbrev pub is_over : Around → List ℕ → ℕ → Bool
is_over a input at = by_form a.closes a.limit
  where
    by_form : Bool → Option ℕ → Bool
    by_form true limit = begins_with_end (drop at (seen limit input))
    by_form false None = false
    by_form false (Some end) = at == end
