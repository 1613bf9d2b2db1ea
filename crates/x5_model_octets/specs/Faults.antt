-- The first fault of octets that are read as an element, and its place. Places count from the first
-- octet of the input. Reading goes octet by octet and looks into every constructed element.
use Rattle.std.specs.Prelude.{◌≡◌, ℕ, ◌+◌, ◌-◌, ◌<◌, ◌==◌, ◌&&◌, Bool, true, false, if◌then◌else◌, nat_lt, nat_le, List}
use Rattle.std.specs.Prelude.{[], ◌∷◌, ◌++◌, length, take, drop}
use Rattle.std.specs.declared.option.Option.{Option}
use Rattle.std.specs.declared.option.Option.TheVariants.{None, Some}
use Rattle.std.specs.declared.result.Result.{Result}
use Rattle.std.specs.declared.result.Result.TheVariants.{Ok, Err}
use Rattle.x5_model_octets.specs.Headers.{Identifier, Stop, Short, Malformed, identifier_at, length_at}
use Rattle.x5_model_octets.specs.Elements.{Elements, SpellsAll, deepest}

-- A fault and its place. BadContent is a content outside its type, which reading by type finds.
pub data Fault : Type 0 where
  Truncated : ℕ → Fault
  BadLength : ℕ → Fault
  BadTag : ℕ → Fault
  BadContent : ℕ → Fault
  TooDeep : ℕ → Fault

-- Where an element has to begin: its depth, where the content of the nearest enclosing element with
-- a definite length ends, and whether the innermost enclosing one has the indefinite form.
pub record Around : Type 0 where
  pub depth : ℕ
  pub limit : Option ℕ
  pub closes : Bool

abbrev pub outermost : Around
outermost = record { depth = 1; limit = None; closes = false }

-- The octets of the input up to that end.
abbrev pub seen : Option ℕ → List ℕ → List ℕ
seen None input = input
seen (Some end) input = take end input

-- The fault where an octet is wanted and none is there any more: the enclosing element ends here, or
-- the input does.
abbrev pub end_fault : Option ℕ → List ℕ → Fault
end_fault None input = Truncated (length input)
end_fault (Some end) input = if nat_lt (length input) end then Truncated (length input) else BadLength end

-- End-of-contents octets.
abbrev pub begins_with_end : List ℕ → Bool
begins_with_end [] = false
begins_with_end (a ∷ []) = false
begins_with_end (a ∷ b ∷ rest) = (a == 0) && (b == 0)

-- No octet is left, or within the indefinite form a single 00, which may be the first of two.
abbrev pub runs_out : Bool → List ℕ → Bool
runs_out closes [] = true
runs_out closes (a ∷ []) = closes && (a == 0)
runs_out closes (a ∷ b ∷ rest) = false

-- A header that was read, and the place of the first content octet. The length None is the
-- indefinite form.
pub record Head : Type 0 where
  pub identifier : Identifier
  pub extent : Option ℕ
  pub content : ℕ

-- Only a constructed element has the indefinite form, and no content passes the enclosing end.
abbrev pub may_extend : Option ℕ → Head → Bool
may_extend limit head = by_extent head.extent limit
  where
    by_extent : Option ℕ → Option ℕ → Bool
    by_extent None l = head.identifier.constructed
    by_extent (Some n) None = true
    by_extent (Some n) (Some end) = nat_le (head.content + n) end

-- The header at a place of the input, or its first fault. A malformed tag is a fault at its first
-- octet, a length at the first length octet. At one octet TooDeep comes before BadTag.
abbrev pub after_length : Option ℕ → List ℕ → Identifier → ℕ → Result (Option ℕ × List ℕ) Stop → Result Head Fault
after_length limit input i place (Err Short) = Err (end_fault limit input)
after_length limit input i place (Err Malformed) = Err (BadLength place)
after_length limit input i place (Ok found) =
    let head : Head =
    record { identifier = i; extent = found.0; content = length (seen limit input) - length found.1 } in
    if may_extend limit head then Ok head else Err (BadLength place)

abbrev pub after_identifier : Option ℕ → List ℕ → ℕ → Result (Identifier × List ℕ) Stop → Result Head Fault
after_identifier limit input at (Err Short) = Err (end_fault limit input)
after_identifier limit input at (Err Malformed) = Err (BadTag at)
after_identifier limit input at (Ok found) =
    after_length limit input found.0 (length (seen limit input) - length found.1) (length_at found.1)

abbrev pub head_at : Around → List ℕ → ℕ → Result Head Fault
head_at a input at =
    let octets = drop at (seen a.limit input) in
    if runs_out a.closes octets then Err (end_fault a.limit input)
    else if nat_lt deepest a.depth then Err (TooDeep at)
    else if begins_with_end octets then Err (BadTag at)
    else after_identifier a.limit input at (identifier_at octets)

-- What stands around the members of a constructed element.
abbrev pub limit_within : Option ℕ → Head → Option ℕ
limit_within outer head = by_extent head.extent
  where
    by_extent : Option ℕ → Option ℕ
    by_extent None = outer
    by_extent (Some n) = Some (head.content + n)

abbrev pub is_indefinite : Option ℕ → Bool
is_indefinite None = true
is_indefinite (Some n) = false

abbrev pub within : Around → Head → Around
within a head = record { depth = a.depth + 1; limit = limit_within a.limit head; closes = is_indefinite head.extent }

-- The content isn't over at the place: its length isn't used up, or no end-of-contents octets stand
-- there.
abbrev pub IsUnfinished : Head → Option ℕ → List ℕ → ℕ → Type 0
IsUnfinished head limit input place = by_extent head.extent
  where
    by_extent : Option ℕ → Type 0
    by_extent None = begins_with_end (drop place (seen limit input)) ≡ false
    by_extent (Some n) = place < head.content + n

-- The octets stand at the place, before the enclosing end.
abbrev pub StandsAt : Option ℕ → List ℕ → ℕ → List ℕ → Type 0
StandsAt limit input place octets =
    drop place (seen limit input) ≡ octets ++ drop (place + length octets) (seen limit input)

-- A primitive element whose content isn't there whole.
abbrev pub IsCutOff : Head → List ℕ → Type 0
IsCutOff head input = by_extent head.extent
  where
    by_extent : Option ℕ → Type 0
    by_extent None = ⊥
    by_extent (Some n) = length input < head.content + n

-- The first fault of an element that has to begin at the place: a fault of its header; the input's
-- end within the content of a primitive one; or the first fault in the content of a constructed one,
-- behind members that are whole.
pub data FirstFault (input : List ℕ) : Around → ℕ → Fault → Type 0 where
  in_header : {a : Around} {at : ℕ} {fault : Fault} → head_at a input at ≡ Err fault → FirstFault input a at fault
  in_octets : {a : Around} {at : ℕ} {head : Head} → head_at a input at ≡ Ok head → head.identifier.constructed ≡ false →
      IsCutOff head input → FirstFault input a at (Truncated (length input))
  in_member : {a : Around} {at : ℕ} {fault : Fault} {head : Head} (members : Elements) (octets : List ℕ)
      → head_at a input at ≡ Ok head → head.identifier.constructed ≡ true
      → SpellsAll (a.depth + 1) members octets
      → StandsAt (limit_within a.limit head) input head.content octets
      → IsUnfinished head (limit_within a.limit head) input (head.content + length octets)
      → FirstFault input (within a head) (head.content + length octets) fault
      → FirstFault input a at fault
