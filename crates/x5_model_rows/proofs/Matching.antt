-- Filters on one entry: what is true, false and undefined.
use Rattle.std.specs.Prelude.{◌≡◌, ℕ, true, false, List, [], ◌∷◌}
use Rattle.std.specs.declared.option.Option.{Option}
use Rattle.std.specs.declared.option.Option.TheVariants.{None, Some}
use Rattle.std.proofs.Common.{refl}
use lib.Chars.{codes}
use Rattle.x5_model.specs.Values.{Text, TypeRef, Known, Unknown, TextValue}
use Rattle.x5_model.specs.Entries.{Entry}
use Rattle.x5_model.specs.Filters.{Assertion, Parts, Equality, GreaterOrEqual, LessOrEqual, Present, Approximate, Is}
use Rattle.x5_model.specs.Filters.{And, Or, Not, Nil, More}
use Rattle.x5_model.specs.Truth.{True, False, Undefined, matches_parts, item_truth, filter_truth}
use Rattle.x5_model_rows.proofs.Literals.{text, class, one}

-- a person with two descriptions and a telephone number
abbrev person : Entry
person =
    record {
      attributes = class 7 ∷ one 3 (text (codes "Jan") (codes "jan"))
          ∷ (record {
            kind = 13;
            values = text (codes "Abba") (codes "abba") ∷ text (codes "Tools") (codes "tools") ∷ [];
          })
          ∷ one 20 (text (codes "12-3") (codes "123")) ∷ [];
    }

abbrev says : ℕ → Text → Assertion
says kind normal = record { kind = Known kind; value = TextValue normal; normal = Some normal }

abbrev unsaid : TypeRef → Assertion
unsaid kind = record { kind = kind; value = TextValue (codes "x"); normal = None }

abbrev unknown : TypeRef
unknown = Unknown (1 ∷ 2 ∷ 3 ∷ [])

-- equality looks at all values; approximate match is equality
pub equal : item_truth (Equality (says 13 (codes "tools"))) person ≡ True
equal = refl

pub unequal : item_truth (Equality (says 13 (codes "tool"))) person ≡ False
unequal = refl

pub absent : item_truth (Equality (says 4 (codes "x"))) person ≡ False
absent = refl

pub approximate : item_truth (Approximate (says 13 (codes "tools"))) person ≡ True
approximate = refl

-- undefined: an unknown type, also for `present`; a value that isn't of the kind; a kind without the rule
pub unknown_type : item_truth (Equality (unsaid unknown)) person ≡ Undefined
unknown_type = refl

pub unknown_present : item_truth (Present unknown) person ≡ Undefined
unknown_present = refl

pub bad_value : item_truth (Equality (unsaid (Known 6))) person ≡ Undefined
bad_value = refl

pub no_order : item_truth (GreaterOrEqual (says 20 (codes "1"))) person ≡ Undefined
no_order = refl

-- presence of what is there and of what isn't
pub there_is : item_truth (Present (Known 20)) person ≡ True
there_is = refl

pub there_is_none : item_truth (Present (Known 4)) person ≡ False
there_is_none = refl

-- the order of normal forms: some value will do
pub at_least : item_truth (GreaterOrEqual (says 13 (codes "b"))) person ≡ True
at_least = refl

pub at_most : item_truth (LessOrEqual (says 13 (codes "abba"))) person ≡ True
at_most = refl

pub beyond : item_truth (GreaterOrEqual (says 13 (codes "u"))) person ≡ False
beyond = refl

-- parts stand in order without overlap
abbrev parts : Option Text → List Text → Option Text → Parts
parts initial any last = record { initial = initial; any = any; last = last }

pub side_by_side : matches_parts (parts (Some (codes "ab")) [] (Some (codes "ba"))) (codes "abba") ≡ true
side_by_side = refl

pub overlapping : matches_parts (parts (Some (codes "ab")) [] (Some (codes "ba"))) (codes "aba") ≡ false
overlapping = refl

pub in_the_middle : matches_parts (parts None (codes "a" ∷ codes "a" ∷ []) None) (codes "banal") ≡ true
in_the_middle = refl

pub out_of_order : matches_parts (parts None (codes "l" ∷ codes "a" ∷ []) None) (codes "banal") ≡ false
out_of_order = refl

-- two middle parts don't overlap, and the initial part stands at the front
pub middles_overlapping : matches_parts (parts None (codes "aa" ∷ codes "aa" ∷ []) None) (codes "aaa") ≡ false
middles_overlapping = refl

pub middles_apart : matches_parts (parts None (codes "aa" ∷ codes "aa" ∷ []) None) (codes "aaaa") ≡ true
middles_apart = refl

pub not_at_the_front : matches_parts (parts (Some (codes "b")) [] None) (codes "ab") ≡ false
not_at_the_front = refl

-- the last part doesn't overlap a middle one
pub no_room : matches_parts (parts None (codes "ab" ∷ []) (Some (codes "b"))) (codes "aab") ≡ false
no_room = refl

pub room : matches_parts (parts None (codes "ab" ∷ []) (Some (codes "b"))) (codes "abab") ≡ true
room = refl

-- undefined members
pub and_false : filter_truth (And (More (Is (Present unknown)) (More (Is (Present (Known 4))) Nil))) person ≡ False
and_false = refl

pub and_undefined : filter_truth (And (More (Is (Present unknown)) (More (Is (Present (Known 3))) Nil))) person
    ≡ Undefined
and_undefined = refl

pub or_true : filter_truth (Or (More (Is (Present unknown)) (More (Is (Present (Known 3))) Nil))) person ≡ True
or_true = refl

pub not_undefined : filter_truth (Not (Is (Present unknown))) person ≡ Undefined
not_undefined = refl

pub and_of_nothing : filter_truth (And Nil) person ≡ True
and_of_nothing = refl

pub or_of_nothing : filter_truth (Or Nil) person ≡ False
or_of_nothing = refl
