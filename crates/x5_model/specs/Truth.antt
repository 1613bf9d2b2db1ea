-- When a filter is true of an entry (X.511, section 7.8.1; X.501, section 8: matching rules).
use Rattle.std.specs.Prelude.{ℕ, Bool, true, false, ◌&&◌, ◌==◌, nat_le, ◌-◌, if◌then◌else◌, List, [], ◌∷◌, drop, length}
use Rattle.std.specs.List.{list_any, starts_with}
use Rattle.std.specs.Ordering.{is_ge, is_le, nat_cmp}
use Rattle.std.specs.Cmp.Lexicographic.{slice_cmp}
use Rattle.std.specs.declared.option.Option.{Option}
use Rattle.std.specs.declared.option.Option.TheVariants.{None, Some}
use Rattle.x5_model.specs.Words.{tails, same_octets}
use Rattle.x5_model.specs.Values.{TypeRef, Known, Unknown}
use Rattle.x5_model.specs.Types.{kind_of, has_order, has_substrings}
use Rattle.x5_model.specs.Entries.{Entry}
use Rattle.x5_model.specs.Attributes.{values_at, is_present}
use Rattle.x5_model.specs.Filters.{Parts, Item, Equality, Substrings, GreaterOrEqual, LessOrEqual, Present, Approximate}
use Rattle.x5_model.specs.Filters.{Filter, Is, And, Or, Not, Filters, Nil, More}

pub data Truth : Type 0 where
  False : Truth
  Undefined : Truth
  True : Truth

-- false where one is false, else undefined where one is undefined, else true
abbrev pub truth_and : Truth → Truth → Truth
truth_and False b = False
truth_and Undefined False = False
truth_and Undefined Undefined = Undefined
truth_and Undefined True = Undefined
truth_and True b = b

-- true where one is true, else undefined where one is undefined, else false
abbrev pub truth_or : Truth → Truth → Truth
truth_or True b = True
truth_or Undefined True = True
truth_or Undefined Undefined = Undefined
truth_or Undefined False = Undefined
truth_or False b = b

abbrev pub truth_not : Truth → Truth
truth_not False = True
truth_not Undefined = Undefined
truth_not True = False

abbrev pub truth_of : Bool → Truth
truth_of true = True
truth_of false = False

abbrev pub is_true : Truth → Bool
is_true True = true
is_true Undefined = false
is_true False = false

-- the parts stand in the text in this order without overlap, and the last part ends it
abbrev pub ends_so : Option (List ℕ) → List ℕ → Bool
ends_so None text = true
ends_so (Some part) text =
    nat_le (length part) (length text) && same_octets (drop (length text - length part) text) part

abbrev pub in_order : List (List ℕ) → Option (List ℕ) → List ℕ → Bool
in_order [] last text = ends_so last text
in_order (part ∷ parts) last text =
    list_any (λ rest. starts_with ◌==◌ rest part && in_order parts last (drop (length part) rest)) (tails text)

abbrev pub begins_so : Option (List ℕ) → List (List ℕ) → Option (List ℕ) → List ℕ → Bool
begins_so None parts last text = in_order parts last text
begins_so (Some part) parts last text = starts_with ◌==◌ text part && in_order parts last (drop (length part) text)

abbrev pub matches_parts : Parts → List ℕ → Bool
matches_parts p text = begins_so p.initial p.any p.last text

-- some value of the type has a normal form that passes the test
abbrev pub some_value : (List ℕ → Bool) → Entry → ℕ → Bool
some_value test e kind = list_any (λ v. test v.normal) (values_at e kind)

-- undefined where there is no normal form: the type is unknown or the value isn't of its kind
abbrev pub truth_by : {X : Type 0} → (X → List ℕ → Bool) → TypeRef → Option X → Entry → Truth
truth_by test (Unknown arcs) asserted e = Undefined
truth_by test (Known kind) None e = Undefined
truth_by test (Known kind) (Some x) e = truth_of (some_value (test x) e kind)

-- undefined too where the type's kind lacks the rule (which kinds have one is this project's own: Types)
abbrev pub ordered : TypeRef → Bool
ordered (Known kind) = has_order (kind_of kind)
ordered (Unknown arcs) = false

abbrev pub has_parts : TypeRef → Bool
has_parts (Known kind) = has_substrings (kind_of kind)
has_parts (Unknown arcs) = false

abbrev pub is_equal : List ℕ → List ℕ → Bool
is_equal asserted normal = same_octets normal asserted

abbrev pub is_at_least : List ℕ → List ℕ → Bool
is_at_least asserted normal = is_ge (slice_cmp nat_cmp normal asserted)

abbrev pub is_at_most : List ℕ → List ℕ → Bool
is_at_most asserted normal = is_le (slice_cmp nat_cmp normal asserted)

abbrev pub present_truth : TypeRef → Entry → Truth
present_truth (Known kind) e = truth_of (is_present e kind)
present_truth (Unknown arcs) e = Undefined

-- a type that is unknown makes an item undefined, also `present`; approximate match is equality
abbrev pub item_truth : Item → Entry → Truth
item_truth (Equality a) e = truth_by is_equal a.kind a.normal e
item_truth (Substrings s) e = if has_parts s.kind then truth_by matches_parts s.kind s.normal e else Undefined
item_truth (GreaterOrEqual a) e = if ordered a.kind then truth_by is_at_least a.kind a.normal e else Undefined
item_truth (LessOrEqual a) e = if ordered a.kind then truth_by is_at_most a.kind a.normal e else Undefined
item_truth (Present kind) e = present_truth kind e
item_truth (Approximate a) e = truth_by is_equal a.kind a.normal e

-- `and` of nothing is true, `or` of nothing is false, `not` of undefined is undefined
abbrev mutual
  pub filter_truth : Filter → Entry → Truth
  filter_truth (Is item) e = item_truth item e
  filter_truth (And members) e = all_truth members e
  filter_truth (Or members) e = any_truth members e
  filter_truth (Not member) e = truth_not (filter_truth member e)

  pub all_truth : Filters → Entry → Truth
  all_truth Nil e = True
  all_truth (More f more) e = truth_and (filter_truth f e) (all_truth more e)

  pub any_truth : Filters → Entry → Truth
  any_truth Nil e = False
  any_truth (More f more) e = truth_or (filter_truth f e) (any_truth more e)

-- an entry is selected only where the filter is true
abbrev pub selects_entry : Filter → Entry → Bool
selects_entry f e = is_true (filter_truth f e)
