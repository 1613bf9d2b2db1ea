-- Which nodes an index gives for a filter (X.511, section 7.8). That a filter is looked up by its first equality item
-- is this project's own.
use Rattle.std.specs.Prelude.{◌≡◌, ◌↔◌, ℕ, true, List}
use Rattle.std.specs.declared.option.Option.{Option}
use Rattle.std.specs.declared.option.Option.TheVariants.{None, Some}
use Rattle.x5_model.specs.Members.{In, Once}
use Rattle.x5_model.specs.Values.{TypeRef, Known, Unknown}
use Rattle.x5_model.specs.Entries.{Entry}
use Rattle.x5_model.specs.Filters.{Assertion, Item, Equality, Filter, Is, And, Filters, Nil, More}
use Rattle.x5_model.specs.Truth.{is_true, item_truth, selects_entry}
use Rattle.x5_index.specs.Index.{Posting, IsEntryAt}

-- the assertion of an equality item on a type of the table
abbrev pub known_assertion : TypeRef → Assertion → Option Assertion
known_assertion (Known kind) a = Some a
known_assertion (Unknown arcs) a = None

abbrev pub asserted_in : Item → Option Assertion
asserted_in (Equality a) = known_assertion a.kind a
asserted_in other = None

abbrev pub equality_in : Filter → Option Assertion
equality_in (Is item) = asserted_in item
equality_in other = None

abbrev pub or_else : Option Assertion → Option Assertion → Option Assertion
or_else None b = b
or_else (Some a) b = Some a

-- of members the first such one; what stands deeper doesn't count
abbrev pub first_equality : Filters → Option Assertion
first_equality Nil = None
first_equality (More f more) = or_else (equality_in f) (first_equality more)

-- what the filter is looked up by: itself, or the first such member of an `and`
abbrev pub looked_up : Filter → Option Assertion
looked_up (And members) = first_equality members
looked_up (Is item) = asserted_in item
looked_up other = None

-- These are exactly the nodes whose entries make that item true, each once. So none is missing that the filter selects.
pub record AreCandidates (postings : List Posting) (filter : Filter) (nodes : List ℕ) : Type 0 where
  pub asserted : Assertion
  pub first : looked_up filter ≡ Some asserted
  pub exact : (node : ℕ) (entry : Entry) → IsEntryAt postings node entry →
      In node nodes ↔ (is_true (item_truth (Equality asserted) entry) ≡ true)
  pub complete : (node : ℕ) (entry : Entry) → IsEntryAt postings node entry → selects_entry filter entry ≡ true →
      In node nodes
  pub once : Once nodes

-- there are candidates exactly where the filter gives an equality item
abbrev pub IsLookUp : List Posting → Filter → Option (List ℕ) → Type 0
IsLookUp postings filter None = looked_up filter ≡ None
IsLookUp postings filter (Some nodes) = AreCandidates postings filter nodes
