-- What an index of entries by their values has, as contracts see it. The index is this project's own; when a value is
-- equal to another is X.501's (section 8: matching rules), by their normal forms.
use Rattle.std.specs.Prelude.{◌≡◌, ◌≢◌, ◌↔◌, ℕ, Bool, true, false, ◌==◌, List, map}
use Rattle.std.specs.List.{flat_map, list_any}
use Rattle.std.specs.Ordering.{is_lt, nat_cmp, ordering_then}
use Rattle.std.specs.declared.cmp.Ordering.{Ordering}
use Rattle.x5_model.specs.Members.{In}
use Rattle.x5_model.specs.Keys.{KeyPair, pair_cmp}
use Rattle.x5_model.specs.Entries.{Stored, Entry}
use Rattle.x5_model.specs.Attributes.{has_value}

-- a value that an entry has, by its type and its normal form, and the number of the entry's node
pub record Posting : Type 0 where
  pub term : KeyPair
  pub node : ℕ

-- what contracts see: one posting for each value of each entry that is there, and how many more can be put without
-- memory
pub record Index : Type 0 where
  pub postings : List Posting
  pub spare : ℕ

-- their order: by types, then by normal forms, then by nodes
abbrev pub posting_cmp : Posting → Posting → Ordering
posting_cmp a b = ordering_then (pair_cmp a.term b.term) (nat_cmp a.node b.node)

abbrev pub posting_below : Posting → Posting → Bool
posting_below a b = is_lt (posting_cmp a b)

-- the order of values: by types, then by normal forms
abbrev pub term_below : KeyPair → KeyPair → Bool
term_below a b = is_lt (pair_cmp a b)

-- the values of an entry, by their types and normal forms
abbrev pub terms_in : Stored → List KeyPair
terms_in a = map (λ v. (a.kind, v.normal)) a.values

abbrev pub terms_of : Entry → List KeyPair
terms_of e = flat_map terms_in e.attributes

-- some posting is of the node
abbrev pub is_there : List Posting → ℕ → Bool
is_there postings node = list_any (λ p. p.node == node) postings

-- The node is there with this entry: its postings are of exactly the values that the entry has. So an entry is known up
-- to the spelling of its values, on which equality doesn't look; and a node that isn't there is as one without values.
pub record IsEntryAt (postings : List Posting) (node : ℕ) (entry : Entry) : Type 0 where
  pub exact : (kind : ℕ) (normal : List ℕ) → In (record { term = (kind, normal); node = node }) postings ↔
      (has_value entry kind normal ≡ true)

-- all other nodes stay
pub record OthersStay (old : List Posting) (node : ℕ) (after : List Posting) : Type 0 where
  pub same : (p : Posting) → p.node ≢ node → In p after ↔ In p old

-- the node is put there with the entry, in place of the one that it had, if any
pub record IsPut (old : List Posting) (node : ℕ) (entry : Entry) (after : List Posting) : Type 0 where
  pub here : IsEntryAt after node entry
  pub others : OthersStay old node after

-- the node is dropped
pub record IsDropped (old : List Posting) (node : ℕ) (after : List Posting) : Type 0 where
  pub gone : is_there after node ≡ false
  pub others : OthersStay old node after
