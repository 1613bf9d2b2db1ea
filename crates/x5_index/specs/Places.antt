-- Where a posting is in a list in order, or where it would go; and what is put there, taken away and found there.
use Rattle.std.specs.Prelude.{◌≡◌, ◌↔◌, ◌⊎◌, ℕ, suc, if◌then◌else◌, IsTrue, List, [], ◌∷◌, map}
use Rattle.std.specs.declared.option.Option.{Option}
use Rattle.std.specs.declared.option.Option.TheVariants.{None, Some}
use Rattle.std.specs.declared.result.Result.{Result}
use Rattle.std.specs.declared.result.Result.TheVariants.{Ok, Err}
use Rattle.std.specs.Ordering.{is_eq}
use Rattle.x5_model.specs.Members.{In, Once}
use Rattle.x5_model.specs.Words.{ascending}
use Rattle.x5_model.specs.Keys.{KeyPair, pair_cmp}
use Rattle.x5_model.specs.Values.{TypeRef, Known, Unknown}
use Rattle.x5_index.specs.Index.{Posting, posting_below}

-- how many stand before the first that isn't below it
abbrev pub place_of : List Posting → Posting → ℕ
place_of [] x = 0
place_of (p ∷ ps) x = if posting_below p x then suc (place_of ps x) else 0

abbrev pub IsFoundAt : List Posting → Posting → Result ℕ ℕ → Type 0
IsFoundAt postings x (Ok place) = (place ≡ place_of postings x) × In x postings
IsFoundAt postings x (Err place) = (place ≡ place_of postings x) × ¬ In x postings

-- what a node's terms are in an index
abbrev pub postings_for : ℕ → List KeyPair → List Posting
postings_for node terms = map (λ t. record { term = t; node = node }) terms

-- both have the same postings, whatever their order
abbrev pub HaveSame : List Posting → List Posting → Type 0
HaveSame some others = (p : Posting) → In p others ↔ In p some

-- postings of the node are there for these terms too
pub record AreAdded (old : List Posting) (node : ℕ) (terms : List KeyPair) (after : List Posting) : Type 0 where
  pub in_order : IsTrue (ascending posting_below after)
  pub same : (p : Posting) → In p after ↔ (In p old ⊎ ((p.node ≡ node) × In p.term terms))

-- a posting that goes: it is the node's, for one of these terms, and the term isn't among the kept ones
abbrev pub Goes : ℕ → List KeyPair → List KeyPair → Posting → Type 0
Goes node terms kept p = (p.node ≡ node) × In p.term terms × ¬ In p.term kept

-- no posting of the node is there any more for these terms, but for the kept ones
pub record AreTaken (old : List Posting) (node : ℕ) (terms kept : List KeyPair) (after : List Posting) : Type 0 where
  pub in_order : IsTrue (ascending posting_below after)
  pub same : (p : Posting) → In p after ↔ (In p old × ¬ Goes node terms kept p)

-- the nodes that have a value, each once
pub record AreNodesOf (postings : List Posting) (term : KeyPair) (nodes : List ℕ) : Type 0 where
  pub same : (node : ℕ) → In node nodes ↔ In (record { term = term; node = node }) postings
  pub once : Once nodes

-- of an assertion's type and normal form; there are none where it has no normal form
abbrev pub AreAsserted : List Posting → TypeRef → Option (List ℕ) → List ℕ → Type 0
AreAsserted postings (Known kind) (Some normal) nodes = AreNodesOf postings (kind, normal) nodes
AreAsserted postings (Known kind) None nodes = nodes ≡ []
AreAsserted postings (Unknown arcs) normal nodes = nodes ≡ []

-- the nodes of the first postings, as far as they are of the value
abbrev pub nodes_with : KeyPair → List Posting → List ℕ
nodes_with term [] = []
nodes_with term (p ∷ ps) = if is_eq (pair_cmp p.term term) then p.node ∷ nodes_with term ps else []
