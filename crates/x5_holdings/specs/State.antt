-- What an agent holds, as contracts see it, and what the definitions of name resolution see of it (X.501, sections 22
-- and 23:
-- DSA information tree; X.525: shadowed information). Moments, logs, the trees' nodes with their room and the
-- postings are no
-- part of those definitions.
use Rattle.std.specs.Prelude.{◌≡◌, ◌<◌, ℕ, Bool, false, if◌then◌else◌, List, [], length, map, ⊤}
use Rattle.std.specs.Option.{option_map}
use Rattle.std.specs.declared.option.Option.{Option}
use Rattle.std.specs.declared.option.Option.TheVariants.{None, Some}
use Rattle.x5_model.specs.Words.{distinct}
use Rattle.x5_model.specs.Keys.{same_key}
use Rattle.x5_model.specs.Values.{Name, key_of}
use Rattle.x5_model.specs.Entries.{Named}
use Rattle.x5_model.specs.Requests.{Request}
use Rattle.x5_model_run.specs.Holdings as model
use Rattle.x5_ops.specs.declared.knowledge.Specific.{Specific}
use Rattle.x5_ops.specs.declared.knowledge.Cross.{Cross}
use Rattle.x5_ops.specs.declared.knowledge.Nssr.{Nssr}
use Rattle.x5_ops.specs.KnowledgeViews.{specific_view, cross_view, nssr_view}
use Rattle.x5_dse.specs.declared.node.NodeId.{NodeId}
use Rattle.x5_dse.specs.Linked.{Node, Nodes, entries_of, entry_in, node_with, prefix_of}
use Rattle.x5_index.specs.Index.{Posting, Index, IsEntryAt, is_there}
use Rattle.x5_holdings.specs.Logs.{Log}

-- a context with its entries, the index of their values, the log of its changes, and the knowledge that goes with it
pub record Kept : Type 0 where
  pub prefix : Name
  pub nodes : Nodes
  pub postings : Index
  pub log : Log
  pub subordinate : List Specific
  pub nssrs : List Nssr

-- a copy of a context, and the agent that supplies it: what refreshes brought, with their stamp, and nothing before
-- the first
pub record CopyKept : Type 0 where
  pub prefix : Name
  pub supplier : ℕ
  pub refreshed : Option (Kept × ℕ)

-- all that an agent holds, at a moment; the references of `root` are those of one RDN at a first-level agent
pub record State : Type 0 where
  pub me : ℕ
  pub moment : ℕ
  pub superior : Option ℕ
  pub own : List Kept
  pub copies : List CopyKept
  pub root : List Specific
  pub cross : List Cross

-- ---- as the definitions see it

abbrev pub held_view : Kept → model.Held
held_view c = record {
  prefix = c.prefix;
  entries = entries_of c.nodes.nodes;
  subordinate = map specific_view c.subordinate;
  nssrs = map nssr_view c.nssrs;
}

-- what refreshes brought of a copy: nothing before the first one
abbrev pub brought_entries : Option (Kept × ℕ) → List Named
brought_entries None = []
brought_entries (Some s) = entries_of s.0.nodes.nodes

abbrev pub brought_references : Option (Kept × ℕ) → List Specific
brought_references None = []
brought_references (Some s) = s.0.subordinate

abbrev pub brought_nssrs : Option (Kept × ℕ) → List Nssr
brought_nssrs None = []
brought_nssrs (Some s) = s.0.nssrs

abbrev pub shadow_view : CopyKept → model.Held
shadow_view c = record {
  prefix = c.prefix;
  entries = brought_entries c.refreshed;
  subordinate = map specific_view (brought_references c.refreshed);
  nssrs = map nssr_view (brought_nssrs c.refreshed);
}

-- what a request may be answered from
abbrev pub brought_for : Request → CopyKept → Option Kept
brought_for r c = if model.may_copy r then option_map (λ s. s.0) c.refreshed else None

abbrev pub stamp_of : Option (Kept × ℕ) → Option ℕ
stamp_of None = None
stamp_of (Some s) = Some s.1

abbrev pub copy_view : CopyKept → model.Copy
copy_view c = record { held = shadow_view c; stamp = stamp_of c.refreshed; supplier = c.supplier }

abbrev pub holdings_view : State → model.Holdings
holdings_view s = record {
  me = s.me;
  superior = s.superior;
  own = map held_view s.own;
  copies = map copy_view s.copies;
  root = map specific_view s.root;
  cross = map cross_view s.cross;
}

-- ---- what is so of every context that is held

-- the postings of a number are those of the entry of its node
abbrev pub IsPosted : List Posting → NodeId → Option Node → Type 0
IsPosted postings id None = is_there postings id.0 ≡ false
IsPosted postings id (Some n) = IsEntryAt postings id.0 (entry_in n)

abbrev pub ArePosted : List Posting → List Node → Type 0
ArePosted postings nodes = (id : NodeId) → IsPosted postings id (node_with nodes id)

-- It has a prefix other than the root, which is the name of its first entry, and the index is of its entries.
pub record IsKept (c : Kept) : Type 0 where
  pub below_root : 0 < length c.prefix
  pub prefixed : prefix_of c.nodes.nodes ≡ key_of c.prefix
  pub posted : ArePosted c.postings.postings c.nodes.nodes

-- what refreshes brought is of the copy's context
abbrev pub IsBrought : Name → Option (Kept × ℕ) → Type 0
IsBrought prefix None = ⊤
IsBrought prefix (Some s) = key_of s.0.prefix ≡ key_of prefix

-- no two copies are of one context
abbrev pub are_once : List CopyKept → Bool
are_once copies = distinct same_key (map (λ c. key_of c.prefix) copies)

-- no two contexts that are mastered have one prefix
abbrev pub are_apart : List Kept → Bool
are_apart own = distinct same_key (map (λ c. key_of c.prefix) own)

-- a context's entries aside, nothing changed in it
pub record OnlyEntries (old after : Kept) : Type 0 where
  pub prefix : after.prefix ≡ old.prefix
  pub log : after.log ≡ old.log
  pub subordinate : after.subordinate ≡ old.subordinate
  pub nssrs : after.nssrs ≡ old.nssrs

-- a context's log aside, nothing changed in it
pub record OnlyLog (old after : Kept) : Type 0 where
  pub prefix : after.prefix ≡ old.prefix
  pub nodes : after.nodes ≡ old.nodes
  pub postings : after.postings ≡ old.postings
  pub subordinate : after.subordinate ≡ old.subordinate
  pub nssrs : after.nssrs ≡ old.nssrs
