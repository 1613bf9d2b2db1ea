-- What the code's answer says of where the resolution of a name ends at an agent (X.518, section 18: Find DSE), in
-- the words of
-- the definition of that.
use Rattle.std.specs.Prelude.{◌≡◌, ℕ, ◌+◌, ◌-◌, true, false, if◌then◌else◌, List, [], ◌∷◌, ◌++◌, length, take}
use Rattle.std.specs.Prelude.{drop, slice_get}
use Rattle.std.specs.Borrow.{Bor}
use Rattle.std.specs.Option.{option_map}
use Rattle.std.specs.declared.option.Option.{Option}
use Rattle.std.specs.declared.option.Option.TheVariants.{None, Some}
use Rattle.x5_model.specs.Values.{Name, key_of}
use Rattle.x5_model.specs.Entries.{Named}
use Rattle.x5_model.specs.Requests.{Request}
use Rattle.x5_model.specs.References as model
use Rattle.x5_model_run.specs.Holdings.{Copy, Holdings, may_copy, usable_agents}
use Rattle.x5_model_run.specs.Journal.{is_done, is_wide}
use Rattle.x5_model_run.specs.Needs.{others, reference, proceeding}
use Rattle.x5_model_serve.specs.Finding as finding
use Rattle.x5_ops.specs.declared.references.Progress.{Progress}
use Rattle.x5_ops.specs.declared.references.RefType.{RefType}
use Rattle.x5_ops.specs.ReferenceViews.{progress_view, kind_view}
use Rattle.x5_dse.specs.declared.node.NodeId.{NodeId}
use Rattle.x5_dse.specs.Linked.{id_of, named_of, node_at, node_with}
use Rattle.x5_holdings.specs.State.{Kept, CopyKept, State, held_view, copy_view, holdings_view}
use Rattle.x5_find.specs.declared.found.Via.{Via}
use Rattle.x5_find.specs.declared.found.Via.TheVariants.{One, Access}
use Rattle.x5_find.specs.declared.found.Found.{Found}
use Rattle.x5_find.specs.declared.found.Found.TheVariants.{Here, CopyHere, Root, Go, Multicast, NoSuchObject}
use Rattle.x5_find.specs.declared.found.Found.TheVariants.{UnableToProceed, InvalidReference}

-- ---- references

-- the agents that may be asked, the master first
abbrev pub agents_via : Request → Via → List ℕ
agents_via r (One a) = a ∷ []
agents_via r (Access a) = usable_agents r a.now

-- with nextRDNToBeResolved k the first k - 1 RDNs are spelled as the agent keeps them
abbrev pub target_by : model.Progress → Option (Bor Name) → Name → Name
target_by (model.Next k) (Some kept) target = take (k - 1) kept.now ++ drop (k - 1) target
target_by progress kept target = target

abbrev pub reference_by : model.Chained → RefType → Progress → Option (Bor Name) → Via → model.Reference
reference_by m kind progress known to =
    reference (target_by (progress_view progress) known m.target) (progress_view progress) (kind_view kind)
    (agents_via m.request to)

-- ---- what is found

-- the node of the target in a context that is mastered
pub record IsHere (s : State) (m : model.Chained) (own : ℕ) (node : NodeId) : Type 0 where
  pub kept : Kept
  pub held : slice_get s.own own ≡ Some kept
  pub found : finding.find (holdings_view s) m ≡ finding.Here (held_view kept)
  pub at : option_map id_of (node_at kept.nodes.nodes (key_of m.target)) ≡ Some node

-- The node of the target in a copy that may be used. Where the name is to be resolved and the copy's answer would be
-- an error,
-- it's the supplier that is needed: so says the definition, and who evaluates the copy sees it.
abbrev pub found_in_copy : Holdings → model.Chained → Copy → finding.Found
found_in_copy h m c = if is_done m.progress then finding.CopyHere c else finding.in_copy h m c

pub record IsCopyHere (s : State) (m : model.Chained) (copy : ℕ) (node : NodeId) : Type 0 where
  pub kept : CopyKept
  pub brought : Kept × ℕ
  pub held : slice_get s.copies copy ≡ Some kept
  pub refreshed : kept.refreshed ≡ Some brought
  pub usable : may_copy m.request ≡ true
  pub found : finding.find (holdings_view s) m ≡ found_in_copy (holdings_view s) m (copy_view kept)
  pub at : option_map id_of (node_at brought.0.nodes.nodes (key_of m.target)) ≡ Some node

-- the lowest entry on the way, in a context that is mastered
pub record IsLowest (s : State) (own : ℕ) (node : NodeId) (named : Named) : Type 0 where
  pub kept : Kept
  pub held : slice_get s.own own ≡ Some kept
  pub at : option_map named_of (node_with kept.nodes.nodes node) ≡ Some named

-- it has an NSSR that lists other agents
pub record IsMulticast (s : State) (m : model.Chained) (own : ℕ) (node : NodeId) (agents : List ℕ) : Type 0 where
  pub named : Named
  pub lowest : IsLowest s own node named
  pub found : finding.find (holdings_view s) m ≡ finding.Onward
      (proceeding (length named.name + 1) named.name m.target model.NonSpecific (others s.me agents))

-- nothing leads on from it
pub record IsNowhere (s : State) (m : model.Chained) (own : ℕ) (node : NodeId) : Type 0 where
  pub named : Named
  pub lowest : IsLowest s own node named
  pub found : finding.find (holdings_view s) m ≡ finding.Nowhere named.name

abbrev pub Finds : State → model.Chained → Found → Type 0
Finds s m (Here own node) = IsHere s m own node
Finds s m (CopyHere copy node) = IsCopyHere s m copy node
Finds s m Root = finding.find (holdings_view s) m ≡ finding.Root
Finds s m (Go kind progress known to) = finding.find (holdings_view s) m ≡ finding.Onward
    (reference_by m kind progress known to)
Finds s m (Multicast own node agents) = IsMulticast s m own node agents.now
Finds s m (NoSuchObject None) = finding.find (holdings_view s) m ≡ finding.Nowhere []
Finds s m (NoSuchObject (Some at)) = IsNowhere s m at.0 at.1
Finds s m UnableToProceed = (finding.find (holdings_view s) m ≡ finding.Stuck) × (is_wide m.kind ≡ true)
Finds s m InvalidReference = (finding.find (holdings_view s) m ≡ finding.Stuck) × (is_wide m.kind ≡ false)
