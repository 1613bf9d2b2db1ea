-- Steps with what they need made ready, so that they can be done without memory.
use Rattle.std.specs.Prelude.{◌≡◌, ◌≤◌, ℕ, ◌+◌, true, List, [], ◌∷◌, length, map, slice_get, IsTrue, ⊤}
use Rattle.x5_model.specs.Keys.{Key, KeyPair}
use Rattle.x5_model.specs.Values.{key_of, last_rdn}
use Rattle.x5_model.specs.Entries.{Entry, Named}
use Rattle.x5_model.specs.Attributes.{is_ordered}
use Rattle.std.specs.declared.option.Option.TheVariants.{Some}
use Rattle.x5_model_refreshed.specs.Steps as model
use Rattle.x5_model_refreshed.specs.Steps.{replayed}
use Rattle.x5_model_refreshed.specs.Doable.{CanDo, CanReplay}
use Rattle.x5_model_tree.specs.Tree.{is_there}
use Rattle.x5_ops.specs.declared.knowledge.Step.{Step}
use Rattle.x5_dse.specs.declared.node.NodeId.{NodeId}
use Rattle.x5_dse.specs.Linked.{IsLinked, Node, entries_of, node_at, node_with}
use Rattle.x5_index.specs.Index.{terms_of}
use Rattle.x5_holdings.specs.declared.changing.EntryChange.{EntryChange}
use Rattle.x5_holdings.specs.declared.changing.EntryChange.TheVariants as changes
use Rattle.x5_holdings.specs.Logs.{IsLogged}
use Rattle.x5_holdings.specs.Making.{HasRoomFor}
use Rattle.x5_holdings.specs.State.{Kept, CopyKept, IsKept, State}
use Rattle.x5_consume.specs.declared.ready.Ready.{Ready}
use Rattle.x5_consume.specs.declared.ready.Ready.TheVariants as ready
use Rattle.x5_consume.specs.declared.ready.Prepared.{Prepared}
use Rattle.x5_consume.specs.Steps.{step_view, steps_view}

-- the entry's values, once each
abbrev pub IsRoom : Entry → List KeyPair → Type 0
IsRoom entry room = (room ≡ terms_of entry) × IsTrue (is_ordered entry)

-- what the step needs is what is ready
abbrev pub IsReadyFor : model.Step → Ready → Type 0
IsReadyFor (model.Add e) (ready.Add name entry room) = (name ≡ e.name) × (entry ≡ e.entry) × IsRoom entry room
IsReadyFor (model.Remove name) (ready.Remove n) = n ≡ name
IsReadyFor (model.Modify e) (ready.Modify name entry room) = (name ≡ e.name) × (entry ≡ e.entry) × IsRoom entry room
IsReadyFor (model.Rename name e) (ready.Rename n rdn entry room) =
    (n ≡ name) × (rdn ≡ last_rdn e.name) × (entry ≡ e.entry) × IsRoom entry room
IsReadyFor step given = ⊥

abbrev pub IsPrepared : Prepared → Type 0
IsPrepared p = IsReadyFor (step_view p.step) p.ready

abbrev pub ArePrepared : List Prepared → Type 0
ArePrepared [] = ⊤
ArePrepared (p ∷ more) = IsPrepared p × ArePrepared more

-- the values for which there must be room
abbrev pub room_of : Ready → List KeyPair
room_of (ready.Add name entry room) = room
room_of (ready.Remove name) = []
room_of (ready.Modify name entry room) = room
room_of (ready.Rename name rdn entry room) = room

abbrev pub values_in : List Prepared → ℕ
values_in [] = 0
values_in (p ∷ more) = length (room_of p.ready) + values_in more

abbrev pub steps_in : List Prepared → List Step
steps_in all = map (λ p. p.step) all

-- the node of the name's entry
pub record IsNodeOf (nodes : List Node) (key : Key) (id : NodeId) : Type 0 where
  pub node : Node
  pub there : node_with nodes id ≡ Some node
  pub at : node_at nodes key ≡ Some node

-- the entry that it changes is there
abbrev pub IsFindable : List Named → Ready → Type 0
IsFindable entries (ready.Add name entry room) = ⊤
IsFindable entries (ready.Remove name) = is_there entries (key_of name) ≡ true
IsFindable entries (ready.Modify name entry room) = is_there entries (key_of name) ≡ true
IsFindable entries (ready.Rename name rdn entry room) = is_there entries (key_of name) ≡ true

-- the change of the entries, by their nodes
abbrev pub IsChangeFor : List Node → Ready → EntryChange → Type 0
IsChangeFor nodes (ready.Add name entry room) (changes.Add n e r) = (n ≡ name) × (e ≡ entry) × (r ≡ room)
IsChangeFor nodes (ready.Remove name) (changes.Remove id) = IsNodeOf nodes (key_of name) id
IsChangeFor nodes (ready.Modify name entry room) (changes.Replace id e r) =
    IsNodeOf nodes (key_of name) id × (e ≡ entry) × (r ≡ room)
IsChangeFor nodes (ready.Rename name rdn entry room) (changes.Rename id x e r) =
    IsNodeOf nodes (key_of name) id × (x ≡ rdn) × (e ≡ entry) × (r ≡ room)
IsChangeFor nodes given change = ⊥

-- a refreshed copy is at the place, and it is so
pub record CopyStands (s : State) (place : ℕ) (such : CopyKept → Kept → Type 0) : Type 0 where
  pub copy : CopyKept
  pub kept : Kept
  pub stamp : ℕ
  pub there : slice_get s.copies place ≡ Some copy
  pub refreshed : copy.refreshed ≡ Some (kept, stamp)
  pub is : such copy kept

-- the change that is due at the place
pub record IsDue (given : Ready) (change : EntryChange) (copy : CopyKept) (kept : Kept) : Type 0 where
  pub change_is : IsChangeFor kept.nodes.nodes given change
  pub linked : IsLinked kept.nodes.nodes
  pub whole : IsKept kept
  pub brought : key_of kept.prefix ≡ key_of copy.prefix

-- a step can be done, and there is room for it
pub record CanGo (one : Prepared) (copy : CopyKept) (kept : Kept) : Type 0 where
  pub doable : CanDo (key_of copy.prefix) (entries_of kept.nodes.nodes) (step_view one.step)
  pub prepared : IsPrepared one
  pub room : HasRoomFor kept 1 (length (room_of one.ready)) 1

-- and so can all, one after another
pub record CanGoOn (all : List Prepared) (copy : CopyKept) (kept : Kept) : Type 0 where
  pub doable : CanReplay (key_of copy.prefix) (entries_of kept.nodes.nodes) (steps_view (steps_in all))
  pub prepared : ArePrepared all
  pub room : HasRoomFor kept (length all) (values_in all) (length all)

-- a step is done, and takes no more room than it needs
pub record IsDone (one : Prepared) (stamp : ℕ) (old kept : Kept) : Type 0 where
  pub entries : entries_of kept.nodes.nodes ≡ replayed (step_view one.step) (entries_of old.nodes.nodes)
  pub noted : IsLogged old.log (record { moment = stamp; step = one.step }) kept.log
  pub prefix : kept.prefix ≡ old.prefix
  pub subordinate : kept.subordinate ≡ old.subordinate
  pub nssrs : kept.nssrs ≡ old.nssrs
  pub nodes_left : old.nodes.spare ≤ kept.nodes.spare + 1
  pub values_left : old.postings.spare ≤ kept.postings.spare + length (room_of one.ready)
  pub notes_left : old.log.spare ≤ kept.log.spare + 1
