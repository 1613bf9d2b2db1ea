-- An update that the master's ground passes, as a change of the target's context and as the step that its log keeps
-- (X.511, section 11; X.525, section 9). Steps name entries as the master spells them, which is this project's own.
use Rattle.std.specs.Prelude.{◌≡◌, ℕ, Bool, not, ◌&&◌, ◌++◌, ◌∷◌, [], slice_get, IsTrue, List, length}
use Rattle.std.specs.declared.option.Option.TheVariants.{Some}
use Rattle.std.specs.declared.result.Result.{Result}
use Rattle.std.specs.declared.result.Result.TheVariants.{Ok, Err}
use Rattle.x5_model.specs.Keys.{KeyPair, parent, same_key}
use Rattle.x5_model.specs.Values.{Name, Rdn, key_of, last_rdn, name_above}
use Rattle.x5_model.specs.Entries.{Entry, Named}
use Rattle.x5_model.specs.Attributes.{added_entry, is_ordered}
use Rattle.x5_model.specs.Changes.{modified, renamed}
use Rattle.x5_model.specs.Requests.{Body, AddEntry, RemoveEntry, ModifyEntry, ModifyDn}
use Rattle.x5_model_tree.specs.Tree.{entry_at}
use Rattle.x5_model_tree.specs.Apply.{Ground, UpdatedEntries, is_taken}
use Rattle.x5_model_updates.specs.Afterwards.{new_entry, new_key, name_after}
use Rattle.x5_dse.specs.declared.node.NodeId.{NodeId}
use Rattle.x5_dse.specs.Linked.{Node, entries_of, node_at, node_with}
use Rattle.x5_index.specs.Index.{terms_of}
use Rattle.x5_ops.specs.declared.changes.ChangeFault.{ChangeFault}
use Rattle.x5_ops.specs.declared.knowledge.Step.{Step}
use Rattle.x5_ops.specs.declared.knowledge.Step.TheVariants as steps
use Rattle.x5_holdings.specs.declared.changing.EntryChange.{EntryChange}
use Rattle.x5_holdings.specs.declared.changing.EntryChange.TheVariants as changes
use Rattle.x5_holdings.specs.State.{Kept, State}
use Rattle.x5_update.specs.declared.plans.Plan.{Plan}
use Rattle.x5_update.specs.Judging.{IsStopped}

-- the entry's values, once each
abbrev pub IsRoom : Entry → List KeyPair → Type 0
IsRoom entry room = (room ≡ terms_of entry) × IsTrue (is_ordered entry)

-- the change of a context with these nodes that the update is: of its node, with the attributes that it gets and their
-- values
abbrev pub IsChangeOf : List Node → Body → EntryChange → Type 0
IsChangeOf nodes (AddEntry name attributes) (changes.Add n entry room) =
    (n ≡ name) × (entry ≡ added_entry (last_rdn name) attributes) × IsRoom entry room
IsChangeOf nodes (RemoveEntry name) (changes.Remove id) =
    (n : Node) × (node_with nodes id ≡ Some n) × (node_at nodes (key_of name) ≡ Some n)
IsChangeOf nodes (ModifyEntry name list) (changes.Replace id entry room) =
    (n : Node) × (node_with nodes id ≡ Some n) × (node_at nodes (key_of name) ≡ Some n)
    × (modified (last_rdn name) list n.named.entry ≡ Ok entry) × IsRoom entry room
IsChangeOf nodes (ModifyDn name rdn drops) (changes.Rename id new entry room) =
    (n : Node) × (node_with nodes id ≡ Some n) × (node_at nodes (key_of name) ≡ Some n) × (new ≡ rdn)
    × (entry ≡ renamed (last_rdn name) rdn drops n.named.entry) × IsRoom entry room
IsChangeOf nodes body change = ⊥

-- the step that tells it, where these are the context's entries
abbrev pub IsStepOf : List Named → Body → Step → Type 0
IsStepOf entries (AddEntry name attributes) (steps.Add e) =
    (above : Named) × (entry_at entries (parent (key_of name)) ≡ Some above)
    × (e ≡ new_entry above name attributes)
IsStepOf entries (RemoveEntry name) (steps.Remove n) =
    (old : Named) × (entry_at entries (key_of name) ≡ Some old) × (n ≡ old.name)
IsStepOf entries (ModifyEntry name list) (steps.Modify e) =
    (old : Named) × (new : Entry) × (entry_at entries (key_of name) ≡ Some old)
    × (modified (last_rdn name) list old.entry ≡ Ok new) × (e ≡ record old { entry = new })
IsStepOf entries (ModifyDn name rdn drops) (steps.Rename n e) =
    (old : Named) × (entry_at entries (key_of name) ≡ Some old) × (n ≡ old.name)
    × (e ≡ record { name = name_after name rdn old; entry = renamed (last_rdn name) rdn drops old.entry })
IsStepOf entries body step = ⊥

-- the change and the step that an addEntry makes, the entry's name being spelled so by its master
pub record IsAddition (name spelled : Name) (entry : Entry) (plan : Plan) : Type 0 where
  pub change : plan.change ≡ changes.Add name entry (terms_of entry)
  pub ordered : IsTrue (is_ordered entry)
  pub step : plan.step ≡ steps.Add (record { name = spelled; entry = entry })

-- those that a modifyEntry makes at a node of this name
pub record IsReplacement (id : NodeId) (name : Name) (entry : Entry) (plan : Plan) : Type 0 where
  pub change : plan.change ≡ changes.Replace id entry (terms_of entry)
  pub ordered : IsTrue (is_ordered entry)
  pub step : plan.step ≡ steps.Modify (record { name = name; entry = entry })

-- those that a modifyDN makes at a node of this name
pub record IsMove (id : NodeId) (before : Name) (rdn : Rdn) (entry : Entry) (plan : Plan) : Type 0 where
  pub change : plan.change ≡ changes.Rename id rdn entry (terms_of entry)
  pub ordered : IsTrue (is_ordered entry)
  pub step : plan.step ≡ steps.Rename before (record { name = name_above before ++ rdn ∷ []; entry = entry })

-- whether a modifyDN gives another name, which is taken
abbrev pub is_clash : Ground → Name → Rdn → Bool
is_clash g name rdn = not (same_key (new_key name rdn) (key_of name)) && is_taken g (new_key name rdn)

pub record IsPlanOf (s : State) (own : ℕ) (body : Body) (plan : Plan) (outcome : UpdatedEntries) : Type 0 where
  pub kept : Kept
  pub held : slice_get s.own own ≡ Some kept
  pub change : IsChangeOf kept.nodes.nodes body plan.change
  pub step : IsStepOf (entries_of kept.nodes.nodes) body plan.step
  pub made : List Named
  pub passed : outcome ≡ Ok made

-- passed, and made ready; or refused
abbrev pub IsPlanned : Result Plan ChangeFault → State → ℕ → Body → UpdatedEntries → Type 0
IsPlanned (Ok plan) s own body outcome = IsPlanOf s own body plan outcome
IsPlanned (Err fault) s own body outcome = IsStopped fault outcome

-- how many values it brings
abbrev pub values_in : EntryChange → ℕ
values_in (changes.Add name entry room) = length room
values_in (changes.Remove id) = 0
values_in (changes.Replace id entry room) = length room
values_in (changes.Rename id rdn entry room) = length room
