-- Messages of shadowing within the limits of messages, in a world (X.525, sections 9 to 12: shadowing; X.501, section
-- 8: entries). Agents go by their names, agreements by their numbers and moments by their seconds. The numbers are this
-- project's own.
use Rattle.std.specs.Prelude.{◌≡◌, ℕ, true, false, List, [], ◌∷◌}
use Rattle.std.specs.declared.option.Option.TheVariants.{Some}
use Rattle.x5_model.specs.Words.{is_empty}
use Rattle.x5_model.specs.Members.{In}
use Rattle.x5_model.specs.Attributes.{is_ordered}
use Rattle.x5_model.specs.Entries.{Stored, Named}
use Rattle.x5_model.specs.Normal.{is_of_kind}
use Rattle.x5_model.specs.Types.{is_known, kind_of}
use Rattle.x5_model.specs.Values.{Text, StoredValue}
use Rattle.x5_model_typed.specs.Leaves.{is_agent_name}
use Rattle.x5_model_typed.specs.Layouts.{Surroundings}
use Rattle.x5_model_messages.specs.Shadows.{Known, NonSpecific, Step, Add, Remove, Modify, Rename, Refresh, Nothing}
use Rattle.x5_model_messages.specs.Shadows.{Total, Steps, Shadow, Request, Coordinate, Update, Done, Failed}
use Rattle.x5_model_messages.specs.Shadows.{stored_value}
use Rattle.x5_model_fitting.specs.Names.{Each, NameWithin}
use Rattle.x5_model_fitting.specs.Terms.{ValueWithin}
use Rattle.x5_model_fitting.specs.Requests.{CountWithin, IfThere}
use Rattle.x5_model_fitting.specs.Replies.{ProblemWithin}

-- ---- entries

-- A value of an entry: of its type's kind, with its normal form.
pub record StoredValueWithin (kind : ℕ) (v : StoredValue) : Type 0 where
  pub value : ValueWithin v.value
  pub is : is_of_kind (kind_of kind) v.value ≡ true
  pub normal : v ≡ stored_value kind v.value

-- An attribute: a type of the table, and one value at least.
pub record StoredWithin (a : Stored) : Type 0 where
  pub type : is_known a.kind ≡ true
  pub some : is_empty a.values ≡ false
  pub values : Each (StoredValueWithin a.kind) a.values

-- An entry: its types are in order, each once, and so are the values of each.
pub record EntryWithin (e : Named) : Type 0 where
  pub name : NameWithin e.name
  pub attributes : Each StoredWithin e.entry.attributes
  pub ordered : is_ordered e.entry ≡ true

-- A change of an entry (X.525, section 11: incremental refresh).
abbrev pub StepWithin : Step → Type 0
StepWithin (Add e) = EntryWithin e
StepWithin (Remove name) = NameWithin name
StepWithin (Modify e) = EntryWithin e
StepWithin (Rename name e) = NameWithin name × EntryWithin e

-- ---- what is of a world

-- An agent of the world, by its name.
pub record AgentWithin (w : Surroundings) (agent : Text) : Type 0 where
  pub named : is_agent_name agent ≡ true
  pub of_world : w.is_agent agent ≡ true

-- A moment that has a date and time in the world.
pub record MomentWithin (w : Surroundings) (m : ℕ) : Type 0 where
  pub octets : List ℕ
  pub has_time : w.time m ≡ Some octets

-- A subordinate reference: the master, and the agents that have copies.
pub record KnownWithin (w : Surroundings) (k : Known) : Type 0 where
  pub pin : NameWithin k.pin
  pub master : AgentWithin w k.master
  pub shadows : Each (AgentWithin w) k.shadows

-- A non-specific subordinate reference.
pub record NonSpecificWithin (w : Surroundings) (n : NonSpecific) : Type 0 where
  pub at : NameWithin n.at
  pub agents : Each (AgentWithin w) n.agents

-- ---- refreshes and messages

abbrev pub RefreshWithin : Surroundings → Refresh → Type 0
RefreshWithin w Nothing = Unit {0}
RefreshWithin w (Total entries known others) =
    Each EntryWithin entries × Each (KnownWithin w) known × Each (NonSpecificWithin w) others
RefreshWithin w (Steps steps) = Each StepWithin steps

-- the codes of the operations
abbrev pub operations : List ℕ
operations = 1 ∷ 2 ∷ 3 ∷ []

abbrev pub ShadowWithin : Surroundings → Shadow → Type 0
ShadowWithin w (Request agreement last total) = CountWithin agreement × IfThere (MomentWithin w) last
ShadowWithin w (Coordinate agreement last total) = CountWithin agreement × IfThere (MomentWithin w) last
ShadowWithin w (Update agreement stamp refresh) =
    CountWithin agreement × MomentWithin w stamp × RefreshWithin w refresh
ShadowWithin w (Done operation) = In operation operations
ShadowWithin w (Failed problem held given) =
    ProblemWithin 11 problem × IfThere (MomentWithin w) held × IfThere (MomentWithin w) given
