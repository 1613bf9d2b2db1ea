-- What is asked of an agent that evaluates a message, and where the resolution of its name ended (X.518, section 19).
use Rattle.std.specs.Prelude.{◌≡◌, ℕ, Bool, true, false, slice_get}
use Rattle.std.specs.Option.{option_map}
use Rattle.std.specs.declared.option.Option.TheVariants.{None, Some}
use Rattle.x5_model.specs.Values.{key_of}
use Rattle.x5_model.specs.Entries.{Named}
use Rattle.x5_model.specs.Requests.{Body, Read, Compare}
use Rattle.x5_model.specs.References.{Chained}
use Rattle.x5_model.specs.Statics.{fault_of}
use Rattle.x5_model_tree.specs.Ask as model
use Rattle.x5_model_run.specs.Placed.{fits}
use Rattle.x5_dse.specs.declared.node.NodeId.{NodeId}
use Rattle.x5_dse.specs.Linked.{id_of, node_at}
use Rattle.x5_holdings.specs.State.{Kept, CopyKept, State}

-- the message isn't refused by its request alone, and its target is what the request asks for
pub record IsAsked (m : Chained) : Type 0 where
  pub fault : fault_of m.request.body ≡ None
  pub fit : fits m ≡ true

-- the target is at this node of a context that is mastered
pub record IsTarget (s : State) (m : Chained) (own : ℕ) (node : NodeId) : Type 0 where
  pub kept : Kept
  pub held : slice_get s.own own ≡ Some kept
  pub at : option_map id_of (node_at kept.nodes.nodes (key_of m.target)) ≡ Some node

-- and at this one of a copy that was refreshed
pub record IsCopyTarget (s : State) (m : Chained) (copy : ℕ) (node : NodeId) : Type 0 where
  pub kept : CopyKept
  pub brought : Kept × ℕ
  pub held : slice_get s.copies copy ≡ Some kept
  pub refreshed : kept.refreshed ≡ Some brought
  pub at : option_map id_of (node_at brought.0.nodes.nodes (key_of m.target)) ≡ Some node

-- what they tell there
abbrev pub read_told : Bool → Body → Named → model.Told
read_told copy (Read name selection) e = model.read (λ key. copy) selection e
read_told copy (Compare name assertion) e = model.compare (λ key. copy) assertion e
read_told copy other e = model.Changes
