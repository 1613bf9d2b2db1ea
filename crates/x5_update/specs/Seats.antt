-- The target of an update at its master: the context whose prefix is the longest pin on the way that the agent knows,
-- and the node of the target's entry there (X.518, section 18).
use Rattle.std.specs.Prelude.{◌≡◌, ℕ, true, slice_get}
use Rattle.std.specs.declared.option.Option.TheVariants.{Some}
use Rattle.x5_model.specs.Keys.{Key}
use Rattle.x5_model.specs.Values.{Name, key_of}
use Rattle.x5_model.specs.Requests.{Request}
use Rattle.x5_model_tree.specs.Tree.{is_there}
use Rattle.x5_model_run.specs.Holdings.{Held, Holdings, held_at, known_pin}
use Rattle.x5_dse.specs.declared.node.NodeId.{NodeId}
use Rattle.x5_dse.specs.Linked.{Node, IsLinked, node_at, node_with}
use Rattle.x5_holdings.specs.State.{Kept, State, IsKept, are_apart, held_view, holdings_view}

-- the target is an entry of the context of the longest known pin on the way, which the agent masters
pub record IsTarget (h : Holdings) (r : Request) (target : Name) : Type 0 where
  pub context : Held
  pub pin : Key
  pub known : known_pin r h (key_of target) ≡ Some pin
  pub mine : held_at h.own pin ≡ Some context
  pub there : is_there context.entries (key_of target) ≡ true

pub record IsSeat (s : State) (r : Request) (key : Key) (own : ℕ) (id : NodeId) : Type 0 where
  pub kept : Kept
  pub held : slice_get s.own own ≡ Some kept
  pub long : known_pin r (holdings_view s) key ≡ Some (key_of kept.prefix)
  pub mine : held_at (holdings_view s).own (key_of kept.prefix) ≡ Some (held_view kept)
  pub node : Node
  pub at : node_at kept.nodes.nodes key ≡ Some node
  pub there : node_with kept.nodes.nodes id ≡ Some node
  pub linked : IsLinked kept.nodes.nodes
  pub whole : IsKept kept
  pub apart : are_apart s.own ≡ true
