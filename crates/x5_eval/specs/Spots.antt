-- Contexts that a request may be answered from, and what they show at nodes.
use Rattle.std.specs.Prelude.{◌≡◌, ◌<◌, ℕ, Bool, true, false, List, [], length}
use Rattle.std.specs.declared.option.Option.{Option}
use Rattle.std.specs.declared.option.Option.TheVariants.{None, Some}
use Rattle.x5_model.specs.Words.{in_option}
use Rattle.x5_model.specs.Members.{In}
use Rattle.x5_model.specs.Values.{Name, key_of}
use Rattle.x5_model.specs.Answers.{EntryInfo, Sub}
use Rattle.x5_model.specs.Requests.{Selection}
use Rattle.x5_model_tree.specs.Ask.{info_of, sub_of}
use Rattle.x5_model_run.specs.Holdings as model
use Rattle.x5_dse.specs.declared.node.NodeId.{NodeId}
use Rattle.x5_dse.specs.Linked.{Node, node_with, is_live}
use Rattle.x5_holdings.specs.State.{Kept, held_view}
use Rattle.x5_eval.specs.Numbers.{held_number, is_held, pin_number}

-- the context as the definitions see it, with this prefix
abbrev pub held_as : Name → Kept → model.Held
held_as prefix k = record (held_view k) { prefix = prefix }

-- this is held at a number: nothing of a copy that was never refreshed, and past the last
pub record IsHeld (h : model.Holdings) (n : ℕ) (k : Kept) : Type 0 where
  pub view : held_as (held_number h n).prefix k ≡ held_number h n
  pub pin : key_of k.prefix ≡ pin_number h n

abbrev pub IsHeldAt : model.Holdings → ℕ → Option Kept → Type 0
IsHeldAt h n None = (is_held h n ≡ false) × ((held_number h n).entries ≡ [])
IsHeldAt h n (Some k) = IsHeld h n k

-- what a list and a search say of the entry of a node
abbrev pub sub_shown : List Node → Bool → NodeId → Sub
sub_shown nodes copy id =
    in_option (record { rdn = []; copy = copy }) (λ n. sub_of (λ key. copy) n.named) (node_with nodes id)

abbrev pub info_shown : List Node → Bool → Selection → NodeId → EntryInfo
info_shown nodes copy selection id =
    in_option (record { name = []; copy = copy; attributes = [] }) (λ n. info_of (λ key. copy) selection n.named)
    (node_with nodes id)

abbrev pub AreLive : List Node → List NodeId → Type 0
AreLive nodes ids = (id : NodeId) → In id ids → is_live nodes id ≡ true

-- none of them is the root
abbrev pub AreNamed : List Node → Type 0
AreNamed nodes = (id : NodeId) (n : Node) → node_with nodes id ≡ Some n → 0 < length n.named.name
