-- Messages between agents within the limits (X.518, section 10). Agents go by their names.
use Rattle.std.specs.Prelude.{◌≡◌, ◌≤◌, Bool, true, ◌&&◌, List, length}
use Rattle.x5_model.specs.Words.{distinct, same_octets}
use Rattle.x5_model.specs.References.{Progress, Start, Next, Done}
use Rattle.x5_model.specs.Normal.{most_rdns}
use Rattle.x5_model_run.specs.Journal.{same_name, same_progress}
use Rattle.x5_model_typed.specs.Leaves.{is_agent_name}
use Rattle.x5_model_typed.specs.Nodes.{same_bit}
use Rattle.x5_model_typed.specs.Rules.{most_items}
use Rattle.x5_model_messages.specs.Replies.{TraceItem}
use Rattle.x5_model_messages.specs.Chained.{Chained}
use Rattle.x5_model_fitting.specs.Names.{Each, RdnWithin, NameWithin}
use Rattle.x5_model_fitting.specs.Requests.{RequestWithin}

-- The next RDN to be resolved is one that a name may have (X.518, section 10.5).
abbrev pub ProgressWithin : Progress → Type 0
ProgressWithin Start = Unit {0}
ProgressWithin (Next k) = (1 ≤ k) × (k ≤ most_rdns)
ProgressWithin Done = Unit {0}

-- An item of trace information (X.518, section 10.6).
pub record ItemWithin (i : TraceItem) : Type 0 where
  pub agent : is_agent_name i.agent ≡ true
  pub target : NameWithin i.target
  pub progress : ProgressWithin i.progress

-- Two items are the same where the agent, the target, the progress and the mark are.
abbrev pub same_item : TraceItem → TraceItem → Bool
same_item a b =
    same_octets a.agent b.agent && same_name a.target b.target && same_progress a.progress b.progress
    && same_bit a.wide b.wide

-- Trace information: 128 items at most, of which no two are the same.
pub record TraceWithin (trace : List TraceItem) : Type 0 where
  pub few : length trace ≤ most_items
  pub items : Each ItemWithin trace
  pub once : distinct same_item trace ≡ true

-- A message between agents (X.518, section 10.3).
pub record ChainedWithin (m : Chained) : Type 0 where
  pub target : NameWithin m.target
  pub progress : ProgressWithin m.progress
  pub exclusions : Each RdnWithin m.exclusions
  pub trace : TraceWithin m.trace
  pub request : RequestWithin m.request
