-- What comes of octets that a user hands to an agent as his message, or as another agent's (X.519, section 7: DAP and
-- DSP; X.690).
use Rattle.std.specs.Prelude.{◌≡◌, ℕ, true, List, length, map, Ok, Err, Option, Some, None}
use Rattle.std.specs.declared.result.Result.{Result}
use Rattle.x5_dapber.specs.declared.fault.WireFault.{WireFault}
use Rattle.x5_dapber.specs.declared.fault.WireFault.TheVariants as wire
use Rattle.x5_model.specs.References.{Chained, TraceItem}
use Rattle.x5_model_messages.specs.Chained as chains
use Rattle.x5_model_messages.specs.Chained.{chained_in}
use Rattle.x5_model_messages.specs.Replies as replies
use Rattle.x5_model_messages.specs.Requests.{request_in}
use Rattle.x5_model_run.specs.Chain.{opening}
use Rattle.x5_model_run.specs.History.{Point}
use Rattle.x5_model_run.specs.Run.{Protocol, Dap, Dsp, Hands, Rejected as Told, raw_to, did_by}
use Rattle.x5_model_octets.specs.Breaches.{Breach}
use Rattle.x5_model_typed.specs.Named.{Named, DapRequest, DspRequest}
use Rattle.x5_model_typed.specs.Nodes.{Node}
use Rattle.x5_ops.specs.AgentNames.{agent_of}
use Rattle.x5_ops.specs.JournalViews.{fate_view}
use Rattle.x5_typed.specs.Breaches.{breach_view}
use Rattle.x5_typed.specs.Comes.{ComesTo}
use Rattle.x5_typed.specs.declared.fault.Breach as typed
use Rattle.x5_typed.specs.declared.fault.Breach.TheVariants as breaches
use Rattle.x5_world.specs.Answered.{IsAnswered, NamesAgents, is_agent}
use Rattle.x5_world.specs.State.{Net, StandsAt, HasShortNames, after}
use Rattle.x5_world.specs.declared.delivered.Delivered.{Delivered}
use Rattle.x5_world.specs.declared.delivered.Delivered.TheVariants.{Answered, Rejected}

-- which octets are a message of the protocol
abbrev pub message_type : Protocol → Named
message_type Dap = DapRequest
message_type Dsp = DspRequest

-- a message that names agents, which stand by their places among all names; others stand behind these
abbrev pub item_at : List (List ℕ) → replies.TraceItem → TraceItem
item_at names i =
    record { agent = agent_of names i.agent; target = i.target; progress = i.progress; wide = i.wide }

abbrev pub placed : List (List ℕ) → chains.Chained → Chained
placed names m = record {
  target = m.target;
  progress = m.progress;
  kind = m.kind;
  exclusions = m.exclusions;
  trace = map (item_at names) m.trace;
  request = m.request;
}

-- the message that they come to, or their first breach; nothing is resolved yet of a user's request
abbrev pub spelled : List (List ℕ) → Protocol → Result Node Breach → Result Chained Breach
spelled names via (Err b) = Err b
spelled names Dap (Ok n) = Ok (opening (request_in n).1)
spelled names Dsp (Ok n) = Ok (placed names (chained_in n).1)

-- A message that they spell is answered as any other. Others are a message that is none, after which it's the network
-- of the next line.
abbrev pub IsDelivered : Net → Net → Point → Protocol → ℕ → ℕ → Result Chained Breach → Delivered → Type 0
IsDelivered old new p via to count (Ok m) (Answered reply journal) = IsAnswered old new p to m reply journal
IsDelivered old new p via to count (Err b) (Rejected name fate breach) =
    (agent_of old.names name ≡ to) × (fate_view fate ≡ (raw_to p via to count).fate) × (breach_view breach ≡ b)
    × StandsAt new (after (did_by (Hands via to count (Err b)) (Told (raw_to p via to count) b)) p)
IsDelivered old new p via to count other d = ⊥

-- they come to this, where agents have these names
pub record Comes (names : List (List ℕ)) (via : Protocol) (octets : List ℕ) (e : Result Chained Breach) : Type 0 where
  pub node : Result Node Breach
  pub comes : ComesTo (message_type via) octets node
  pub is : e ≡ spelled names via node

pub record IsDeliveredAt (old new : Net) (p : Point) (via : Protocol) (to : ℕ) (octets : List ℕ) (d : Delivered) :
    Type 0 where
  pub read : Result Chained Breach
  pub comes : Comes old.names via octets read
  pub short : (m : Chained) → read ≡ Ok m → HasShortNames m.request.body
  pub delivered : IsDelivered old new p via to (length octets) read d

-- whom it names, in any network
abbrev pub NamesAgentsIn : List (List ℕ) → Delivered → Type 0
NamesAgentsIn names (Answered reply journal) = NamesAgents names reply journal
NamesAgentsIn names (Rejected name fate breach) = is_agent names name ≡ true

-- the breach that a fault in reading tells, unless memory ran out
abbrev pub breach_in : WireFault → Option typed.Breach
breach_in (wire.Ber fault) = Some (breaches.Ber fault)
breach_in (wire.Unrecognised code) = Some (breaches.Unrecognised code)
breach_in wire.NoMemory = None
