-- What journals stand for, given the names of the world's agents.
use Rattle.std.specs.Prelude.{ℕ, Bool, true, false, List, [], ◌∷◌}
use Rattle.std.specs.List.{flat_map}
use Rattle.std.specs.Option.{option_map}
use Rattle.x5_model_run.specs.Network as network
use Rattle.x5_model_run.specs.Journal as model
use Rattle.x5_model_run.specs.Run.{Protocol, Dap, Dsp}
use Rattle.x5_ops.specs.AgentNames.{agent_of}
use Rattle.x5_ops.specs.ReferenceViews.{progress_view}
use Rattle.x5_ops.specs.declared.journal.Fate.{Fate}
use Rattle.x5_ops.specs.declared.journal.Fate.TheVariants.{Lost, NoReply, Sent}
use Rattle.x5_ops.specs.declared.journal.Line.{Line}
use Rattle.x5_ops.specs.declared.journal.Line.TheVariants.{Msg, Dis, Raw}
use Rattle.x5_ops.specs.declared.journal.Operation.{Operation}
use Rattle.x5_ops.specs.declared.journal.Operation.TheVariants as operations
use Rattle.x5_ops.specs.declared.journal.Outage.{Outage}
use Rattle.x5_ops.specs.declared.journal.Outage.TheVariants as outages

-- operations by their codes (X.519, section 7)
abbrev pub code_view : Operation → ℕ
code_view operations.Read = 1
code_view operations.Compare = 2
code_view operations.List = 4
code_view operations.Search = 5
code_view operations.AddEntry = 6
code_view operations.RemoveEntry = 7
code_view operations.ModifyEntry = 8
code_view operations.ModifyDn = 9

abbrev pub fate_view : Fate → network.Fate
fate_view Lost = network.Lost
fate_view NoReply = network.NoReply
fate_view Sent = network.Sent

-- the protocol of octets that are handed over, by whether they are as another agent's message (X.519, section 7)
abbrev pub protocol_view : Bool → Protocol
protocol_view false = Dap
protocol_view true = Dsp

-- what a line prints, where it's a message of a request
abbrev pub printed_view : List (List ℕ) → Line → List model.Printed
printed_view names (Msg from to operation progress t target fate) =
    record {
      sender = option_map (agent_of names) from;
      receiver = agent_of names to;
      operation = code_view operation;
      progress = progress_view progress;
      depth = t;
      target = target;
      fate = fate_view fate;
    } ∷ []
printed_view names (Dis from to operation agreement fate) = []
printed_view names (Raw to dsp count fate) = []

-- the messages of a request, in the order in which they were sent
abbrev pub messages_view : List (List ℕ) → List Line → List model.Printed
messages_view names lines = flat_map (printed_view names) lines

abbrev pub outage_view : Outage → network.Outage
outage_view (outages.Down a) = network.Down a
outage_view (outages.Up a) = network.Up a
outage_view (outages.Cut a b) = network.Cut a b
outage_view (outages.Join a b) = network.Join a b
outage_view (outages.Refuse a) = network.Refuse a
outage_view (outages.Willing a) = network.Willing a
