-- A script that agents carry out, each message by what they do with it: over consistent knowledge it is a run whose
-- blocks are right.
use Rattle.std.specs.Prelude.{◌≡◌, ◌≤◌, ℕ, List, length}
use Rattle.std.specs.List.{AllByRecursion}
use Rattle.std.specs.declared.option.Option.TheVariants.{Some}
use Rattle.x5_model.specs.Values.{Text, Name}
use Rattle.x5_model.specs.References.{Chained}
use Rattle.x5_model_tree.specs.World.{World}
use Rattle.x5_model_tree.specs.Consistent.{IsConsistent}
use Rattle.x5_model_tree.specs.Described.{IsDescribed}
use Rattle.x5_model_run.specs.Needs.{target_of, new_name}
use Rattle.x5_model_run.specs.History.{Did}
use Rattle.x5_model_run.specs.Stage.{budget}
use Rattle.x5_model_run.specs.Chain.{scene_with}
use Rattle.x5_model_run.specs.Run.{Command, sent_by, Block, Judge, IsRun}
use Rattle.x5_model_output.specs.Output.{PrintsRun}
use Rattle.x5_model_serve.specs.Serving.{IsRequest}
use Rattle.x5_model_settled.specs.Judges.{RightAndWhole}
use Rattle.x5_model_settled.specs.Settled.{HasAgent}

-- a message's block is what agents do with it
abbrev pub ByAgents : Judge
ByAgents p first m j reply = IsRequest (scene_with p first m) (budget p) j reply

-- what it sends it sends to an agent of the world, with names of 16 RDNs at most, as all names that are read have
abbrev pub IsAskable : World → Command → Type 0
IsAskable w command =
    (first : ℕ) (m : Chained) → sent_by command ≡ Some (first, m)
    → HasAgent w first × (length (target_of m.request.body) ≤ 16) ×
    ((name : Name) → new_name m.request.body ≡ Some name → length name ≤ 16)

-- 1. Such a script is a run: what is accepted is right, each request is answered right, and no message of it is left
-- out;
abbrev pub AgentsRunIsRun : Type 0
AgentsRunIsRun =
    (w : World) (commands : List Command) (blocks : List Block) (past : List Did)
    → IsDescribed w → IsConsistent w → AllByRecursion (IsAskable w) commands → IsRun ByAgents w commands blocks past
    → IsRun RightAndWhole w commands blocks past

-- 2. and what is printed of it is the output of such a run.
abbrev pub AgentsPrintRun : Type 0
AgentsPrintRun =
    (w : World) (moment : ℕ → Text) (commands : List Command) (octets : Text)
    → IsDescribed w → IsConsistent w → AllByRecursion (IsAskable w) commands
    → PrintsRun ByAgents w moment commands octets
    → PrintsRun RightAndWhole w moment commands octets
