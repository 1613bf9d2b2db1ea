-- What a user's message was answered with, and by which messages (X.518, sections 17 to 21).
use Rattle.std.specs.Prelude.{◌≡◌, ℕ, nat_lt, Bool, true, ◌&&◌, List, length, map, reverse}
use Rattle.std.specs.List.{list_all}
use Rattle.x5_model.specs.Words.{in_option}
use Rattle.x5_model.specs.References.{Chained}
use Rattle.x5_model_run.specs.Journal as model
use Rattle.x5_model_run.specs.History.{Point}
use Rattle.x5_model_run.specs.Run.{accepted_by}
use Rattle.x5_model_settled.specs.Held.{BySteps}
use Rattle.x5_model_known.specs.Replying.{reply_agents}
use Rattle.x5_ops.specs.AgentNames.{agent_of}
use Rattle.x5_ops.specs.AnswerViews.{reply_view}
use Rattle.x5_ops.specs.JournalViews.{messages_view}
use Rattle.x5_ops.specs.declared.answers.Reply.{Reply}
use Rattle.x5_ops.specs.declared.journal.Line.{Line}
use Rattle.x5_ops.specs.declared.journal.Line.TheVariants.{Msg, Dis, Raw}
use Rattle.x5_ops.specs.declared.journal.Journal.{Journal}
use Rattle.x5_world.specs.State.{Net, StandsAt, after}

-- who is named is an agent of the world
abbrev pub is_agent : List (List ℕ) → List ℕ → Bool
is_agent names name = nat_lt (agent_of names name) (length names)

abbrev pub line_names_agents : List (List ℕ) → Line → Bool
line_names_agents names (Msg from to operation progress t target fate) =
    in_option true (is_agent names) from && is_agent names to
line_names_agents names (Dis from to operation agreement fate) = is_agent names from && is_agent names to
line_names_agents names (Raw to dsp count fate) = is_agent names to

-- A message of the user at an agent of the network of this line: the reply, the messages and who accepted the update
-- are those of the relation of agents' steps, by what agents hold, which a journal of whole messages tells; and
-- afterwards it's the network of the next line.
pub record IsAnswered (old new : Net) (p : Point) (first : ℕ) (m : Chained) (reply : Reply) (journal : Journal) : Type 0
  where
    pub whole : model.Journal
    pub asked : BySteps p first m whole (reply_view old.names reply)
    pub lines : map model.printed_line (reverse whole.lines) ≡ messages_view old.names journal.lines
    pub accepted : reverse whole.accepted ≡ map (agent_of old.names) journal.accepted
    pub stands : StandsAt new (after (record { deed = accepted_by m.request whole; sent = length whole.lines }) p)

-- whom they name, in any network
pub record NamesAgents (names : List (List ℕ)) (told : Reply) (journal : Journal) : Type 0 where
  pub lines : list_all (line_names_agents names) journal.lines ≡ true
  pub accepted : list_all (is_agent names) journal.accepted ≡ true
  pub reply : reply_agents (length names) (reply_view names told) ≡ true
