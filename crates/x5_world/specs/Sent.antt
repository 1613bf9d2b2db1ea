-- A request on its way through the network: the messages that were sent for it, who accepted its update, and what
-- agents hold since, as the definitions' journal has them (X.518, sections 17 to 21).
use Rattle.std.specs.Prelude.{◌≡◌, ℕ, ◌<◌, ◌+◌, ◌≤◌, ◌&&◌, ◌==◌, nat_lt, nat_le, Bool, true, false}
use Rattle.std.specs.Prelude.{if◌then◌else◌, List, [], length, map, reverse, slice_get, slice_set, Some}
use Rattle.std.specs.List.{list_all}
use Rattle.x5_model.specs.Words.{distinct, has, in_option, same_octets}
use Rattle.x5_model.specs.References.{Chained}
use Rattle.x5_model.specs.Requests.{Request}
use Rattle.x5_model_tree.specs.Described.{is_agent_name}
use Rattle.x5_model_run.specs.Journal as model
use Rattle.x5_model_run.specs.Holdings.{Holdings}
use Rattle.x5_model_run.specs.Chain.{Scene}
use Rattle.x5_model_serve.specs.Committed.{committed}
use Rattle.x5_model_heard.specs.Told.{are_agents}
use Rattle.x5_model_known.specs.Holding.{holdings_name}
use Rattle.x5_model_known.specs.Counted.{holdings_counted}
use Rattle.x5_model_fitting.specs.Requests.{RequestWithin}
use Rattle.x5_model_limits.specs.Holding.{BoundedHoldings}
use Rattle.x5_model_limits.specs.Doing.{BoundedJournal}
use Rattle.x5_ops.specs.JournalViews.{fate_view}
use Rattle.x5_ops.specs.ReferenceViews.{chained_view}
use Rattle.x5_world.specs.Logs.{AreNoted, Logs}
use Rattle.x5_world.specs.LogLimits.{BoundedLogs}
use Rattle.x5_world.specs.State.{Net, HasShortNames, holdings_in, logs_in}
use Rattle.x5_world.specs.declared.journal.Sent.{Sent}

abbrev pub line_view : List (List ℕ) → Sent → model.Line
line_view names l = record {
  number = l.number;
  sender = l.from;
  receiver = l.to;
  message = chained_view names l.message;
  fate = fate_view l.fate;
}

-- the newest first, of messages and of agents that accepted the update
abbrev pub journal_of : List (List ℕ) → List Sent → List ℕ → model.Journal
journal_of names lines accepted =
    record { lines = reverse (map (line_view names) lines); accepted = reverse accepted }

-- what the request is judged by
abbrev pub scene_of : Net → ℕ → Chained → Scene
scene_of n first m = record {
  holdings = holdings_in n;
  network = n.network;
  sent = n.sent;
  first = first;
  message = m;
  follows = false;
}

-- the network of nobody
abbrev pub no_net : Net
no_net = record {
  names = [];
  agents = [];
  logs = [];
  network = record { down = []; refusing = []; cut = []; lost_messages = []; lost_replies = [] };
  sent = 0;
  contexts = 0;
  pairs = 0;
  agreements = [];
  acked = [];
  line = 0;
}

-- What is so of every network: no two agents have one name, and all are named as agents may be; each holds what is its
-- own, names agents of the network and knows no name that is too long for an octet to count; what it holds, and what it
-- keeps of changes, is within the limits of messages; and there are no more contexts and agents of NSSRs than a file
-- may have.
pub record IsHolder (names : List (List ℕ)) (a : ℕ) (h : Holdings) : Type 0 where
  pub me : h.me ≡ a
  pub known : holdings_name (length names) h ≡ true
  pub counted : holdings_counted h ≡ true
  pub bounded : BoundedHoldings h

pub record IsNet (n : Net) : Type 0 where
  pub apart : distinct same_octets n.names ≡ true
  pub plain : list_all is_agent_name n.names ≡ true
  pub few : length n.names ≤ 64
  pub count : length n.agents ≡ length n.names
  pub logs : length n.logs ≡ length n.names
  pub each : (a : ℕ) (h : Holdings) → slice_get n.agents a ≡ Some h → IsHolder n.names a h
  pub noted : (a : ℕ) (l : Logs) → slice_get n.logs a ≡ Some l → BoundedLogs l
  pub contexts : n.contexts ≤ 4096
  pub pairs : n.pairs ≤ 4096
  pub lines : n.line ≤ 100000

-- between agents of the network, and with a trace that can be counted
abbrev pub is_counted : List (List ℕ) → Sent → Bool
is_counted names l =
    in_option true (λ a. nat_lt a (length names)) l.from
    && (nat_lt l.to (length names) && nat_le (length l.message.trace) 4294967295)

-- what the agent of a place holds since, where these accepted the update
abbrev pub held_since : List ℕ → Request → ℕ → Holdings → Holdings
held_since accepted r a h = if has ◌==◌ accepted a then committed r h else h

-- The network once these accepted the update at the line: nothing but what they hold, and note of it, has changed. That
-- it is noted is a fact of which there is one proof, as it's kept beside the network.
pub record IsChanged (old new : Net) (r : Request) (accepted : List ℕ) : Type 0 where
  pub rest : new ≡ record old { agents = new.agents; logs = new.logs }
  pub count : length new.agents ≡ length old.agents
  pub kept : length new.logs ≡ length old.logs
  pub holds : (a : ℕ) → holdings_in new a ≡ held_since accepted r a (holdings_in old a)
  pub notes : (a : ℕ) → has ◌==◌ accepted a ≡ true
      → ∥ AreNoted (old.line + 1) r (holdings_in old a) (logs_in old a) (logs_in new a) ∥₁
  pub others : (a : ℕ) → has ◌==◌ accepted a ≡ false → logs_in new a ≡ logs_in old a

-- this agent accepted the update at the line: it holds the change, and has noted it
pub record IsCommittedAt (agent : ℕ) (r : Request) (old new : Net) : Type 0 where
  pub agents : new.agents ≡ slice_set old.agents agent (committed r (holdings_in old agent))
  pub logs : new.logs ≡ slice_set old.logs agent (logs_in new agent)
  pub rest : new ≡ record old { agents = new.agents; logs = new.logs }
  pub noted : AreNoted (old.line + 1) r (holdings_in old agent) (logs_in old agent) (logs_in new agent)

-- A user's request on its way, within the limits of messages, which began in the one network and has led to the other,
-- with the messages so far, all of them within the limits too, and those who accepted its update.
pub record IsUnderWay (n now : Net) (first : ℕ) (m : Chained) (most : ℕ) (lines : List Sent) (accepted : List ℕ) :
    Type 0 where
  pub net : IsNet n
  pub changed : IsChanged n now m.request accepted
  pub there : first < length n.names
  pub short : HasShortNames m.request.body
  pub request : RequestWithin m.request
  pub room : n.sent + most ≤ 18446744073709551615
  pub within : length lines ≤ most
  pub counted : list_all (is_counted n.names) lines ≡ true
  pub agents : are_agents (length n.names) accepted ≡ true
  pub journal : BoundedJournal (length n.names) (journal_of n.names lines accepted)
