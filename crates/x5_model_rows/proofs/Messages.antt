-- Short ways to write messages and journals of the worked examples out.
use Rattle.std.specs.Prelude.{ℕ, true, false, List, [], ◌∷◌, ◌++◌}
use Rattle.std.specs.declared.option.Option.TheVariants.{None, Some}
use Rattle.x5_model.specs.Values.{Rdn, Name, Known, Value}
use Rattle.x5_model.specs.Requests.{Request}
use Rattle.x5_model.specs.References.{Progress, Done, Reference, RefType, NonSpecific}
use Rattle.x5_model.specs.Answers.{Source, EntryInfo, Shown, Outcome}
use Rattle.x5_model_run.specs.Network.{Fate}
use Rattle.x5_model_run.specs.Journal.{Line, Journal, item_of}
use Rattle.x5_model_tree.specs.World.{World}
use Rattle.x5_model_run.specs.History.{Deed, Accepts, Did, Point}
use Rattle.x5_model_run.specs.Chain.{opening}

-- the user's message
abbrev pub asks : ℕ → ℕ → Request → Fate → Line
asks number to r fate = record { number = number; sender = None; receiver = to; message = opening r; fate = fate }

-- a message that is sent for another's line, whose receiver is the sender
abbrev pub passes : ℕ → Line → ℕ → Name → Progress → RefType → Request → Fate → Line
passes number l to target progress kind r fate = record {
  number = number;
  sender = Some l.receiver;
  receiver = to;
  message = record {
    target = target;
    progress = progress;
    kind = kind;
    exclusions = [];
    trace = l.message.trace ++ item_of l.receiver l.message ∷ [];
    request = r;
  };
  fate = fate;
}

-- the same with exclusions
abbrev pub passes_less : ℕ → Line → ℕ → Name → List Rdn → Request → Fate → Line
passes_less number l to target less r fate = less_of (passes number l to target Done NonSpecific r fate)
  where
    less_of : Line → Line
    less_of e = record e { message = record e.message { exclusions = less } }

-- lines in the order in which they were sent
abbrev pub newest_first : List Line → List Line → List Line
newest_first after [] = after
newest_first after (l ∷ ls) = newest_first (l ∷ after) ls

abbrev pub journal : List Line → Journal
journal lines = record { lines = newest_first [] lines; accepted = [] }

-- with the agent that accepted the update
abbrev pub accepted_journal : List Line → ℕ → Journal
accepted_journal lines a = record { lines = newest_first [] lines; accepted = a ∷ [] }

-- a line of a run: what the lines before did, the newest first
abbrev pub did : Deed → ℕ → Did
did deed sent = record { deed = deed; sent = sent }

abbrev pub takes : ℕ → Request → Deed
takes a r = Accepts ((record { agent = a; request = r }) ∷ [])

abbrev pub point : World → List Did → Point
point w past = record { described = w; past = past }

abbrev pub now : Name → ℕ → Source
now context agent = record { context = context; agent = agent; moment = None }

-- an answer's entry, of a master
abbrev pub info : Name → List Shown → EntryInfo
info name attributes = record { name = name; copy = false; attributes = attributes }

abbrev pub bare : Name → EntryInfo
bare name = info name []

abbrev pub copied : EntryInfo → EntryInfo
copied i = record i { copy = true }

abbrev pub shows : ℕ → List Value → Shown
shows kind values = record { kind = Known kind; values = values }

-- nothing is left out
abbrev pub whole_outcome : Outcome
whole_outcome = record { limited = false; unexplored = [] }

abbrev pub left_out : List Reference → Outcome
left_out unexplored = record { limited = false; unexplored = unexplored }

-- a reference whose agents were asked in vain
abbrev pub in_vain : RefType → Name → Progress → List ℕ → Reference
in_vain kind target progress agents =
    record { target = target; progress = progress; kind = kind; agents = agents; exclusions = []; tried = true }
