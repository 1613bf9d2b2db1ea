-- The messages of a request. A journal has the newest line first.
use Rattle.std.specs.Prelude.{ℕ, ◌+◌, ◌-◌, Bool, true, false, ◌&&◌, ◌||◌, ◌==◌, nat_lt, if◌then◌else◌, List, [], ◌∷◌}
use Rattle.std.specs.Prelude.{length}
use Rattle.std.specs.List.{list_any}
use Rattle.std.specs.declared.option.Option.{Option}
use Rattle.std.specs.declared.option.Option.TheVariants.{None, Some}
use Rattle.x5_model.specs.Words.{some_and, first_of}
use Rattle.x5_model.specs.Keys.{same_key, same_rdn}
use Rattle.x5_model.specs.Values.{Rdn, Name, key_of, key_of_rdn}
use Rattle.x5_model.specs.Requests.{Body, Read, Compare, ListBelow, Search, AddEntry, RemoveEntry, ModifyEntry}
use Rattle.x5_model.specs.Requests.{ModifyDn}
use Rattle.x5_model.specs.References.{Progress, Start, Next, Done, RefType, Superior, Subordinate, Cross, NonSpecific}
use Rattle.x5_model.specs.References.{Supplier, Own, TraceItem, Chained}
use Rattle.x5_model_run.specs.Network.{Fate, arrives}

-- a message between agents, whole: its number among all messages of the run, counted from 1, its sender, where none is
-- the user, its receiver, what was carried, and what became of it (X.518, section 10: chaining arguments)
pub record Line : Type 0 where
  pub number : ℕ
  pub sender : Option ℕ
  pub receiver : ℕ
  pub message : Chained
  pub fate : Fate

-- the message lines of a request, and the agents that accepted its update, both newest first
pub record Journal : Type 0 where
  pub lines : List Line
  pub accepted : List ℕ

-- t: how many agents passed the request on before
abbrev pub depth : Line → ℕ
depth l = length l.message.trace

-- what is printed of a line
pub record Printed : Type 0 where
  pub sender : Option ℕ
  pub receiver : ℕ
  pub operation : ℕ
  pub progress : Progress
  pub depth : ℕ
  pub target : Name
  pub fate : Fate

-- operations by their codes (X.519, section 7)
abbrev pub operation_of : Body → ℕ
operation_of (Read name selection) = 1
operation_of (Compare name assertion) = 2
operation_of (ListBelow name) = 4
operation_of (Search base subset filter selection) = 5
operation_of (AddEntry name attributes) = 6
operation_of (RemoveEntry name) = 7
operation_of (ModifyEntry name changes) = 8
operation_of (ModifyDn name rdn drops) = 9

abbrev pub printed_line : Line → Printed
printed_line l = record {
  sender = l.sender;
  receiver = l.receiver;
  operation = operation_of l.message.request.body;
  progress = l.message.progress;
  depth = depth l;
  target = l.message.target;
  fate = l.fate;
}

abbrev pub same_sender : Option ℕ → Option ℕ → Bool
same_sender None None = true
same_sender None (Some b) = false
same_sender (Some a) None = false
same_sender (Some a) (Some b) = a == b

abbrev pub same_progress : Progress → Progress → Bool
same_progress Start Start = true
same_progress Start (Next k) = false
same_progress Start Done = false
same_progress (Next k) Start = false
same_progress (Next k) (Next j) = k == j
same_progress (Next k) Done = false
same_progress Done Start = false
same_progress Done (Next j) = false
same_progress Done Done = true

abbrev pub is_done : Progress → Bool
is_done p = same_progress p Done

abbrev pub kind_number : RefType → ℕ
kind_number Superior = 1
kind_number Subordinate = 2
kind_number Cross = 3
kind_number NonSpecific = 4
kind_number Supplier = 5
kind_number Own = 8

abbrev pub same_kind : RefType → RefType → Bool
same_kind a b = kind_number a == kind_number b

abbrev pub is_wide : RefType → Bool
is_wide kind = same_kind kind NonSpecific

abbrev pub same_name : Name → Name → Bool
same_name a b = same_key (key_of a) (key_of b)

abbrev pub same_spelled_rdn : Rdn → Rdn → Bool
same_spelled_rdn a b = same_rdn (key_of_rdn a) (key_of_rdn b)

-- an agent's own item for a message that it received (X.518, section 10.6)
abbrev pub item_of : ℕ → Chained → TraceItem
item_of agent m = record { agent = agent; target = m.target; progress = m.progress; wide = is_wide m.kind }

abbrev pub same_item : TraceItem → TraceItem → Bool
same_item a b =
    (a.agent == b.agent) && (same_name a.target b.target
    && (same_progress a.progress b.progress && same_wide a.wide b.wide))
  where
    same_wide : Bool → Bool → Bool
    same_wide true x = x
    same_wide false true = false
    same_wide false false = true

-- the same is asked of the same agent
abbrev pub same_message : Line → Line → Bool
same_message a b =
    (a.receiver == b.receiver) && (same_progress a.message.progress b.message.progress
    && same_name a.message.target b.message.target)

-- the journal from the last line on that isn't deeper than this
abbrev pub settled : ℕ → List Line → List Line
settled above [] = []
settled above (l ∷ before) = if nat_lt above (depth l) then settled above before else l ∷ before

-- the lines one deeper than this since then
abbrev pub siblings : ℕ → List Line → List Line
siblings above [] = []
siblings above (l ∷ before) =
    if nat_lt above (depth l) then (if depth l == (above + 1) then l ∷ siblings above before else siblings above before)
    else []

-- a line and what came before it pass the test, somewhere in the journal
abbrev pub some_line : (Line → List Line → Bool) → List Line → Bool
some_line test [] = false
some_line test (l ∷ before) = test l before || some_line test before

-- each line does
abbrev pub every_line : (Line → List Line → Bool) → List Line → Bool
every_line test [] = true
every_line test (l ∷ before) = test l before && every_line test before

-- the line that brought a line's owner the message which it serves is the one of this number: the last earlier line
-- whose t is one less, and no line between them is less deep
abbrev pub opened_by : ℕ → List Line → Line → Bool
opened_by number before l =
    nat_lt 0 (depth l) && some_and (λ o. (o.number == number) && ((depth o + 1) == depth l))
    (first_of (settled (depth l - 1) before))

-- Up from the last of these lines that isn't deeper than this, to the line that brought its owner the message, and so
-- on: each passes, up to one at which it ends.
abbrev pub leads_up : (Line → Bool) → (Line → Bool) → ℕ → List Line → Bool
leads_up ends passes above [] = false
leads_up ends passes above (l ∷ before) =
    if nat_lt above (depth l) then leads_up ends passes above before
    else ends l || (passes l && leads_up ends passes (depth l - 1) before)

-- an agent has a line that arrived
abbrev pub is_reached : List Line → ℕ → Bool
is_reached lines a = list_any (λ l. (l.receiver == a) && arrives l.fate) lines
