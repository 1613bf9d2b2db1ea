-- Replies as messages carry them, with agents by their names; what is written of one, and what such a node says (X.511,
-- sections 7, 10 and 12; X.518, section 10; docs/FORMATS.md, section 4).
use Rattle.std.specs.Prelude.{ℕ, Bool, true, false, not, ◌==◌, if◌then◌else◌, List, [], ◌∷◌, map}
use Rattle.std.specs.declared.option.Option.{Option}
use Rattle.std.specs.declared.option.Option.TheVariants.{None, Some}
use Rattle.x5_model.specs.Words.{in_option}
use Rattle.x5_model.specs.Values.{Text, TypeRef, Unknown, Value, Rdn, Name}
use Rattle.x5_model.specs.Answers.{Shown, EntryInfo, Sub}
use Rattle.x5_model.specs.References.{Progress, Start, Next, Done, RefType, Superior, Subordinate, Cross, NonSpecific}
use Rattle.x5_model.specs.References.{Supplier, Own}
use Rattle.x5_model_run.specs.Journal.{kind_number}
use Rattle.x5_model_typed.specs.Nodes as nodes
use Rattle.x5_model_typed.specs.Nodes.{Node, Vacant, Flag, Chosen, whole, parts}
use Rattle.x5_model_typed.specs.Rules.{text_in, value_in}
use Rattle.x5_model_messages.specs.Terms.{node_of, type_node, rdn_node, name_node, value_node, type_in, name_of, rdn_of}
use Rattle.x5_model_messages.specs.Terms.{flag_in, number_in}

-- ---- with agents by their names; `copy` says that an agent has a copy of the context

pub record Access : Type 0 where
  pub agent : Text
  pub copy : Bool

pub record Reference : Type 0 where
  pub target : Name
  pub progress : Progress
  pub kind : RefType
  pub agents : List Access
  pub exclusions : List Rdn
  pub tried : Bool

pub record TraceItem : Type 0 where
  pub agent : Text
  pub target : Name
  pub progress : Progress
  pub wide : Bool

pub record Source : Type 0 where
  pub context : Name
  pub agent : Text
  pub moment : Option ℕ

pub record Outcome : Type 0 where
  pub limited : Bool
  pub unexplored : List Reference

pub data Answer : Type 0 where
  Entry : EntryInfo → Source → Answer
  Match : Bool → Bool → Source → Answer
  Listed : List Sub → List Source → Outcome → Answer
  Found : List EntryInfo → List Source → Outcome → Answer
  Changed : Answer

pub data Reply : Type 0 where
  -- the result of the operation with the code
  Answered : ℕ → Answer → Reply
  NoSuchObject : Name → Reply
  AttributeProblem : ℕ → TypeRef → Reply
  UpdateProblem : ℕ → Reply
  ServiceProblem : ℕ → Option Reference → Option TraceItem → Reply
  Referred : Reference → Reply

-- ---- what is written

abbrev pub progress_node : Progress → Node
progress_node Start = node_of (whole 1 ∷ Vacant ∷ [])
progress_node (Next k) = node_of (whole 2 ∷ whole k ∷ [])
progress_node Done = node_of (whole 3 ∷ Vacant ∷ [])

abbrev pub access_node : Access → Node
access_node a = node_of (nodes.Text a.agent ∷ Flag a.copy ∷ [])

abbrev pub reference_node : Reference → Node
reference_node r =
    node_of (name_node r.target ∷ progress_node r.progress ∷ whole (kind_number r.kind)
    ∷ node_of (map access_node r.agents) ∷ node_of (map rdn_node r.exclusions) ∷ Flag r.tried ∷ [])

abbrev pub item_node : TraceItem → Node
item_node i = node_of (nodes.Text i.agent ∷ name_node i.target ∷ progress_node i.progress ∷ Flag i.wide ∷ [])

abbrev pub number_or_vacant : Option ℕ → Node
number_or_vacant None = Vacant
number_or_vacant (Some n) = whole n

abbrev pub source_node : Source → Node
source_node s = node_of (name_node s.context ∷ nodes.Text s.agent ∷ number_or_vacant s.moment ∷ [])

abbrev pub shown_node : Shown → Node
shown_node a = node_of (type_node a.kind ∷ node_of (map value_node a.values) ∷ [])

abbrev pub info_node : EntryInfo → Node
info_node e = node_of (name_node e.name ∷ Flag (not e.copy) ∷ node_of (map shown_node e.attributes) ∷ [])

abbrev pub sub_node : Sub → Node
sub_node s = node_of (rdn_node s.rdn ∷ Flag (not s.copy) ∷ [])

abbrev pub limit_node : Bool → Node
limit_node true = whole 1
limit_node false = Vacant

abbrev pub outcome_node : Outcome → Node
outcome_node o = node_of (limit_node o.limited ∷ node_of (map reference_node o.unexplored) ∷ [])

abbrev pub answer_node : Answer → Node
answer_node (Entry entry source) = node_of (info_node entry ∷ source_node source ∷ [])
answer_node (Match matched copy source) = node_of (Flag matched ∷ Flag (not copy) ∷ source_node source ∷ [])
answer_node (Listed subs sources outcome) =
    node_of (node_of (map sub_node subs) ∷ node_of (map source_node sources) ∷ outcome_node outcome ∷ [])
answer_node (Found entries sources outcome) =
    node_of (node_of (map info_node entries) ∷ node_of (map source_node sources) ∷ outcome_node outcome ∷ [])
answer_node Changed = Vacant

abbrev pub reference_or_vacant : Option Reference → Node
reference_or_vacant None = Vacant
reference_or_vacant (Some r) = reference_node r

abbrev pub item_or_vacant : Option TraceItem → Node
item_or_vacant None = Vacant
item_or_vacant (Some i) = item_node i

abbrev pub result_node : ℕ → ℕ → Node → Node
result_node id code result = Chosen 2 (node_of (whole id ∷ node_of (whole code ∷ result ∷ []) ∷ []))

abbrev pub error_node : ℕ → ℕ → Node → Node
error_node id code parameter = Chosen 3 (node_of (whole id ∷ whole code ∷ parameter ∷ []))

-- the code of a referral is 4 to a user, and 9 between agents
abbrev pub reply_node : ℕ → ℕ → Reply → Node
reply_node referral id (Answered code answer) = result_node id code (answer_node answer)
reply_node referral id (AttributeProblem problem type) = error_node id 1 (node_of (whole problem ∷ type_node type ∷ []))
reply_node referral id (NoSuchObject matched) = error_node id 2 (node_of (whole 1 ∷ name_node matched ∷ []))
reply_node referral id (ServiceProblem problem reference item) =
    error_node id 3 (node_of (whole problem ∷ reference_or_vacant reference ∷ item_or_vacant item ∷ []))
reply_node referral id (UpdateProblem problem) = error_node id 8 (node_of (whole problem ∷ []))
reply_node referral id (Referred reference) = error_node id referral (reference_node reference)

abbrev pub to_user : ℕ
to_user = 4

abbrev pub to_agent : ℕ
to_agent = 9

-- ---- what nodes say; a node of another type says nothing, for which something stands

abbrev pub or_zero : Option ℕ → ℕ
or_zero o = in_option 0 (λ k. k) o

abbrev pub progress_in : Node → Progress
progress_in n = by (parts n)
  where
    by_phase : ℕ → Node → Progress
    by_phase k next = if k == 1 then Start else if k == 2 then Next (or_zero (number_in next)) else Done

    by : List Node → Progress
    by (phase ∷ next ∷ []) = by_phase (or_zero (number_in phase)) next
    by other = Start

abbrev pub kind_in : Node → RefType
kind_in n = by (or_zero (number_in n))
  where
    by : ℕ → RefType
    by k = if k == 1 then Superior else if k == 2 then Subordinate else if k == 3 then Cross else if k == 4
        then NonSpecific else if k == 5 then Supplier else Own

abbrev pub access_in : Node → Access
access_in n = by (parts n)
  where
    by : List Node → Access
    by (agent ∷ copy ∷ []) = record { agent = text_in agent; copy = flag_in copy }
    by other = record { agent = []; copy = false }

abbrev pub reference_in : Node → Reference
reference_in n = by (parts n)
  where
    by : List Node → Reference
    by (target ∷ progress ∷ kind ∷ agents ∷ exclusions ∷ tried ∷ []) = record {
      target = name_of target;
      progress = progress_in progress;
      kind = kind_in kind;
      agents = map access_in (parts agents);
      exclusions = map rdn_of (parts exclusions);
      tried = flag_in tried;
    }
    by other = record { target = []; progress = Start; kind = Own; agents = []; exclusions = []; tried = false }

abbrev pub item_in : Node → TraceItem
item_in n = by (parts n)
  where
    by : List Node → TraceItem
    by (agent ∷ target ∷ progress ∷ wide ∷ []) =
        record { agent = text_in agent; target = name_of target; progress = progress_in progress; wide = flag_in wide }
    by other = record { agent = []; target = []; progress = Start; wide = false }

abbrev pub source_in : Node → Source
source_in n = by (parts n)
  where
    by : List Node → Source
    by (context ∷ agent ∷ moment ∷ []) =
        record { context = name_of context; agent = text_in agent; moment = number_in moment }
    by other = record { context = []; agent = []; moment = None }

abbrev pub shown_in : Node → Shown
shown_in n = by (parts n)
  where
    by : List Node → Shown
    by (type ∷ vs ∷ []) = record { kind = type_in type; values = map value_in (parts vs) }
    by other = record { kind = Unknown []; values = [] }

abbrev pub info_in : Node → EntryInfo
info_in n = by (parts n)
  where
    by : List Node → EntryInfo
    by (name ∷ from_entry ∷ attributes ∷ []) =
        record { name = name_of name; copy = not (flag_in from_entry); attributes = map shown_in (parts attributes) }
    by other = record { name = []; copy = false; attributes = [] }

abbrev pub sub_in : Node → Sub
sub_in n = by (parts n)
  where
    by : List Node → Sub
    by (rdn ∷ from_entry ∷ []) = record { rdn = rdn_of rdn; copy = not (flag_in from_entry) }
    by other = record { rdn = []; copy = false }

abbrev pub is_limit : Option ℕ → Bool
is_limit None = false
is_limit (Some k) = true

abbrev pub outcome_in : Node → Outcome
outcome_in n = by (parts n)
  where
    by : List Node → Outcome
    by (limit ∷ unexplored ∷ []) =
        record { limited = is_limit (number_in limit); unexplored = map reference_in (parts unexplored) }
    by other = record { limited = false; unexplored = [] }

-- the result of an operation by its code: 1 read, 2 compare, 4 list, 5 search, and updates
abbrev pub answer_in : ℕ → Node → Answer
answer_in code n = by (parts n)
  where
    by : List Node → Answer
    by (entry ∷ source ∷ []) = Entry (info_in entry) (source_in source)
    by (a ∷ b ∷ c ∷ []) =
        if code == 2 then Match (flag_in a) (not (flag_in b)) (source_in c)
        else if code == 4 then Listed (map sub_in (parts a)) (map source_in (parts b)) (outcome_in c)
        else Found (map info_in (parts a)) (map source_in (parts b)) (outcome_in c)
    by other = Changed

abbrev pub reference_if : Node → Option Reference
reference_if Vacant = None
reference_if n = Some (reference_in n)

abbrev pub item_if : Node → Option TraceItem
item_if Vacant = None
item_if n = Some (item_in n)

-- the error of the code
abbrev pub error_in : ℕ → Node → Reply
error_in code n = by (parts n)
  where
    by : List Node → Reply
    by (problem ∷ []) = UpdateProblem (or_zero (number_in problem))
    by (problem ∷ a ∷ []) =
        if code == 1 then AttributeProblem (or_zero (number_in problem)) (type_in a) else NoSuchObject (name_of a)
    by (problem ∷ reference ∷ item ∷ []) =
        ServiceProblem (or_zero (number_in problem)) (reference_if reference) (item_if item)
    by other = Referred (reference_in n)

-- a message's id and the reply
abbrev pub reply_in : Node → ℕ × Reply
reply_in m = by m
  where
    result_of : ℕ → List Node → ℕ × Reply
    result_of id (code ∷ result ∷ []) =
        (id, Answered (or_zero (number_in code)) (answer_in (or_zero (number_in code)) result))
    result_of id other = (id, UpdateProblem 0)

    of : List Node → ℕ × Reply
    of (id ∷ inner ∷ []) = result_of (or_zero (number_in id)) (parts inner)
    of (id ∷ code ∷ parameter ∷ []) = (or_zero (number_in id), error_in (or_zero (number_in code)) parameter)
    of other = (0, UpdateProblem 0)

    by : Node → ℕ × Reply
    by (Chosen tag n) = of (parts n)
    by n = of []
