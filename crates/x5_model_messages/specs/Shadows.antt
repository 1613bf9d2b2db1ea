-- Messages of shadowing as messages carry them, with agents by their names; what is written of one as a node of
-- messages, and what such a node says (X.525, sections 9 to 12; X.519, section 7; docs/FORMATS.md, section 4).
use Rattle.std.specs.Prelude.{ℕ, Bool, true, false, ◌==◌, if◌then◌else◌, List, [], ◌∷◌, map}
use Rattle.std.specs.declared.option.Option.{Option}
use Rattle.std.specs.declared.option.Option.TheVariants.{None}
use Rattle.x5_model.specs.Entries.{Stored, Named}
use Rattle.x5_model.specs.Normal.{normal_form}
use Rattle.x5_model.specs.Types.{kind_of}
use Rattle.x5_model.specs.Values as values
use Rattle.x5_model.specs.Values.{Text, Value, StoredValue, Name}
use Rattle.x5_model_typed.specs.Nodes as nodes
use Rattle.x5_model_typed.specs.Nodes.{Node, Vacant, Flag, Chosen, whole, parts}
use Rattle.x5_model_typed.specs.Rules.{type_number, text_in, value_in}
use Rattle.x5_model_messages.specs.Terms.{node_of, type_node, name_node, value_node, name_of, flag_in, number_in}
use Rattle.x5_model_messages.specs.Replies.{number_or_vacant, or_zero, result_node, error_node}

-- a subordinate reference: a context below, its master and the agents that have copies of it
pub record Known : Type 0 where
  pub pin : Name
  pub master : Text
  pub shadows : List Text

-- a non-specific subordinate reference: an entry, and agents that master something just below it
pub record NonSpecific : Type 0 where
  pub at : Name
  pub agents : List Text

pub data Step : Type 0 where
  Add : Named → Step
  Remove : Name → Step
  Modify : Named → Step
  Rename : Name → Named → Step

pub data Refresh : Type 0 where
  Nothing : Refresh
  Total : List Named → List Known → List NonSpecific → Refresh
  Steps : List Step → Refresh

-- agreements go by their numbers, moments are seconds after the start that both ends share
pub data Shadow : Type 0 where
  -- a consumer asks: its last moment, and whether it wants all
  Request : ℕ → Option ℕ → Bool → Shadow
  -- a supplier tells the same of what it will send
  Coordinate : ℕ → Option ℕ → Bool → Shadow
  -- what it sends, with its stamp
  Update : ℕ → ℕ → Refresh → Shadow
  -- the result of the operation with the code
  Done : ℕ → Shadow
  -- a problem by its number, with the moments that the consumer holds and the supplier has given
  Failed : ℕ → Option ℕ → Option ℕ → Shadow

-- ---- what is written

abbrev pub stored_node : Stored → Node
stored_node a = node_of (type_node (values.Known a.kind) ∷ node_of (map (λ v. value_node v.value) a.values) ∷ [])

abbrev pub entry_node : Named → Node
entry_node e = node_of (name_node e.name ∷ Flag true ∷ node_of (map stored_node e.entry.attributes) ∷ [])

abbrev pub agent_node : Bool → Text → Node
agent_node copy agent = node_of (nodes.Text agent ∷ Flag copy ∷ [])

abbrev pub known_node : Known → Node
known_node k =
    node_of (name_node k.pin ∷ node_of (agent_node false k.master ∷ map (agent_node true) k.shadows) ∷ [])

abbrev pub non_specific_node : NonSpecific → Node
non_specific_node n = node_of (name_node n.at ∷ node_of (map (agent_node false) n.agents) ∷ [])

abbrev pub step_node : Step → Node
step_node (Add e) = Chosen 0 (entry_node e)
step_node (Remove n) = Chosen 1 (name_node n)
step_node (Modify e) = Chosen 2 (entry_node e)
step_node (Rename n e) = Chosen 3 (node_of (name_node n ∷ entry_node e ∷ []))

abbrev pub refresh_node : Refresh → Node
refresh_node Nothing = Vacant
refresh_node (Total entries known others) =
    Chosen 0 (node_of (node_of (map entry_node entries) ∷ node_of (map known_node known)
    ∷ node_of (map non_specific_node others) ∷ []))
refresh_node (Steps steps) = Chosen 1 (node_of (map step_node steps))

-- the strategies: 1 is incremental, 2 is total
abbrev pub strategy_node : Bool → Node
strategy_node true = whole 2
strategy_node false = whole 1

abbrev pub asked_node : ℕ → Option ℕ → Bool → Node
asked_node agreement last total =
    node_of (whole agreement ∷ number_or_vacant last ∷ strategy_node total ∷ [])

abbrev pub sent_node : ℕ → ℕ → Refresh → Node
sent_node agreement stamp refresh = node_of (whole agreement ∷ whole stamp ∷ refresh_node refresh ∷ [])

abbrev pub failed_node : ℕ → Option ℕ → Option ℕ → Node
failed_node problem held given =
    node_of (whole problem ∷ number_or_vacant held ∷ number_or_vacant given ∷ [])

abbrev pub invoke_node : ℕ → ℕ → Node → Node
invoke_node id code argument = Chosen 1 (node_of (whole id ∷ whole code ∷ argument ∷ []))

-- the operations: 1 requestShadowUpdate, 2 updateShadow, 3 coordinateShadowUpdate; the error's code is 1
abbrev pub shadow_node : ℕ → Shadow → Node
shadow_node id (Request agreement last total) = invoke_node id 1 (asked_node agreement last total)
shadow_node id (Coordinate agreement last total) = invoke_node id 3 (asked_node agreement last total)
shadow_node id (Update agreement stamp refresh) = invoke_node id 2 (sent_node agreement stamp refresh)
shadow_node id (Done code) = result_node id code Vacant
shadow_node id (Failed problem held given) = error_node id 1 (failed_node problem held given)

-- ---- what nodes say; a node of another type says nothing, for which something stands

-- a value of a type with its normal form
abbrev pub stored_value : ℕ → Value → StoredValue
stored_value k v = record { value = v; normal = normal_form (kind_of k) v }

abbrev pub stored_in : Node → Stored
stored_in n = by (parts n)
  where
    by : List Node → Stored
    by (type ∷ vs ∷ []) =
        record { kind = type_number type; values = map (λ v. stored_value (type_number type) (value_in v)) (parts vs) }
    by other = record { kind = 0; values = [] }

abbrev pub entry_in : Node → Named
entry_in n = by (parts n)
  where
    by : List Node → Named
    by (name ∷ from_entry ∷ attributes ∷ []) =
        record { name = name_of name; entry = record { attributes = map stored_in (parts attributes) } }
    by other = record { name = []; entry = record { attributes = [] } }

abbrev pub agent_in : Node → Text
agent_in n = by (parts n)
  where
    by : List Node → Text
    by (agent ∷ copy ∷ []) = text_in agent
    by other = []

abbrev pub known_of : Node → List Node → Known
known_of name [] = record { pin = name_of name; master = []; shadows = [] }
known_of name (a ∷ as') = record { pin = name_of name; master = agent_in a; shadows = map agent_in as' }

abbrev pub known_in : Node → Known
known_in n = by (parts n)
  where
    by : List Node → Known
    by (name ∷ agents ∷ []) = known_of name (parts agents)
    by other = known_of Vacant []

abbrev pub non_specific_in : Node → NonSpecific
non_specific_in n = by (parts n)
  where
    by : List Node → NonSpecific
    by (name ∷ agents ∷ []) = record { at = name_of name; agents = map agent_in (parts agents) }
    by other = record { at = []; agents = [] }

abbrev pub renamed_in : Node → Step
renamed_in n = by (parts n)
  where
    by : List Node → Step
    by (name ∷ entry ∷ []) = Rename (name_of name) (entry_in entry)
    by other = Remove []

abbrev pub step_in : Node → Step
step_in (Chosen tag n) =
    if tag == 0 then Add (entry_in n)
    else if tag == 1 then Remove (name_of n)
    else if tag == 2 then Modify (entry_in n)
    else renamed_in n
step_in n = Remove []

abbrev pub total_in : Node → Refresh
total_in n = by (parts n)
  where
    by : List Node → Refresh
    by (entries ∷ known ∷ others ∷ []) =
        Total (map entry_in (parts entries)) (map known_in (parts known)) (map non_specific_in (parts others))
    by other = Nothing

abbrev pub refresh_in : Node → Refresh
refresh_in (Chosen tag n) = if tag == 0 then total_in n else Steps (map step_in (parts n))
refresh_in n = Nothing

abbrev pub is_total : Node → Bool
is_total strategy = or_zero (number_in strategy) == 2

-- the argument of the operation with the code
abbrev pub argument_in : ℕ → Node → Shadow
argument_in code n = by (parts n)
  where
    by : List Node → Shadow
    by (agreement ∷ a ∷ b ∷ []) =
        if code == 1 then Request (or_zero (number_in agreement)) (number_in a) (is_total b)
        else if code == 2 then Update (or_zero (number_in agreement)) (or_zero (number_in a)) (refresh_in b)
        else Coordinate (or_zero (number_in agreement)) (number_in a) (is_total b)
    by other = Done 0

abbrev pub failed_in : Node → Shadow
failed_in n = by (parts n)
  where
    by : List Node → Shadow
    by (problem ∷ held ∷ given ∷ []) = Failed (or_zero (number_in problem)) (number_in held) (number_in given)
    by other = Failed 0 None None

abbrev pub done_in : Node → Shadow
done_in n = by (parts n)
  where
    by : List Node → Shadow
    by (code ∷ result ∷ []) = Done (or_zero (number_in code))
    by other = Done 0

-- a message's id, and what it says: by its tag a result, or an invoke or an error
abbrev pub message_in : ℕ → List Node → ℕ × Shadow
message_in tag (id ∷ inner ∷ []) = (or_zero (number_in id), done_in inner)
message_in tag (id ∷ code ∷ said ∷ []) =
    if tag == 1 then (or_zero (number_in id), argument_in (or_zero (number_in code)) said)
    else (or_zero (number_in id), failed_in said)
message_in tag other = (0, Done 0)

abbrev pub shadow_in : Node → ℕ × Shadow
shadow_in (Chosen tag n) = message_in tag (parts n)
shadow_in n = (0, Done 0)
