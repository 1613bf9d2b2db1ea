-- The lines of a script and what they ask for, or the first fault from the left of one that asks for nothing
-- (docs/FORMATS.md, script).
use Rattle.std.specs.Prelude.{ℕ, Bool, true, false, ◌||◌, ◌==◌, nat_lt, if◌then◌else◌, List, [], ◌∷◌, ◌++◌, length}
use Rattle.std.specs.Prelude.{codes, Option, Some, None, option_and_then, Result, Ok, Err, nat_eq}
use Rattle.std.specs.List.{starts_with}
use Rattle.x5_model.specs.Words.{is_empty, same_octets, first_of}
use Rattle.x5_model.specs.Values.{Text, Name, Rdn, TypeRef, Value}
use Rattle.x5_model.specs.Statics.{same_type}
use Rattle.x5_model.specs.Assertions.{assertion_of, offered}
use Rattle.x5_model.specs.Requests as ask
use Rattle.x5_model_run.specs.Network as network
use Rattle.x5_model_run.specs.Run as run
use Rattle.x5_model_script.specs.Words.{Fault, Long, BadWord, BadName, BadFilter, BadHex, ◌>>=◌, or_fault, Word, Left}
use Rattle.x5_model_script.specs.Words.{words_of, sound, passed, next, peeked, skipped, ended}
use Rattle.x5_model_script.specs.Texts as texts

-- What a line asks for: what runs are made of, or octets handed to an agent by the protocol between agents, or by that
-- of users.
pub data Asked : Type 0 where
  Runs : run.Command → Asked
  Delivers : Bool → ℕ → List ℕ → Asked

-- ---- words one by one

-- the next word, read so; one that isn't such a word has this fault
abbrev pub reading : {A : Type 0} → (Text → Option A) → (ℕ → Fault) → Left → Result (A × Left) Fault
reading read fault left = do
  w ← next left
  x ← or_fault (fault w.0.column) (read w.0.text)
  Ok (x, w.1)

abbrev pub agent : List Text → Left → Result (ℕ × Left) Fault
agent names left = reading (texts.agent_in names) BadName left

abbrev pub name : Left → Result (Name × Left) Fault
name left = reading texts.name_in BadName left

-- ---- operations

-- `attrs=T,T`, if a word is left; else all attributes
abbrev pub selection_by : Option Word → Left → Result (ask.Selection × Left) Fault
selection_by None left = Ok (ask.All, left)
selection_by (Some w) left = do
  a ← reading texts.attrs_in BadWord left
  Ok (ask.Only a.0, a.1)

abbrev pub selection : Left → Result (ask.Selection × Left) Fault
selection left = selection_by (first_of left.words) left

-- `NAME`, `NAME attrs=T,T`
abbrev pub read : Left → Result (ask.Body × Left) Fault
read left = do
  object ← name left
  shown ← selection object.1
  Ok (ask.Read object.0 shown.0, shown.1)

-- `NAME T=value`
abbrev pub compare : Left → Result (ask.Body × Left) Fault
compare left = do
  object ← name left
  pair ← reading texts.pair_in BadWord object.1
  Ok (ask.Compare object.0 (assertion_of pair.0.0 pair.0.1), pair.1)

-- `NAME`
abbrev pub list : Left → Result (ask.Body × Left) Fault
list left = do
  object ← name left
  Ok (ask.ListBelow object.0, object.1)

-- `base NAME FILTER`, also `one` and `tree`, and types as for a read
abbrev pub search : Left → Result (ask.Body × Left) Fault
search left = do
  subset ← reading texts.subset_in BadWord left
  base ← name subset.1
  filter ← reading texts.filter_in BadFilter base.1
  shown ← selection filter.1
  Ok (ask.Search base.0 subset.0 filter.0 shown.0, shown.1)

abbrev pub one_more : Value → ask.Attribute → ask.Attribute
one_more v a = record { kind = a.kind; values = a.values ++ offered a.kind v ∷ [] }

-- a value of a type: words of one type are values of one attribute, at the place of its first
abbrev pub with_value : TypeRef → Value → List ask.Attribute → List ask.Attribute
with_value kind v [] = record { kind = kind; values = offered kind v ∷ [] } ∷ []
with_value kind v (a ∷ others) = if same_type a.kind kind then one_more v a ∷ others else a ∷ with_value kind v others

-- the words, each read so, put one after another to what was there before
abbrev pub gathered : {A B : Type 0} → (Text → Option A) → (A → B → B) → B → List Word → Result B Fault
gathered read put before [] = Ok before
gathered read put before (w ∷ ws) = do
  word ← sound w
  x ← or_fault (BadWord word.column) (read word.text)
  gathered read put (put x before) ws

-- all words that are left
abbrev pub gather : {A B : Type 0} → (Text → Option A) → (A → B → B) → B → Left → Result (B × Left) Fault
gather read put before left = do
  all ← gathered read put before left.words
  Ok (all, record { words = []; end = left.end })

abbrev pub with_pair : TypeRef × Value → List ask.Attribute → List ask.Attribute
with_pair pair before = with_value pair.0 pair.1 before

abbrev pub attributes : Left → Result (List ask.Attribute × Left) Fault
attributes left = gather texts.pair_in with_pair [] left

-- `NAME T=value T=value`, of which there may be none
abbrev pub add : Left → Result (ask.Body × Left) Fault
add left = do
  object ← name left
  all ← attributes object.1
  Ok (ask.AddEntry object.0 all.0, all.1)

-- `NAME`
abbrev pub remove : Left → Result (ask.Body × Left) Fault
remove left = do
  object ← name left
  Ok (ask.RemoveEntry object.0, object.1)

abbrev pub with_change : ask.Change → List ask.Change → List ask.Change
with_change change before = before ++ change ∷ []

-- the changes behind the first
abbrev pub changes : ask.Change → Left → Result (List ask.Change × Left) Fault
changes first left = gather texts.change_in with_change (first ∷ []) left

-- `NAME CHANGE CHANGE`, of which there is one at least
abbrev pub modify : Left → Result (ask.Body × Left) Fault
modify left = do
  object ← name left
  first ← reading texts.change_in BadWord object.1
  all ← changes first.0 first.1
  Ok (ask.ModifyEntry object.0 all.0, all.1)

abbrev pub moved : Name → Rdn → Bool × Left → Result (ask.Body × Left) Fault
moved object rdn drops = Ok (ask.ModifyDn object rdn drops.0, drops.1)

-- `NAME RDN`, `NAME RDN drop`
abbrev pub move : Left → Result (ask.Body × Left) Fault
move left = do
  object ← name left
  rdn ← reading texts.rdn_in BadName object.1
  moved object.0 rdn.0 (skipped (codes "drop") rdn.1)

-- the operation that a word names, with its arguments: one that asks (X.511, sections 9 and 10) or one that changes
-- (section 11)
abbrev pub update_by : Word → Left → Result (ask.Body × Left) Fault
update_by w left =
    if same_octets w.text (codes "add") then add left
    else if same_octets w.text (codes "remove") then remove left
    else if same_octets w.text (codes "modify") then modify left
    else if same_octets w.text (codes "move") then move left
    else Err (BadWord w.column)

abbrev pub operation_by : Word → Left → Result (ask.Body × Left) Fault
operation_by w left =
    if same_octets w.text (codes "read") then read left
    else if same_octets w.text (codes "compare") then compare left
    else if same_octets w.text (codes "list") then list left
    else if same_octets w.text (codes "search") then search left
    else update_by w left

abbrev pub operation : Left → Result (ask.Body × Left) Fault
operation left = do
  w ← next left
  operation_by w.0 w.1

-- ---- controls: `nocopy`, `nochain` and `size=N`, in this order, each of which may lack

abbrev pub sized_by : Option ℕ → Left → Option ℕ × Left
sized_by None left = (None, left)
sized_by (Some n) left = (Some n, passed left)

abbrev pub sized : Left → Option ℕ × Left
sized left = sized_by (option_and_then texts.size_in (peeked left)) left

abbrev pub with_size : Bool → Bool → Option ℕ × Left → ask.Controls × Left
with_size nocopy nochain size = (record { nocopy = nocopy; nochain = nochain; size = size.0 }, size.1)

abbrev pub with_nochain : Bool → Bool × Left → ask.Controls × Left
with_nochain nocopy nochain = with_size nocopy nochain.0 (sized nochain.1)

abbrev pub with_nocopy : Bool × Left → ask.Controls × Left
with_nocopy nocopy = with_nochain nocopy.0 (skipped (codes "nochain") nocopy.1)

abbrev pub controls : Left → ask.Controls × Left
controls left = with_nocopy (skipped (codes "nocopy") left)

-- ---- kinds of lines, behind their first word

abbrev pub requested : ℕ → ask.Controls × Left → Result Asked Fault
requested to asked = do
  body ← operation asked.1
  nothing ← ended body.1
  Ok (Runs (run.Asks to (record { controls = asked.0; body = body.0 })))

-- `at AGENT [nocopy] [nochain] [size=N] OPERATION`
abbrev pub request : List Text → Left → Result Asked Fault
request names left = do
  to ← agent names left
  requested to.0 (controls to.1)

-- `down A`, `up A`, `refuse A` and `willing A`: an agent
abbrev pub one_agent : List Text → Left → Result ℕ Fault
one_agent names left = do
  a ← agent names left
  nothing ← ended a.1
  Ok a.0

abbrev pub outage : (ℕ → network.Outage) → List Text → Left → Result Asked Fault
outage change names left = do
  a ← one_agent names left
  Ok (Runs (run.Changes (change a)))

-- `cut A B` and `join A B`: two agents
abbrev pub differs : ℕ → ℕ → ℕ → Result ℕ Fault
differs column first b = if first == b then Err (BadWord column) else Ok b

abbrev pub other_agent : ℕ → List Text → Left → Result (ℕ × Left) Fault
other_agent first names left = do
  w ← next left
  b ← or_fault (BadName w.0.column) (texts.agent_in names w.0.text)
  other ← differs w.0.column first b
  Ok (other, w.1)

abbrev pub two_agents : List Text → Left → Result (ℕ × ℕ) Fault
two_agents names left = do
  a ← agent names left
  b ← other_agent a.0 names a.1
  nothing ← ended b.1
  Ok (a.0, b.0)

abbrev pub pair : (ℕ → ℕ → network.Outage) → List Text → Left → Result Asked Fault
pair change names left = do
  both ← two_agents names left
  Ok (Runs (run.Changes (change both.0 both.1)))

-- `pull ID total` and `push ID total`, also `incremental`
abbrev pub refresh : Bool → Left → Result Asked Fault
refresh pushes left = do
  id ← reading texts.agreement_in BadWord left
  total ← reading texts.strategy_in BadWord id.1
  nothing ← ended total.1
  Ok (Runs (run.Updates id.0 pushes total.0))

-- `lose message K` and `lose reply K`
abbrev pub lose : Left → Result Asked Fault
lose left = do
  reply ← reading texts.loss_kind_in BadWord left
  k ← reading texts.loss_in BadWord reply.1
  nothing ← ended k.1
  Ok (Runs (run.Drops reply.0 k.0))

-- `deliver dap A HEX` and `deliver dsp A HEX`
abbrev pub deliver : List Text → Left → Result Asked Fault
deliver names left = do
  dsp ← reading texts.protocol_in BadWord left
  to ← agent names dsp.1
  octets ← reading texts.octets_in BadHex to.1
  nothing ← ended octets.1
  Ok (Delivers dsp.0 to.0 octets.0)

-- the kind that the first word tells: what becomes of one agent, or of a pair, and all others
abbrev pub outage_by : List Text → Word → Left → Result Asked Fault
outage_by names w left =
    if same_octets w.text (codes "down") then outage network.Down names left
    else if same_octets w.text (codes "up") then outage network.Up names left
    else if same_octets w.text (codes "refuse") then outage network.Refuse names left
    else if same_octets w.text (codes "willing") then outage network.Willing names left
    else if same_octets w.text (codes "cut") then pair network.Cut names left
    else if same_octets w.text (codes "join") then pair network.Join names left
    else Err (BadWord w.column)

abbrev pub command_by : List Text → Word → Left → Result Asked Fault
command_by names w left =
    if same_octets w.text (codes "at") then request names left
    else if same_octets w.text (codes "pull") then refresh false left
    else if same_octets w.text (codes "push") then refresh true left
    else if same_octets w.text (codes "lose") then lose left
    else if same_octets w.text (codes "deliver") then deliver names left
    else outage_by names w left

abbrev pub command : List Text → Left → Result Asked Fault
command names left = do
  w ← next left
  command_by names w.0 w.1

-- ---- lines

abbrev pub most_octets : ℕ
most_octets = 4096

-- an empty line, or a comment
abbrev pub is_silent : Text → Bool
is_silent line = is_empty line || starts_with nat_eq line (codes "#")

abbrev pub line_of : List Text → Text → Result Asked Fault
line_of names line =
    if nat_lt most_octets (length line) then Err Long
    else if is_silent line then Ok (Runs run.Blank)
    else command names (words_of line)
