-- What a run prints (docs/FORMATS.md, output): a line on knowledge, then for each command a block, which begins with
-- the number of its line in the script. Each line is its pieces joined, and ends with LF. All of it is this project's
-- own.
use Rattle.std.specs.Prelude.{◌≡◌, ℕ, ◌+◌, Bool, true, false, ◌&&◌, ◌||◌, not, ◌==◌, if◌then◌else◌, List, [], ◌∷◌, ◌++◌}
use Rattle.std.specs.Prelude.{length, map, reverse, codes}
use Rattle.std.specs.List.{concat, find, flat_map, join_with_byte}
use Rattle.std.specs.Ordering.{is_lt}
use Rattle.std.specs.Fmt.{decimal, signed_decimal}
use Rattle.std.specs.declared.option.Option.{Option}
use Rattle.std.specs.declared.option.Option.TheVariants.{None, Some}
use Rattle.x5_model.specs.Words.{in_option, sorted, octets_below}
use Rattle.x5_model.specs.Keys.{same_key, key_below, rdn_cmp}
use Rattle.x5_model.specs.Values.{Text, TypeRef, Value, Rdn, key_of, key_of_rdn}
use Rattle.x5_model.specs.References.{Progress, Start, Next, Done, RefType, Superior, Subordinate, Cross, NonSpecific}
use Rattle.x5_model.specs.References.{Supplier, Own, Reference, TraceItem}
use Rattle.x5_model.specs.Answers.{Shown, EntryInfo, Sub, Source, Outcome, Answer, EntryFound, Matched, Listed, Found}
use Rattle.x5_model.specs.Answers.{Changed, DirError, NoSuchObject, AttributeProblem, UpdateProblem, ServiceProblem}
use Rattle.x5_model.specs.Answers.{Reply, Answered, Failed, Referred}
use Rattle.x5_model_tree.specs.World.{World}
use Rattle.x5_model_tree.specs.Masters.{agent_at}
use Rattle.x5_model_tree.specs.Consistent.{Printed, AgentPrinted, NamePrinted, AgreementPrinted, Inconsistency}
use Rattle.x5_model_tree.specs.Consistent.{first_breach}
use Rattle.x5_model_octets.specs.Faults.{Fault, Truncated, BadLength, BadTag, BadContent, TooDeep}
use Rattle.x5_model_octets.specs.Breaches.{Breach, Ber, Unrecognised}
use Rattle.x5_model_run.specs.Network.{Fate, Lost, NoReply, Sent}
use Rattle.x5_model_run.specs.Journal.{Line, Journal, depth, operation_of, is_wide}
use Rattle.x5_model_run.specs.History.{Refreshed, Did}
use Rattle.x5_model_run.specs.Refresh as refresh
use Rattle.x5_model_run.specs.Refresh.{ShadowOperation, RequestShadowUpdate, UpdateShadow, CoordinateShadowUpdate}
use Rattle.x5_model_run.specs.Refresh.{ShadowLine, RefreshOutcome, Unheard, Problem, Missed, NotConsistent}
use Rattle.x5_model_run.specs.Refresh.{RefreshBlock}
use Rattle.x5_model_run.specs.Run.{Protocol, Dap, Dsp, Command, Updates, Raw, Block, Silent, Set, Replies, Refreshing}
use Rattle.x5_model_run.specs.Run.{Handed, Rejected}
use Rattle.x5_model_run.specs.Run.{Judge, IsRun}
use Rattle.x5_model_text.specs.TypeText.{text_of_type}
use Rattle.x5_model_text.specs.NameText.{text_of_name, text_of_rdn, text_of_value}

-- how agents, by their places, and moments are written
pub record Names : Type 0 where
  pub agent : ℕ → Text
  pub moment : ℕ → Text

-- the agents' names, as the world has them
abbrev pub names_of : World → (ℕ → Text) → Names
names_of w moment = record { agent = λ a. in_option [] (λ x. x.name) (agent_at w a); moment = moment }

-- ---- words

-- words by numbers: a number that a table lacks has none
abbrev pub word_at : List (ℕ × Text) → ℕ → Text
word_at words n = in_option [] (λ p. p.1) (find (λ p. p.0 == n) words)

-- operations, by their words in a script
abbrev pub operation_words : List (ℕ × Text)
operation_words =
    (1, codes "read")
    ∷ (2, codes "compare")
    ∷ (4, codes "list")
    ∷ (5, codes "search")
    ∷ (6, codes "add")
    ∷ (7, codes "remove")
    ∷ (8, codes "modify")
    ∷ (9, codes "move")
    ∷ []

abbrev pub operation_word : ℕ → Text
operation_word n = word_at operation_words n

abbrev pub progress_text : Progress → Text
progress_text Start = codes "start"
progress_text (Next k) = concat (codes "next=" ∷ decimal k ∷ [])
progress_text Done = codes "done"

abbrev pub fate_word : Fate → Text
fate_word Lost = codes "lost"
fate_word NoReply = codes "noreply"
fate_word Sent = codes "sent"

abbrev pub kind_word : RefType → Text
kind_word Superior = codes "superior"
kind_word Subordinate = codes "subordinate"
kind_word Cross = codes "cross"
kind_word NonSpecific = codes "nonSpecific"
kind_word Supplier = codes "supplier"
kind_word Own = codes "self"

-- problems of attributes, updates and the service (X.511, sections 12.4, 12.9 and 12.8) and of shadowing (X.525: shadow
-- error); their numbers are this project's own
abbrev pub attribute_problems : List (ℕ × Text)
attribute_problems =
    (1, codes "noSuchAttributeOrValue")
    ∷ (2, codes "invalidAttributeSyntax")
    ∷ (3, codes "undefinedAttributeType")
    ∷ (4, codes "inappropriateMatching")
    ∷ (5, codes "constraintViolation")
    ∷ (6, codes "attributeOrValueAlreadyExists")
    ∷ []

abbrev pub attribute_problem : ℕ → Text
attribute_problem n = word_at attribute_problems n

abbrev pub update_problems : List (ℕ × Text)
update_problems =
    (1, codes "namingViolation")
    ∷ (2, codes "objectClassViolation")
    ∷ (3, codes "notAllowedOnNonLeaf")
    ∷ (4, codes "notAllowedOnRDN")
    ∷ (5, codes "entryAlreadyExists")
    ∷ (6, codes "affectsMultipleDSAs")
    ∷ (7, codes "objectClassModificationProhibited")
    ∷ []

abbrev pub update_problem : ℕ → Text
update_problem n = word_at update_problems n

abbrev pub service_problems : List (ℕ × Text)
service_problems =
    (1, codes "busy")
    ∷ (2, codes "unavailable")
    ∷ (3, codes "unwillingToPerform")
    ∷ (4, codes "chainingRequired")
    ∷ (5, codes "unableToProceed")
    ∷ (6, codes "invalidReference")
    ∷ (7, codes "timeLimitExceeded")
    ∷ (8, codes "administrativeLimitExceeded")
    ∷ (9, codes "loopDetected")
    ∷ (10, codes "unavailableCriticalExtension")
    ∷ (11, codes "outOfScope")
    ∷ (12, codes "ditError")
    ∷ []

abbrev pub service_problem : ℕ → Text
service_problem n = word_at service_problems n

abbrev pub shadow_problems : List (ℕ × Text)
shadow_problems =
    (1, codes "invalidAgreementID")
    ∷ (2, codes "inactiveAgreement")
    ∷ (3, codes "invalidInformationReceived")
    ∷ (4, codes "unsupportedStrategy")
    ∷ (5, codes "missedPrevious")
    ∷ (6, codes "fullUpdateRequired")
    ∷ (7, codes "unwillingToPerform")
    ∷ (8, codes "unsuitableTiming")
    ∷ (9, codes "updateAlreadyReceived")
    ∷ (10, codes "invalidSequencing")
    ∷ (11, codes "insufficientResources")
    ∷ []

abbrev pub shadow_problem : ℕ → Text
shadow_problem n = word_at shadow_problems n

abbrev pub shadow_operation : ShadowOperation → Text
shadow_operation RequestShadowUpdate = codes "requestShadowUpdate"
shadow_operation UpdateShadow = codes "updateShadow"
shadow_operation CoordinateShadowUpdate = codes "coordinateShadowUpdate"

-- a word at the end of a line, where the test holds
abbrev pub mark : Bool → Text → Text
mark true word = codes " " ++ word
mark false word = []

abbrev pub comma : ℕ
comma = 44

-- ---- knowledge

abbrev pub printed_text : Names → Printed → Text
printed_text names (AgentPrinted a) = names.agent a
printed_text names (NamePrinted n) = text_of_name n
printed_text names (AgreementPrinted k) = decimal k

abbrev pub knowledge_line : Names → Option Inconsistency → Text
knowledge_line names None = codes "knowledge consistent\n"
knowledge_line names (Some b) =
    concat (codes "knowledge inconsistent C" ∷ decimal b.condition ∷ codes " " ∷ printed_text names b.first ∷ codes " "
    ∷ printed_text names b.second ∷ codes "\n" ∷ [])

-- ---- messages

abbrev pub sender_text : Names → Option ℕ → Text
sender_text names None = codes "user"
sender_text names (Some a) = names.agent a

abbrev pub message_line : Names → Line → Text
message_line names l =
    concat (codes "msg " ∷ sender_text names l.sender ∷ codes " " ∷ names.agent l.receiver ∷ codes " "
    ∷ operation_word (operation_of l.message.request.body) ∷ codes " " ∷ progress_text l.message.progress
    ∷ codes " t=" ∷ decimal (depth l) ∷ codes " " ∷ text_of_name l.message.target ∷ codes " " ∷ fate_word l.fate
    ∷ codes "\n" ∷ [])

abbrev pub accepted_line : Names → ℕ → Text
accepted_line names a = concat (codes "accepted " ∷ names.agent a ∷ codes "\n" ∷ [])

abbrev pub journal_text : Names → Journal → Text
journal_text names j =
    flat_map (message_line names) (reverse j.lines) ++ flat_map (accepted_line names) (reverse j.accepted)

-- ---- references

abbrev pub agents_text : Names → List ℕ → Text
agents_text names agents = join_with_byte comma (map names.agent agents)

-- exclusions by their keys, in whatever order the message has them
abbrev pub rdn_below : Rdn → Rdn → Bool
rdn_below a b = is_lt (rdn_cmp (key_of_rdn a) (key_of_rdn b))

abbrev pub exclusions_text : List Rdn → Text
exclusions_text [] = []
exclusions_text (r ∷ rs) = codes " less " ++ join_with_byte comma (map text_of_rdn (sorted rdn_below (r ∷ rs)))

abbrev pub reference_text : Names → Reference → Text
reference_text names r =
    concat (kind_word r.kind ∷ codes " " ∷ text_of_name r.target ∷ codes " " ∷ progress_text r.progress ∷ codes " "
    ∷ agents_text names r.agents ∷ exclusions_text r.exclusions ∷ mark r.tried (codes "tried") ∷ [])

-- ---- answers

abbrev pub attribute_line : TypeRef → Value → Text
attribute_line kind v = concat (codes "attr " ∷ text_of_type kind ∷ codes "=" ∷ text_of_value v ∷ codes "\n" ∷ [])

abbrev pub attribute_lines : Shown → Text
attribute_lines a = flat_map (attribute_line a.kind) a.values

abbrev pub entry_lines : EntryInfo → Text
entry_lines info =
    concat (codes "entry " ∷ text_of_name info.name ∷ mark info.copy (codes "copy") ∷ codes "\n" ∷ [])
    ++ flat_map attribute_lines info.attributes

abbrev pub truth_word : Bool → Text
truth_word true = codes "true"
truth_word false = codes "false"

abbrev pub match_line : Bool → Bool → Text
match_line equal copy = concat (codes "match " ∷ truth_word equal ∷ mark copy (codes "copy") ∷ codes "\n" ∷ [])

abbrev pub sub_line : Sub → Text
sub_line s = concat (codes "sub " ∷ text_of_rdn s.rdn ∷ mark s.copy (codes "copy") ∷ codes "\n" ∷ [])

abbrev pub count_line : Text → ℕ → Text
count_line word n = concat (word ∷ codes " " ∷ decimal n ∷ codes "\n" ∷ [])

abbrev pub moment_text : Names → Option ℕ → Text
moment_text names None = codes "now"
moment_text names (Some m) = names.moment m

abbrev pub source_line : Names → Source → Text
source_line names s =
    concat (codes "source " ∷ text_of_name s.context ∷ codes " " ∷ names.agent s.agent ∷ codes " "
    ∷ moment_text names s.moment ∷ codes "\n" ∷ [])

-- sources by their contexts
abbrev pub source_below : Source → Source → Bool
source_below a b = key_below (key_of a.context) (key_of b.context)

abbrev pub source_lines : Names → List Source → Text
source_lines names sources = flat_map (source_line names) (sorted source_below sources)

-- unexplored references by target, then the specific ones first, then by the name of the first agent
abbrev pub first_name : Names → Reference → Text
first_name names r = by r.agents
  where
    by : List ℕ → Text
    by [] = []
    by (a ∷ more) = names.agent a

abbrev pub reference_below : Names → Reference → Reference → Bool
reference_below names a b =
    key_below (key_of a.target) (key_of b.target)
    || (same_key (key_of a.target) (key_of b.target)
    && ((not (is_wide a.kind) && is_wide b.kind)
    || ((not (is_wide a.kind) || is_wide b.kind) && octets_below (first_name names a) (first_name names b))))

abbrev pub unexplored_line : Names → Reference → Text
unexplored_line names r = concat (codes "unexplored " ∷ reference_text names r ∷ codes "\n" ∷ [])

abbrev pub limit_line : Bool → Text
limit_line true = codes "limit sizeLimitExceeded\n"
limit_line false = []

abbrev pub outcome_lines : Names → List Source → Outcome → Text
outcome_lines names sources o =
    concat (source_lines names sources ∷ flat_map (unexplored_line names) (sorted (reference_below names) o.unexplored)
    ∷ limit_line o.limited ∷ [])

abbrev pub answer_lines : Names → Answer → Text
answer_lines names (EntryFound info source) = entry_lines info ++ source_line names source
answer_lines names (Matched equal copy source) = match_line equal copy ++ source_line names source
answer_lines names (Listed subs sources o) =
    concat (count_line (codes "listed") (length subs) ∷ flat_map sub_line subs ∷ outcome_lines names sources o ∷ [])
answer_lines names (Found infos sources o) =
    concat (count_line (codes "found") (length infos) ∷ flat_map entry_lines infos ∷ outcome_lines names sources o ∷ [])
answer_lines names Changed = codes "changed\n"

abbrev pub after_reference : Names → Option Reference → Text
after_reference names None = []
after_reference names (Some r) = codes " " ++ reference_text names r

abbrev pub after_item : Names → Option TraceItem → Text
after_item names None = []
after_item names (Some i) =
    concat (codes " " ∷ names.agent i.agent ∷ codes " " ∷ progress_text i.progress ∷ codes " " ∷ text_of_name i.target
    ∷ mark i.wide (codes "nonSpecific") ∷ [])

abbrev pub error_line : Names → DirError → Text
error_line names (NoSuchObject matched) =
    concat (codes "error name noSuchObject " ∷ text_of_name matched ∷ codes "\n" ∷ [])
error_line names (AttributeProblem n kind) =
    concat (codes "error attribute " ∷ attribute_problem n ∷ codes " " ∷ text_of_type kind ∷ codes "\n" ∷ [])
error_line names (UpdateProblem n) = concat (codes "error update " ∷ update_problem n ∷ codes "\n" ∷ [])
error_line names (ServiceProblem n reference item) =
    concat (codes "error service " ∷ service_problem n ∷ after_reference names reference ∷ after_item names item
    ∷ codes "\n" ∷ [])

abbrev pub reply_lines : Names → Reply → Text
reply_lines names (Answered a) = answer_lines names a
reply_lines names (Failed x) = error_line names x
reply_lines names (Referred r) = concat (codes "referral " ∷ reference_text names r ∷ codes "\n" ∷ [])

-- ---- refreshes

abbrev pub shadow_line : Names → ShadowLine → Text
shadow_line names l =
    concat (codes "dis " ∷ names.agent l.sender ∷ codes " " ∷ names.agent l.receiver ∷ codes " "
    ∷ shadow_operation l.operation ∷ codes " " ∷ decimal l.agreement ∷ codes " " ∷ fate_word l.fate ∷ codes "\n"
    ∷ [])

-- an incremental refresh without steps is none; one whose taking wasn't heard of is marked
abbrev pub extent_word : Bool → ℕ → Text
extent_word true count = codes "total"
extent_word false count = if count == 0 then codes "none" else codes "incremental"

abbrev pub refreshed_line : Names → Refreshed → Text
refreshed_line names f =
    concat (codes "refreshed " ∷ decimal f.agreement ∷ codes " " ∷ extent_word f.total f.count ∷ codes " "
    ∷ names.moment f.stamp ∷ codes " " ∷ decimal f.count ∷ mark (not f.acknowledged) (codes "unacknowledged")
    ∷ codes "\n" ∷ [])

abbrev pub held_text : Names → Option ℕ → Text
held_text names None = codes "-"
held_text names (Some m) = names.moment m

abbrev pub refresh_line : Names → ℕ → RefreshOutcome → Text
refresh_line names number (refresh.Done f) = refreshed_line names f
refresh_line names number Unheard = concat (codes "unrefreshed " ∷ decimal number ∷ codes "\n" ∷ [])
refresh_line names number (Problem n) = concat (codes "error shadow " ∷ shadow_problem n ∷ codes "\n" ∷ [])
refresh_line names number (Missed held given) =
    concat (codes "error shadow missedPrevious " ∷ held_text names held ∷ codes " " ∷ held_text names given ∷ codes "\n"
    ∷ [])
refresh_line names number NotConsistent = codes "error shadow inconsistent\n"

abbrev pub number_of : Command → ℕ
number_of (Updates number pushes total) = number
number_of other = 0

-- ---- octets

-- a first fault of octets by its word, and its place (X.690)
abbrev pub fault_word : Fault → Text
fault_word (Truncated at) = codes "truncated"
fault_word (BadLength at) = codes "badLength"
fault_word (BadTag at) = codes "badTag"
fault_word (BadContent at) = codes "badContent"
fault_word (TooDeep at) = codes "tooDeep"

abbrev pub fault_place : Fault → ℕ
fault_place (Truncated at) = at
fault_place (BadLength at) = at
fault_place (BadTag at) = at
fault_place (BadContent at) = at
fault_place (TooDeep at) = at

-- octets on their way to an agent, as a user's message or another agent's (X.519, section 7)
abbrev pub protocol_word : Protocol → Text
protocol_word Dap = codes "dap"
protocol_word Dsp = codes "dsp"

abbrev pub raw_line : Names → Raw → Text
raw_line names l =
    concat (codes "raw " ∷ names.agent l.receiver ∷ codes " " ∷ protocol_word l.protocol ∷ codes " " ∷ decimal l.count
    ∷ codes " " ∷ fate_word l.fate ∷ codes "\n" ∷ [])

abbrev pub reject_line : Breach → Text
reject_line (Ber fault) =
    concat (codes "reject " ∷ fault_word fault ∷ codes " " ∷ decimal (fault_place fault) ∷ codes "\n" ∷ [])
reject_line (Unrecognised code) = concat (codes "reject unrecognised " ∷ signed_decimal code ∷ codes "\n" ∷ [])

-- who handed the octets hears nothing unless they are sent
abbrev pub heard_by : Fate → Text → Text
heard_by Lost text = []
heard_by NoReply text = []
heard_by Sent text = text

-- what was handed over stands for the first message, which it spells
abbrev pub brought : Protocol → ℕ → Line → Raw
brought via count l = record { protocol = via; receiver = l.receiver; count = count; fate = l.fate }

abbrev pub handed_text : Names → Protocol → ℕ → List Line → List ℕ → Reply → Text
handed_text names via count [] accepted reply = flat_map (accepted_line names) accepted
handed_text names via count (l ∷ more) accepted reply =
    concat (raw_line names (brought via count l) ∷ flat_map (message_line names) more
    ∷ flat_map (accepted_line names) accepted ∷ heard_by l.fate (reply_lines names reply) ∷ [])

abbrev pub rejected_text : Names → Raw → Breach → Text
rejected_text names raw breach = raw_line names raw ++ heard_by raw.fate (reject_line breach)

-- ---- blocks

abbrev pub number_line : ℕ → Text
number_line n = concat (codes "#" ∷ decimal n ∷ codes "\n" ∷ [])

-- what is printed for line n: nothing for a comment or an empty line
abbrev pub block_text : Names → ℕ → Command → Block → Text
block_text names n command Silent = []
block_text names n command Set = number_line n ++ codes "set\n"
block_text names n command (Replies j reply) =
    concat (number_line n ∷ journal_text names j ∷ reply_lines names reply ∷ [])
block_text names n command (Refreshing b) =
    concat (number_line n ∷ flat_map (shadow_line names) b.lines ∷ refresh_line names (number_of command) b.outcome
    ∷ [])
block_text names n command (Handed via count j reply) =
    number_line n ++ handed_text names via count (reverse j.lines) (reverse j.accepted) reply
block_text names n command (Rejected raw breach) = number_line n ++ rejected_text names raw breach

abbrev pub blocks_text : Names → ℕ → List Command → List Block → Text
blocks_text names n [] blocks = []
blocks_text names n (c ∷ cs) [] = []
blocks_text names n (c ∷ cs) (b ∷ bs) = block_text names n c b ++ blocks_text names (n + 1) cs bs

-- the whole output of a run over a world
abbrev pub run_text : World → (ℕ → Text) → List Command → List Block → Text
run_text w moment commands blocks =
    knowledge_line (names_of w moment) (first_breach w) ++ blocks_text (names_of w moment) 1 commands blocks

-- The headline of a run over a world, by how its blocks are judged: these octets are the line on knowledge and one
-- block for each command, in order, each judged at the point that the blocks before it lead to. Nothing else is
-- printed.
pub record PrintsRun (judge : Judge) (w : World) (moment : ℕ → Text) (commands : List Command)
    (octets : Text) : Type 0 where
  pub blocks : List Block
  pub past : List Did
  pub runs : IsRun judge w commands blocks past
  pub octets_are : octets ≡ run_text w moment commands blocks
