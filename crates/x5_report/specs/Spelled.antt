-- What is printed of journals and replies, each agent by the text that its name is there. `Blocks` says that
-- this is what the definitions print by the places of agents.
use Rattle.std.specs.Prelude.{ℕ, Bool, true, false, not, ◌&&◌, ◌||◌, ◌==◌, if◌then◌else◌, List, [], ◌∷◌, ◌++◌, length}
use Rattle.std.specs.Prelude.{map, codes}
use Rattle.std.specs.List.{concat, flat_map, join_with_byte}
use Rattle.std.specs.Fmt.{decimal}
use Rattle.std.specs.declared.option.Option.{Option}
use Rattle.std.specs.declared.option.Option.TheVariants.{None, Some}
use Rattle.x5_model.specs.Words.{sorted, octets_below}
use Rattle.x5_model.specs.Keys.{same_key, key_below}
use Rattle.x5_model.specs.Values.{Text, key_of}
use Rattle.x5_model_text.specs.TypeText.{text_of_type}
use Rattle.x5_model_text.specs.NameText.{text_of_name, text_of_value}
use Rattle.x5_model_run.specs.Journal as journal
use Rattle.x5_model_run.specs.Journal.{is_wide}
use Rattle.x5_model_output.specs.Output as print
use Rattle.x5_model_output.specs.Plain.{plain_sub}
use Rattle.x5_syntax.specs.TypeView.{type_view}
use Rattle.x5_syntax.specs.ValueView.{value_view}
use Rattle.x5_syntax.specs.declared.values.Value.{Value}
use Rattle.x5_ops.specs.AnswerViews.{sub_view}
use Rattle.x5_ops.specs.JournalViews.{fate_view, protocol_view, code_view}
use Rattle.x5_ops.specs.ReferenceViews.{progress_view, kind_view}
use Rattle.x5_ops.specs.declared.journal.Line.{Line}
use Rattle.x5_ops.specs.declared.journal.Line.TheVariants.{Msg, Dis, Raw}
use Rattle.x5_ops.specs.declared.journal.Fate.{Fate}
use Rattle.x5_ops.specs.declared.journal.Journal.{Journal}
use Rattle.x5_ops.specs.declared.journal.Refreshed.{Refreshed}
use Rattle.x5_ops.specs.declared.journal.Refreshed.TheVariants as refreshes
use Rattle.x5_ops.specs.declared.references.AccessPoint.{AccessPoint}
use Rattle.x5_ops.specs.declared.references.Reference.{Reference}
use Rattle.x5_ops.specs.declared.references.TraceItem.{TraceItem}
use Rattle.x5_ops.specs.declared.requests.Attribute.{Attribute}
use Rattle.x5_ops.specs.declared.answers.EntryInfo.{EntryInfo}
use Rattle.x5_ops.specs.declared.answers.Source.{Source}
use Rattle.x5_ops.specs.declared.answers.Sub.{Sub}
use Rattle.x5_ops.specs.declared.answers.Outcome.{Outcome}
use Rattle.x5_ops.specs.declared.answers.Answer.{Answer}
use Rattle.x5_ops.specs.declared.answers.Answer.TheVariants as answers
use Rattle.x5_ops.specs.declared.answers.DirError.{DirError}
use Rattle.x5_ops.specs.declared.answers.DirError.TheVariants as errors
use Rattle.x5_ops.specs.declared.answers.Reply.{Reply}
use Rattle.x5_ops.specs.declared.answers.Reply.TheVariants.{Done, Failed, Refer}
use Rattle.x5_know.specs.Moments.{Start, moment_text}
use Rattle.x5_ops.specs.RefreshViews.{operation_view}
use Rattle.x5_typed.specs.Breaches.{breach_view}
use Rattle.x5_typed.specs.declared.fault.Breach.{Breach}

-- ---- messages

abbrev pub sender_text : Option (List ℕ) → Text
sender_text None = codes "user"
sender_text (Some agent) = agent

-- what the definitions print of a line of their journals, by what is printed of it
abbrev pub printed_message : print.Names → journal.Printed → Text
printed_message names p =
    concat (codes "msg " ∷ print.sender_text names p.sender ∷ codes " " ∷ names.agent p.receiver ∷ codes " "
    ∷ print.operation_word p.operation ∷ codes " " ∷ print.progress_text p.progress ∷ codes " t=" ∷ decimal p.depth
    ∷ codes " " ∷ text_of_name p.target ∷ codes " " ∷ print.fate_word p.fate ∷ codes "\n" ∷ [])

-- a message of a request; other lines aren't some
abbrev pub message_text : Line → Text
message_text (Msg from to operation progress t target fate) =
    concat (codes "msg " ∷ sender_text from ∷ codes " " ∷ to ∷ codes " " ∷ print.operation_word (code_view operation)
    ∷ codes " " ∷ print.progress_text (progress_view progress) ∷ [])
    ++ concat (codes " t=" ∷ decimal t ∷ codes " " ∷ text_of_name target ∷ codes " " ∷ print.fate_word (fate_view fate)
    ∷ codes "\n" ∷ [])
message_text (Dis from to operation agreement fate) = []
message_text (Raw to dsp count fate) = []

-- a message of a refresh
abbrev pub shadow_text : Line → Text
shadow_text (Msg from to operation progress t target fate) = []
shadow_text (Dis from to operation agreement fate) =
    concat (codes "dis " ∷ from ∷ codes " " ∷ to ∷ codes " " ∷ print.shadow_operation (operation_view operation)
    ∷ codes " " ∷ decimal agreement ∷ codes " " ∷ print.fate_word (fate_view fate) ∷ codes "\n" ∷ [])
shadow_text (Raw to dsp count fate) = []

abbrev pub accepted_text : List ℕ → Text
accepted_text agent = concat (codes "accepted " ∷ agent ∷ codes "\n" ∷ [])

abbrev pub journal_text : Journal → Text
journal_text j = flat_map message_text j.lines ++ flat_map accepted_text j.accepted

-- ---- references

abbrev pub access_text : AccessPoint → Text
access_text a = a.agent

abbrev pub agents_text : List AccessPoint → Text
agents_text agents = join_with_byte print.comma (map access_text agents)

abbrev pub reference_text : Reference → Text
reference_text r =
    concat (print.kind_word (kind_view r.kind) ∷ codes " " ∷ text_of_name r.target ∷ codes " "
    ∷ print.progress_text (progress_view r.progress) ∷ codes " " ∷ agents_text r.agents
    ∷ print.exclusions_text r.exclusions ∷ print.mark r.tried (codes "tried") ∷ [])

abbrev pub item_text : TraceItem → Text
item_text i =
    concat (codes " " ∷ i.agent ∷ codes " " ∷ print.progress_text (progress_view i.progress) ∷ codes " "
    ∷ text_of_name i.target ∷ print.mark i.wide (codes "nonSpecific") ∷ [])

-- ---- answers

-- a value behind what is printed of its type
abbrev pub value_text : Text → Value → Text
value_text kind v = concat (codes "attr " ∷ kind ∷ codes "=" ∷ text_of_value (value_view v) ∷ codes "\n" ∷ [])

-- the values of an attribute
abbrev pub attribute_text : Attribute → Text
attribute_text a = flat_map (value_text (text_of_type (type_view a.kind))) a.values

-- an entry whose first line ends so
abbrev pub entry_with : Text → EntryInfo → Text
entry_with copy e =
    concat (codes "entry " ∷ text_of_name e.name ∷ copy ∷ codes "\n" ∷ []) ++ flat_map attribute_text e.attributes

abbrev pub entry_text : EntryInfo → Text
entry_text e = entry_with (print.mark e.copy (codes "copy")) e

-- not as a copy
abbrev pub plain_entry_text : EntryInfo → Text
plain_entry_text e = entry_with [] e

abbrev pub held_at : Start → Option ℕ → Text
held_at start None = codes "now"
held_at start (Some m) = moment_text start m

abbrev pub source_text : Start → Source → Text
source_text start s =
    concat (codes "source " ∷ text_of_name s.context ∷ codes " " ∷ s.agent ∷ codes " " ∷ held_at start s.moment
    ∷ codes "\n" ∷ [])

abbrev pub source_below : Source → Source → Bool
source_below a b = key_below (key_of a.context) (key_of b.context)

abbrev pub sources_text : Start → List Source → Text
sources_text start sources = flat_map (source_text start) (sorted source_below sources)

abbrev pub first_agent : List AccessPoint → List ℕ
first_agent [] = []
first_agent (a ∷ more) = a.agent

-- of one target the specific ones come first, and then the names of the first agents count
abbrev pub agent_below : Reference → Reference → Bool
agent_below a b =
    (not (is_wide (kind_view a.kind)) && is_wide (kind_view b.kind))
    || ((not (is_wide (kind_view a.kind)) || is_wide (kind_view b.kind))
    && octets_below (first_agent a.agents) (first_agent b.agents))

abbrev pub reference_below : Reference → Reference → Bool
reference_below a b =
    key_below (key_of a.target) (key_of b.target)
    || (same_key (key_of a.target) (key_of b.target) && agent_below a b)

abbrev pub unexplored_text : Reference → Text
unexplored_text r = concat (codes "unexplored " ∷ reference_text r ∷ codes "\n" ∷ [])

abbrev pub unexplored_texts : List Reference → Text
unexplored_texts references = flat_map unexplored_text (sorted reference_below references)

abbrev pub outcome_text : Start → List Source → Outcome → Text
outcome_text start sources o =
    concat (sources_text start sources ∷ unexplored_texts o.unexplored ∷ print.limit_line o.limited ∷ [])

abbrev pub answer_text : Start → Answer → Text
answer_text start (answers.Entry entry source) = entry_text entry ++ source_text start source
answer_text start (answers.Match matched copy source) = print.match_line matched copy ++ source_text start source
answer_text start (answers.Listed subs sources outcome) =
    concat (print.count_line (codes "listed") (length subs) ∷ flat_map (λ s. print.sub_line (sub_view s)) subs
    ∷ outcome_text start sources outcome ∷ [])
answer_text start (answers.Found entries sources outcome) =
    concat (print.count_line (codes "found") (length entries) ∷ flat_map entry_text entries
    ∷ outcome_text start sources outcome ∷ [])
answer_text start answers.Changed = codes "changed\n"

abbrev pub reference_after : Option Reference → Text
reference_after None = []
reference_after (Some r) = codes " " ++ reference_text r

abbrev pub item_after : Option TraceItem → Text
item_after None = []
item_after (Some i) = item_text i

abbrev pub error_text : DirError → Text
error_text (errors.Name matched) = concat (codes "error name noSuchObject " ∷ text_of_name matched ∷ codes "\n" ∷ [])
error_text (errors.Attribute problem kind) =
    concat (codes "error attribute " ∷ print.attribute_problem problem ∷ codes " " ∷ text_of_type (type_view kind)
    ∷ codes "\n" ∷ [])
error_text (errors.Update problem) = concat (codes "error update " ∷ print.update_problem problem ∷ codes "\n" ∷ [])
error_text (errors.Service problem reference item) =
    concat (codes "error service " ∷ print.service_problem problem ∷ reference_after reference ∷ item_after item
    ∷ codes "\n" ∷ [])

abbrev pub referral_text : Reference → Text
referral_text r = concat (codes "referral " ∷ reference_text r ∷ codes "\n" ∷ [])

abbrev pub reply_text : Start → Reply → Text
reply_text start (Done answer) = answer_text start answer
reply_text start (Failed error) = error_text error
reply_text start (Refer reference) = referral_text reference

-- on the one tree: without marks of copies and without sources
abbrev pub plain_listed : Start → List Sub → Outcome → Text
plain_listed start subs outcome =
    concat (print.count_line (codes "listed") (length subs)
    ∷ flat_map (λ s. print.sub_line (plain_sub (sub_view s))) subs
    ∷ outcome_text start [] outcome ∷ [])

abbrev pub plain_found : Start → List EntryInfo → Outcome → Text
plain_found start entries outcome =
    concat (print.count_line (codes "found") (length entries) ∷ flat_map plain_entry_text entries
    ∷ outcome_text start [] outcome ∷ [])

abbrev pub plain_answer_text : Start → Answer → Text
plain_answer_text start (answers.Entry entry source) = plain_entry_text entry
plain_answer_text start (answers.Match matched copy source) = print.match_line matched false
plain_answer_text start (answers.Listed subs sources outcome) = plain_listed start subs outcome
plain_answer_text start (answers.Found entries sources outcome) = plain_found start entries outcome
plain_answer_text start answers.Changed = codes "changed\n"

abbrev pub plain_reply_text : Start → Reply → Text
plain_reply_text start (Done answer) = plain_answer_text start answer
plain_reply_text start (Failed error) = reply_text start (Failed error)
plain_reply_text start (Refer reference) = reply_text start (Refer reference)

-- ---- refreshes

abbrev pub done_text : Start → ℕ → Bool → ℕ → ℕ → Bool → Text
done_text start number total stamp count heard =
    concat (codes "refreshed " ∷ decimal number ∷ codes " " ∷ print.extent_word total count ∷ codes " "
    ∷ moment_text start stamp ∷ codes " " ∷ decimal count ∷ print.mark (not heard) (codes "unacknowledged")
    ∷ codes "\n" ∷ [])

abbrev pub held_text : Start → Option ℕ → Text
held_text start None = codes "-"
held_text start (Some m) = moment_text start m

abbrev pub problem_text : Start → ℕ → Option ℕ → Option ℕ → Text
problem_text start problem held given =
    if problem == 5 then concat (codes "error shadow missedPrevious " ∷ held_text start held ∷ codes " "
    ∷ held_text start given ∷ codes "\n" ∷ [])
    else concat (codes "error shadow " ∷ print.shadow_problem problem ∷ codes "\n" ∷ [])

abbrev pub refreshed_text : Start → ℕ → Refreshed → Bool → Text
refreshed_text start number (refreshes.Total m n) heard = done_text start number true m n heard
refreshed_text start number (refreshes.Incremental m n) heard = done_text start number false m n heard
refreshed_text start number (refreshes.Nothing m) heard = done_text start number false m 0 heard
refreshed_text start number refreshes.Lost heard = concat (codes "unrefreshed " ∷ decimal number ∷ codes "\n" ∷ [])
refreshed_text start number (refreshes.Failed problem held given) heard = problem_text start problem held given

-- ---- octets

abbrev pub raw_text : Bool → List ℕ → ℕ → Fate → Text
raw_text dsp to count fate =
    concat (codes "raw " ∷ to ∷ codes " " ∷ print.protocol_word (protocol_view dsp) ∷ codes " " ∷ decimal count
    ∷ codes " " ∷ print.fate_word (fate_view fate) ∷ codes "\n" ∷ [])

-- the first message of a request: whom it goes to, what became of it, and the lines behind it; other lines aren't some
abbrev pub first_message : List Line → Option (List ℕ × Fate × List Line)
first_message [] = None
first_message (Msg from to operation progress t target fate ∷ more) = Some (to, fate, more)
first_message (Dis from to operation agreement fate ∷ more) = first_message more
first_message (Raw to dsp count fate ∷ more) = first_message more

-- so many octets stand for it
abbrev pub handed_for : Start → Bool → ℕ → Option (List ℕ × Fate × List Line) → List (List ℕ) → Reply → Text
handed_for start dsp count None accepted reply = flat_map accepted_text accepted
handed_for start dsp count (Some first) accepted reply =
    concat (raw_text dsp first.0 count first.1 ∷ flat_map message_text first.2 ∷ flat_map accepted_text accepted
    ∷ print.heard_by (fate_view first.1) (reply_text start reply) ∷ [])

abbrev pub handed_text : Start → Bool → ℕ → Journal → Reply → Text
handed_text start dsp count j reply = handed_for start dsp count (first_message j.lines) j.accepted reply

abbrev pub rejected_text : Bool → List ℕ → ℕ → Fate → Breach → Text
rejected_text dsp to count fate breach =
    raw_text dsp to count fate ++ print.heard_by (fate_view fate) (print.reject_line (breach_view breach))
