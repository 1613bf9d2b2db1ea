-- Where all who are named are agents of the world, the texts that are spelled with their names are those that the
-- definitions print by their places.
use Rattle.std.proofs.Common.{◌≡◌, ℕ, Bool, true, false, not, ◌&&◌, ◌||◌, List, [], ◌∷◌, ◌++◌, map, reverse, slice_get, Option, None, Some, refl, sym, ap, ap₂, ◌∙◌, one-add, append-nil, codes}
use Rattle.std.proofs.lemmas.List.Folds.{concat-append, flat_map-map}
use Rattle.std.proofs.lemmas.Grind.{flat_map-append}
use Rattle.std.proofs.lemmas.List.{length-map}
use Rattle.std.specs.Cmp.Lexicographic.{same_text}
use Rattle.std.specs.Option.{option_map}
use Rattle.std.specs.Fmt.{decimal}
use Rattle.std.specs.List.{concat, flat_map, join_with_byte, list_all}
use Rattle.x5_model.specs.Members.{In, here, there}
use Rattle.x5_model.specs.Words.{in_option, sorted, same_octets, octets_below}
use Rattle.x5_model.specs.Keys.{same_key, key_below}
use Rattle.x5_model.specs.Values.{key_of}
use Rattle.x5_model.proofs.Lists.{both_true, and_true, of_all}
use Rattle.x5_model_text.specs.NameText.{text_of_name}
use Rattle.x5_model_run.specs.Network as network
use Rattle.x5_model_run.specs.Journal as journal
use Rattle.x5_model_output.specs.Output as print
use Rattle.x5_model_output.specs.Output.{Names}
use Rattle.x5_model_output.specs.Plain.{plain_info, plain_sub, plain_answer_lines, plain_reply_lines}
use Rattle.x5_ops.specs.AgentNames.{agent_of}
use Rattle.x5_ops.specs.AnswerViews.{shown_view, info_view, sub_view, source_view, outcome_view, answer_view, error_view, reply_view}
use Rattle.x5_ops.specs.JournalViews.{fate_view, protocol_view, code_view, printed_view, messages_view}
use Rattle.x5_ops.specs.ReferenceViews.{progress_view, kind_view, access_view, reference_view, item_view}
use Rattle.x5_ops.specs.declared.journal.Line.{Line}
use Rattle.x5_ops.specs.declared.journal.Line.TheVariants.{Msg, Dis, Raw}
use Rattle.x5_ops.specs.declared.journal.Journal.{Journal}
use Rattle.x5_ops.specs.declared.journal.Fate.{Fate}
use Rattle.x5_ops.specs.declared.references.AccessPoint.{AccessPoint}
use Rattle.x5_ops.specs.declared.references.Reference.{Reference}
use Rattle.x5_ops.specs.declared.references.TraceItem.{TraceItem}
use Rattle.x5_syntax.specs.TypeView.{type_view}
use Rattle.x5_syntax.specs.ValueView.{value_view}
use Rattle.x5_ops.specs.declared.answers.EntryInfo.{EntryInfo}
use Rattle.x5_ops.specs.declared.answers.Source.{Source}
use Rattle.x5_ops.specs.declared.answers.Outcome.{Outcome}
use Rattle.x5_ops.specs.declared.answers.Answer.{Answer}
use Rattle.x5_ops.specs.declared.answers.Answer.TheVariants as answers
use Rattle.x5_ops.specs.declared.answers.DirError.{DirError}
use Rattle.x5_ops.specs.declared.answers.DirError.TheVariants as errors
use Rattle.x5_ops.specs.declared.answers.Reply.{Reply}
use Rattle.x5_ops.specs.declared.answers.Reply.TheVariants.{Done, Failed, Refer}
use Rattle.x5_know.specs.Moments.{Start}
use Rattle.x5_report.specs.Spelled as spelled
use Rattle.x5_report.specs.Views.{names_with, is_known, line_known, journal_known, reference_known, item_known, source_known, sources_known, answer_known, error_known, reply_known}
use Rattle.x5_ops.specs.RefreshViews.{shadow_view, shadows_view, operation_view}
use Rattle.x5_typed.specs.Breaches.{breach_view}
use Rattle.x5_typed.specs.declared.fault.Breach.{Breach}
use Rattle.x5_report.specs.Blocks.{raw_of}
use Rattle.x5_report.proofs.Mapped.{flat_map_same, sorted_map, of_sorted}

-- the name at the place that a name stands for
named : (names : List (List ℕ)) (a : List ℕ) → is_known names a ≡ true → in_option [] (λ n. n) (slice_get names (agent_of names a)) ≡ a
named [] a h = cc
named (n ∷ ns) a h = by (same_octets n a) refl (named ns a)
  where
    by : (b : Bool) → same_octets n a ≡ b → (is_known ns a ≡ true → in_option [] (λ n. n) (slice_get ns (agent_of ns a)) ≡ a) → in_option [] (λ n. n) (slice_get (n ∷ ns) (agent_of (n ∷ ns) a)) ≡ a
    by true e rest = rw e (same_text n a (sym e))
    by false e rest = rw (e, one-add) (rest (rw e at h))

cons_same : {A : Type 0} (a b : A) (xs ys : List A) → a ∷ xs ≡ b ∷ ys → (a ≡ b) × (xs ≡ ys)
cons_same a b xs ys e = (cc, cc)

module _ (names : List (List ℕ)) (start : Start) where
  pub agent_is : (a : List ℕ) → is_known names a ≡ true → (names_with names start).agent (agent_of names a) ≡ a
  agent_is a h = named names a h

  -- ---- messages

  sender_is : (from : Option (List ℕ)) → in_option true (is_known names) from ≡ true → print.sender_text (names_with names start) (option_map (agent_of names) from) ≡ spelled.sender_text from
  sender_is None h = refl
  sender_is (Some a) h = agent_is a h

  message_is : (l : Line) → line_known names l ≡ true → flat_map (spelled.printed_message (names_with names start)) (printed_view names l) ≡ spelled.message_text l
  message_is (Msg from to operation progress t target fate) h =
      let w = both_true (in_option true (is_known names) from) (is_known names to) h in
      append-nil _
      ∙ (λ i. concat (codes "msg " ∷ sender_is from w.0 i ∷ codes " " ∷ agent_is to w.1 i ∷ codes " " ∷ print.operation_word (code_view operation) ∷ codes " " ∷ print.progress_text (progress_view progress) ∷ codes " t=" ∷ decimal t ∷ codes " " ∷ text_of_name target ∷ codes " " ∷ print.fate_word (fate_view fate) ∷ codes "\n" ∷ []))
      ∙ concat-append (codes "msg " ∷ spelled.sender_text from ∷ codes " " ∷ to ∷ codes " " ∷ print.operation_word (code_view operation) ∷ codes " " ∷ print.progress_text (progress_view progress) ∷ []) (codes " t=" ∷ decimal t ∷ codes " " ∷ text_of_name target ∷ codes " " ∷ print.fate_word (fate_view fate) ∷ codes "\n" ∷ [])
  message_is (Dis from to operation agreement fate) h = refl
  message_is (Raw to dsp count fate) h = refl

  messages_are : (lines : List Line) → ((l : Line) → In l lines → line_known names l ≡ true) → flat_map (spelled.printed_message (names_with names start)) (messages_view names lines) ≡ flat_map spelled.message_text lines
  messages_are [] h = refl
  messages_are (l ∷ ls) h =
      flat_map-append (spelled.printed_message (names_with names start)) (printed_view names l) (messages_view names ls)
      ∙ ap₂ ◌++◌ (message_is l (h l here)) (messages_are ls (λ k i. h k (there i)))

  accepted_are : (agents : List (List ℕ)) → ((a : List ℕ) → In a agents → is_known names a ≡ true) → flat_map (print.accepted_line (names_with names start)) (map (agent_of names) agents) ≡ flat_map spelled.accepted_text agents
  accepted_are agents h =
      flat_map-map (print.accepted_line (names_with names start)) (agent_of names) agents
      ∙ flat_map_same _ _ agents (λ a i. ap spelled.accepted_text (agent_is a (h a i)))

  pub journal_is : (j : Journal) (m : journal.Journal) → journal_known names j ≡ true → map journal.printed_line (reverse m.lines) ≡ messages_view names j.lines → reverse m.accepted ≡ map (agent_of names) j.accepted → print.journal_text (names_with names start) m ≡ spelled.journal_text j
  journal_is j m h lines agents =
      let w = both_true (list_all (line_known names) j.lines) (list_all (is_known names) j.accepted) h in
      ap₂ ◌++◌
      (sym (flat_map-map (spelled.printed_message (names_with names start)) journal.printed_line (reverse m.lines))
      ∙ ap (flat_map (spelled.printed_message (names_with names start))) lines
      ∙ messages_are j.lines (λ l i. of_all (line_known names) l j.lines w.0 i))
      (ap (flat_map (print.accepted_line (names_with names start))) agents
      ∙ accepted_are j.accepted (λ a i. of_all (is_known names) a j.accepted w.1 i))

  shadow_is : (l : Line) → line_known names l ≡ true → flat_map (print.shadow_line (names_with names start)) (shadow_view names l) ≡ spelled.shadow_text l
  shadow_is (Msg from to operation progress t target fate) h = refl
  shadow_is (Dis from to operation agreement fate) h =
      let w = both_true (is_known names from) (is_known names to) h in
      append-nil _
      ∙ (λ i. concat (codes "dis " ∷ agent_is from w.0 i ∷ codes " " ∷ agent_is to w.1 i ∷ codes " " ∷ print.shadow_operation (operation_view operation) ∷ codes " " ∷ decimal agreement ∷ codes " " ∷ print.fate_word (fate_view fate) ∷ codes "\n" ∷ []))
  shadow_is (Raw to dsp count fate) h = refl

  shadows_of : (lines : List Line) → ((l : Line) → In l lines → line_known names l ≡ true) → flat_map (print.shadow_line (names_with names start)) (shadows_view names lines) ≡ flat_map spelled.shadow_text lines
  shadows_of [] h = refl
  shadows_of (l ∷ ls) h =
      flat_map-append (print.shadow_line (names_with names start)) (shadow_view names l) (shadows_view names ls)
      ∙ ap₂ ◌++◌ (shadow_is l (h l here)) (shadows_of ls (λ k i. h k (there i)))

  pub shadows_are : (j : Journal) → journal_known names j ≡ true → flat_map (print.shadow_line (names_with names start)) (shadows_view names j.lines) ≡ flat_map spelled.shadow_text j.lines
  shadows_are j h =
      let w = both_true (list_all (line_known names) j.lines) (list_all (is_known names) j.accepted) h in
      shadows_of j.lines (λ l i. of_all (line_known names) l j.lines w.0 i)

  -- ---- references

  agents_are : (agents : List AccessPoint) → list_all (λ a. is_known names a.agent) agents ≡ true → map (names_with names start).agent (map (access_view names) agents) ≡ map spelled.access_text agents
  agents_are [] h = refl
  agents_are (a ∷ more) h =
      let w = both_true (is_known names a.agent) (list_all (λ a. is_known names a.agent) more) h in
      ap₂ ◌∷◌ (agent_is a.agent w.0) (agents_are more w.1)

  reference_is : (r : Reference) → reference_known names r ≡ true → print.reference_text (names_with names start) (reference_view names r) ≡ spelled.reference_text r
  reference_is r h =
      λ i. concat (print.kind_word (kind_view r.kind) ∷ codes " " ∷ text_of_name r.target ∷ codes " " ∷ print.progress_text (progress_view r.progress) ∷ codes " " ∷ join_with_byte print.comma (agents_are r.agents h i) ∷ print.exclusions_text r.exclusions ∷ print.mark r.tried (codes "tried") ∷ [])

  item_is : (t : TraceItem) → item_known names t ≡ true → print.after_item (names_with names start) (Some (item_view names t)) ≡ spelled.item_text t
  item_is t h =
      λ i. concat (codes " " ∷ agent_is t.agent h i ∷ codes " " ∷ print.progress_text (progress_view t.progress) ∷ codes " " ∷ text_of_name t.target ∷ print.mark t.wide (codes "nonSpecific") ∷ [])

  -- ---- answers

  moment_is : (m : Option ℕ) → print.moment_text (names_with names start) m ≡ spelled.held_at start m
  moment_is None = refl
  moment_is (Some m) = refl

  source_is : (s : Source) → source_known names s ≡ true → print.source_line (names_with names start) (source_view names s) ≡ spelled.source_text start s
  source_is s h =
      λ i. concat (codes "source " ∷ text_of_name s.context ∷ codes " " ∷ agent_is s.agent h i ∷ codes " " ∷ moment_is s.moment i ∷ codes "\n" ∷ [])

  sources_are : (sources : List Source) → list_all (source_known names) sources ≡ true → print.source_lines (names_with names start) (map (source_view names) sources) ≡ spelled.sources_text start sources
  sources_are sources h =
      ap (flat_map (print.source_line (names_with names start))) (sorted_map (source_view names) spelled.source_below print.source_below sources (λ x y i j. refl))
      ∙ flat_map-map (print.source_line (names_with names start)) (source_view names) (sorted spelled.source_below sources)
      ∙ flat_map_same _ _ (sorted spelled.source_below sources) (λ s i. source_is s (of_all (source_known names) s sources h (of_sorted spelled.source_below s sources i)))

  first_with : (r : Reference) (agents : List AccessPoint) → list_all (λ a. is_known names a.agent) agents ≡ true → print.first_name (names_with names start) (record (reference_view names r) { agents = map (access_view names) agents }) ≡ spelled.first_agent agents
  first_with r [] h = refl
  first_with r (a ∷ more) h = agent_is a.agent (both_true (is_known names a.agent) (list_all (λ a. is_known names a.agent) more) h).0

  below_is : (a b : Reference) → reference_known names a ≡ true → reference_known names b ≡ true → print.reference_below (names_with names start) (reference_view names a) (reference_view names b) ≡ spelled.reference_below a b
  below_is a b g h =
      λ i. key_below (key_of a.target) (key_of b.target)
      || (same_key (key_of a.target) (key_of b.target)
      && ((not (journal.is_wide (kind_view a.kind)) && journal.is_wide (kind_view b.kind))
      || ((not (journal.is_wide (kind_view a.kind)) || journal.is_wide (kind_view b.kind)) && octets_below (first_with a a.agents g i) (first_with b b.agents h i))))

  unexplored_are : (references : List Reference) → list_all (reference_known names) references ≡ true → flat_map (print.unexplored_line (names_with names start)) (sorted (print.reference_below (names_with names start)) (map (reference_view names) references)) ≡ spelled.unexplored_texts references
  unexplored_are references h =
      ap (flat_map (print.unexplored_line (names_with names start))) (sorted_map (reference_view names) spelled.reference_below (print.reference_below (names_with names start)) references (λ x y i j. below_is x y (of_all (reference_known names) x references h i) (of_all (reference_known names) y references h j)))
      ∙ flat_map-map (print.unexplored_line (names_with names start)) (reference_view names) (sorted spelled.reference_below references)
      ∙ flat_map_same _ _ (sorted spelled.reference_below references)
      (λ r i. λ k. concat (codes "unexplored " ∷ reference_is r (of_all (reference_known names) r references h (of_sorted spelled.reference_below r references i)) k ∷ codes "\n" ∷ []))

  outcome_is : (sources : List Source) (o : Outcome) → sources_known names sources o ≡ true → print.outcome_lines (names_with names start) (map (source_view names) sources) (outcome_view names o) ≡ spelled.outcome_text start sources o
  outcome_is sources o h =
      let w = both_true (list_all (source_known names) sources) (list_all (reference_known names) o.unexplored) h in
      λ i. concat (sources_are sources w.0 i ∷ unexplored_are o.unexplored w.1 i ∷ print.limit_line o.limited ∷ [])

  entry_with_is : (e : EntryInfo) (copy : Bool) → print.entry_lines (record (info_view e) { copy = copy }) ≡ spelled.entry_with (print.mark copy (codes "copy")) e
  entry_with_is e copy =
      ap (λ t. concat (codes "entry " ∷ text_of_name e.name ∷ print.mark copy (codes "copy") ∷ codes "\n" ∷ []) ++ t)
      (flat_map-map print.attribute_lines shown_view e.attributes
      ∙ flat_map_same _ _ e.attributes (λ a i. flat_map-map (print.attribute_line (type_view a.kind)) value_view a.values))

  entry_is : (e : EntryInfo) → print.entry_lines (info_view e) ≡ spelled.entry_text e
  entry_is e = entry_with_is e e.copy

  answer_is : (a : Answer) → answer_known names a ≡ true → print.answer_lines (names_with names start) (answer_view names a) ≡ spelled.answer_text start a
  answer_is (answers.Entry entry source) h = ap₂ ◌++◌ (entry_is entry) (source_is source h)
  answer_is (answers.Match matched copy source) h = ap (λ t. print.match_line matched copy ++ t) (source_is source h)
  answer_is (answers.Listed subs sources outcome) h =
      λ i. concat (print.count_line (codes "listed") (length-map subs sub_view i) ∷ flat_map-map print.sub_line sub_view subs i ∷ outcome_is sources outcome h i ∷ [])
  answer_is (answers.Found entries sources outcome) h =
      λ i. concat (print.count_line (codes "found") (length-map entries info_view i) ∷ (flat_map-map print.entry_lines info_view entries ∙ flat_map_same _ _ entries (λ e k. entry_is e)) i ∷ outcome_is sources outcome h i ∷ [])
  answer_is answers.Changed h = refl

  reference_after_is : (o : Option Reference) → in_option true (reference_known names) o ≡ true → print.after_reference (names_with names start) (option_map (reference_view names) o) ≡ spelled.reference_after o
  reference_after_is None h = refl
  reference_after_is (Some r) h = ap (λ t. codes " " ++ t) (reference_is r h)

  item_after_is : (o : Option TraceItem) → in_option true (item_known names) o ≡ true → print.after_item (names_with names start) (option_map (item_view names) o) ≡ spelled.item_after o
  item_after_is None h = refl
  item_after_is (Some t) h = item_is t h

  error_is : (e : DirError) → error_known names e ≡ true → print.error_line (names_with names start) (error_view names e) ≡ spelled.error_text e
  error_is (errors.Name matched) h = refl
  error_is (errors.Attribute problem kind) h = refl
  error_is (errors.Update problem) h = refl
  error_is (errors.Service problem reference item) h =
      let w = both_true (in_option true (reference_known names) reference) (in_option true (item_known names) item) h in
      λ i. concat (codes "error service " ∷ print.service_problem problem ∷ reference_after_is reference w.0 i ∷ item_after_is item w.1 i ∷ codes "\n" ∷ [])

  plain_answer_is : (a : Answer) → answer_known names a ≡ true → plain_answer_lines (names_with names start) (answer_view names a) ≡ spelled.plain_answer_text start a
  plain_answer_is (answers.Entry entry source) h = entry_with_is entry false
  plain_answer_is (answers.Match matched copy source) h = refl
  plain_answer_is (answers.Listed subs sources outcome) h =
      let w = both_true (list_all (source_known names) sources) (list_all (reference_known names) outcome.unexplored) h in
      λ i. concat (print.count_line (codes "listed") ((length-map (map sub_view subs) plain_sub ∙ length-map subs sub_view) i)
      ∷ (flat_map-map print.sub_line plain_sub (map sub_view subs) ∙ flat_map-map (λ s. print.sub_line (plain_sub s)) sub_view subs) i
      ∷ outcome_is [] outcome (and_true true (list_all (reference_known names) outcome.unexplored) refl w.1) i ∷ [])
  plain_answer_is (answers.Found entries sources outcome) h =
      let w = both_true (list_all (source_known names) sources) (list_all (reference_known names) outcome.unexplored) h in
      λ i. concat (print.count_line (codes "found") ((length-map (map info_view entries) plain_info ∙ length-map entries info_view) i)
      ∷ (flat_map-map print.entry_lines plain_info (map info_view entries) ∙ flat_map-map (λ e. print.entry_lines (plain_info e)) info_view entries ∙ flat_map_same _ _ entries (λ e k. entry_with_is e false)) i
      ∷ outcome_is [] outcome (and_true true (list_all (reference_known names) outcome.unexplored) refl w.1) i ∷ [])
  plain_answer_is answers.Changed h = refl

  pub plain_reply_is : (r : Reply) → reply_known names r ≡ true → plain_reply_lines (names_with names start) (reply_view names r) ≡ spelled.plain_reply_text start r
  plain_reply_is (Done answer) h = plain_answer_is answer h
  plain_reply_is (Failed error) h = error_is error h
  plain_reply_is (Refer reference) h = λ i. concat (codes "referral " ∷ reference_is reference h i ∷ codes "\n" ∷ [])

  pub reply_is : (r : Reply) → reply_known names r ≡ true → print.reply_lines (names_with names start) (reply_view names r) ≡ spelled.reply_text start r
  reply_is (Done answer) h = answer_is answer h
  reply_is (Failed error) h = error_is error h
  reply_is (Refer reference) h = λ i. concat (codes "referral " ∷ reference_is reference h i ∷ codes "\n" ∷ [])

  -- ---- octets

  raw_is : (dsp : Bool) (to : List ℕ) (count : ℕ) (fate : Fate) (to' : ℕ) (fate' : network.Fate) → is_known names to ≡ true → to' ≡ agent_of names to → fate' ≡ fate_view fate → print.raw_line (names_with names start) (record { protocol = protocol_view dsp; receiver = to'; count = count; fate = fate' }) ≡ spelled.raw_text dsp to count fate
  raw_is dsp to count fate to' fate' h a f =
      λ i. concat (codes "raw " ∷ (ap (names_with names start).agent a ∙ agent_is to h) i ∷ codes " " ∷ print.protocol_word (protocol_view dsp) ∷ codes " " ∷ decimal count ∷ codes " " ∷ print.fate_word (f i) ∷ codes "\n" ∷ [])

  -- the first message that is printed stands for the octets
  module _ (dsp : Bool) (count : ℕ) (agents : List ℕ) (accepted : List (List ℕ)) (reply : Reply) where
    handed_as : (ls : List journal.Line) (lines : List Line) → flat_map (print.accepted_line (names_with names start)) agents ≡ flat_map spelled.accepted_text accepted → reply_known names reply ≡ true → ((l : Line) → In l lines → line_known names l ≡ true) → map journal.printed_line ls ≡ messages_view names lines → print.handed_text (names_with names start) (protocol_view dsp) count ls agents (reply_view names reply) ≡ spelled.handed_for start dsp count (spelled.first_message lines) accepted reply
    handed_as [] [] e r h same = e
    handed_as (l ∷ ls) [] e r h same = cc
    handed_as [] (Msg from to operation progress t target fate ∷ more) e r h same = cc
    handed_as (l ∷ ls) (Msg from to operation progress t target fate ∷ more) e r h same =
        let both = cons_same _ _ (map journal.printed_line ls) (messages_view names more) same in
        let known = both_true (in_option true (is_known names) from) (is_known names to) (h (Msg from to operation progress t target fate) here) in
        λ i. concat (raw_is dsp to count fate l.receiver l.fate known.1 (ap (λ (p : journal.Printed). p.receiver) both.0) (ap (λ (p : journal.Printed). p.fate) both.0) i
        ∷ (sym (flat_map-map (spelled.printed_message (names_with names start)) journal.printed_line ls)
        ∙ ap (flat_map (spelled.printed_message (names_with names start))) both.1
        ∙ messages_are more (λ k j. h k (there j))) i
        ∷ e i ∷ print.heard_by (both.0 i).fate (reply_is reply r i) ∷ [])
    handed_as ls (Dis from to operation agreement fate ∷ more) e r h same = handed_as ls more e r (λ k j. h k (there j)) same
    handed_as ls (Raw to dsp n fate ∷ more) e r h same = handed_as ls more e r (λ k j. h k (there j)) same

  pub handed_is : (dsp : Bool) (count : ℕ) (j : Journal) (m : journal.Journal) (reply : Reply) → journal_known names j ≡ true → reply_known names reply ≡ true → map journal.printed_line (reverse m.lines) ≡ messages_view names j.lines → reverse m.accepted ≡ map (agent_of names) j.accepted → print.handed_text (names_with names start) (protocol_view dsp) count (reverse m.lines) (reverse m.accepted) (reply_view names reply) ≡ spelled.handed_text start dsp count j reply
  handed_is dsp count j m reply h r lines agents =
      let w = both_true (list_all (line_known names) j.lines) (list_all (is_known names) j.accepted) h in
      handed_as dsp count (reverse m.accepted) j.accepted reply (reverse m.lines) j.lines
      (ap (flat_map (print.accepted_line (names_with names start))) agents
      ∙ accepted_are j.accepted (λ a i. of_all (is_known names) a j.accepted w.1 i))
      r (λ l i. of_all (line_known names) l j.lines w.0 i) lines

  pub rejected_is : (dsp : Bool) (to : List ℕ) (count : ℕ) (fate : Fate) (breach : Breach) → is_known names to ≡ true → print.rejected_text (names_with names start) (raw_of names dsp to count fate) (breach_view breach) ≡ spelled.rejected_text dsp to count fate breach
  rejected_is dsp to count fate breach h =
      ap (λ t. t ++ print.heard_by (fate_view fate) (print.reject_line (breach_view breach)))
      (raw_is dsp to count fate (agent_of names to) (fate_view fate) h refl refl)
