-- What each kind of printed line adds to the counts: by its first word.
use Rattle.std.proofs.Common.{◌≡◌, ℕ, suc, ◌+◌, Bool, true, false, not, ◌==◌, cond, Option, None, Some, List, [], ◌∷◌, ◌++◌, length, map, refl, codes, arith}
use Rattle.std.specs.Fmt.{decimal, signed_decimal}
use Rattle.std.specs.List.{concat, flat_map, join_with_byte}
use Rattle.x5_model.specs.Words.{sorted}
use Rattle.x5_model.specs.Values.{Text, TypeRef, Value, Rdn}
use Rattle.x5_model.specs.References.{Progress, Start, Next, Done, RefType, Superior, Subordinate, Cross, NonSpecific, Supplier, Own, Reference, TraceItem}
use Rattle.x5_model.specs.Answers.{Shown, EntryInfo, Sub, Source, DirError, NoSuchObject, AttributeProblem, UpdateProblem, ServiceProblem}
use Rattle.x5_model_run.specs.Journal.{Line, depth, operation_of}
use Rattle.x5_model_run.specs.Network.{Fate, Lost, NoReply, Sent}
use Rattle.x5_model_run.specs.History.{Refreshed}
use Rattle.x5_model_run.specs.Refresh.{ShadowOperation, RequestShadowUpdate, UpdateShadow, CoordinateShadowUpdate, ShadowLine}
use Rattle.x5_model_run.specs.Run.{Protocol, Dap, Dsp, Raw}
use Rattle.x5_model_octets.specs.Faults.{Fault, Truncated, BadLength, BadTag, BadContent, TooDeep}
use Rattle.x5_model_octets.specs.Breaches.{Breach, Ber, Unrecognised}
use Rattle.x5_model_text.specs.NameText.{text_of_name, text_of_rdn, text_of_value}
use Rattle.x5_model_text.specs.TypeText.{text_of_type}
use Rattle.x5_model_output.specs.Output.{Names, operation_word, operation_words, progress_text, fate_word, kind_word, attribute_problem, attribute_problems, update_problem, update_problems, service_problem, service_problems, shadow_problem, shadow_problems, shadow_operation, mark, comma, sender_text, message_line, accepted_line, agents_text, rdn_below, exclusions_text, reference_text, attribute_line, attribute_lines, entry_lines, truth_word, match_line, sub_line, count_line, moment_text, source_line, unexplored_line, limit_line, after_reference, after_item, error_line, shadow_line, extent_word, refreshed_line, held_text, fault_word, fault_place, protocol_word, raw_line, reject_line, number_line}
use Rattle.x5_model_output.specs.Summary.{Counts, no_counts}
use Rattle.x5_model_counted.specs.Laws.{AreOneLine}
use Rattle.x5_model_counted.proofs.Texts.{OneLine, joined, all_joined, each_by, word_one, decimal_one, signed_one, type_one, name_one, rdn_one, value_one}
use Rattle.x5_model_counted.proofs.Lines.{Ends, ending, piece, Counted, line_counted, nothing, before_none, each_counted}

-- ---- so many lines of one kind

abbrev pub none_of : ℕ → Counts
none_of n = no_counts

abbrev pub entries_of : ℕ → Counts
entries_of n = record no_counts { entries = n }

abbrev pub subs_of : ℕ → Counts
subs_of n = record no_counts { subs = n }

abbrev pub unexplored_of : ℕ → Counts
unexplored_of n = record no_counts { unexplored = n }

abbrev pub accepted_of : ℕ → Counts
accepted_of n = record no_counts { accepted = n }

one_more : (n : ℕ) → 1 + n ≡ suc n
one_more n = omega arith

pub none_each : {X : Type 0} (f : X → Text) → ((x : X) → Counted (f x) no_counts) → (xs : List X) → Counted (flat_map f xs) no_counts
none_each f h xs = each_counted none_of refl (λ n. refl) f h xs

pub entries_each : {X : Type 0} (f : X → Text) → ((x : X) → Counted (f x) (entries_of 1)) → (xs : List X) → Counted (flat_map f xs) (entries_of (length xs))
entries_each f h xs = each_counted entries_of refl (λ n i. record no_counts { entries = one_more n i }) f h xs

pub subs_each : {X : Type 0} (f : X → Text) → ((x : X) → Counted (f x) (subs_of 1)) → (xs : List X) → Counted (flat_map f xs) (subs_of (length xs))
subs_each f h xs = each_counted subs_of refl (λ n i. record no_counts { subs = one_more n i }) f h xs

pub unexplored_each : {X : Type 0} (f : X → Text) → ((x : X) → Counted (f x) (unexplored_of 1)) → (xs : List X) → Counted (flat_map f xs) (unexplored_of (length xs))
unexplored_each f h xs = each_counted unexplored_of refl (λ n i. record no_counts { unexplored = one_more n i }) f h xs

pub accepted_each : {X : Type 0} (f : X → Text) → ((x : X) → Counted (f x) (accepted_of 1)) → (xs : List X) → Counted (flat_map f xs) (accepted_of (length xs))
accepted_each f h xs = each_counted accepted_of refl (λ n i. record no_counts { accepted = one_more n i }) f h xs

-- ---- words

fate_one : (f : Fate) → OneLine (fate_word f)
fate_one Lost = refl
fate_one NoReply = refl
fate_one Sent = refl

progress_one : (p : Progress) → OneLine (progress_text p)
progress_one Start = refl
progress_one (Next k) = joined (codes "next=") (decimal k ++ []) refl (joined (decimal k) [] (decimal_one k) refl)
progress_one Done = refl

kind_one : (k : RefType) → OneLine (kind_word k)
kind_one Superior = refl
kind_one Subordinate = refl
kind_one Cross = refl
kind_one NonSpecific = refl
kind_one Supplier = refl
kind_one Own = refl

mark_one : (b : Bool) (word : Text) → OneLine word → OneLine (mark b word)
mark_one true word h = joined (codes " ") word refl h
mark_one false word h = refl

truth_one : (b : Bool) → OneLine (truth_word b)
truth_one true = refl
truth_one false = refl

shadow_operation_one : (o : ShadowOperation) → OneLine (shadow_operation o)
shadow_operation_one RequestShadowUpdate = refl
shadow_operation_one UpdateShadow = refl
shadow_operation_one CoordinateShadowUpdate = refl

protocol_one : (p : Protocol) → OneLine (protocol_word p)
protocol_one Dap = refl
protocol_one Dsp = refl

fault_one : (f : Fault) → OneLine (fault_word f)
fault_one (Truncated at) = refl
fault_one (BadLength at) = refl
fault_one (BadTag at) = refl
fault_one (BadContent at) = refl
fault_one (TooDeep at) = refl

extent_one : (total : Bool) (count : ℕ) → OneLine (extent_word total count)
extent_one true count = refl
extent_one false count = by (count == 0)
  where
    by : (b : Bool) → OneLine (cond b (codes "none") (codes "incremental"))
    by true = refl
    by false = refl

-- what stands behind a piece that is followed by others
spaced : (t : Text) → Ends t → Ends (codes " " ++ t)
spaced t e = piece (codes " ") t refl e

-- ---- lines without agents or moments

attribute_counted : (kind : TypeRef) (v : Value) → Counted (attribute_line kind v) no_counts
attribute_counted kind v =
    line_counted (codes "attr ") _ refl (piece (text_of_type kind) _ (type_one kind) (piece (codes "=") _ refl
    (piece (text_of_value v) _ (value_one v) ending)))

-- an entry's own line
abbrev entry_head : EntryInfo → Text
entry_head info = concat (codes "entry " ∷ text_of_name info.name ∷ mark info.copy (codes "copy") ∷ codes "\n" ∷ [])

head_counted : (info : EntryInfo) → Counted (entry_head info) (entries_of 1)
head_counted info =
    line_counted (codes "entry ") _ refl (piece (text_of_name info.name) _ (name_one info.name)
    (piece (mark info.copy (codes "copy")) _ (mark_one info.copy (codes "copy") refl) ending))

pub entry_counted : (info : EntryInfo) → Counted (entry_lines info) (entries_of 1)
entry_counted info =
    before_none (entry_head info) (flat_map attribute_lines info.attributes) (entries_of 1) (head_counted info)
    (none_each attribute_lines (λ (a : Shown). none_each (attribute_line a.kind) (attribute_counted a.kind) a.values) info.attributes)

pub match_counted : (equal copy : Bool) → Counted (match_line equal copy) no_counts
match_counted equal copy =
    line_counted (codes "match ") _ refl (piece (truth_word equal) _ (truth_one equal)
    (piece (mark copy (codes "copy")) _ (mark_one copy (codes "copy") refl) ending))

pub sub_counted : (s : Sub) → Counted (sub_line s) (subs_of 1)
sub_counted s =
    line_counted (codes "sub ") _ refl (piece (text_of_rdn s.rdn) _ (rdn_one s.rdn)
    (piece (mark s.copy (codes "copy")) _ (mark_one s.copy (codes "copy") refl) ending))

pub listed_counted : (n : ℕ) → Counted (count_line (codes "listed") n) no_counts
listed_counted n = line_counted (codes "listed") _ refl (spaced _ (piece (decimal n) _ (decimal_one n) ending))

pub found_counted : (n : ℕ) → Counted (count_line (codes "found") n) no_counts
found_counted n = line_counted (codes "found") _ refl (spaced _ (piece (decimal n) _ (decimal_one n) ending))

pub limit_counted : (b : Bool) → Counted (limit_line b) no_counts
limit_counted true = line_counted (codes "limit sizeLimitExceeded") (codes "\n") refl ending
limit_counted false = nothing

pub changed_counted : Counted (codes "changed\n") no_counts
changed_counted = line_counted (codes "changed") (codes "\n") refl ending

pub set_counted : Counted (codes "set\n") no_counts
set_counted = line_counted (codes "set") (codes "\n") refl ending

pub number_counted : (n : ℕ) → Counted (number_line n) no_counts
number_counted n = line_counted (codes "#") _ refl (piece (decimal n) _ (decimal_one n) ending)

pub unrefreshed_counted : (n : ℕ) → Counted (concat (codes "unrefreshed " ∷ decimal n ∷ codes "\n" ∷ [])) no_counts
unrefreshed_counted n = line_counted (codes "unrefreshed ") _ refl (piece (decimal n) _ (decimal_one n) ending)

pub reject_counted : (b : Breach) → Counted (reject_line b) no_counts
reject_counted (Ber fault) =
    line_counted (codes "reject ") _ refl (piece (fault_word fault) _ (fault_one fault) (spaced _
    (piece (decimal (fault_place fault)) _ (decimal_one (fault_place fault)) ending)))
reject_counted (Unrecognised code) =
    line_counted (codes "reject unrecognised ") _ refl (piece (signed_decimal code) _ (signed_one code) ending)

-- ---- lines that name agents or moments

module _ (names : Names) (plain : AreOneLine names) where
  sender_one : (o : Option ℕ) → OneLine (sender_text names o)
  sender_one None = refl
  sender_one (Some a) = plain.agents a

  pub message_counted : (l : Line) → Counted (message_line names l) no_counts
  message_counted l =
      line_counted (codes "msg ") _ refl (piece (sender_text names l.sender) _ (sender_one l.sender) (spaced _
      (piece (names.agent l.receiver) _ (plain.agents l.receiver) (spaced _
      (piece (operation_word (operation_of l.message.request.body)) _ (word_one operation_words refl (operation_of l.message.request.body)) (spaced _
      (piece (progress_text l.message.progress) _ (progress_one l.message.progress) (piece (codes " t=") _ refl
      (piece (decimal (depth l)) _ (decimal_one (depth l)) (spaced _
      (piece (text_of_name l.message.target) _ (name_one l.message.target) (spaced _
      (piece (fate_word l.fate) _ (fate_one l.fate) ending)))))))))))))

  pub agent_counted : (a : ℕ) → Counted (accepted_line names a) (accepted_of 1)
  agent_counted a = line_counted (codes "accepted ") _ refl (piece (names.agent a) _ (plain.agents a) ending)

  exclusions_one : (rs : List Rdn) → OneLine (exclusions_text rs)
  exclusions_one [] = refl
  exclusions_one (r ∷ rs) =
      joined (codes " less ") (join_with_byte comma (map text_of_rdn (sorted rdn_below (r ∷ rs)))) refl
      (each_by text_of_rdn rdn_one comma refl (sorted rdn_below (r ∷ rs)))

  reference_one : (r : Reference) → OneLine (reference_text names r)
  reference_one r =
      all_joined (kind_word r.kind ∷ codes " " ∷ text_of_name r.target ∷ codes " " ∷ progress_text r.progress ∷ codes " "
      ∷ agents_text names r.agents ∷ exclusions_text r.exclusions ∷ mark r.tried (codes "tried") ∷ []) (
        kind_one r.kind,
        (
          refl,
          (
            name_one r.target,
            (
              refl,
              (
                progress_one r.progress,
                (
                  refl,
                  (
                    each_by names.agent plain.agents comma refl r.agents,
                    (
                      exclusions_one r.exclusions,
                      (mark_one r.tried (codes "tried") refl, tt),
                    ),
                  ),
                ),
              ),
            ),
          ),
        ),
      )

  moment_one : (o : Option ℕ) → OneLine (moment_text names o)
  moment_one None = refl
  moment_one (Some m) = plain.moments m

  pub source_counted : (s : Source) → Counted (source_line names s) no_counts
  source_counted s =
      line_counted (codes "source ") _ refl (piece (text_of_name s.context) _ (name_one s.context) (spaced _
      (piece (names.agent s.agent) _ (plain.agents s.agent) (spaced _
      (piece (moment_text names s.moment) _ (moment_one s.moment) ending)))))

  pub unexplored_counted : (r : Reference) → Counted (unexplored_line names r) (unexplored_of 1)
  unexplored_counted r = line_counted (codes "unexplored ") _ refl (piece (reference_text names r) _ (reference_one r) ending)

  pub referral_counted : (r : Reference) → Counted (concat (codes "referral " ∷ reference_text names r ∷ codes "\n" ∷ [])) (record no_counts { referrals = 1 })
  referral_counted r = line_counted (codes "referral ") _ refl (piece (reference_text names r) _ (reference_one r) ending)

  after_reference_one : (o : Option Reference) → OneLine (after_reference names o)
  after_reference_one None = refl
  after_reference_one (Some r) = joined (codes " ") (reference_text names r) refl (reference_one r)

  after_item_one : (o : Option TraceItem) → OneLine (after_item names o)
  after_item_one None = refl
  after_item_one (Some i) =
      all_joined (codes " " ∷ names.agent i.agent ∷ codes " " ∷ progress_text i.progress ∷ codes " " ∷ text_of_name i.target
      ∷ mark i.wide (codes "nonSpecific") ∷ []) (
        refl,
        (
          plain.agents i.agent,
          (
            refl,
            (
              progress_one i.progress,
              (
                refl,
                (
                  name_one i.target,
                  (mark_one i.wide (codes "nonSpecific") refl, tt),
                ),
              ),
            ),
          ),
        ),
      )

  pub error_counted : (x : DirError) → Counted (error_line names x) (record no_counts { errors = 1 })
  error_counted (NoSuchObject matched) =
      line_counted (codes "error name noSuchObject ") _ refl (piece (text_of_name matched) _ (name_one matched) ending)
  error_counted (AttributeProblem n kind) =
      line_counted (codes "error attribute ") _ refl (piece (attribute_problem n) _ (word_one attribute_problems refl n) (spaced _
      (piece (text_of_type kind) _ (type_one kind) ending)))
  error_counted (UpdateProblem n) =
      line_counted (codes "error update ") _ refl (piece (update_problem n) _ (word_one update_problems refl n) ending)
  error_counted (ServiceProblem n reference item) =
      line_counted (codes "error service ") _ refl (piece (service_problem n) _ (word_one service_problems refl n)
      (piece (after_reference names reference) _ (after_reference_one reference)
      (piece (after_item names item) _ (after_item_one item) ending)))

  pub shadow_counted : (l : ShadowLine) → Counted (shadow_line names l) no_counts
  shadow_counted l =
      line_counted (codes "dis ") _ refl (piece (names.agent l.sender) _ (plain.agents l.sender) (spaced _
      (piece (names.agent l.receiver) _ (plain.agents l.receiver) (spaced _
      (piece (shadow_operation l.operation) _ (shadow_operation_one l.operation) (spaced _
      (piece (decimal l.agreement) _ (decimal_one l.agreement) (spaced _
      (piece (fate_word l.fate) _ (fate_one l.fate) ending)))))))))

  pub refreshed_counted : (f : Refreshed) → Counted (refreshed_line names f) (record no_counts { refreshed = 1 })
  refreshed_counted f =
      line_counted (codes "refreshed ") _ refl (piece (decimal f.agreement) _ (decimal_one f.agreement) (spaced _
      (piece (extent_word f.total f.count) _ (extent_one f.total f.count) (spaced _
      (piece (names.moment f.stamp) _ (plain.moments f.stamp) (spaced _
      (piece (decimal f.count) _ (decimal_one f.count)
      (piece (mark (not f.acknowledged) (codes "unacknowledged")) _ (mark_one (not f.acknowledged) (codes "unacknowledged") refl) ending))))))))

  held_one : (o : Option ℕ) → OneLine (held_text names o)
  held_one None = refl
  held_one (Some m) = plain.moments m

  pub problem_counted : (n : ℕ) → Counted (concat (codes "error shadow " ∷ shadow_problem n ∷ codes "\n" ∷ [])) (record no_counts { errors = 1 })
  problem_counted n = line_counted (codes "error shadow ") _ refl (piece (shadow_problem n) _ (word_one shadow_problems refl n) ending)

  pub missed_counted : (held given : Option ℕ) → Counted (concat (codes "error shadow missedPrevious " ∷ held_text names held ∷ codes " " ∷ held_text names given ∷ codes "\n" ∷ [])) (record no_counts { errors = 1 })
  missed_counted held given =
      line_counted (codes "error shadow missedPrevious ") _ refl (piece (held_text names held) _ (held_one held) (spaced _
      (piece (held_text names given) _ (held_one given) ending)))

  pub raw_counted : (l : Raw) → Counted (raw_line names l) no_counts
  raw_counted l =
      line_counted (codes "raw ") _ refl (piece (names.agent l.receiver) _ (plain.agents l.receiver) (spaced _
      (piece (protocol_word l.protocol) _ (protocol_one l.protocol) (spaced _
      (piece (decimal l.count) _ (decimal_one l.count) (spaced _
      (piece (fate_word l.fate) _ (fate_one l.fate) ending)))))))

pub inconsistent_counted : Counted (codes "error shadow inconsistent\n") (record no_counts { errors = 1 })
inconsistent_counted = line_counted (codes "error shadow inconsistent") (codes "\n") refl ending
