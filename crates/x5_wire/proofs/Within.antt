-- What is within the limits of messages with agents by their places is so with agents by their names, where those names
-- are as agents may be named; and the other way round. So what may be sent or replied between agents has octets.
use Rattle.std.proofs.Common.{◌≡◌, ℕ, ◌≤◌, nat_lt, Bool, true, false, not, ◌&&◌, ◌||◌, List, [], ◌∷◌, length, map, refl, sym, ap, ap₂, subst, ◌∙◌}
use Rattle.std.proofs.lemmas.List.{length-map}
use Rattle.std.specs.List.{list_all}
use Rattle.std.specs.Option.{option_map}
use Rattle.std.specs.declared.option.Option.{Option}
use Rattle.std.specs.declared.option.Option.TheVariants.{None, Some}
use Rattle.x5_model.specs.Members.{In}
use Rattle.x5_model.specs.Words.{has, distinct, same_octets}
use Rattle.x5_model.specs.Answers as model
use Rattle.x5_model.specs.References as references
use Rattle.x5_model.proofs.Lists.{both_true, of_all, all_in, in_map, of_map}
use Rattle.x5_model_tree.specs.Described.{is_agent_name}
use Rattle.x5_model_run.specs.Journal.{same_name, same_progress}
use Rattle.x5_model_typed.specs.Nodes.{same_bit}
use Rattle.x5_model_typed.specs.Rules.{most_items}
use Rattle.x5_model_heard.specs.Told.{are_agents, name_agents, option_names, reply_names}
use Rattle.x5_model_known.specs.Replying.{reply_agents, reply_sources, sources_name, item_names}
use Rattle.x5_model_fitting.specs.Names.{Each}
use Rattle.x5_model_fitting.specs.Requests.{IfThere}
use Rattle.x5_model_fitting.specs.Chained.{ItemWithin, same_item, ChainedWithin}
use Rattle.x5_model_fitting.specs.Replies.{AccessWithin, ReferenceWithin, SourceWithin, OutcomeWithin, AnswerWithin}
use Rattle.x5_model_fitting.specs.Replies.{ReplyWithin}
use Rattle.x5_model_fitting.specs.Replies as fitting
use Rattle.x5_model_limits.specs.Messages.{BoundedReference, BoundedItem, BoundedMessage, BoundedSource, BoundedOutcome}
use Rattle.x5_model_limits.specs.Messages.{BoundedAnswer, BoundedReply}
use Rattle.x5_model_limits.specs.Operations.{answered_by}
use Rattle.x5_dapreply.specs.ReplyViews.{told_access, told_reference, told_item, told_source, told_outcome, told_answer}
use Rattle.x5_dapreply.specs.ReplyViews.{told_reply}
use Rattle.x5_dspber.specs.ChainedViews.{told_chained}
use Rattle.x5_ops.specs.AgentNames.{agent_of}
use Rattle.x5_ops.specs.AnswerViews.{source_view, outcome_view, answer_view, reply_view}
use Rattle.x5_ops.specs.ReferenceViews.{progress_view, access_view, reference_view, item_view, chained_view}
use Rattle.x5_ops.specs.declared.references.AccessPoint.{AccessPoint}
use Rattle.x5_ops.specs.declared.references.Reference.{Reference}
use Rattle.x5_ops.specs.declared.references.TraceItem.{TraceItem}
use Rattle.x5_ops.specs.declared.references.Chained.{Chained}
use Rattle.x5_ops.specs.declared.answers.Source.{Source}
use Rattle.x5_ops.specs.declared.answers.Outcome.{Outcome}
use Rattle.x5_ops.specs.declared.answers.Answer.{Answer}
use Rattle.x5_ops.specs.declared.answers.Answer.TheVariants as answers
use Rattle.x5_ops.specs.declared.answers.DirError.TheVariants as errors
use Rattle.x5_ops.specs.declared.answers.Reply.{Reply}
use Rattle.x5_ops.specs.declared.answers.Reply.TheVariants.{Done, Failed, Refer}
use Rattle.x5_trace.specs.Items.{same_kind, same_named}
use Rattle.x5_wire.proofs.Names.{agent_named, name_described, plain_of}

-- ---- two views of the same members

each_of : {A B C : Type 0} (from : A → B) (to : A → C) (P : B → Type 0) (Q : C → Type 0) (xs : List A)
    → ((x : A) → In x xs → P (from x) → Q (to x)) → Each P (map from xs) → Each Q (map to xs)
each_of from to P Q xs of h y i =
    let w = of_map to y xs i in
    subst Q (sym w.2) (of w.0 w.1 (h (from w.0) (in_map from w.0 xs w.1)))

-- ---- items of a trace

same_mark : (a b : Bool) → same_bit a b ≡ same_kind a b
same_mark true b = refl
same_mark false true = refl
same_mark false false = refl

four : (a b c d : Bool) → (a && b && c && d) ≡ (a && (b && (c && d)))
four true true c d = refl
four true false c d = refl
four false b c d = refl

item_same : (a b : TraceItem) → same_item (told_item a) (told_item b) ≡ same_named a b
item_same a b =
    four (same_octets a.agent b.agent) (same_name a.target b.target)
    (same_progress (progress_view a.progress) (progress_view b.progress)) (same_bit a.wide b.wide)
    ∙ ap (λ (k : Bool). same_octets a.agent b.agent && (same_name a.target b.target
    && (same_progress (progress_view a.progress) (progress_view b.progress) && k))) (same_mark a.wide b.wide)

has_told : (xs : List TraceItem) (x : TraceItem) → has same_item (map told_item xs) (told_item x) ≡ has same_named xs x
has_told [] x = refl
has_told (y ∷ ys) x = ap₂ ◌||◌ (item_same y x) (has_told ys x)

distinct_told : (xs : List TraceItem) → distinct same_item (map told_item xs) ≡ distinct same_named xs
distinct_told [] = refl
distinct_told (x ∷ xs) = ap₂ ◌&&◌ (ap not (has_told xs x)) (distinct_told xs)

-- ---- messages

module _ (names : List (List ℕ)) (m : Chained) where
  counts_same : length (map told_item m.trace) ≡ length (map (item_view names) m.trace)
  counts_same = length-map m.trace told_item ∙ sym (length-map m.trace (item_view names))

  pub message_within : BoundedMessage (chained_view names m) → distinct same_named m.trace ≡ true
      → list_all (λ (i : TraceItem). is_agent_name i.agent) m.trace ≡ true → ChainedWithin (told_chained m)
  message_within h apart plain = record {
    target = h.target;
    progress = h.progress;
    exclusions = h.exclusions;
    trace = record {
      few = subst (λ (k : ℕ). k ≤ most_items) (sym counts_same) h.few;
      items = each_of (item_view names) told_item BoundedItem ItemWithin m.trace
          (λ i there b. record {
            agent = agent_named i.agent (of_all (λ (x : TraceItem). is_agent_name x.agent) i m.trace plain there);
            target = b.target;
            progress = b.progress;
          })
          h.items;
      once = distinct_told m.trace ∙ apart;
    };
    request = h.request;
  }

  pub message_bounded : ChainedWithin (told_chained m) → BoundedMessage (chained_view names m)
  message_bounded h = record {
    target = h.target;
    progress = h.progress;
    exclusions = h.exclusions;
    few = subst (λ (k : ℕ). k ≤ most_items) counts_same h.trace.few;
    items = each_of told_item (item_view names) ItemWithin BoundedItem m.trace
        (λ i there b. record { target = b.target; progress = b.progress }) h.trace.items;
    request = h.request;
  }

  pub items_apart : ChainedWithin (told_chained m) → distinct same_named m.trace ≡ true
  items_apart h = sym (distinct_told m.trace) ∙ h.trace.once

  pub items_plain : ChainedWithin (told_chained m)
      → list_all (λ (i : TraceItem). is_agent_name i.agent) m.trace ≡ true
  items_plain h =
      all_in (λ (i : TraceItem). is_agent_name i.agent) m.trace
      (λ i there. name_described i.agent (h.trace.items (told_item i) (in_map told_item i m.trace there)).agent)

-- ---- replies, all of whose agents stand among the names

module _ (names : List (List ℕ)) (plain : list_all is_agent_name names ≡ true) where
  accesses_within : (accesses : List AccessPoint) → are_agents (length names) (map (access_view names) accesses) ≡ true
      → Each AccessWithin (map told_access accesses)
  accesses_within accesses h y i =
      let w = of_map told_access y accesses i in
      subst AccessWithin (sym w.2)
      (plain_of names w.0.agent plain
      (of_all (λ (a : ℕ). nat_lt a (length names)) (access_view names w.0) (map (access_view names) accesses) h
      (in_map (access_view names) w.0 accesses w.1)))

  reference_within : (r : Reference) → BoundedReference (reference_view names r)
      → are_agents (length names) (map (access_view names) r.agents) ≡ true → ReferenceWithin (told_reference r)
  reference_within r h e = record {
    target = h.target;
    progress = h.progress;
    agents = accesses_within r.agents e;
    exclusions = h.exclusions;
  }

  item_within : (i : TraceItem) → BoundedItem (item_view names i) → nat_lt (agent_of names i.agent) (length names) ≡ true
      → ItemWithin (told_item i)
  item_within i h e =
      record { agent = plain_of names i.agent plain e; target = h.target; progress = h.progress }

  source_within : (s : Source) → BoundedSource (source_view names s)
      → nat_lt (agent_of names s.agent) (length names) ≡ true → SourceWithin (told_source s)
  source_within s h e =
      record { context = h.context; agent = plain_of names s.agent plain e; moment = h.moment }

  sources_within : (l : List Source) → Each BoundedSource (map (source_view names) l)
      → sources_name (length names) (map (source_view names) l) ≡ true → Each SourceWithin (map told_source l)
  sources_within l h e =
      each_of (source_view names) told_source BoundedSource SourceWithin l
      (λ s there b. source_within s b
      (of_all (λ (x : model.Source). nat_lt x.agent (length names)) (source_view names s) (map (source_view names) l) e
      (in_map (source_view names) s l there)))
      h

  outcome_within : (o : Outcome) → BoundedOutcome (outcome_view names o)
      → name_agents (length names) (map (reference_view names) o.unexplored) ≡ true → OutcomeWithin (told_outcome o)
  outcome_within o h e =
      each_of (reference_view names) told_reference BoundedReference ReferenceWithin o.unexplored
      (λ r there b. reference_within r b
      (of_all (λ (x : references.Reference). are_agents (length names) x.agents) (reference_view names r)
      (map (reference_view names) o.unexplored) e (in_map (reference_view names) r o.unexplored there)))
      h

  answer_within : (a : Answer) → BoundedAnswer (answer_view names a)
      → reply_names (length names) (model.Answered (answer_view names a)) ≡ true
      → reply_sources (length names) (model.Answered (answer_view names a)) ≡ true → AnswerWithin (told_answer a)
  answer_within (answers.Entry entry source) h e f = (h.0, source_within source h.1 f)
  answer_within (answers.Match matched copy source) h e f = source_within source h f
  answer_within (answers.Listed subs sources outcome) h e f =
      (h.0, sources_within sources h.1 f, outcome_within outcome h.2 e)
  answer_within (answers.Found entries sources outcome) h e f =
      (h.0, sources_within sources h.1 f, outcome_within outcome h.2 e)
  answer_within answers.Changed h e f = tt

  by_operation : (code : ℕ) (a : Answer) → In code (answered_by (answer_view names a))
      → In code (fitting.answered_by (told_answer a))
  by_operation code (answers.Entry entry source) i = i
  by_operation code (answers.Match matched copy source) i = i
  by_operation code (answers.Listed subs sources outcome) i = i
  by_operation code (answers.Found entries sources outcome) i = i
  by_operation code answers.Changed i = i

  reference_if : (o : Option Reference) → IfThere BoundedReference (option_map (reference_view names) o)
      → option_names (length names)
      (option_map (reference_view names) o) ≡ true
      → IfThere ReferenceWithin (option_map told_reference o)
  reference_if None h e = tt
  reference_if (Some r) h e = reference_within r h e

  item_if : (o : Option TraceItem) → IfThere BoundedItem (option_map (item_view names) o)
      → item_names (length names)
      (option_map (item_view names) o) ≡ true
      → IfThere ItemWithin (option_map told_item o)
  item_if None h e = tt
  item_if (Some i) h e = item_within i h e

  module _ (code : ℕ) where
    by_parts : (y : Reply) → BoundedReply (reply_view names y) → reply_names (length names) (reply_view names y) ≡ true
        → reply_sources (length names) (reply_view names y) ≡ true
        → ((a : model.Answer) → reply_view names y ≡ model.Answered a → In code (answered_by a))
        → ReplyWithin (told_reply code y)
    by_parts (Done answer) h e f is =
        (by_operation code answer (is (answer_view names answer) refl), answer_within answer h e f)
    by_parts (Failed (errors.Name matched)) h e f is = h
    by_parts (Failed (errors.Attribute problem kind)) h e f is = h
    by_parts (Failed (errors.Update problem)) h e f is = h
    by_parts (Failed (errors.Service problem reference item)) h e f is =
        (h.0, reference_if reference h.1 e, item_if item h.2 f)
    by_parts (Refer reference) h e f is = reference_within reference h e

    pub reply_within : (y : Reply) → BoundedReply (reply_view names y)
        → reply_agents (length names) (reply_view names y) ≡ true
        → ((a : model.Answer) → reply_view names y ≡ model.Answered a → In code (answered_by a))
        → ReplyWithin (told_reply code y)
    reply_within y h e is =
        let b = both_true (reply_names (length names) (reply_view names y)) _ e in by_parts y h b.0 b.1 is
