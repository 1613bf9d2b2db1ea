-- What messages and replies stand for in a world is determined by what they tell, where agents go by their names: so what
-- is read as it was sent stands for the same.
use Rattle.std.proofs.Common.{◌≡◌, ℕ, Bool, true, false, List, [], ◌∷◌, map, refl, sym, ap, ap₂, ◌∙◌, arith}
use Rattle.std.specs.Option.{option_map}
use Rattle.std.specs.declared.option.Option.{Option}
use Rattle.std.specs.declared.option.Option.TheVariants.{None, Some}
use Rattle.std.specs.Cmp.Lexicographic.{bytes_decides}
use Rattle.x5_model.specs.Words.{same_octets}
use Rattle.x5_model.specs.References as model
use Rattle.x5_model.specs.Answers as model_answers
use Rattle.x5_model_messages.specs.Chained as chains
use Rattle.x5_model_messages.specs.Replies as replies
use Rattle.x5_dapreply.specs.ReplyViews.{told_access, told_reference, told_item, told_source, told_outcome, told_answer}
use Rattle.x5_dapreply.specs.ReplyViews.{told_error, told_reply, heard, unnumbered}
use Rattle.x5_dspber.specs.ChainedViews.{told_chained}
use Rattle.x5_ops.specs.AgentNames.{agent_of}
use Rattle.x5_ops.specs.AnswerViews.{info_view, sub_view, source_view, outcome_view, answer_view, error_view, reply_view}
use Rattle.x5_ops.specs.ReferenceViews.{access_view, reference_view, item_view, chained_view}
use Rattle.x5_ops.specs.declared.references.Reference.{Reference}
use Rattle.x5_ops.specs.declared.references.TraceItem.{TraceItem}
use Rattle.x5_ops.specs.declared.references.Chained.{Chained}
use Rattle.x5_ops.specs.declared.answers.Source.{Source}
use Rattle.x5_ops.specs.declared.answers.Outcome.{Outcome}
use Rattle.x5_ops.specs.declared.answers.Answer.{Answer}
use Rattle.x5_ops.specs.declared.answers.Answer.TheVariants as answers
use Rattle.x5_ops.specs.declared.answers.DirError.{DirError}
use Rattle.x5_ops.specs.declared.answers.DirError.TheVariants as errors
use Rattle.x5_ops.specs.declared.answers.Reply.{Reply}
use Rattle.x5_ops.specs.declared.answers.Reply.TheVariants.{Done, Failed, Refer}

each_placed : {A B C : Type 0} (seen : A → C) (told : A → B) (placed : B → C) → ((x : A) → seen x ≡ placed (told x))
    → (xs : List A) → map seen xs ≡ map placed (map told xs)
each_placed seen told placed same [] = refl
each_placed seen told placed same (x ∷ xs) = ap₂ ◌∷◌ (same x) (each_placed seen told placed same xs)

module _ (names : List (List ℕ)) where
  -- ---- agents stand by their places

  abbrev item_at : replies.TraceItem → model.TraceItem
  item_at i = record { agent = agent_of names i.agent; target = i.target; progress = i.progress; wide = i.wide }

  abbrev message_at : chains.Chained → model.Chained
  message_at m = record {
    target = m.target;
    progress = m.progress;
    kind = m.kind;
    exclusions = m.exclusions;
    trace = map item_at m.trace;
    request = m.request;
  }

  abbrev access_at : replies.Access → ℕ
  access_at a = agent_of names a.agent

  abbrev reference_at : replies.Reference → model.Reference
  reference_at r = record {
    target = r.target;
    progress = r.progress;
    kind = r.kind;
    agents = map access_at r.agents;
    exclusions = r.exclusions;
    tried = r.tried;
  }

  abbrev source_at : replies.Source → model_answers.Source
  source_at s = record { context = s.context; agent = agent_of names s.agent; moment = s.moment }

  abbrev outcome_at : replies.Outcome → model_answers.Outcome
  outcome_at o = record { limited = o.limited; unexplored = map reference_at o.unexplored }

  abbrev answer_at : replies.Answer → model_answers.Answer
  answer_at (replies.Entry entry source) = model_answers.EntryFound entry (source_at source)
  answer_at (replies.Match matched copy source) = model_answers.Matched matched copy (source_at source)
  answer_at (replies.Listed subs sources outcome) =
      model_answers.Listed subs (map source_at sources) (outcome_at outcome)
  answer_at (replies.Found entries sources outcome) =
      model_answers.Found entries (map source_at sources) (outcome_at outcome)
  answer_at replies.Changed = model_answers.Changed

  -- whatever the code of the operation
  abbrev reply_at : replies.Reply → model_answers.Reply
  reply_at (replies.Answered code answer) = model_answers.Answered (answer_at answer)
  reply_at (replies.NoSuchObject matched) = model_answers.Failed (model_answers.NoSuchObject matched)
  reply_at (replies.AttributeProblem problem type) =
      model_answers.Failed (model_answers.AttributeProblem problem type)
  reply_at (replies.UpdateProblem problem) = model_answers.Failed (model_answers.UpdateProblem problem)
  reply_at (replies.ServiceProblem problem reference item) =
      model_answers.Failed (model_answers.ServiceProblem problem (option_map reference_at reference)
      (option_map item_at item))
  reply_at (replies.Referred reference) = model_answers.Referred (reference_at reference)

  -- ---- messages

  message_placed : (m : Chained) → chained_view names m ≡ message_at (told_chained m)
  message_placed m =
      ap (λ (t : List model.TraceItem). record (message_at (told_chained m)) { trace = t })
      (each_placed (item_view names) told_item item_at (λ i. refl) m.trace)

  pub message_seen : (a b : Chained) → told_chained a ≡ told_chained b → chained_view names a ≡ chained_view names b
  message_seen a b e = message_placed a ∙ ap message_at e ∙ sym (message_placed b)

  -- ---- replies

  reference_placed : (r : Reference) → reference_view names r ≡ reference_at (told_reference r)
  reference_placed r =
      ap (λ (l : List ℕ). record (reference_at (told_reference r)) { agents = l })
      (each_placed (access_view names) told_access access_at (λ a. refl) r.agents)

  sources_placed : (l : List Source) → map (source_view names) l ≡ map source_at (map told_source l)
  sources_placed l = each_placed (source_view names) told_source source_at (λ s. refl) l

  outcome_placed : (o : Outcome) → outcome_view names o ≡ outcome_at (told_outcome o)
  outcome_placed o =
      ap (λ (l : List model.Reference). record (outcome_at (told_outcome o)) { unexplored = l })
      (each_placed (reference_view names) told_reference reference_at reference_placed o.unexplored)

  answer_placed : (a : Answer) → answer_view names a ≡ answer_at (told_answer a)
  answer_placed (answers.Entry entry source) = refl
  answer_placed (answers.Match matched copy source) = refl
  answer_placed (answers.Listed subs sources outcome) =
      λ i. model_answers.Listed (map sub_view subs) (sources_placed sources i)
      (outcome_placed outcome i)
  answer_placed (answers.Found entries sources outcome) =
      λ i. model_answers.Found (map info_view entries) (sources_placed sources i)
      (outcome_placed outcome i)
  answer_placed answers.Changed = refl

  reference_if : (o : Option Reference)
      → option_map (reference_view names) o ≡ option_map reference_at (option_map told_reference o)
  reference_if None = refl
  reference_if (Some r) = ap (λ (x : model.Reference). Some x) (reference_placed r)

  item_if : (o : Option TraceItem) → option_map (item_view names) o ≡ option_map item_at (option_map told_item o)
  item_if None = refl
  item_if (Some i) = refl

  error_placed : (x : DirError) → model_answers.Failed (error_view names x) ≡ reply_at (told_error x)
  error_placed (errors.Name matched) = refl
  error_placed (errors.Attribute problem kind) = refl
  error_placed (errors.Update problem) = refl
  error_placed (errors.Service problem reference item) =
      λ i. model_answers.Failed (model_answers.ServiceProblem problem (reference_if reference i) (item_if item i))

  -- whatever the code of the operation
  reply_placed : (code : ℕ) (y : Reply) → reply_view names y ≡ reply_at (told_reply code y)
  reply_placed code (Done answer) = ap (λ (a : model_answers.Answer). model_answers.Answered a) (answer_placed answer)
  reply_placed code (Failed error) = error_placed error
  reply_placed code (Refer reference) =
      ap (λ (r : model.Reference). model_answers.Referred r) (reference_placed reference)

  without_code : (r : replies.Reply) → reply_at (unnumbered r) ≡ reply_at r
  without_code (replies.Answered code answer) = refl
  without_code (replies.NoSuchObject matched) = refl
  without_code (replies.AttributeProblem problem type) = refl
  without_code (replies.UpdateProblem problem) = refl
  without_code (replies.ServiceProblem problem reference item) = refl
  without_code (replies.Referred reference) = refl

  pub reply_seen : (code : ℕ) (back y : Reply) → heard back ≡ unnumbered (told_reply code y)
      → reply_view names back ≡ reply_view names y
  reply_seen code back y e =
      reply_placed 0 back ∙ ap reply_at e ∙ without_code (told_reply code y) ∙ sym (reply_placed code y)

-- ---- what stands for the same in every world tells the same

alone : (x y : List ℕ) → same_octets x y ≡ false → agent_of (x ∷ []) y ≡ 1
alone x y e = rw e refl

itself : (x : List ℕ) → same_octets x x ≡ true → agent_of (x ∷ []) x ≡ 0
itself x e = rw e refl

agent_alike : (x y : List ℕ) → ((names : List (List ℕ)) → agent_of names x ≡ agent_of names y) → x ≡ y
agent_alike x y h = by (same_octets x y) refl
  where
    by : (b : Bool) → same_octets x y ≡ b → x ≡ y
    by true e = (bytes_decides x y).0 e
    by false e =
        let one = alone x y e in
        let zero_at = itself x ((bytes_decides x x).1 refl) in
        let same = h (x ∷ []) in
        absurd (omega (arith, one, zero_at, same))

items_alike : (a b : List TraceItem) → ((names : List (List ℕ)) → map (item_view names) a ≡ map (item_view names) b)
    → map told_item a ≡ map told_item b
items_alike [] [] h = refl
items_alike [] (y ∷ b) h = let no = h [] in absurd (cc no)
items_alike (x ∷ a) [] h = let no = h [] in absurd (cc no)
items_alike (x ∷ a) (y ∷ b) h =
    let first : (names : List (List ℕ)) → item_view names x ≡ item_view names y = λ names. first_same _ _ _ _ (h names) in
    let agent = agent_alike x.agent y.agent (λ names. ap (λ (i : model.TraceItem). i.agent) (first names)) in
    let item : told_item x ≡ told_item y =
    λ i. record {
      agent = agent i;
      target = ap (λ (j : model.TraceItem). j.target) (first []) i;
      progress = ap (λ (j : model.TraceItem). j.progress) (first []) i;
      wide = ap (λ (j : model.TraceItem). j.wide) (first []) i;
    } in
    ap₂ ◌∷◌ item (items_alike a b (λ names. rest_same _ _ _ _ (h names)))
  where
    first_same : {A : Type 0} (p q : A) (ps qs : List A) → p ∷ ps ≡ q ∷ qs → p ≡ q
    first_same p q ps qs e = cc

    rest_same : {A : Type 0} (p q : A) (ps qs : List A) → p ∷ ps ≡ q ∷ qs → ps ≡ qs
    rest_same p q ps qs e = cc

pub message_alike : (a b : Chained) → ((names : List (List ℕ)) → chained_view names a ≡ chained_view names b)
    → told_chained a ≡ told_chained b
message_alike a b h =
    let items = items_alike a.trace b.trace (λ names. ap (λ (m : model.Chained). m.trace) (h names)) in
    λ i. record {
      target = ap (λ (m : model.Chained). m.target) (h []) i;
      progress = ap (λ (m : model.Chained). m.progress) (h []) i;
      kind = ap (λ (m : model.Chained). m.kind) (h []) i;
      exclusions = ap (λ (m : model.Chained). m.exclusions) (h []) i;
      trace = items i;
      request = ap (λ (m : model.Chained). m.request) (h []) i;
    }
