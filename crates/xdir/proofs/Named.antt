-- A reply that names agents of the world alone, as the definitions see it, names them by names that agents have: a place
-- below the number of names is that of a name.
use Rattle.std.proofs.Common.{◌≡◌, ℕ, ◌<◌, nat_lt, Bool, true, List, [], ◌∷◌, length, map, refl, Option, Some, None}
use Rattle.std.proofs.lemmas.List.Folds.{list_any_at}
use Rattle.std.proofs.lemmas.List.Sums.{passes_at_first}
use Rattle.std.specs.List.{list_all}
use Rattle.std.specs.Option.{option_map}
use Rattle.x5_model.specs.Words.{in_option, same_octets}
use Rattle.x5_model.proofs.Decide.{less_decides}
use Rattle.x5_model.proofs.Lists.{both_true, and_true}
use Rattle.x5_model_heard.specs.Told.{are_agents, name_agents, option_names, error_names, reply_names}
use Rattle.x5_model_known.specs.Replying.{sources_name, answer_sources, item_names, error_items, reply_sources, reply_agents}
use Rattle.x5_model_tree.specs.Ask.{unexplored_of}
use Rattle.x5_ops.specs.AgentNames.{agent_of}
use Rattle.x5_ops.specs.ReferenceViews.{item_view, access_view, reference_view}
use Rattle.x5_ops.specs.AnswerViews.{source_view, answer_view, error_view, reply_view}
use Rattle.x5_ops.specs.declared.references.Reference.{Reference}
use Rattle.x5_ops.specs.declared.references.TraceItem.{TraceItem}
use Rattle.x5_ops.specs.declared.answers.Source.{Source}
use Rattle.x5_ops.specs.declared.answers.Answer.{Answer}
use Rattle.x5_ops.specs.declared.answers.Answer.TheVariants as answers
use Rattle.x5_ops.specs.declared.answers.DirError.{DirError}
use Rattle.x5_ops.specs.declared.answers.DirError.TheVariants as errors
use Rattle.x5_ops.specs.declared.answers.Reply.{Reply}
use Rattle.x5_ops.specs.declared.answers.Reply.TheVariants.{Done, Failed, Refer}
use Rattle.x5_report.specs.Views.{is_known, reference_known, item_known, source_known, answer_known, error_known, reply_known}

-- what is tested of what each member stands for, is of each
each_of : {A B : Type 0} (test : B → Bool) (known : A → Bool) (view : A → B) (xs : List A)
    → ((x : A) → test (view x) ≡ true → known x ≡ true) → list_all test (map view xs) ≡ true → list_all known xs ≡ true
each_of test known view [] f e = refl
each_of test known view (x ∷ xs) f e =
    let b = both_true (test (view x)) (list_all test (map view xs)) e in
    and_true (known x) (list_all known xs) (f x b.0) (each_of test known view xs f b.1)

module _ (names : List (List ℕ)) where
  abbrev size : ℕ
  size = length names

  -- the place of a name, where there is one, has it
  pub named : (agent : List ℕ) → nat_lt (agent_of names agent) size ≡ true → is_known names agent ≡ true
  named agent e =
      let l : agent_of names agent < size = (less_decides (agent_of names agent) size).0 e in
      list_any_at (λ n. same_octets n agent) names (agent_of names agent) [] l
      (passes_at_first (λ n. same_octets n agent) names [] l)

  reference_is : (r : Reference) → are_agents size (reference_view names r).agents ≡ true
      → reference_known names r ≡ true
  reference_is r e =
      each_of (λ a. nat_lt a size) (λ a. is_known names a.agent) (access_view names) r.agents
      (λ a f. named a.agent f) e

  references_are : (rs : List Reference) → name_agents size (map (reference_view names) rs) ≡ true
      → list_all (reference_known names) rs ≡ true
  references_are rs e =
      each_of (λ r. are_agents size r.agents) (reference_known names) (reference_view names) rs reference_is e

  sources_are : (xs : List Source) → sources_name size (map (source_view names) xs) ≡ true
      → list_all (source_known names) xs ≡ true
  sources_are xs e =
      each_of (λ x. nat_lt x.agent size) (source_known names) (source_view names) xs (λ x f. named x.agent f) e

  answer_is : (a : Answer) → name_agents size (unexplored_of (answer_view names a)) ≡ true
      → answer_sources size (answer_view names a) ≡ true → answer_known names a ≡ true
  answer_is (answers.Entry entry source) e f = named source.agent f
  answer_is (answers.Match matched copy source) e f = named source.agent f
  answer_is (answers.Listed subs sources outcome) e f =
      and_true (list_all (source_known names) sources) (list_all (reference_known names) outcome.unexplored)
      (sources_are sources f) (references_are outcome.unexplored e)
  answer_is (answers.Found entries sources outcome) e f =
      and_true (list_all (source_known names) sources) (list_all (reference_known names) outcome.unexplored)
      (sources_are sources f) (references_are outcome.unexplored e)
  answer_is answers.Changed e f = refl

  option_is : (o : Option Reference) → option_names size (option_map (reference_view names) o) ≡ true
      → in_option true (reference_known names) o ≡ true
  option_is None e = refl
  option_is (Some r) e = reference_is r e

  item_is : (o : Option TraceItem) → item_names size (option_map (item_view names) o) ≡ true
      → in_option true (item_known names) o ≡ true
  item_is None e = refl
  item_is (Some i) e = named i.agent e

  error_is : (x : DirError) → error_names size (error_view names x) ≡ true
      → error_items size (error_view names x) ≡ true → error_known names x ≡ true
  error_is (errors.Name matched) e f = refl
  error_is (errors.Attribute problem kind) e f = refl
  error_is (errors.Update problem) e f = refl
  error_is (errors.Service problem reference item) e f =
      and_true (in_option true (reference_known names) reference) (in_option true (item_known names) item)
      (option_is reference e) (item_is item f)

  reply_is : (y : Reply) → reply_names size (reply_view names y) ≡ true → reply_sources size (reply_view names y) ≡ true
      → reply_known names y ≡ true
  reply_is (Done answer) e f = answer_is answer e f
  reply_is (Failed error) e f = error_is error e f
  reply_is (Refer reference) e f = reference_is reference e

pub reply_is_known : (names : List (List ℕ)) (reply : Reply)
    → reply_agents (length names) (reply_view names reply) ≡ true → reply_known names reply ≡ true
reply_is_known names reply e =
    let b = both_true (reply_names (length names) (reply_view names reply))
    (reply_sources (length names) (reply_view names reply)) e in
    reply_is names reply b.0 b.1
