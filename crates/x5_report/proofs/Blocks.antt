-- The text of a block is what the definitions print.
use Rattle.std.proofs.Common.{◌≡◌, ℕ, Bool, true, false, ◌==◌, if◌then◌else◌, List, [], ◌∷◌, ◌++◌, Option, None, Some, refl, sym, ap, subst, ◌∙◌, codes}
use Rattle.std.specs.Option.{option_map}
use Rattle.std.proofs.lemmas.Option.{slice_get-map}
use Rattle.std.specs.List.{concat, flat_map}
use Rattle.x5_model.specs.Values.{Text}
use Rattle.x5_model.specs.Words.{in_option}
use Rattle.x5_model_tree.specs.World.{World, Agent}
use Rattle.x5_model_tree.specs.Masters.{agent_at}
use Rattle.x5_model.proofs.Lists.{both_true}
use Rattle.x5_model_run.specs.Refresh as refresh
use Rattle.x5_model_output.specs.Output as print
use Rattle.x5_ops.specs.declared.journal.Journal.{Journal}
use Rattle.x5_ops.specs.declared.journal.Refreshed.{Refreshed}
use Rattle.x5_ops.specs.declared.journal.Refreshed.TheVariants as refreshes
use Rattle.x5_know.specs.Moments.{Start, moment_text}
use Rattle.x5_report.specs.Spelled as spelled
use Rattle.x5_report.specs.Blocks.{block_text, block_known, outcome_known, IsBlockText}
use Rattle.x5_model_tree.specs.World.{names_of_agents}
use Rattle.x5_report.specs.Views.{names_with, journal_known}
use Rattle.x5_ops.specs.RefreshViews.{problem_view, refreshed_view}
use Rattle.x5_report.specs.declared.report.LineOutcome.{LineOutcome}
use Rattle.x5_report.specs.declared.report.LineOutcome.TheVariants.{Set, Answered, Plain, Refreshed as Became, NotConsistent, Handed, Rejected}
use Rattle.x5_report.proofs.Naming.{journal_is, shadows_are, reply_is, plain_reply_is, handed_is, rejected_is}

module _ (names : List (List ℕ)) (start : Start) where
  held_is : (m : Option ℕ) → print.held_text (names_with names start) m ≡ spelled.held_text start m
  held_is None = refl
  held_is (Some m) = refl

  problem_is : (number problem : ℕ) (held given : Option ℕ) → print.refresh_line (names_with names start) number (problem_view problem held given) ≡ spelled.problem_text start problem held given
  problem_is number problem held given = by (problem == 5)
    where
      by : (missed : Bool) → print.refresh_line (names_with names start) number (if missed then refresh.Missed held given else refresh.Problem problem) ≡ (if missed then concat (codes "error shadow missedPrevious " ∷ spelled.held_text start held ∷ codes " " ∷ spelled.held_text start given ∷ codes "\n" ∷ []) else concat (codes "error shadow " ∷ print.shadow_problem problem ∷ codes "\n" ∷ []))
      by true = λ i. concat (codes "error shadow missedPrevious " ∷ held_is held i ∷ codes " " ∷ held_is given i ∷ codes "\n" ∷ [])
      by false = refl

  refreshed_is : (heard : Bool) (number : ℕ) (f : Refreshed) → print.refresh_line (names_with names start) number (refreshed_view heard number f) ≡ spelled.refreshed_text start number f heard
  refreshed_is heard number (refreshes.Total m n) = refl
  refreshed_is heard number (refreshes.Incremental m n) = refl
  refreshed_is heard number (refreshes.Nothing m) = refl
  refreshed_is heard number refreshes.Lost = refl
  refreshed_is heard number (refreshes.Failed problem held given) = problem_is number problem held given

  pub block_is : (line : ℕ) (j : Journal) (o : LineOutcome) (text : Text) → text ≡ block_text start line j o → block_known names j o ≡ true → IsBlockText (names_with names start) names line j o text
  block_is line j Set text e h = λ command. e
  block_is line j (Answered reply) text e h =
      let w = both_true (journal_known names j) (outcome_known names (Answered reply)) h in
      λ command m same.
      e ∙ sym (λ i. concat (print.number_line line ∷ journal_is names start j m w.0 same.0 same.1 i ∷ reply_is names start reply w.1 i ∷ []))
  block_is line j (Plain reply) text e h =
      let w = both_true (journal_known names j) (outcome_known names (Plain reply)) h in
      e ∙ sym (ap (λ t. print.number_line line ++ t) (plain_reply_is names start reply w.1))
  block_is line j (Became number f heard) text e h =
      let w = both_true (journal_known names j) (outcome_known names (Became number f heard)) h in
      λ command b of lines outcome.
      e ∙ sym (λ i. concat (print.number_line line ∷ (ap (flat_map (print.shadow_line (names_with names start))) lines ∙ shadows_are names start j w.0) i ∷ ((λ k. print.refresh_line (names_with names start) (of k) (outcome k)) ∙ refreshed_is heard number f) i ∷ []))
  block_is line j NotConsistent text e h =
      let w = both_true (journal_known names j) (outcome_known names NotConsistent) h in
      λ command b lines outcome.
      e ∙ sym (λ i. concat (print.number_line line ∷ (ap (flat_map (print.shadow_line (names_with names start))) lines ∙ shadows_are names start j w.0) i ∷ print.refresh_line (names_with names start) (print.number_of command) (outcome i) ∷ []))
  block_is line j (Handed dsp count reply) text e h =
      let w = both_true (journal_known names j) (outcome_known names (Handed dsp count reply)) h in
      λ command m same.
      e ∙ sym (ap (λ t. print.number_line line ++ t) (handed_is names start dsp count j m reply w.0 w.1 same.0 same.1))
  block_is line j (Rejected dsp to count fate breach) text e h =
      let w = both_true (journal_known names j) (outcome_known names (Rejected dsp to count fate breach)) h in
      λ command.
      e ∙ sym (ap (λ t. print.number_line line ++ t) (rejected_is names start dsp to count fate breach w.1))

-- ---- in a world

name_if : {A : Type 0} (f : A → Text) (o : Option A) → in_option [] (λ n. n) (option_map f o) ≡ in_option [] f o
name_if f None = refl
name_if f (Some x) = refl

-- the names of its agents are those that the definitions print with
names_are : (w : World) (start : Start) → names_with (names_of_agents w) start ≡ print.names_of w (moment_text start)
names_are w start =
    λ i. record {
      agent = λ a. (ap (in_option [] (λ n. n)) (slice_get-map (λ (x : Agent). x.name) w.agents a) ∙ name_if (λ (x : Agent). x.name) (agent_at w a)) i;
      moment = moment_text start;
    }

pub in_world : (w : World) (start : Start) (line : ℕ) (j : Journal) (o : LineOutcome) (text : Text) → IsBlockText (names_with (names_of_agents w) start) (names_of_agents w) line j o text → IsBlockText (print.names_of w (moment_text start)) (names_of_agents w) line j o text
in_world w start line j o text h = subst (λ (n : print.Names). IsBlockText n (names_of_agents w) line j o text) (names_are w start) h
