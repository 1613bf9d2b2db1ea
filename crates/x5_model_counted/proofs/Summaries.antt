-- The summary of a run's blocks is the one that the texts of its script and its output tell: the line on knowledge is the
-- output's first, and the counts are those of lines.
use Rattle.std.proofs.Common.{◌≡◌, suc, Bool, true, false, cond, List, [], ◌∷◌, ◌++◌, length, map, refl, sym, ap, ap₂, ◌∙◌, codes}
use Rattle.std.specs.List.{filter}
use Rattle.x5_know.specs.Moments.{moment_text}
use Rattle.x5_model.specs.Values.{Text}
use Rattle.x5_model_output.specs.Output.{names_of, blocks_text}
use Rattle.x5_model_output.specs.Summary.{Counts, capped_counts, summary_line}
use Rattle.x5_model_run.specs.Run.{Command, Judge}
use Rattle.x5_model_script.specs.Lines.{Asked}
use Rattle.x5_model_tree.specs.Consistent.{first_breach}
use Rattle.x5_model_counted.specs.Lines.{lines_with}
use Rattle.x5_model_counted.specs.Laws.{is_request, asks, SummaryIsOfTexts}
use Rattle.x5_model_counted.proofs.Described.{described_are_one_line}
use Rattle.x5_model_counted.proofs.Runs.{knowledge_first, output_is_counted}
use Rattle.x5_model_counted.proofs.Scripts.{requests_are_lines}

-- how many pass is told by the answers alone
passing : {X : Type 0} (test : X → Bool) (xs : List X) → length (filter test xs) ≡ length (filter (λ b. b) (map test xs))
passing test [] = refl
passing test (x ∷ xs) = by (test x) (passing test xs)
  where
    by : (b : Bool) → length (filter test xs) ≡ length (filter (λ c. c) (map test xs))
        → length (cond b (x ∷ filter test xs) (filter test xs)) ≡ length (cond b (b ∷ filter (λ c. c) (map test xs)) (filter (λ c. c) (map test xs)))
    by true e = ap suc e
    by false e = e

same_requests : (commands : List Command) (asked : List Asked) → map is_request commands ≡ map asks asked
    → length (filter is_request commands) ≡ length (filter asks asked)
same_requests commands asked e =
    passing is_request commands ∙ ap (λ answers. length (filter (λ (b : Bool). b) answers)) e ∙ sym (passing asks asked)

pub summary_is_of_texts : (judge : Judge) → SummaryIsOfTexts judge
summary_is_of_texts judge w start commands blocks past described run names lost script asked taken same =
    let moment = moment_text start in
    let plain = described_are_one_line w start described in
    let requests : length (filter is_request commands) ≡ lines_with (codes "at") script =
    same_requests commands asked same ∙ requests_are_lines names lost script asked taken in
    ap₂ (λ (first : Text) (counts : Counts). first ++ summary_line (capped_counts counts))
    (sym (knowledge_first (names_of w moment) plain (first_breach w) (blocks_text (names_of w moment) 1 commands blocks)))
    (output_is_counted judge w moment commands blocks past plain run script requests)
