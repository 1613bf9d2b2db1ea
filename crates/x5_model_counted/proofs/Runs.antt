-- What is counted of the blocks of a run is what its output tells, line by line, and a request for each command that is
-- one.
use Rattle.std.proofs.Common.{◌≡◌, ℕ, ◌+◌, false, Option, None, Some, List, [], ◌∷◌, ◌++◌, length, reverse, refl, sym, ap, ap₂, ◌∙◌, codes, Ok, Err, length-append}
use Rattle.std.proofs.lemmas.List.{append_assoc}
use Rattle.std.proofs.lemmas.List.Elements.{filter-append}
use Rattle.std.specs.Fmt.{decimal}
use Rattle.std.specs.List.{concat, filter}
use Rattle.x5_model.specs.Values.{Text}
use Rattle.x5_model.specs.Requests.{Request}
use Rattle.x5_model.specs.Answers.{Reply}
use Rattle.x5_model_tree.specs.World.{World}
use Rattle.x5_model_tree.specs.Consistent.{Printed, AgentPrinted, NamePrinted, AgreementPrinted, Inconsistency, first_breach}
use Rattle.x5_model_run.specs.Journal.{Line, Journal}
use Rattle.x5_model_run.specs.Refresh as refresh
use Rattle.x5_model_run.specs.Refresh.{RefreshOutcome, Unheard, Problem, Missed, NotConsistent}
use Rattle.x5_model_run.specs.History.{Did, Point}
use Rattle.x5_model_run.specs.Run.{Command, Blank, Asks, Changes, Drops, Updates, Hands, Block, Silent, Set, Replies, Refreshing, Handed, Rejected, Judge, IsBlock, IsRun, begin, next}
use Rattle.x5_model_output.specs.Output.{Names, names_of, printed_text, knowledge_line, blocks_text, run_text}
use Rattle.x5_model_output.specs.Summary.{Counts, no_counts, handed_counts, refresh_counts, block_counts, counts_of}
use Rattle.x5_model_output.proofs.Counting.{one_more_adds}
use Rattle.x5_model_counted.specs.Lines.{first_line}
use Rattle.x5_model_counted.specs.Laws.{AreOneLine, is_request, OutputIsCounted}
use Rattle.x5_model_counted.proofs.Texts.{OneLine, joined, decimal_one, name_one}
use Rattle.x5_model_counted.proofs.Lines.{Ends, ending, piece, Counted, line_counted, behind_none, whole, in_text, parts, last_empty, first_is}
use Rattle.x5_model_counted.proofs.Blocks.{quiet, heard_neither, blocks_counted}

-- ---- the line on knowledge

module _ (names : Names) (plain : AreOneLine names) where
  printed_one : (p : Printed) → OneLine (printed_text names p)
  printed_one (AgentPrinted a) = plain.agents a
  printed_one (NamePrinted n) = name_one n
  printed_one (AgreementPrinted k) = decimal_one k

  -- what stands behind `knowledge inconsistent C`
  abbrev breach_text : Inconsistency → Text
  breach_text b =
      concat (decimal b.condition ∷ codes " " ∷ printed_text names b.first ∷ codes " " ∷ printed_text names b.second ∷ codes "\n" ∷ [])

  breach_ends : (b : Inconsistency) → Ends (breach_text b)
  breach_ends b =
      piece (decimal b.condition) _ (decimal_one b.condition) (piece (codes " ") _ refl
      (piece (printed_text names b.first) _ (printed_one b.first) (piece (codes " ") _ refl
      (piece (printed_text names b.second) _ (printed_one b.second) ending))))

  knowledge_counted : (o : Option Inconsistency) → Counted (knowledge_line names o) no_counts
  knowledge_counted None = line_counted (codes "knowledge consistent") (codes "\n") refl ending
  knowledge_counted (Some b) = line_counted (codes "knowledge inconsistent C") (breach_text b) refl (breach_ends b)

  first_ends : (b : ℕ) (word t rest : Text) → OneLine (b ∷ word) → (e : Ends t) → first_line ((b ∷ word) ++ t ++ rest) ≡ (b ∷ word) ++ t
  first_ends b word t rest h e =
      ap (λ (x : Text). first_line ((b ∷ word) ++ x ++ rest)) e.is
      ∙ ap (λ (x : Text). first_line (x ++ rest)) (sym (append_assoc (b ∷ word) e.line (10 ∷ [])))
      ∙ ap first_line (append_assoc ((b ∷ word) ++ e.line) (10 ∷ []) rest)
      ∙ first_is b (word ++ e.line) rest (joined (b ∷ word) e.line h e.one)
      ∙ append_assoc (b ∷ word) e.line (10 ∷ [])
      ∙ ap (λ (x : Text). (b ∷ word) ++ x) (sym e.is)

  pub knowledge_first : (o : Option Inconsistency) (rest : Text) → first_line (knowledge_line names o ++ rest) ≡ knowledge_line names o
  knowledge_first None rest = first_is 107 (codes "nowledge consistent") rest refl
  knowledge_first (Some b) rest = first_ends 107 (codes "nowledge inconsistent C") (breach_text b) rest refl (breach_ends b)

-- ---- requests

abbrev asked_in : Block → ℕ
asked_in b = (block_counts b).requests

handed_asks : (lines : List Line) (n : ℕ) (reply : Reply) → (handed_counts lines n reply).requests ≡ 0
handed_asks [] n reply = refl
handed_asks (l ∷ more) n reply = (heard_neither l.fate reply).0

module _ (judge : Judge) (p : Point) where
  of_request : (to : ℕ) (r : Request) (b : Block) → IsBlock judge p (Asks to r) b → asked_in b ≡ 1
  of_request to r Silent is = absurd is
  of_request to r Set is = absurd is
  of_request to r (Replies j reply) is = refl
  of_request to r (Refreshing b) is = absurd is
  of_request to r (Handed via count j reply) is = absurd is
  of_request to r (Rejected raw breach) is = absurd is

  no_reply : (c : Command) → is_request c ≡ false → (j : Journal) (reply : Reply) → IsBlock judge p c (Replies j reply) → asked_in (Replies j reply) ≡ 0
  no_reply Blank e j reply is = absurd is
  no_reply (Asks to r) e j reply is = cc
  no_reply (Changes o) e j reply is = absurd is
  no_reply (Drops loses k) e j reply is = absurd is
  no_reply (Updates number pushes total) e j reply is = absurd is
  no_reply (Hands via to count (Ok m)) e j reply is = absurd is
  no_reply (Hands via to count (Err b)) e j reply is = absurd is

  of_other : (c : Command) → is_request c ≡ false → (b : Block) → IsBlock judge p c b → asked_in b ≡ 0
  of_other c e Silent is = refl
  of_other c e Set is = refl
  of_other c e (Replies j reply) is = no_reply c e j reply is
  of_other c e (Refreshing b) is = refreshes b.outcome
    where
      refreshes : (o : RefreshOutcome) → (refresh_counts o).requests ≡ 0
      refreshes (refresh.Done f) = refl
      refreshes Unheard = refl
      refreshes (Problem n) = refl
      refreshes (Missed held given) = refl
      refreshes NotConsistent = refl
  of_other c e (Handed via count j reply) is = handed_asks (reverse j.lines) (length j.accepted) reply
  of_other c e (Rejected raw breach) is = refl

  of_block : (c : Command) (b : Block) → IsBlock judge p c b → asked_in b ≡ length (filter is_request (c ∷ []))
  of_block Blank b is = of_other Blank refl b is
  of_block (Asks to r) b is = of_request to r b is
  of_block (Changes o) b is = of_other (Changes o) refl b is
  of_block (Drops loses k) b is = of_other (Drops loses k) refl b is
  of_block (Updates number pushes total) b is = of_other (Updates number pushes total) refl b is
  of_block (Hands via to count brings) b is = of_other (Hands via to count brings) refl b is

module _ (judge : Judge) (w : World) where
  pub requests_are : (commands : List Command) (blocks : List Block) (past : List Did) → IsRun judge w commands blocks past
      → (counts_of blocks).requests ≡ length (filter is_request commands)
  requests_are _ _ _ begin = refl
  requests_are _ _ _ (next {commands = cs} {blocks = bs} {past = before} command block run is) =
      ap (λ (c : Counts). c.requests) (one_more_adds bs block)
      ∙ ap₂ ◌+◌ (requests_are cs bs before run) (of_block judge (record { described = w; past = before }) command block is)
      ∙ sym (ap length (filter-append is_request cs (command ∷ [])) ∙ length-append (filter is_request cs) (filter is_request (command ∷ [])))

  -- a block for each command
  pub as_many : (commands : List Command) (blocks : List Block) (past : List Did) → IsRun judge w commands blocks past → length commands ≡ length blocks
  as_many _ _ _ begin = refl
  as_many _ _ _ (next {commands = cs} {blocks = bs} {past = before} command block run is) =
      length-append cs (command ∷ []) ∙ ap (λ n. n + 1) (as_many cs bs before run) ∙ sym (length-append bs (block ∷ []))

-- ---- the output

run_counted : (w : World) (moment : ℕ → Text) (commands : List Command) (blocks : List Block) → AreOneLine (names_of w moment)
    → length commands ≡ length blocks → in_text (run_text w moment commands blocks) ≡ quiet (counts_of blocks)
run_counted w moment commands blocks plain e =
    let names = names_of w moment in
    whole (run_text w moment commands blocks) (quiet (counts_of blocks))
    (behind_none (knowledge_line names (first_breach w)) (blocks_text names 1 commands blocks) (quiet (counts_of blocks))
    (knowledge_counted names plain (first_breach w)) (blocks_counted names plain 1 commands blocks e))

pub output_is_counted : (judge : Judge) → OutputIsCounted judge
output_is_counted judge w moment commands blocks past plain run script asked =
    let output = run_text w moment commands blocks in
    let lines = parts output in
    let all = sym (run_counted w moment commands blocks plain (as_many judge w commands blocks past run)) in
    λ i. record {
      requests = (requests_are judge w commands blocks past run ∙ asked) i;
      entries = (ap (λ (c : Counts). c.entries) all ∙ sym (last_empty (codes "entry") refl lines)) i;
      subs = (ap (λ (c : Counts). c.subs) all ∙ sym (last_empty (codes "sub") refl lines)) i;
      errors = (ap (λ (c : Counts). c.errors) all ∙ sym (last_empty (codes "error") refl lines)) i;
      referrals = (ap (λ (c : Counts). c.referrals) all ∙ sym (last_empty (codes "referral") refl lines)) i;
      unexplored = (ap (λ (c : Counts). c.unexplored) all ∙ sym (last_empty (codes "unexplored") refl lines)) i;
      accepted = (ap (λ (c : Counts). c.accepted) all ∙ sym (last_empty (codes "accepted") refl lines)) i;
      refreshed = (ap (λ (c : Counts). c.refreshed) all ∙ sym (last_empty (codes "refreshed") refl lines)) i;
    }
