-- What is counted of the code's values is what the definitions count of the block for which they stand.
use Rattle.std.proofs.Common.{◌≡◌, ℕ, List, [], ◌∷◌, ◌++◌, length, map, reverse, refl, sym, ap, ◌∙◌}
use Rattle.std.proofs.lemmas.List.{length-map, length-reverse}
use Rattle.x5_model_run.specs.Journal as model
use Rattle.x5_model_run.specs.Run as run
use Rattle.x5_model_output.specs.Summary.{Counts, both, block_counts, request_counts, refresh_counts, heard_counts}
use Rattle.x5_model_output.specs.Summary.{handed_counts, counts_of}
use Rattle.x5_model_output.specs.Summary.{capped_counts, OneMoreAdds, CappedOnTheWay}
use Rattle.x5_ops.specs.AgentNames.{agent_of}
use Rattle.x5_ops.specs.AnswerViews.{reply_view}
use Rattle.x5_ops.specs.JournalViews.{messages_view}
use Rattle.x5_ops.specs.declared.answers.Reply.{Reply}
use Rattle.x5_ops.specs.declared.journal.Line.{Line}
use Rattle.x5_ops.specs.declared.journal.Line.TheVariants.{Msg, Dis, Raw}
use Rattle.x5_ops.specs.declared.journal.Journal.{Journal}
use Rattle.x5_report.specs.Blocks.{IsJournal}
use Rattle.x5_report.specs.Counted.{told_counts, counts_for, IsOf}
use Rattle.x5_report.specs.Spelled.{first_message}
use Rattle.x5_report.specs.declared.report.LineOutcome.{LineOutcome}
use Rattle.x5_report.specs.declared.report.LineOutcome.TheVariants.{Set, Answered, Plain, Refreshed, NotConsistent, Handed, Rejected}

-- as many agents accepted
as_many : (names : List (List ℕ)) (j : Journal) (m : model.Journal) → IsJournal names j m
    → length j.accepted ≡ length m.accepted
as_many names j m same =
    sym (length-map j.accepted (agent_of names)) ∙ sym (ap length same.1) ∙ length-reverse m.accepted

cons_first : {A : Type 0} (a b : A) (xs ys : List A) → a ∷ xs ≡ b ∷ ys → a ≡ b
cons_first a b xs ys e = cc

-- the first message that is printed tells whether the reply is heard
handed_as : (names : List (List ℕ)) (agents : ℕ) (reply : Reply) (ls : List model.Line) (lines : List Line)
    → map model.printed_line ls ≡ messages_view names lines
    → counts_for (first_message lines) agents (reply_view names reply) ≡ handed_counts ls agents (reply_view names reply)
handed_as names agents reply [] [] same = refl
handed_as names agents reply (l ∷ ls) [] same = cc
handed_as names agents reply [] (Msg from to operation progress t target fate ∷ more) same = cc
handed_as names agents reply (l ∷ ls) (Msg from to operation progress t target fate ∷ more) same =
    let first = cons_first _ _ (map model.printed_line ls) (messages_view names more) same in
    λ i. record (heard_counts (sym first i).fate (reply_view names reply)) { accepted = agents }
handed_as names agents reply ls (Dis from to operation agreement fate ∷ more) same =
    handed_as names agents reply ls more same
handed_as names agents reply ls (Raw to dsp n fate ∷ more) same = handed_as names agents reply ls more same

pub of_block : (names : List (List ℕ)) (j : Journal) (o : LineOutcome) (b : run.Block) → IsOf names j o b
    → told_counts names j o ≡ block_counts b
of_block names j Set b e = ap block_counts (sym e)
of_block names j (Answered reply) b w =
    ap (λ n. request_counts n (reply_view names reply)) (as_many names j w.0 w.1) ∙ ap block_counts (sym w.2)
of_block names j (Plain reply) b w = absurd w
of_block names j (Refreshed number f heard) b w = ap refresh_counts (sym w.1) ∙ ap block_counts (sym w.2)
of_block names j NotConsistent b w = ap refresh_counts (sym w.1) ∙ ap block_counts (sym w.2)
of_block names j (Handed dsp count reply) b w =
    ap (λ n. counts_for (first_message j.lines) n (reply_view names reply)) (as_many names j w.0 w.1)
    ∙ handed_as names (length w.0.accepted) reply (reverse w.0.lines) j.lines w.1.0
    ∙ ap block_counts (sym w.2)
of_block names j (Rejected dsp to count fate breach) b e = ap block_counts (sym e)

pub of_run : OneMoreAdds → CappedOnTheWay → (names : List (List ℕ)) (j : Journal) (o : LineOutcome) (old new : Counts)
    → new ≡ capped_counts (both old (told_counts names j o)) → (b : run.Block) (blocks : List run.Block)
    → IsOf names j o b
    → old ≡ capped_counts (counts_of blocks) → new ≡ capped_counts (counts_of (blocks ++ b ∷ []))
of_run more capped names j o old new adds b blocks w before =
    adds
    ∙ (λ i. capped_counts (both (before i) (of_block names j o b w i)))
    ∙ capped (counts_of blocks) (block_counts b)
    ∙ ap capped_counts (sym (more blocks b))
