-- What is counted of a command's block, and which block of a run the code's values stand for.
use Rattle.std.specs.Prelude.{◌≡◌, ℕ, List, length}
use Rattle.std.specs.declared.option.Option.{Option}
use Rattle.std.specs.declared.option.Option.TheVariants.{None, Some}
use Rattle.x5_model.specs.Answers.{Reply}
use Rattle.x5_model_run.specs.Journal as model
use Rattle.x5_model_run.specs.Refresh as refresh
use Rattle.x5_model_run.specs.Run as run
use Rattle.x5_model_output.specs.Summary.{Counts, no_counts, request_counts, refresh_counts, heard_counts}
use Rattle.x5_ops.specs.AnswerViews.{reply_view}
use Rattle.x5_ops.specs.JournalViews.{fate_view, protocol_view}
use Rattle.x5_ops.specs.declared.journal.Fate.{Fate}
use Rattle.x5_ops.specs.declared.journal.Line.{Line}
use Rattle.x5_ops.specs.declared.journal.Journal.{Journal}
use Rattle.x5_typed.specs.Breaches.{breach_view}
use Rattle.x5_report.specs.Blocks.{IsJournal, raw_of}
use Rattle.x5_report.specs.Spelled.{first_message}
use Rattle.x5_ops.specs.RefreshViews.{refreshed_view}
use Rattle.x5_report.specs.declared.totals.Totals.{Totals}
use Rattle.x5_report.specs.declared.report.LineOutcome.{LineOutcome}
use Rattle.x5_report.specs.declared.report.LineOutcome.TheVariants.{Set, Answered, Plain, Refreshed, NotConsistent}
use Rattle.x5_report.specs.declared.report.LineOutcome.TheVariants.{Handed, Rejected}

abbrev pub totals_view : Totals → Counts
totals_view t =
    record {
      requests = t.requests;
      entries = t.entries;
      subs = t.subs;
      errors = t.errors;
      referrals = t.referrals;
      unexplored = t.unexplored;
      accepted = t.accepted;
      refreshed = t.refreshed;
    }

-- a request that octets brought, by its first message, for which they stand: of its reply counts what is heard
abbrev pub counts_for : Option (List ℕ × Fate × List Line) → ℕ → Reply → Counts
counts_for None agents reply = record no_counts { accepted = agents }
counts_for (Some first) agents reply = record (heard_counts (fate_view first.1) reply) { accepted = agents }

-- whatever the agents are called
abbrev pub told_counts : List (List ℕ) → Journal → LineOutcome → Counts
told_counts names j Set = no_counts
told_counts names j (Answered reply) = request_counts (length j.accepted) (reply_view names reply)
told_counts names j (Plain reply) = request_counts 0 (reply_view names reply)
told_counts names j (Refreshed number f heard) = refresh_counts (refreshed_view heard number f)
told_counts names j NotConsistent = refresh_counts refresh.NotConsistent
told_counts names j (Handed dsp count reply) =
    counts_for (first_message j.lines) (length j.accepted) (reply_view names reply)
told_counts names j (Rejected dsp to count fate breach) = no_counts

-- The values stand for the block of a run. Those of the one tree stand for none.
abbrev pub IsOf : List (List ℕ) → Journal → LineOutcome → run.Block → Type 0
IsOf names j Set b = b ≡ run.Set
IsOf names j (Answered reply) b = (m : model.Journal) × IsJournal names j m × (b ≡ run.Replies m
    (reply_view names reply))
IsOf names j (Plain reply) b = ⊥
IsOf names j (Refreshed number f heard) b = (r : refresh.RefreshBlock) × (r.outcome ≡ refreshed_view heard number f)
    × (b ≡ run.Refreshing r)
IsOf names j NotConsistent b = (r : refresh.RefreshBlock) × (r.outcome ≡ refresh.NotConsistent) × (b ≡ run.Refreshing r)
IsOf names j (Handed dsp count reply) b = (m : model.Journal) × IsJournal names j m
    × (b ≡ run.Handed (protocol_view dsp) count m (reply_view names reply))
IsOf names j (Rejected dsp to count fate breach) b =
    b ≡ run.Rejected (raw_of names dsp to count fate) (breach_view breach)
