-- What a run prints of its blocks where it is asked for a summary (docs/FORMATS.md, output): how many requests there
-- were, and how many lines of each of seven kinds the blocks have. All of it is this project's own.
use Rattle.std.specs.Prelude.{◌≡◌, ℕ, ◌+◌, ◌-◌, ◌^◌, List, [], ◌∷◌, ◌++◌, length, reverse, codes, min}
use Rattle.std.specs.List.{concat}
use Rattle.std.specs.Fmt.{decimal}
use Rattle.x5_model.specs.Values.{Text}
use Rattle.x5_model.specs.Answers.{Answer, EntryFound, Matched, Listed, Found, Changed, Reply, Answered}
use Rattle.x5_model.specs.Answers.{Failed, Referred}
use Rattle.x5_model_tree.specs.World.{World}
use Rattle.x5_model_tree.specs.Consistent.{first_breach}
use Rattle.x5_model_run.specs.Refresh as refresh
use Rattle.x5_model_run.specs.Refresh.{RefreshOutcome, Unheard, Problem, Missed, NotConsistent}
use Rattle.x5_model_run.specs.Network.{Fate, Lost, NoReply, Sent}
use Rattle.x5_model_run.specs.Journal.{Line}
use Rattle.x5_model_run.specs.Run.{Block, Silent, Set, Replies, Refreshing, Handed, Rejected}
use Rattle.x5_model_output.specs.Output.{names_of, knowledge_line}

-- requests, and lines that begin with `entry`, `sub`, `error`, `referral`, `unexplored`, `accepted` and `refreshed`
pub record Counts : Type 0 where
  pub requests : ℕ
  pub entries : ℕ
  pub subs : ℕ
  pub errors : ℕ
  pub referrals : ℕ
  pub unexplored : ℕ
  pub accepted : ℕ
  pub refreshed : ℕ

abbrev pub no_counts : Counts
no_counts = record {
  requests = 0;
  entries = 0;
  subs = 0;
  errors = 0;
  referrals = 0;
  unexplored = 0;
  accepted = 0;
  refreshed = 0;
}

abbrev pub both : Counts → Counts → Counts
both a b =
    record {
      requests = a.requests + b.requests;
      entries = a.entries + b.entries;
      subs = a.subs + b.subs;
      errors = a.errors + b.errors;
      referrals = a.referrals + b.referrals;
      unexplored = a.unexplored + b.unexplored;
      accepted = a.accepted + b.accepted;
      refreshed = a.refreshed + b.refreshed;
    }

-- an entry or a name below has one line, copy or not, and so has each reference that nobody followed
abbrev pub answer_counts : Answer → Counts
answer_counts (EntryFound info source) = record no_counts { entries = 1 }
answer_counts (Matched equal copy source) = no_counts
answer_counts (Listed subs sources o) = record no_counts { subs = length subs; unexplored = length o.unexplored }
answer_counts (Found infos sources o) = record no_counts { entries = length infos; unexplored = length o.unexplored }
answer_counts Changed = no_counts

abbrev pub reply_counts : Reply → Counts
reply_counts (Answered a) = answer_counts a
reply_counts (Failed x) = record no_counts { errors = 1 }
reply_counts (Referred r) = record no_counts { referrals = 1 }

-- a request, with so many agents that accepted its update
abbrev pub request_counts : ℕ → Reply → Counts
request_counts agents reply = record (reply_counts reply) { requests = 1; accepted = agents }

-- problems of shadowing are errors; a refresh that wasn't heard of is neither
abbrev pub refresh_counts : RefreshOutcome → Counts
refresh_counts (refresh.Done f) = record no_counts { refreshed = 1 }
refresh_counts Unheard = no_counts
refresh_counts (Problem n) = record no_counts { errors = 1 }
refresh_counts (Missed held given) = record no_counts { errors = 1 }
refresh_counts NotConsistent = record no_counts { errors = 1 }

-- A message that octets bring is no request of the script's; of its reply counts what is heard.
abbrev pub heard_counts : Fate → Reply → Counts
heard_counts Lost reply = no_counts
heard_counts NoReply reply = no_counts
heard_counts Sent reply = reply_counts reply

abbrev pub handed_counts : List Line → ℕ → Reply → Counts
handed_counts [] agents reply = record no_counts { accepted = agents }
handed_counts (l ∷ more) agents reply = record (heard_counts l.fate reply) { accepted = agents }

abbrev pub block_counts : Block → Counts
block_counts Silent = no_counts
block_counts Set = no_counts
block_counts (Replies j reply) = request_counts (length j.accepted) reply
block_counts (Refreshing b) = refresh_counts b.outcome
block_counts (Handed via count j reply) = handed_counts (reverse j.lines) (length j.accepted) reply
block_counts (Rejected raw breach) = no_counts

abbrev pub counts_of : List Block → Counts
counts_of [] = no_counts
counts_of (b ∷ bs) = both (block_counts b) (counts_of bs)

-- what is printed stops at 2^64 - 1
abbrev pub capped : ℕ → ℕ
capped n = min n (2 ^ 64 - 1)

abbrev pub capped_counts : Counts → Counts
capped_counts c =
    record {
      requests = capped c.requests;
      entries = capped c.entries;
      subs = capped c.subs;
      errors = capped c.errors;
      referrals = capped c.referrals;
      unexplored = capped c.unexplored;
      accepted = capped c.accepted;
      refreshed = capped c.refreshed;
    }

abbrev pub summary_line : Counts → Text
summary_line c =
    concat (codes "summary requests " ∷ decimal c.requests ∷ codes " entries " ∷ decimal c.entries ∷ codes " subs "
    ∷ decimal c.subs ∷ codes " errors " ∷ decimal c.errors ∷ [])
    ++ concat (codes " referrals " ∷ decimal c.referrals ∷ codes " unexplored " ∷ decimal c.unexplored
    ∷ codes " accepted " ∷ decimal c.accepted ∷ codes " refreshed " ∷ decimal c.refreshed ∷ codes "\n" ∷ [])

-- the whole output of a run over a world of which a summary is asked
abbrev pub summary_text : World → (ℕ → Text) → List Block → Text
summary_text w moment blocks = knowledge_line (names_of w moment) (first_breach w) ++ summary_line (capped_counts
    (counts_of blocks))

-- a block more at the end adds its counts
abbrev pub OneMoreAdds : Type 0
OneMoreAdds = (bs : List Block) (b : Block) → counts_of (bs ++ b ∷ []) ≡ both (counts_of bs) (block_counts b)

-- it is nothing to a sum whether it was capped on the way
abbrev pub CappedOnTheWay : Type 0
CappedOnTheWay = (a b : Counts) → capped_counts (both (capped_counts a) b) ≡ capped_counts (both a b)
