-- What each block adds to the counts is what is counted of it, but for the request that it may be.
use Rattle.std.proofs.Common.{◌≡◌, ℕ, suc, ◌+◌, Bool, true, false, cond, List, [], ◌∷◌, ◌++◌, length, reverse, refl, ap, ◌∙◌, codes, arith}
use Rattle.std.proofs.lemmas.List.{length-reverse}
use Rattle.std.specs.List.{flat_map}
use Rattle.x5_model.specs.Values.{Text}
use Rattle.x5_model.specs.Words.{insert_sorted, sorted}
use Rattle.x5_model.specs.Answers.{Source, Outcome, Answer, EntryFound, Matched, Listed, Found, Changed, Reply, Answered, Failed, Referred}
use Rattle.x5_model_run.specs.Journal.{Line, Journal}
use Rattle.x5_model_run.specs.Network.{Fate, Lost, NoReply, Sent}
use Rattle.x5_model_run.specs.Refresh as refresh
use Rattle.x5_model_run.specs.Refresh.{RefreshOutcome, Unheard, Problem, Missed, NotConsistent}
use Rattle.x5_model_run.specs.Run.{Protocol, Command, Block, Silent, Set, Replies, Refreshing, Handed, Rejected}
use Rattle.x5_model_output.specs.Output.{Names, message_line, accepted_line, journal_text, sub_line, count_line, source_line, source_lines, source_below, reference_below, unexplored_line, limit_line, outcome_lines, answer_lines, entry_lines, reply_lines, shadow_line, refresh_line, number_of, raw_line, reject_line, heard_by, brought, handed_text, number_line, block_text, blocks_text}
use Rattle.x5_model_output.specs.Summary.{Counts, no_counts, both, answer_counts, reply_counts, refresh_counts, heard_counts, handed_counts, block_counts, counts_of}
use Rattle.x5_model_counted.specs.Laws.{AreOneLine}
use Rattle.x5_model_counted.proofs.Lines.{Counted, nothing, in_turn, before_none, behind_none, the_same}
use Rattle.x5_model_counted.proofs.Printed.{entries_of, subs_of, unexplored_of, accepted_of, none_each, entries_each, subs_each, unexplored_each, accepted_each, entry_counted, match_counted, sub_counted, listed_counted, found_counted, limit_counted, changed_counted, set_counted, number_counted, unrefreshed_counted, reject_counted, message_counted, agent_counted, source_counted, unexplored_counted, referral_counted, error_counted, shadow_counted, refreshed_counted, problem_counted, missed_counted, inconsistent_counted, raw_counted}

-- ---- sums of kinds

-- without the request
abbrev pub quiet : Counts → Counts
quiet c = record c { requests = 0 }

first : (n : ℕ) → 0 + n ≡ n
first n = omega arith

last : (n : ℕ) → n + 0 ≡ n
last n = omega arith

entries_and : (n m : ℕ) → both (entries_of n) (unexplored_of m) ≡ record no_counts { entries = n; unexplored = m }
entries_and n m = λ i. record no_counts { entries = last n i; unexplored = first m i }

subs_and : (n m : ℕ) → both (subs_of n) (unexplored_of m) ≡ record no_counts { subs = n; unexplored = m }
subs_and n m = λ i. record no_counts { subs = last n i; unexplored = first m i }

-- accepted updates beside what has neither these nor requests
beside : (n : ℕ) (c : Counts) → c.requests ≡ 0 → c.accepted ≡ 0 → both (accepted_of n) c ≡ record c { requests = 0; accepted = n }
beside n c r a =
    λ i. record {
      requests = none i;
      entries = first c.entries i;
      subs = first c.subs i;
      errors = first c.errors i;
      referrals = first c.referrals i;
      unexplored = first c.unexplored i;
      accepted = so_many i;
      refreshed = first c.refreshed i;
    }
  where
    none : 0 + c.requests ≡ 0
    none = omega (arith, r)

    so_many : n + c.accepted ≡ n
    so_many = omega (arith, a)

abbrev HasNeither : Counts → Type 0
HasNeither c = (c.requests ≡ 0) × (c.accepted ≡ 0)

answers_neither : (a : Answer) → HasNeither (answer_counts a)
answers_neither (EntryFound info source) = (refl, refl)
answers_neither (Matched equal copy source) = (refl, refl)
answers_neither (Listed subs sources o) = (refl, refl)
answers_neither (Found infos sources o) = (refl, refl)
answers_neither Changed = (refl, refl)

replies_neither : (r : Reply) → HasNeither (reply_counts r)
replies_neither (Answered a) = answers_neither a
replies_neither (Failed x) = (refl, refl)
replies_neither (Referred r) = (refl, refl)

pub heard_neither : (f : Fate) (r : Reply) → HasNeither (heard_counts f r)
heard_neither Lost r = (refl, refl)
heard_neither NoReply r = (refl, refl)
heard_neither Sent r = replies_neither r

-- ---- sorting leaves their number

length_insert : {X : Type 0} (below : X → X → Bool) (x : X) (xs : List X) → length (insert_sorted below x xs) ≡ suc (length xs)
length_insert below x [] = refl
length_insert below x (y ∷ ys) = by (below y x) (length_insert below x ys)
  where
    by : (b : Bool) → length (insert_sorted below x ys) ≡ suc (length ys) → length (cond b (y ∷ insert_sorted below x ys) (x ∷ y ∷ ys)) ≡ suc (length (y ∷ ys))
    by true e = ap suc e
    by false e = refl

length_sorted : {X : Type 0} (below : X → X → Bool) (xs : List X) → length (sorted below xs) ≡ length xs
length_sorted below [] = refl
length_sorted below (x ∷ xs) = length_insert below x (sorted below xs) ∙ ap suc (length_sorted below xs)

module _ (names : Names) (plain : AreOneLine names) where
  -- ---- answers

  outcome_counted : (sources : List Source) (o : Outcome) → Counted (outcome_lines names sources o) (unexplored_of (length o.unexplored))
  outcome_counted sources o =
      let rest = sorted (reference_below names) o.unexplored in
      behind_none (source_lines names sources) _ (unexplored_of (length o.unexplored))
      (none_each (source_line names) (source_counted names plain) (sorted source_below sources))
      (before_none (flat_map (unexplored_line names) rest) _ (unexplored_of (length o.unexplored))
      (the_same (flat_map (unexplored_line names) rest) (unexplored_of (length rest)) (unexplored_of (length o.unexplored))
      (ap unexplored_of (length_sorted (reference_below names) o.unexplored))
      (unexplored_each (unexplored_line names) (unexplored_counted names plain) rest))
      (before_none (limit_line o.limited) [] no_counts (limit_counted o.limited) nothing))

  answer_counted : (a : Answer) → Counted (answer_lines names a) (answer_counts a)
  answer_counted (EntryFound info source) =
      before_none (entry_lines info) (source_line names source) (entries_of 1) (entry_counted info) (source_counted names plain source)
  answer_counted (Matched equal copy source) =
      before_none _ (source_line names source) no_counts (match_counted equal copy) (source_counted names plain source)
  answer_counted (Listed subs sources o) =
      behind_none (count_line (codes "listed") (length subs)) _ (answer_counts (Listed subs sources o)) (listed_counted (length subs))
      (the_same _ (both (subs_of (length subs)) (unexplored_of (length o.unexplored))) (answer_counts (Listed subs sources o)) (subs_and (length subs) (length o.unexplored))
      (in_turn (flat_map sub_line subs) (outcome_lines names sources o ++ []) (subs_of (length subs)) (unexplored_of (length o.unexplored)) (subs_each sub_line sub_counted subs)
      (before_none (outcome_lines names sources o) [] (unexplored_of (length o.unexplored)) (outcome_counted sources o) nothing)))
  answer_counted (Found infos sources o) =
      behind_none (count_line (codes "found") (length infos)) _ (answer_counts (Found infos sources o)) (found_counted (length infos))
      (the_same _ (both (entries_of (length infos)) (unexplored_of (length o.unexplored))) (answer_counts (Found infos sources o)) (entries_and (length infos) (length o.unexplored))
      (in_turn (flat_map entry_lines infos) (outcome_lines names sources o ++ []) (entries_of (length infos)) (unexplored_of (length o.unexplored)) (entries_each entry_lines entry_counted infos)
      (before_none (outcome_lines names sources o) [] (unexplored_of (length o.unexplored)) (outcome_counted sources o) nothing)))
  answer_counted Changed = changed_counted

  reply_counted : (r : Reply) → Counted (reply_lines names r) (reply_counts r)
  reply_counted (Answered a) = answer_counted a
  reply_counted (Failed x) = error_counted names plain x
  reply_counted (Referred r) = referral_counted names plain r

  heard_counted : (f : Fate) (r : Reply) → Counted (heard_by f (reply_lines names r)) (heard_counts f r)
  heard_counted Lost r = nothing
  heard_counted NoReply r = nothing
  heard_counted Sent r = reply_counted r

  refresh_counted : (n : ℕ) (o : RefreshOutcome) → Counted (refresh_line names n o) (refresh_counts o)
  refresh_counted n (refresh.Done f) = refreshed_counted names plain f
  refresh_counted n Unheard = unrefreshed_counted n
  refresh_counted n (Problem p) = problem_counted names plain p
  refresh_counted n (Missed held given) = missed_counted names plain held given
  refresh_counted n NotConsistent = inconsistent_counted

  -- ---- messages, and agents that accepted

  messages_counted : (lines : List Line) → Counted (flat_map (message_line names) lines) no_counts
  messages_counted lines = none_each (message_line names) (message_counted names plain) lines

  acceptors_counted : (agents : List ℕ) → Counted (flat_map (accepted_line names) (reverse agents)) (accepted_of (length agents))
  acceptors_counted agents =
      the_same _ (accepted_of (length (reverse agents))) (accepted_of (length agents)) (ap accepted_of (length-reverse agents))
      (accepted_each (accepted_line names) (agent_counted names plain) (reverse agents))

  journal_counted : (j : Journal) → Counted (journal_text names j) (accepted_of (length j.accepted))
  journal_counted j =
      behind_none (flat_map (message_line names) (reverse j.lines)) (flat_map (accepted_line names) (reverse j.accepted)) (accepted_of (length j.accepted))
      (messages_counted (reverse j.lines)) (acceptors_counted j.accepted)

  -- ---- blocks

  handed_counted : (via : Protocol) (count : ℕ) (lines : List Line) (agents : List ℕ) (reply : Reply)
      → Counted (handed_text names via count lines (reverse agents) reply) (quiet (handed_counts lines (length agents) reply))
  handed_counted via count [] agents reply = acceptors_counted agents
  handed_counted via count (l ∷ more) agents reply =
      let c = heard_counts l.fate reply in
      let neither = heard_neither l.fate reply in
      behind_none (raw_line names (brought via count l)) _ _ (raw_counted names plain (brought via count l))
      (behind_none (flat_map (message_line names) more) _ _ (messages_counted more)
      (the_same _ (both (accepted_of (length agents)) c) (record c { requests = 0; accepted = length agents }) (beside (length agents) c neither.0 neither.1)
      (in_turn (flat_map (accepted_line names) (reverse agents)) _ (accepted_of (length agents)) c (acceptors_counted agents)
      (before_none (heard_by l.fate (reply_lines names reply)) [] c (heard_counted l.fate reply) nothing))))

  breach_counted : (f : Fate) (text : Text) → Counted text no_counts → Counted (heard_by f text) no_counts
  breach_counted Lost text h = nothing
  breach_counted NoReply text h = nothing
  breach_counted Sent text h = h

  pub block_counted : (n : ℕ) (command : Command) (b : Block) → Counted (block_text names n command b) (quiet (block_counts b))
  block_counted n command Silent = nothing
  block_counted n command Set = before_none (number_line n) (codes "set\n") no_counts (number_counted n) set_counted
  block_counted n command (Replies j reply) =
      let c = reply_counts reply in
      let neither = replies_neither reply in
      behind_none (number_line n) _ _ (number_counted n)
      (the_same _ (both (accepted_of (length j.accepted)) c) (record c { requests = 0; accepted = length j.accepted }) (beside (length j.accepted) c neither.0 neither.1)
      (in_turn (journal_text names j) _ (accepted_of (length j.accepted)) c (journal_counted j)
      (before_none (reply_lines names reply) [] c (reply_counted reply) nothing)))
  block_counted n command (Refreshing b) =
      behind_none (number_line n) _ _ (number_counted n)
      (behind_none (flat_map (shadow_line names) b.lines) _ _ (none_each (shadow_line names) (shadow_counted names plain) b.lines)
      (before_none (refresh_line names (number_of command) b.outcome) [] _ (refresh_asks b.outcome (refresh_counted (number_of command) b.outcome)) nothing))
    where
      refresh_asks : (o : RefreshOutcome) → Counted (refresh_line names (number_of command) o) (refresh_counts o) → Counted (refresh_line names (number_of command) o) (quiet (refresh_counts o))
      refresh_asks (refresh.Done f) h = h
      refresh_asks Unheard h = h
      refresh_asks (Problem p) h = h
      refresh_asks (Missed held given) h = h
      refresh_asks NotConsistent h = h
  block_counted n command (Handed via count j reply) =
      behind_none (number_line n) _ _ (number_counted n) (handed_counted via count (reverse j.lines) j.accepted reply)
  block_counted n command (Rejected raw breach) =
      before_none (number_line n) _ no_counts (number_counted n)
      (before_none (raw_line names raw) _ no_counts (raw_counted names plain raw) (breach_counted raw.fate (reject_line breach) (reject_counted breach)))

  pub blocks_counted : (n : ℕ) (commands : List Command) (blocks : List Block) → length commands ≡ length blocks
      → Counted (blocks_text names n commands blocks) (quiet (counts_of blocks))
  blocks_counted n [] [] e = nothing
  blocks_counted n [] (b ∷ bs) e = cc
  blocks_counted n (c ∷ cs) [] e = cc
  blocks_counted n (c ∷ cs) (b ∷ bs) e =
      in_turn (block_text names n c b) (blocks_text names (n + 1) cs bs) (quiet (block_counts b)) (quiet (counts_of bs)) (block_counted n c b)
      (blocks_counted (n + 1) cs bs (omega (arith, e)))
