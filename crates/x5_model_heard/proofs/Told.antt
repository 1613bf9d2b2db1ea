-- Replies name agents of the world, and references to those that are unavailable: by one induction over all that is
-- done.
use Rattle.std.proofs.Common.{◌≡◌, ℕ, nat_lt, Bool, true, false, not, inl, inr, List, [], ◌∷◌, ◌++◌, refl, ap, subst, ◌∙◌, Option, Some, None, cond}
use Rattle.std.specs.List.{list_all, filter}
use Rattle.x5_model.specs.References.{Reference, Chained}
use Rattle.x5_model.specs.Answers.{Source, Answer, EntryFound, Matched, Listed, Found, Changed, DirError, NoSuchObject, AttributeProblem, UpdateProblem, ServiceProblem, Reply, Answered, Failed}
use Rattle.x5_model.specs.Problems.{unavailable, loop_detected}
use Rattle.x5_model.proofs.Lists.{both_true, and_true}
use Rattle.x5_model_tree.specs.Tree.{tree_of}
use Rattle.x5_model_tree.specs.Ask.{Told, Shows, Compares, Lists, Finds, Changes, Refuses, unexplored_of, ask_marked}
use Rattle.x5_model_run.specs.Journal.{Journal, is_wide, item_of}
use Rattle.x5_model_run.specs.Holdings.{Holdings, ground_at}
use Rattle.x5_model_run.specs.Chain.{Scene}
use Rattle.x5_model_theory.proofs.Tests.{false_true}
use Rattle.x5_model_serve.specs.Answering.{own_source, copy_source, reply_from, local_part, with_unexplored, only_unexplored, limited_answer, merged, passed_by, in_vain, of_these, is_unavailable}
use Rattle.x5_model_serve.specs.Serving.{Hand, hand, carried_for, is_looped, limit_reply, held_back, Heard, Unheard, Hears, Gathered, Whole, Broken, Act, Does, holds_now, at_limit, gathered_reply, heard_or, parts_refs, stuck_problem, loops, is_long, done_before, refused, unfit, stuck, nowhere, refers, goes, casts, reads, reads_copy, gives_parts, asks_parts, updates, not_done, does, probes_all, misses, taken, breaks, no_probe, clear, unsure, silent, holds_back, spent, lost, dropped, sends, final, referral, wide_referral, unexplored, none_yet, in_vain_too, heard, unheard, none_asked, unable_too, silent_too, answered, nobody_has, some_silent, no_part, part_unheard, part_unavailable, part_answered, part_breaks}
use Rattle.x5_model_heard.specs.Told.{are_agents, name_agents, reply_names, error_names, KnowsAgents, IsTold, IsToldHeard, IsToldWhole, Tells, RepliesAreTold}
use Rattle.x5_model_heard.proofs.Errors.{is_tree_error, fault_plain, over_plain, asked_plain, no_service}

-- a user tells himself no reference, and is unavailable by none
held_told : (n : ℕ) (k : Hand) → IsTold n (held_back k)
held_told n k = by (is_looped k)
  where
    by : (b : Bool) → IsTold n (cond b (Failed (ServiceProblem loop_detected None (Some (item_of k.receiver k.message)))) limit_reply)
    by true = record { agents = refl; reference = inl refl }
    by false = record { agents = refl; reference = inl refl }

all_both : {A : Type 0} (test : A → Bool) (xs ys : List A) → list_all test xs ≡ true → list_all test ys ≡ true
    → list_all test (xs ++ ys) ≡ true
all_both test [] ys e f = f
all_both test (x ∷ xs) ys e f =
    let b = both_true (test x) (list_all test xs) e in
    and_true (test x) (list_all test (xs ++ ys)) b.0 (all_both test xs ys b.1 f)

all_left : {A : Type 0} (test : A → Bool) (xs ys : List A) → list_all test (xs ++ ys) ≡ true → list_all test xs ≡ true
all_left test [] ys e = refl
all_left test (x ∷ xs) ys e =
    let b = both_true (test x) (list_all test (xs ++ ys)) e in
    and_true (test x) (list_all test xs) b.0 (all_left test xs ys b.1)

all_right : {A : Type 0} (test : A → Bool) (xs ys : List A) → list_all test (xs ++ ys) ≡ true → list_all test ys ≡ true
all_right test [] ys e = e
all_right test (x ∷ xs) ys e = all_right test xs ys (both_true (test x) (list_all test (xs ++ ys)) e).1

all_first : {A : Type 0} (test : A → Bool) (x : A) (xs : List A) → list_all test (x ∷ xs) ≡ true → test x ≡ true
all_first test x xs e = (both_true (test x) (list_all test xs) e).0

all_one : {A : Type 0} (test : A → Bool) (x : A) → test x ≡ true → list_all test (x ∷ []) ≡ true
all_one test x e = and_true (test x) true e refl

all_filter : {A : Type 0} (test keep : A → Bool) (xs : List A) → list_all test xs ≡ true
    → list_all test (filter keep xs) ≡ true
all_filter test keep [] e = refl
all_filter test keep (x ∷ xs) e =
    let b = both_true (test x) (list_all test xs) e in
    by (keep x) b.0 (all_filter test keep xs b.1)
  where
    by : (k : Bool) → test x ≡ true → list_all test (filter keep xs) ≡ true
        → list_all test (cond k (x ∷ filter keep xs) (filter keep xs)) ≡ true
    by true f g = and_true (test x) (list_all test (filter keep xs)) f g
    by false f g = g

module _ (n : ℕ) where
  abbrev named : Reference → Bool
  named r = are_agents n r.agents

  plain : (x : DirError) → is_tree_error x ≡ true → IsTold n (Failed x)
  plain x e = record { agents = names x e; reference = inl (no_service unavailable x e) }
    where
      names : (y : DirError) → is_tree_error y ≡ true → error_names n y ≡ true
      names (NoSuchObject name) f = refl
      names (AttributeProblem k t) f = refl
      names (UpdateProblem k) f = refl
      names (ServiceProblem k r i) f = absurd (false_true f)

  shown : (source : Source) (t : Told) → ((x : DirError) → t ≡ Refuses x → is_tree_error x ≡ true)
      → IsTold n (reply_from (source ∷ []) t)
  shown source (Shows info) f = record { agents = refl; reference = inl refl }
  shown source (Compares equal copy) f = record { agents = refl; reference = inl refl }
  shown source (Lists subs cut) f = record { agents = refl; reference = inl refl }
  shown source (Finds infos cut) f = record { agents = refl; reference = inl refl }
  shown source Changes f = record { agents = refl; reference = inl refl }
  shown source (Refuses x) f = plain x (f x refl)

  none_left : (sources : List Source) (t : Told) (a : Answer) → reply_from sources t ≡ Answered a
      → name_agents n (unexplored_of a) ≡ true
  none_left [] (Shows info) a e = cc
  none_left (x ∷ xs) (Shows info) a e = through e refl
    where
      through : {b c : Answer} → Answered b ≡ Answered c → name_agents n (unexplored_of b) ≡ true
          → name_agents n (unexplored_of c) ≡ true
      through {b} {c} f g = subst (λ (y : Reply). reply_names n y ≡ true) f g
  none_left [] (Compares equal copy) a e = cc
  none_left (x ∷ xs) (Compares equal copy) a e = subst (λ (y : Reply). reply_names n y ≡ true) e refl
  none_left sources (Lists subs cut) a e = subst (λ (y : Reply). reply_names n y ≡ true) e refl
  none_left sources (Finds infos cut) a e = subst (λ (y : Reply). reply_names n y ≡ true) e refl
  none_left sources Changes a e = subst (λ (y : Reply). reply_names n y ≡ true) e refl
  none_left sources (Refuses x) a e = cc

  local_names : (h : Holdings) (m : Chained) (a : Answer) → local_part h m ≡ Answered a
      → name_agents n (unexplored_of a) ≡ true
  local_names h m a e = none_left _ _ a e

  with_names : (rs : List Reference) (a : Answer) → name_agents n rs ≡ true → name_agents n (unexplored_of a) ≡ true
      → name_agents n (unexplored_of (with_unexplored rs a)) ≡ true
  with_names rs (EntryFound info source) e f = refl
  with_names rs (Matched equal copy source) e f = refl
  with_names rs (Listed subs sources o) e f = all_both named o.unexplored rs f e
  with_names rs (Found infos sources o) e f = all_both named o.unexplored rs f e
  with_names rs Changed e f = refl

  merged_names : (a b : Answer) → name_agents n (unexplored_of a) ≡ true → name_agents n (unexplored_of b) ≡ true
      → name_agents n (unexplored_of (merged a b)) ≡ true
  merged_names (Listed subs sources o) (Listed more others q) e f = all_both named o.unexplored q.unexplored e f
  merged_names (Found infos sources o) (Found more others q) e f = all_both named o.unexplored q.unexplored e f
  merged_names (EntryFound info source) b e f = e
  merged_names (Matched equal copy source) b e f = e
  merged_names Changed b e f = e
  merged_names (Listed subs sources o) (EntryFound info source) e f = e
  merged_names (Listed subs sources o) (Matched equal copy source) e f = e
  merged_names (Listed subs sources o) (Found more others q) e f = e
  merged_names (Listed subs sources o) Changed e f = e
  merged_names (Found infos sources o) (EntryFound info source) e f = e
  merged_names (Found infos sources o) (Matched equal copy source) e f = e
  merged_names (Found infos sources o) (Listed more others q) e f = e
  merged_names (Found infos sources o) Changed e f = e

  limited_names : (size : Option ℕ) (a : Answer) → unexplored_of (limited_answer size a) ≡ unexplored_of a
  limited_names size (EntryFound info source) = refl
  limited_names size (Matched equal copy source) = refl
  limited_names size (Listed subs sources o) = refl
  limited_names size (Found infos sources o) = refl
  limited_names size Changed = refl

  only_names : (a : Answer) → name_agents n (unexplored_of a) ≡ true
      → name_agents n (unexplored_of (only_unexplored (passed_by a) a)) ≡ true
  only_names (EntryFound info source) e = refl
  only_names (Matched equal copy source) e = refl
  only_names (Listed subs sources o) e = all_filter named (λ r. r.tried) o.unexplored e
  only_names (Found infos sources o) e = all_filter named (λ r. r.tried) o.unexplored e
  only_names Changed e = refl

  at_limit_names : (k : Hand) (a : Answer) → name_agents n (unexplored_of a) ≡ true → IsTold n (Answered (at_limit k a))
  at_limit_names k a e = record {
    agents = ap (name_agents n) (limited_names k.message.request.controls.size a) ∙ e;
    reference = inl refl;
  }

  whole_names : (k : Hand) (w : Gathered) → IsToldWhole n w → IsTold n (gathered_reply k w)
  whole_names k (Whole a) e = at_limit_names k a e
  whole_names k (Broken y) e = e

  lost_named : (r : Reference) → are_agents n r.agents ≡ true → IsTold n (is_unavailable r)
  lost_named r e = record { agents = e; reference = inr (r, refl) }

  heard_names : (r : Reference) (h : Heard) → are_agents n r.agents ≡ true → IsToldHeard n h
      → IsTold n (heard_or (is_unavailable (in_vain r)) h)
  heard_names r Unheard e f = lost_named (in_vain r) e
  heard_names r (Hears y) e f = f

  stuck_names : (k : Hand) (u : Reference) → are_agents n u.agents ≡ true
      → IsTold n (Failed (ServiceProblem (stuck_problem k) (Some u) None))
  stuck_names k u e = by (is_wide k.message.kind) refl
    where
      by : (b : Bool) → is_wide k.message.kind ≡ b
          → IsTold n (Failed (ServiceProblem (stuck_problem k) (Some u) None))
      by true q = record { agents = e; reference = inl (rw q refl) }
      by false q = record { agents = e; reference = inl (rw q refl) }

  unavailable_names : (u : Reference) → IsTold n (is_unavailable u) → are_agents n u.agents ≡ true
  unavailable_names u t = t.agents

module _ (n : ℕ) (s : Scene) (most : ℕ) (knows : KnowsAgents n s) where
  tells : (x : Act) (i j : Journal) → Does s most x i j → Tells n x
  tells _ _ _ (loops e) = λ here. record { agents = refl; reference = inl refl }
  tells _ _ _ (is_long e f) = λ here. record { agents = refl; reference = inl refl }
  tells _ _ _ (done_before e f g) = λ here. record { agents = refl; reference = inl refl }
  tells _ _ _ (refused {k} x e f g h) = λ here. plain n x (fault_plain k.message.request.body x h)
  tells _ _ _ (unfit {k} e f g h i) = λ here.
      record { agents = all_one (λ a. nat_lt a n) k.receiver here; reference = inl refl }
  tells _ _ _ (stuck {k} a e) = λ here. stuck_names n k _ (all_one (λ a. nat_lt a n) k.receiver here)
  tells _ _ _ (nowhere m a e) = λ here. record { agents = refl; reference = inl refl }
  tells _ _ _ (refers {k} {j} r a e f) = λ here. record { agents = knows.onward j k r here e; reference = inl refl }
  tells _ _ _ (goes {k} {i} r h a e f g d) =
      let next = tells _ _ _ d in
      λ here. (let names = knows.onward i k r here e in heard_names n r h names (next names))
  tells _ _ _ (casts {k} {i} r y a e f g d) = (let next = tells _ _ _ d in λ here. next (knows.onward i k r here e))
  tells _ _ _ (reads {k} c a e f g) = λ here. shown n (own_source k.receiver c)
      (ask_marked (λ key. false) (tree_of c.entries []) k.message.request)
      (λ x z. asked_plain (λ key. false) (tree_of c.entries []) k.message.request x z)
  tells _ _ _ (reads_copy {k} c a e f) = λ here. shown n (copy_source k.receiver c)
      (ask_marked (λ key. true) (tree_of c.held.entries []) k.message.request)
      (λ x z. asked_plain (λ key. true) (tree_of c.held.entries []) k.message.request x z)
  tells _ _ _ (gives_parts {k} {j} y a e f g) = λ here. at_limit_names n k (with_unexplored (parts_refs s j k) y)
      (with_names n (parts_refs s j k) y (knows.parts j k here) (local_names n (holds_now s j k) k.message y g))
  tells _ _ _ (asks_parts {k} {i} y w a e f g d) =
      let next = tells _ _ _ d in
      λ here. whole_names n k w (next (knows.parts i k here) (local_names n (holds_now s i k) k.message y g))
  tells _ _ _ (updates c y a e f d) = (let next = tells _ _ _ d in λ here. next here)
  tells _ _ _ (not_done {k} {j} x e) = λ here.
      plain n x (over_plain (ground_at k.message.request (holds_now s j k)) k.message.request.body x e)
  tells _ _ _ (does mine e f) = λ here. record { agents = refl; reference = inl refl }
  tells _ _ _ (probes_all mine r e f d) = λ here. record { agents = refl; reference = inl refl }
  tells _ _ _ (misses {k} {i} mine r a noted e f d) =
      let next = tells _ _ _ d in
      λ here.
      (let names : name_agents n (r ∷ []) ≡ true =
      subst (λ (rs : List Reference). name_agents n rs ≡ true) f (knows.probes i k here) in
      lost_named n (of_these (noted ++ a ∷ []) r) (next (all_first (named n) r [] names)))
  tells _ _ _ (taken mine r a b c m y e f g d u) = λ here. record { agents = refl; reference = inl refl }
  tells _ _ _ (breaks {k} {i} mine r a b c m x e f g p q d u) =
      let next = tells _ _ _ u in
      λ here.
      (let names : name_agents n (r ∷ []) ≡ true =
      subst (λ (rs : List Reference). name_agents n rs ≡ true) f (knows.probes i k here) in
      let all : are_agents n (b ++ a ∷ c) ≡ true =
      subst (λ (xs : List ℕ). are_agents n xs ≡ true) g (all_first (named n) r [] names) in
      next (all_first (λ x. nat_lt x n) a c (all_right (λ x. nat_lt x n) b (a ∷ c) all)))
  tells _ _ _ no_probe = λ all. refl
  tells _ _ _ (clear {before = b} a y e d u) =
      (let next = tells _ _ _ d in λ all. next (all_left (λ x. nat_lt x n) b (a ∷ []) all))
  tells _ _ _ (unsure {before = b} {noted = m} a y e d u) =
      let next = tells _ _ _ d in
      λ all. all_both (λ x. nat_lt x n) m (a ∷ []) (next (all_left (λ x. nat_lt x n) b (a ∷ []) all))
      (all_right (λ x. nat_lt x n) b (a ∷ []) all)
  tells _ _ _ (silent {before = b} {noted = m} a d u) =
      let next = tells _ _ _ d in
      λ all. all_both (λ x. nat_lt x n) m (a ∷ []) (next (all_left (λ x. nat_lt x n) b (a ∷ []) all))
      (all_right (λ x. nat_lt x n) b (a ∷ []) all)
  tells _ _ _ (holds_back {from} {o} {r} a e) = λ there. held_told n (hand a (carried_for from o r))
  tells _ _ _ (spent a hb e) = λ there. record { agents = refl; reference = inl refl }
  tells _ _ _ (lost a hb e f) = λ there. tt
  tells _ _ _ (dropped a y hb e f d) = λ there. tt
  tells _ _ _ (sends a y z hb e f d u) =
      (let first = tells _ _ _ d in let next = tells _ _ _ u in λ there. next (first there))
  tells _ _ _ (final y e) = λ told. told
  tells _ _ _ (referral r h e d) =
      (let next = tells _ _ _ d in λ told. heard_names n r h told.agents (next told.agents))
  tells _ _ _ (wide_referral r y e d) = (let next = tells _ _ _ d in λ told. next told.agents)
  tells _ _ _ (unexplored {k = k} a w e d) =
      let next = tells _ _ _ d in
      λ told. whole_names n k w
      (next (all_filter (named n) (λ r. not r.tried) (unexplored_of a) told.agents) (only_names n a told.agents))
  tells _ _ _ none_yet = tt
  tells _ _ _ (in_vain_too a d u) = tt
  tells _ _ _ (heard b c a y e d u) =
      let next = tells _ _ _ u in
      λ all. next (all_first (λ x. nat_lt x n) a c
      (all_right (λ x. nat_lt x n) b (a ∷ c) (subst (λ (xs : List ℕ). are_agents n xs ≡ true) e all)))
  tells _ _ _ (unheard d) = λ all. tt
  tells _ _ _ none_asked = λ all. refl
  tells _ _ _ (unable_too {before = b} a y e d u) =
      (let next = tells _ _ _ d in λ all. next (all_left (λ x. nat_lt x n) b (a ∷ []) all))
  tells _ _ _ (silent_too {before = b} {noted = m} a d u) =
      let next = tells _ _ _ d in
      λ all. all_both (λ x. nat_lt x n) m (a ∷ []) (next (all_left (λ x. nat_lt x n) b (a ∷ []) all))
      (all_right (λ x. nat_lt x n) b (a ∷ []) all)
  tells _ _ _ (answered b c m a y e f d u) =
      let next = tells _ _ _ u in
      λ all. next (all_first (λ x. nat_lt x n) a c
      (all_right (λ x. nat_lt x n) b (a ∷ c) (subst (λ (xs : List ℕ). are_agents n xs ≡ true) e all)))
  tells _ _ _ (nobody_has d) = λ all. record { agents = refl; reference = inl refl }
  tells _ _ _ (some_silent {r = r} m e d) = (let next = tells _ _ _ d in λ all. lost_named n (of_these m r) (next all))
  tells _ _ _ no_part = λ all left. left
  tells _ _ _ (part_unheard {rs = rs} {b = b} r d u) =
      let next = tells _ _ _ d in
      λ all left. with_names n (in_vain r ∷ []) b (all_right (named n) rs (r ∷ []) all)
      (next (all_left (named n) rs (r ∷ []) all) left)
  tells _ _ _ (part_unavailable {rs = rs} {b = b} r v d u) =
      let next = tells _ _ _ d in
      let last = tells _ _ _ u in
      λ all left. with_names n (in_vain v ∷ []) b
      (all_one (named n) (in_vain v)
      (unavailable_names n v (last (all_first (named n) r [] (all_right (named n) rs (r ∷ []) all)))))
      (next (all_left (named n) rs (r ∷ []) all) left)
  tells _ _ _ (part_answered {rs = rs} {b = b} r c d u) =
      let next = tells _ _ _ d in
      let last = tells _ _ _ u in
      λ all left. merged_names n b c (next (all_left (named n) rs (r ∷ []) all) left)
      (last (all_first (named n) r [] (all_right (named n) rs (r ∷ []) all))).agents
  tells _ _ _ (part_breaks b c r x e d u) =
      let last = tells _ _ _ u in
      λ all left. last (all_first (named n) r c (all_right (named n) b (r ∷ c) all))

pub replies_are_told : RepliesAreTold
replies_are_told n s most x i j knows d = tells n s most knows x i j d
