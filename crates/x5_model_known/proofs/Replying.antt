-- The sources of an answer are at agents that served, and an item is the receiver's own: by one induction over all that
-- is done, beside that of the references (`RepliesAreTold`).
use Rattle.std.proofs.Common.{◌≡◌, ℕ, ◌==◌, nat_lt, Bool, true, false, not, ◌&&◌, List, [], ◌∷◌, ◌++◌, refl, ap, subst, ◌∙◌, Option, Some, None, if◌then◌else◌}
use Rattle.std.specs.Bool.{⊤}
use Rattle.std.specs.List.{list_all, filter}
use Rattle.x5_model.specs.Words.{has}
use Rattle.x5_model.specs.Members.{In, here, there}
use Rattle.x5_model.specs.References.{Reference, Chained}
use Rattle.x5_model.specs.Answers.{Source, Answer, EntryFound, Matched, Listed, Found, Changed, DirError, NoSuchObject, AttributeProblem, UpdateProblem, ServiceProblem, Reply, Answered, Failed}
use Rattle.x5_model.proofs.Lists.{and_true, in_left, in_right, of_map, of_filter, of_all, all_in}
use Rattle.x5_model_tree.specs.Tree.{tree_of}
use Rattle.x5_model_tree.specs.Ask.{Told, Shows, Compares, Lists, Finds, Changes, Refuses, unexplored_of, ask_marked}
use Rattle.x5_model.specs.Problems.{loop_detected}
use Rattle.x5_model_run.specs.Journal.{Journal, item_of}
use Rattle.x5_model_run.specs.Holdings.{Held, Holdings, ground_at}
use Rattle.x5_model_run.specs.Needs.{due_probes}
use Rattle.x5_model_run.specs.Chain.{Scene}
use Rattle.x5_model_theory.proofs.Tests.{false_true}
use Rattle.x5_model_serve.specs.Committed.{committed}
use Rattle.x5_model_serve.specs.Walking.{entered}
use Rattle.x5_model_serve.specs.Answering.{own_source, copy_source, reply_from, stamp_at, local_sources, local_told, local_part, with_unexplored, only_unexplored, limited_answer, merged, passed_by, in_vain, is_unavailable}
use Rattle.x5_model_serve.specs.Serving.{Hand, hand, carried_for, is_looped, limit_reply, held_back, Heard, Unheard, Hears, Gathered, Whole, Broken, Act, Serves, Follows, Sends, Tries, Takes, Spreads, Casts, Gathers, Probes, Updates, Does, holds_now, gathered_reply, heard_or, parts_refs, user_in_vain, IsRequest, not_heard, not_told, answers, loops, is_long, done_before, refused, unfit, stuck, nowhere, refers, goes, casts, reads, reads_copy, gives_parts, asks_parts, updates, not_done, does, probes_all, misses, taken, breaks, no_probe, clear, unsure, silent, holds_back, spent, lost, dropped, sends, final, referral, wide_referral, unexplored, none_yet, in_vain_too, heard, unheard, none_asked, unable_too, silent_too, answered, nobody_has, some_silent, no_part, part_unheard, part_unavailable, part_answered, part_breaks}
use Rattle.x5_model_heard.specs.Told.{are_agents, name_agents, reply_names, KnowsAgents, IsTold}
use Rattle.x5_model_heard.proofs.Errors.{is_tree_error, fault_plain, over_plain, asked_plain}
use Rattle.x5_model_heard.proofs.Told.{replies_are_told}
use Rattle.x5_model_known.specs.Holding.{AreThemselves}
use Rattle.x5_model_known.specs.Replying.{sources_name, answer_sources, error_items, reply_sources, reply_agents, RepliesNameAgents, ServedNameAgents}
use Rattle.x5_model_known.proofs.Finding.{knowledge_names_agents, knowledge_stays}

-- ---- an update leaves holdings with their agent
now_own : (s : Scene) (j : Journal) (k : Hand) → (s.holdings k.receiver).me ≡ k.receiver
    → (holds_now s j k).me ≡ k.receiver
now_own s j k e = by (has ◌==◌ j.accepted k.receiver)
  where
    by : (b : Bool)
        → (if b then committed s.message.request (s.holdings k.receiver) else s.holdings k.receiver).me ≡ k.receiver
    by true = (knowledge_stays 0 s.message.request (s.holdings k.receiver)).0 ∙ e
    by false = e

-- ---- lists
all_both : {A : Type 0} (test : A → Bool) (xs ys : List A) → list_all test xs ≡ true → list_all test ys ≡ true
    → list_all test (xs ++ ys) ≡ true
all_both test [] ys e f = f
all_both test (x ∷ xs) ys e f =
    and_true (test x) (list_all test (xs ++ ys)) (of_all test x (x ∷ xs) e here)
    (all_both test xs ys (all_in test xs (λ y i. of_all test y (x ∷ xs) e (there i))) f)

all_left : {A : Type 0} (test : A → Bool) (xs ys : List A) → list_all test (xs ++ ys) ≡ true → list_all test xs ≡ true
all_left test xs ys e = all_in test xs (λ x i. of_all test x (xs ++ ys) e (in_left x xs ys i))

in_middle : {A : Type 0} (x : A) (before after : List A) → In x (before ++ x ∷ after)
in_middle x before after = in_right x before (x ∷ after) here

middle : {A : Type 0} (test : A → Bool) (x : A) (before after : List A) → list_all test (before ++ x ∷ after) ≡ true
    → test x ≡ true
middle test x before after e = of_all test x (before ++ x ∷ after) e (in_middle x before after)

all_filter : {A : Type 0} (test keep : A → Bool) (xs : List A) → list_all test xs ≡ true
    → list_all test (filter keep xs) ≡ true
all_filter test keep xs e = all_in test (filter keep xs) (λ x i. of_all test x xs e (of_filter keep x xs i).0)

-- the agents of a world that has so many
module _ (n : ℕ) where
  abbrev is_there : ℕ → Bool
  is_there a = nat_lt a n

  abbrev is_source : Source → Bool
  is_source x = nat_lt x.agent n

  abbrev is_named : Reference → Bool
  is_named r = are_agents n r.agents

  -- a tree's error has no item
  plain : (x : DirError) → is_tree_error x ≡ true → error_items n x ≡ true
  plain (NoSuchObject name) e = refl
  plain (AttributeProblem k t) e = refl
  plain (UpdateProblem k) e = refl
  plain (ServiceProblem k r i) e = absurd (false_true e)

  -- ---- what an agent answers by itself
  shown : (source : Source) (t : Told) → is_source source ≡ true
      → ((x : DirError) → t ≡ Refuses x → is_tree_error x ≡ true) → reply_sources n (reply_from (source ∷ []) t) ≡ true
  shown source (Shows info) e f = e
  shown source (Compares equal copy) e f = e
  shown source (Lists subs cut) e f = and_true (is_source source) true e refl
  shown source (Finds infos cut) e f = and_true (is_source source) true e refl
  shown source Changes e f = refl
  shown source (Refuses x) e f = plain x (f x refl)

  through : {y : Reply} {a : Answer} → y ≡ Answered a → reply_sources n y ≡ true → answer_sources n a ≡ true
  through e f = subst (λ (z : Reply). reply_sources n z ≡ true) e f

  from_these : (sources : List Source) (t : Told) (a : Answer) → sources_name n sources ≡ true
      → reply_from sources t ≡ Answered a → answer_sources n a ≡ true
  from_these [] (Shows info) a e f = cc
  from_these (x ∷ xs) (Shows info) a e f = through f (of_all is_source x (x ∷ xs) e here)
  from_these [] (Compares equal copy) a e f = cc
  from_these (x ∷ xs) (Compares equal copy) a e f = through f (of_all is_source x (x ∷ xs) e here)
  from_these sources (Lists subs cut) a e f = through f e
  from_these sources (Finds infos cut) a e f = through f e
  from_these sources Changes a e f = through f refl
  from_these sources (Refuses x) a e f = cc

  local_there : (h : Holdings) (m : Chained) → is_there h.me ≡ true → sources_name n (local_sources h m) ≡ true
  local_there h m e =
      all_in is_source (local_sources h m)
      (λ x i. (let w = of_map (local_source h) x (entered h m) i in ap is_source w.2 ∙ e))
    where
      local_source : Holdings → Held → Source
      local_source g c = record { context = c.prefix; agent = g.me; moment = stamp_at g c }

  -- ---- what is made of answers
  with_there : (rs : List Reference) (a : Answer) → answer_sources n (with_unexplored rs a) ≡ answer_sources n a
  with_there rs (EntryFound info source) = refl
  with_there rs (Matched equal copy source) = refl
  with_there rs (Listed subs sources o) = refl
  with_there rs (Found infos sources o) = refl
  with_there rs Changed = refl

  only_there : (rs : List Reference) (a : Answer) → answer_sources n (only_unexplored rs a) ≡ answer_sources n a
  only_there rs (EntryFound info source) = refl
  only_there rs (Matched equal copy source) = refl
  only_there rs (Listed subs sources o) = refl
  only_there rs (Found infos sources o) = refl
  only_there rs Changed = refl

  limited_there : (size : Option ℕ) (a : Answer) → answer_sources n (limited_answer size a) ≡ answer_sources n a
  limited_there size (EntryFound info source) = refl
  limited_there size (Matched equal copy source) = refl
  limited_there size (Listed subs sources o) = refl
  limited_there size (Found infos sources o) = refl
  limited_there size Changed = refl

  -- a user tells himself of nobody but the agent that he would ask
  held_names : (k : Hand) → nat_lt k.receiver n ≡ true → reply_sources n (held_back k) ≡ true
  held_names k t = by (is_looped k)
    where
      by : (b : Bool) → reply_sources n (if b then Failed (ServiceProblem loop_detected None (Some (item_of k.receiver k.message))) else limit_reply) ≡ true
      by true = t
      by false = refl

  merged_there : (a b : Answer) → answer_sources n a ≡ true → answer_sources n b ≡ true
      → answer_sources n (merged a b) ≡ true
  merged_there (Listed subs sources o) (Listed more others q) e f = all_both is_source sources others e f
  merged_there (Found infos sources o) (Found more others q) e f = all_both is_source sources others e f
  merged_there (EntryFound info source) b e f = e
  merged_there (Matched equal copy source) b e f = e
  merged_there Changed b e f = e
  merged_there (Listed subs sources o) (EntryFound info source) e f = e
  merged_there (Listed subs sources o) (Matched equal copy source) e f = e
  merged_there (Listed subs sources o) (Found more others q) e f = e
  merged_there (Listed subs sources o) Changed e f = e
  merged_there (Found infos sources o) (EntryFound info source) e f = e
  merged_there (Found infos sources o) (Matched equal copy source) e f = e
  merged_there (Found infos sources o) (Listed more others q) e f = e
  merged_there (Found infos sources o) Changed e f = e

  -- ---- of each thing that is done
  abbrev HeardThere : Heard → Type 0
  HeardThere Unheard = ⊤
  HeardThere (Hears y) = reply_sources n y ≡ true

  abbrev WholeThere : Gathered → Type 0
  WholeThere (Whole a) = answer_sources n a ≡ true
  WholeThere (Broken y) = reply_sources n y ≡ true

  abbrev Comes : Act → Type 0
  Comes (Serves k y) = is_there k.receiver ≡ true → reply_sources n y ≡ true
  Comes (Follows from k y last) = reply_names n y ≡ true → reply_sources n y ≡ true → reply_sources n last ≡ true
  Comes (Sends from o r a h) = is_there a ≡ true → HeardThere h
  Comes (Tries from o r agents) = ⊤
  Comes (Takes from o r h) = is_named r ≡ true → HeardThere h
  Comes (Spreads from o r agents noted) = ⊤
  Comes (Casts from o r y) = is_named r ≡ true → reply_sources n y ≡ true
  Comes (Gathers from o rs a whole) = name_agents n rs ≡ true → answer_sources n a ≡ true → WholeThere whole
  Comes (Probes k r agents noted) = ⊤
  Comes (Updates k y) = is_there k.receiver ≡ true → reply_sources n y ≡ true

  whole_there : (k : Hand) (w : Gathered) → WholeThere w → reply_sources n (gathered_reply k w) ≡ true
  whole_there k (Whole a) e = limited_there k.message.request.controls.size a ∙ e
  whole_there k (Broken y) e = e

  heard_there : (r : Reference) (h : Heard) → HeardThere h
      → reply_sources n (heard_or (is_unavailable (in_vain r)) h) ≡ true
  heard_there r Unheard e = refl
  heard_there r (Hears y) e = e

  asked_there : (r : Reference) (before after : List ℕ) (a : ℕ) → r.agents ≡ before ++ a ∷ after → is_named r ≡ true
      → is_there a ≡ true
  asked_there r before after a e all =
      middle is_there a before after (subst (λ (xs : List ℕ). are_agents n xs ≡ true) e all)

  module _ (s : Scene) (most : ℕ) (knows : KnowsAgents n s) (own : AreThemselves n s) where
    local_comes : (j : Journal) (k : Hand) (a : Answer) → is_there k.receiver ≡ true
        → local_part (holds_now s j k) k.message ≡ Answered a → answer_sources n a ≡ true
    local_comes j k a e f =
        from_these (local_sources (holds_now s j k) k.message) (local_told (holds_now s j k) k.message) a
        (local_there (holds_now s j k) k.message (ap is_there (now_own s j k (own k.receiver e)) ∙ e)) f

    probe_named : (j : Journal) (k : Hand) (r : Reference) → is_there k.receiver ≡ true
        → due_probes (holds_now s j k) k.message ≡ r ∷ [] → is_named r ≡ true
    probe_named j k r e f =
        of_all is_named r (r ∷ [])
        (subst (λ (rs : List Reference). name_agents n rs ≡ true) f (knows.probes j k e)) here

    comes : (x : Act) (i j : Journal) → Does s most x i j → Comes x
    comes _ _ _ (loops e) = λ t. t
    comes _ _ _ (is_long e f) = λ t. refl
    comes _ _ _ (done_before e f g) = λ t. refl
    comes _ _ _ (refused {k} x e f g h) = λ t. plain x (fault_plain k.message.request.body x h)
    comes _ _ _ (unfit e f g h i) = λ t. refl
    comes _ _ _ (stuck a e) = λ t. refl
    comes _ _ _ (nowhere m a e) = λ t. refl
    comes _ _ _ (refers r a e f) = λ t. refl
    comes _ _ _ (goes {k} {i} r h a e f g d) =
        (let next = comes _ _ _ d in λ t. heard_there r h (next (knows.onward i k r t e)))
    comes _ _ _ (casts {k} {i} r y a e f g d) = (let next = comes _ _ _ d in λ t. next (knows.onward i k r t e))
    comes _ _ _ (reads {k} c a e f g) = λ t. shown (own_source k.receiver c)
        (ask_marked (λ key. false) (tree_of c.entries []) k.message.request) t
        (λ x z. asked_plain (λ key. false) (tree_of c.entries []) k.message.request x z)
    comes _ _ _ (reads_copy {k} c a e f) = λ t. shown (copy_source k.receiver c)
        (ask_marked (λ key. true) (tree_of c.held.entries []) k.message.request) t
        (λ x z. asked_plain (λ key. true) (tree_of c.held.entries []) k.message.request x z)
    comes _ _ _ (gives_parts {k} {j} y a e f g) = λ t.
        limited_there k.message.request.controls.size (with_unexplored (parts_refs s j k) y)
        ∙ with_there (parts_refs s j k) y ∙ local_comes j k y t g
    comes _ _ _ (asks_parts {k} {i} y w a e f g d) =
        (let next = comes _ _ _ d in λ t. whole_there k w (next (knows.parts i k t) (local_comes i k y t g)))
    comes _ _ _ (updates c y a e f d) = (let next = comes _ _ _ d in λ t. next t)
    comes _ _ _ (not_done {k} {j} x e) = λ t.
        plain x (over_plain (ground_at k.message.request (holds_now s j k)) k.message.request.body x e)
    comes _ _ _ (does mine e f) = λ t. refl
    comes _ _ _ (probes_all mine r e f d) = λ t. refl
    comes _ _ _ (misses mine r a noted e f d) = λ t. refl
    comes _ _ _ (taken mine r a b c m y e f g d u) = λ t. refl
    comes _ _ _ (breaks {k} {i} mine r a b c m x e f g p q d u) =
        (let next = comes _ _ _ u in λ t. next (asked_there r b c a g (probe_named i k r t f)))
    comes _ _ _ no_probe = tt
    comes _ _ _ (clear a y e d u) = tt
    comes _ _ _ (unsure a y e d u) = tt
    comes _ _ _ (silent a d u) = tt
    comes _ _ _ (holds_back {from} {o} {r} a e) = λ t. held_names (hand a (carried_for from o r)) t
    comes _ _ _ (spent a hb e) = λ t. refl
    comes _ _ _ (lost a hb e f) = λ t. tt
    comes _ _ _ (dropped a y hb e f d) = λ t. tt
    comes _ _ _ (sends {from} {o} {r} a y z hb e f d u) =
        let first = comes _ _ _ d in
        let next = comes _ _ _ u in
        λ t. (let told : IsTold n y = replies_are_told n s most _ _ _ knows d t in next told.agents (first t))
    comes _ _ _ (final y e) = λ names sources. sources
    comes _ _ _ (referral r h e d) = (let next = comes _ _ _ d in λ names sources. heard_there r h (next names))
    comes _ _ _ (wide_referral r y e d) = (let next = comes _ _ _ d in λ names sources. next names)
    comes _ _ _ (unexplored {k = k} a w e d) =
        let next = comes _ _ _ d in
        λ names sources. whole_there k w (next (all_filter is_named (λ r. not r.tried) (unexplored_of a) names)
        (only_there (passed_by a) a ∙ sources))
    comes _ _ _ none_yet = tt
    comes _ _ _ (in_vain_too a d u) = tt
    comes _ _ _ (heard {r = r} b c a y e d u) = (let next = comes _ _ _ u in λ all. next (asked_there r b c a e all))
    comes _ _ _ (unheard d) = λ all. tt
    comes _ _ _ none_asked = tt
    comes _ _ _ (unable_too a y e d u) = tt
    comes _ _ _ (silent_too a d u) = tt
    comes _ _ _ (answered {r = r} b c m a y e f d u) =
        (let next = comes _ _ _ u in λ all. next (asked_there r b c a e all))
    comes _ _ _ (nobody_has d) = λ all. refl
    comes _ _ _ (some_silent m e d) = λ all. refl
    comes _ _ _ no_part = λ all sources. sources
    comes _ _ _ (part_unheard {rs = rs} {b = b} r d u) =
        let next = comes _ _ _ d in
        λ all sources. with_there (in_vain r ∷ []) b ∙ next (all_left is_named rs (r ∷ []) all) sources
    comes _ _ _ (part_unavailable {rs = rs} {b = b} r v d u) =
        let next = comes _ _ _ d in
        λ all sources. with_there (in_vain v ∷ []) b ∙ next (all_left is_named rs (r ∷ []) all) sources
    comes _ _ _ (part_answered {rs = rs} {b = b} r c d u) =
        let next = comes _ _ _ d in
        let last = comes _ _ _ u in
        λ all sources. merged_there b c (next (all_left is_named rs (r ∷ []) all) sources)
        (last (middle is_named r rs [] all))
    comes _ _ _ (part_breaks b c r x e d u) =
        (let last = comes _ _ _ u in λ all sources. last (middle is_named r b c all))

    -- ---- the request of a user
    served_there : (k : Hand) (y : Reply) (i j : Journal) → is_there k.receiver ≡ true
        → Does s most (Serves k y) i j → reply_agents n y ≡ true
    served_there k y i j t d =
        let told : IsTold n y = replies_are_told n s most _ _ _ knows d t in
        and_true (reply_names n y) (reply_sources n y) told.agents (comes _ _ _ d t)

    vain_there : is_there s.first ≡ true → reply_agents n (user_in_vain s) ≡ true
    vain_there t = and_true (is_there s.first && true) true (and_true (is_there s.first) true t refl) refl

    request_there : (j : Journal) (y : Reply) → is_there s.first ≡ true → IsRequest s most j y → reply_agents n y ≡ true
    request_there _ _ t (not_heard e) = vain_there t
    request_there _ _ t (not_told y e d) = vain_there t
    request_there _ _ t (answers y e d) = served_there (hand s.first s.message) y _ _ t d

pub replies_name_agents : RepliesNameAgents
replies_name_agents n s most j y hold own t r = request_there n s most (knowledge_names_agents n s hold) own j y t r

pub served_name_agents : ServedNameAgents
served_name_agents n s most k y i j hold own t d = served_there n s most (knowledge_names_agents n s hold) own k y i j t d
