-- A list or search whose base is found: what its agent evaluates on the spot tells the whole, with the references for the
-- rest still to be asked. Who may not chain gives them to its sender, who follows them; any other asks them itself.
use Rattle.std.proofs.Common.{◌≡◌, ℕ, Bool, true, false, not, ◌&&◌, ◌||◌, ◌==◌, ◌⊎◌, if◌then◌else◌, inl, inr, List, [], ◌∷◌, ◌++◌, length, refl, sym, ap, subst, ◌∙◌, Option, Some, None}
use Rattle.std.specs.Option.{is_some, is_none}
use Rattle.std.specs.List.{list_all, filter}
use Rattle.x5_model.specs.Words.{is_empty, sorted, insert_sorted}
use Rattle.x5_model.specs.Members.{In, here, there, Once}
use Rattle.x5_model.specs.Keys.{Key, is_root}
use Rattle.x5_model.specs.Values.{key_of}
use Rattle.x5_model.specs.Entries.{Named}
use Rattle.x5_model.specs.Requests.{Body, Read, Compare, ListBelow, Search, AddEntry, RemoveEntry, ModifyEntry, ModifyDn}
use Rattle.x5_model.specs.References.{Progress, Start, Next, Done, Reference, Chained}
use Rattle.x5_model.specs.Answers.{Source, Answer, EntryFound, Matched, Listed, Found, Changed, Reply, Answered}
use Rattle.x5_model.proofs.Decide.{nat_same_decides}
use Rattle.x5_model.proofs.Lists.{both_true, or_left, or_right, true_or_false, all_in}
use Rattle.x5_model.proofs.Ascending.{of_insert, of_sorted}
use Rattle.x5_model_tree.specs.Tree.{lowest}
use Rattle.x5_model_tree.specs.Ask.{Told, Shows, Compares, Lists, Finds, Changes, Refuses, is_update, unexplored_of}
use Rattle.x5_model_run.specs.Network.{arrives, refuses}
use Rattle.x5_model_run.specs.Journal.{Line, Journal, same_name, is_done, siblings}
use Rattle.x5_model_run.specs.Holdings.{Held, Copy, Holdings, held_at, copy_at, known_pin, holds_within}
use Rattle.x5_model_run.specs.Needs.{target_of, is_unable, subset_of, superior_needs, multicast_needs, supplier_needs, copy_answers, specific_needs, part_needs, needs}
use Rattle.x5_model_run.specs.History.{Point, knowledge_at, holdings_at}
use Rattle.x5_model_tree.specs.Masters.{agent_at}
use Rattle.x5_model_run.specs.Chain.{Scene, is_probe, may_send}
use Rattle.x5_model_run.specs.Accepting.{carries_update, may_accept, is_done_before}
use Rattle.x5_model_run.specs.Blocked.{Asked}
use Rattle.x5_model_run.specs.Right as right
use Rattle.x5_model_run.specs.Right.{IsResult}
use Rattle.x5_model_replies.specs.Replies as placed
use Rattle.x5_model_run.specs.Placed.{fits, is_query_below}
use Rattle.x5_model_replies.specs.Replies.{RightReply, usual}
use Rattle.x5_model_run.specs.Thorough.{is_served, is_taken, is_stopped, taken_needs, is_sent_by, sends_itself, sender_follows}
use Rattle.x5_model_theory.proofs.Following.{query_of}
use Rattle.x5_model_parts.specs.Parts.{BeginsHere, begins_here}
use Rattle.x5_model_serve.specs.Finding as finding
use Rattle.x5_model_serve.specs.Finding.{Here, CopyHere, Root, Below, Onward, Nowhere, Stuck, IsLooked, find, found_by, by_first, in_own, in_copy, at_pin, resolved}
use Rattle.x5_model_serve.proofs.Shuffling.{once_shuffled}
use Rattle.x5_model_serve.proofs.Walks.{of_rest, needs_shuffled}
use Rattle.x5_model_joins.proofs.Walked.{in_the_rest}
use Rattle.x5_model_parts.proofs.Joining.{spots_are_once}
use Rattle.x5_model_serve.specs.Answering.{reply_from, local_sources, told_in, local_told, taken_before, walked_needs, local_part, rest_of_parts, with_unexplored, only_unexplored, limited_answer, to_follow, passed_by}
use Rattle.x5_model_serve.specs.Serving.{Hand, hand_of, line_for, Gathered, Whole, Broken, Does, Gathers, holds_now, found_at, begins_parts, parts_refs, at_limit, gathered_reply, is_idle, is_final, is_spent}
use Rattle.x5_model_serve.specs.Claims.{AtHand, MayTake, SoFar, LiesWithin, is_due_line, is_settled_line, is_served_itself, serving_of, asked_line, line_at, depth_at}
use Rattle.x5_model_replies.specs.Heard.{MayGather, GatheredRight}
use Rattle.x5_model_serve.specs.Following.{IsFinalWhole}
use Rattle.x5_model_serve.proofs.Finals.{idle_is_followed}
use Rattle.x5_model_find.proofs.Begins.{begins_alike}
use Rattle.x5_model_find.proofs.Deciding.{parts_needed}
use Rattle.x5_model_find.proofs.Orderly.{holdings_orderly}
use Rattle.x5_model_bounds.proofs.Going.{some_subset}
use Rattle.x5_model_bounds.proofs.Parting.{local_whole, untried_all, rest_part}
use Rattle.x5_model_joins.proofs.Backs.{own_answered}
use Rattle.x5_model_joins.proofs.Following.{follow_tells, no_update_below}
use Rattle.x5_model_joins.proofs.Idle.{idle_tells}
use Rattle.x5_model_joins.proofs.Limit.{limit_last}
use Rattle.x5_model_joins.proofs.Local.{local_tells}
use Rattle.x5_model_right.specs.Kept.{Ground, Rests}
use Rattle.x5_model_right.specs.Journeys.{NeededAgents}
use Rattle.x5_model_right.specs.Claim.{ServedRight, AllAsked, GatherRight}
use Rattle.x5_model_right.specs.Served.{GivesParts, AsksParts}
use Rattle.x5_model_right.specs.Sent.{Unexplored}
use Rattle.x5_model_right.proofs.Kept.{at_hand_later, unchanged, line_there}
use Rattle.x5_model_right.proofs.Journeys.{sound, agent_here, apart_here}
use Rattle.x5_model_right.proofs.Adding.{no_carrier}
use Rattle.x5_model_right.proofs.Finding.{looked, holds_is, found_same, able, fresh, able_by}
use Rattle.x5_model_right.proofs.Onward.{owner_may}

-- ---- a list or search alone begins

first_only : (k : Hand) (rs : List Reference) (other : finding.Found) → begins_parts k (by_first rs other) ≡ true → begins_parts k other ≡ true
first_only k [] other e = e
first_only k (r ∷ rs) other e = (let z : false ≡ true = e in cc)

module _ (h : Holdings) (k : Hand) (none : is_some (subset_of k.message) ≡ false) where
  not_asked : not (is_none (subset_of k.message)) ≡ true → ⊥
  not_asked e = by (subset_of k.message) none e
    where
      by : {X : Type 0} (x : Option X) → is_some x ≡ false → not (is_none x) ≡ true → ⊥
      by None f g = (let z : false ≡ true = g in cc)
      by (Some x) f g = (let z : true ≡ false = f in cc)

  own_never : (c : Held) → begins_parts k (in_own h k.message c) ≡ true → ⊥
  own_never c e = go (lowest c.entries (key_of k.message.target)) e
    where
      by : Option Named → finding.Found
      by None = Nowhere []
      by (Some x) = if same_name x.name k.message.target then Here c else by_first (multicast_needs h k.message c) (Nowhere x.name)

      at : (x : Named) (b : Bool) → begins_parts k (if b then Here c else by_first (multicast_needs h k.message c) (Nowhere x.name)) ≡ true → ⊥
      at x true f = not_asked f
      at x false f = (let z : false ≡ true = first_only k (multicast_needs h k.message c) (Nowhere x.name) f in cc)

      go : (x : Option Named) → begins_parts k (by x) ≡ true → ⊥
      go None f = (let z : false ≡ true = f in cc)
      go (Some x) f = at x (same_name x.name k.message.target) f

  copy_never : (c : Copy) (b : Bool) → begins_parts k (if b then CopyHere c else by_first (supplier_needs h k.message c) Stuck) ≡ true → ⊥
  copy_never c true f = not_asked f
  copy_never c false f = (let z : false ≡ true = first_only k (supplier_needs h k.message c) Stuck f in cc)

  pin_never : (x : Option Key) → begins_parts k (at_pin h k.message x) ≡ true → ⊥
  pin_never None e = root (is_root (key_of k.message.target)) (first_only k (superior_needs h k.message) (if is_root (key_of k.message.target) then Root else Nowhere []) e)
    where
      root : (b : Bool) → begins_parts k (if b then Root else Nowhere []) ≡ true → ⊥
      root true f = not_asked f
      root false f = (let z : false ≡ true = f in cc)
  pin_never (Some q) e = of_own (held_at h.own q) e
    where
      by_copy : Option Copy → finding.Found
      by_copy None = by_first (specific_needs h k.message q) Stuck
      by_copy (Some c) = in_copy h k.message c

      by_own : Option Held → finding.Found
      by_own None = by_copy (copy_at h q)
      by_own (Some c) = in_own h k.message c

      of_copy : (x : Option Copy) → begins_parts k (by_copy x) ≡ true → ⊥
      of_copy None f = (let z : false ≡ true = first_only k (specific_needs h k.message q) Stuck f in cc)
      of_copy (Some c) f = copy_never c (copy_answers h k.message c) f

      of_own : (x : Option Held) → begins_parts k (by_own x) ≡ true → ⊥
      of_own None f = of_copy (copy_at h q) f
      of_own (Some c) f = own_never c f

asked_somehow : (h : Holdings) (k : Hand) → fits k.message ≡ true → begins_parts k (find h k.message) ≡ true → is_some (subset_of k.message) ≡ true
asked_somehow h k fit e = go (is_some (subset_of k.message)) refl
  where
    early : is_some (subset_of k.message) ≡ false → (x : Progress) → (not (is_done x) || is_query_below k.message.request.body) ≡ true → begins_parts k (found_by h k.message x) ≡ true → ⊥
    early none Start f g = pin_never h k none (known_pin k.message.request h (key_of k.message.target)) g
    early none (Next j) f g = next (holds_within h (key_of k.message.target) j) g
      where
        next : (b : Bool) → begins_parts k (if b then resolved h k.message else Stuck) ≡ true → ⊥
        next true z = pin_never h k none (known_pin k.message.request h (key_of k.message.target)) z
        next false z = (let y : false ≡ true = z in cc)
    early none Done f g = (let z : false ≡ true = sym none ∙ some_subset k.message ∙ f in cc)

    go : (b : Bool) → is_some (subset_of k.message) ≡ b → is_some (subset_of k.message) ≡ true
    go true q = q
    go false q = absurd (early q k.message.progress (both_true (same_name (target_of k.message.request.body) k.message.target) _ fit).1 e)

-- ---- it begins

module _ (known : NeededAgents) (p : Point) (s : Scene) (g : Ground p s) (k : Hand) (i : Journal) (at : AtHand p s k i) (look : IsLooked k.message) (begins : begins_parts k (find (s.holdings k.receiver) k.message) ≡ true) where
  begins_there : begins_parts k (find (holdings_at p k.receiver) k.message) ≡ true
  begins_there = ap (λ (h : ℕ → Holdings). begins_parts k (find (h k.receiver) k.message)) (sym g.setting.holdings) ∙ begins

  asked_for : is_some (subset_of k.message) ≡ true
  asked_for = asked_somehow (holdings_at p k.receiver) k look.1 begins_there

  pub query : is_update k.message.request.body ≡ false
  query = no_update_below k.message.request.body (query_of k.message asked_for)

  pub begun : BeginsHere p (line_for k)
  begun = record {
    stands = g.setting.by_keys;
    agent = ap is_some (agent_here p s g k i at known).1;
    fit = look.1;
    begins = sym (begins_alike (holdings_at p k.receiver) k.message k.receiver (holdings_orderly p k.receiver (sound p s g)) look asked_for) ∙ begins_there;
    copies = inr g.setting.copies;
  }

  pub line_begun : BeginsHere p at.line
  line_begun = record {
    stands = begun.stands;
    agent = ap (λ (n : ℕ). is_some (agent_at (knowledge_at p) n)) at.receiver_is ∙ begun.agent;
    fit = ap (λ (m : Chained). fits m) at.message_is ∙ begun.fit;
    begins = (λ q. begins_here (holdings_at p (at.receiver_is q)) (at.message_is q)) ∙ begun.begins;
    copies = inr g.setting.copies;
  }

  pub needs_parts : needs (s.holdings k.receiver) k.message ≡ part_needs (holdings_at p k.receiver) k.message
  needs_parts = ap (λ (h : ℕ → Holdings). needs (h k.receiver) k.message) g.setting.holdings ∙ parts_needed (holdings_at p k.receiver) k.message k.receiver look begins_there

  pub in_needs : (r : Reference) → In r (rest_of_parts (holdings_at p k.receiver) k.message) → In r (needs (s.holdings k.receiver) k.message)
  in_needs r m = subst (λ (xs : List Reference). In r xs) (sym needs_parts) (of_rest (holdings_at p k.receiver) k.message r m)

  pub of_needs : (r : Reference) → In r (needs (s.holdings k.receiver) k.message) → In r (rest_of_parts (holdings_at p k.receiver) k.message)
  of_needs r m = in_the_rest p (line_for k) begun r (subst (λ (xs : List Reference). In r xs) needs_parts m)

  pub asked_is : (stood : ℕ) → asked_line at.line stood ≡ asked_line (line_at k at.line.number) stood
  asked_is stood = λ q. record { to = at.receiver_is q; message = at.message_is q; number = at.line.number; counts = true; stood = stood }

  -- the line carries no update, so it is settled
  pub settled_query : (j : Journal) → is_settled_line p s j at.line ≡ true
  settled_query j = elim (true_or_false (is_due_line p s j at.line)) [
    | inr e ↦ or_left (not (is_due_line p s j at.line)) _ (ap not e)
    | inl e ↦
        let a = both_true (may_accept s j.lines at.line.receiver at.line) _ e in
        let b = both_true (at.line.receiver == at.line.receiver) _ a.0 in
        let c = both_true (arrives at.line.fate) _ b.1 in
        let d = both_true (carries_update s at.line) _ c.1 in
        let no = no_carrier s at.line (ap (λ (m : Chained). is_update m.request.body) at.message_is ∙ query) in
        absurd (let z : true ≡ false = sym d.0 ∙ no in cc)
  ]

  no_probe : (r : Reference) → is_probe at.line.message.request.body r.target ≡ false
  no_probe r = ap (λ (m : Chained). is_probe m.request.body r.target) at.message_is ∙ ap (λ (b : Bool). b && not (same_name (target_of k.message.request.body) r.target)) query

  line_idle : (refuses s.network at.line.receiver || at.line.message.request.controls.nochain) ≡ is_idle s k
  line_idle = (λ q. refuses s.network (at.receiver_is q) || (at.message_is q).request.controls.nochain) ∙ swapped (refuses s.network k.receiver) k.message.request.controls.nochain
    where
      swapped : (a b : Bool) → (a || b) ≡ (b || a)
      swapped true true = refl
      swapped true false = refl
      swapped false true = refl
      swapped false false = refl

  -- each needed reference is one of these
  taken_all : (test : Reference → Bool) → ((r : Reference) → In r (rest_of_parts (holdings_at p k.receiver) k.message) → test r ≡ true) → list_all test (taken_needs s at.line) ≡ true
  taken_all test f = by (is_stopped at.line.receiver at.line.message)
    where
      same : needs (s.holdings at.line.receiver) at.line.message ≡ needs (s.holdings k.receiver) k.message
      same = ap (λ (n : ℕ). needs (s.holdings n) at.line.message) at.receiver_is ∙ ap (needs (s.holdings k.receiver)) at.message_is

      by : (b : Bool) → list_all test (if b then [] else needs (s.holdings at.line.receiver) at.line.message) ≡ true
      by true = refl
      by false = all_in test (needs (s.holdings at.line.receiver) at.line.message) (λ r m. f r (of_needs r (subst (λ (xs : List Reference). In r xs) same m)))

  pub owner_takes : (j : Journal) (r : Reference) → is_idle s k ≡ false → is_sent_by j.lines at.line (Some k.receiver) r ≡ true → is_taken s j.lines at.line r ≡ true
  owner_takes j r idle sent =
      ap (λ (b : Bool). if b then is_sent_by j.lines at.line (Some at.line.receiver) r else not (sender_follows s at.line) || is_sent_by j.lines at.line at.line.sender r)
      (or_right (is_probe at.line.message.request.body r.target) _ (ap not (line_idle ∙ idle)))
      ∙ ap (λ (n : ℕ). is_sent_by j.lines at.line (Some n) r) at.receiver_is ∙ sent

  pub follower_takes : (j : Journal) (r : Reference) (from : Option ℕ) → is_idle s k ≡ true → at.line.sender ≡ from → is_sent_by j.lines at.line from r ≡ true → is_taken s j.lines at.line r ≡ true
  follower_takes j r from idle sender sent =
      ap (λ (b : Bool). if b then is_sent_by j.lines at.line (Some at.line.receiver) r else not (sender_follows s at.line) || is_sent_by j.lines at.line at.line.sender r)
      (λ q. no_probe r q || not ((line_idle ∙ idle) q))
      ∙ or_right (not (sender_follows s at.line)) _ (ap (λ (f : Option ℕ). is_sent_by j.lines at.line f r) sender ∙ sent)

  pub served_all : (j : Journal) → ((r : Reference) → In r (rest_of_parts (holdings_at p k.receiver) k.message) → is_taken s j.lines at.line r ≡ true) → is_served s j at.line ≡ true
  served_all j f = or_right (not (arrives at.line.fate)) _ (or_right (is_done_before s j at.line) _ (taken_all (is_taken s j.lines at.line) f))

  pub itself_all : (j : Journal) → ((r : Reference) → In r (rest_of_parts (holdings_at p k.receiver) k.message) → is_taken s j.lines at.line r ≡ true) → is_served_itself s j at.line ≡ true
  itself_all j f = or_right (is_done_before s j at.line) _ (taken_all (λ r. not (sends_itself s at.line r) || is_taken s j.lines at.line r) (λ r m. or_right (not (sends_itself s at.line r)) _ (f r m)))

  pub itself_idle : (j : Journal) → is_idle s k ≡ true → is_served_itself s j at.line ≡ true
  itself_idle j idle = or_right (is_done_before s j at.line) _ (taken_all (λ r. not (sends_itself s at.line r) || is_taken s j.lines at.line r)
      (λ r m. or_left (not (sends_itself s at.line r)) _ (ap not (λ q. no_probe r q || not ((line_idle ∙ idle) q)))))

  -- what it evaluates on the spot tells so far
  pub local_so : (a : Answer) → local_part (holdings_at p k.receiver) k.message ≡ Answered a → SoFar p s (serving_of i k at.line.number) i.lines a (rest_of_parts (holdings_at p k.receiver) k.message)
  local_so a e =
      let t = local_tells p s at.line i.lines (length i.accepted) g.setting.holdings line_begun (line_there p s k i at) in
      let same_hand : local_part (holdings_at p at.line.receiver) at.line.message ≡ local_part (holdings_at p k.receiver) k.message = λ q. local_part (holdings_at p (at.receiver_is q)) (at.message_is q) in
      let found_it : Answered t.0 ≡ Answered a = sym t.1 ∙ same_hand ∙ e in
      let same_answer : t.0 ≡ a = cc in
      subst (λ (x : Answer). SoFar p s (serving_of i k at.line.number) i.lines x (rest_of_parts (holdings_at p k.receiver) k.message)) same_answer
      (subst (λ (x : Asked). SoFar p s x i.lines t.0 (rest_of_parts (holdings_at p k.receiver) k.message)) (asked_is (length i.accepted))
      (subst (λ (rs : List Reference). SoFar p s (asked_line at.line (length i.accepted)) i.lines t.0 rs) (λ q. rest_of_parts (holdings_at p (at.receiver_is q)) (at.message_is q)) t.2))

  pub query_below : is_query_below k.message.request.body ≡ true
  query_below = query_of k.message asked_for

  -- with its own part alone, and the references for the rest, it is a result
  pub idle_result : (a : Answer) → is_idle s k ≡ true → SoFar p s (serving_of i k at.line.number) i.lines a (rest_of_parts (holdings_at p k.receiver) k.message)
      → IsResult p s (serving_of i k at.line.number) i.lines (limited_answer k.message.request.controls.size (with_unexplored (rest_of_parts (holdings_at p k.receiver) k.message) a))
  idle_result a idle so =
      let asleep : is_idle s (hand_of at.line) ≡ true = (λ q. (at.message_is q).request.controls.nochain || refuses s.network (at.receiver_is q)) ∙ idle in
      let there_so : SoFar p s (asked_line at.line (length i.accepted)) i.lines a (rest_of_parts (holdings_at p at.line.receiver) at.line.message) =
      subst (λ (rs : List Reference). SoFar p s (asked_line at.line (length i.accepted)) i.lines a rs) (λ q. rest_of_parts (holdings_at p (sym at.receiver_is q)) (sym at.message_is q))
      (subst (λ (x : Asked). SoFar p s x i.lines a (rest_of_parts (holdings_at p k.receiver) k.message)) (sym (asked_is (length i.accepted))) so) in
      let res = idle_tells p s at.line i a g.setting.holdings line_begun asleep (line_there p s k i at) there_so in
      let same : limited_answer at.line.message.request.controls.size (with_unexplored (rest_of_parts (holdings_at p at.line.receiver) at.line.message) a) ≡ limited_answer k.message.request.controls.size (with_unexplored (rest_of_parts (holdings_at p k.receiver) k.message) a) =
      λ q. limited_answer (at.message_is q).request.controls.size (with_unexplored (rest_of_parts (holdings_at p (at.receiver_is q)) (at.message_is q)) a) in
      subst (λ (x : Asked). IsResult p s x i.lines (limited_answer k.message.request.controls.size (with_unexplored (rest_of_parts (holdings_at p k.receiver) k.message) a))) (asked_is (length i.accepted))
      (subst (λ (x : Answer). IsResult p s (asked_line at.line (length i.accepted)) i.lines x) same res)

-- ---- sorted references stand once

once_insert : (below : Reference → Reference → Bool) (x : Reference) (ys : List Reference) → (In x ys → ⊥) → Once ys → Once (insert_sorted below x ys)
once_insert below x [] f o = (f, o)
once_insert below x (y ∷ ys) f o = by (below y x) (once_insert below x ys (λ m. f (there m)) o.1)
  where
    by : (b : Bool) → Once (insert_sorted below x ys) → Once (if b then y ∷ insert_sorted below x ys else (x ∷ y ∷ ys))
    by true rest = (λ m. elim (of_insert below y x ys m) [ inl e ↦ f (subst (λ (z : Reference). In z (y ∷ ys)) e here) | inr j ↦ o.0 j ], rest)
    by false rest = (f, o)

once_sorted : (below : Reference → Reference → Bool) (xs : List Reference) → Once xs → Once (sorted below xs)
once_sorted below [] o = tt
once_sorted below (x ∷ xs) o = once_insert below x (sorted below xs) (λ m. o.0 (of_sorted below x xs m)) (once_sorted below xs o.1)

-- ---- answers

abbrev left_in : List Reference → List Reference
left_in rs = filter (λ (r : Reference). not r.tried) rs

unexplored_limited : (size : Option ℕ) (a : Answer) → unexplored_of (limited_answer size a) ≡ unexplored_of a
unexplored_limited size (EntryFound info x) = refl
unexplored_limited size (Matched equal copy x) = refl
unexplored_limited size (Listed subs xs o) = refl
unexplored_limited size (Found infos xs o) = refl
unexplored_limited size Changed = refl

none_with : (rs : List Reference) (a : Answer) → rs ≡ [] → unexplored_of (with_unexplored rs a) ≡ unexplored_of a
none_with rs (EntryFound info x) e = refl
none_with rs (Matched equal copy x) e = refl
none_with rs (Listed subs xs o) e = ap (λ (zs : List Reference). o.unexplored ++ zs) e ∙ none_after o.unexplored
  where
    none_after : (zs : List Reference) → zs ++ [] ≡ zs
    none_after [] = refl
    none_after (z ∷ zs) = ap (λ ws. z ∷ ws) (none_after zs)
none_with rs (Found infos xs o) e = ap (λ (zs : List Reference). o.unexplored ++ zs) e ∙ none_after o.unexplored
  where
    none_after : (zs : List Reference) → zs ++ [] ≡ zs
    none_after [] = refl
    none_after (z ∷ zs) = ap (λ ws. z ∷ ws) (none_after zs)
none_with rs Changed e = refl

-- what is left out lies in what is looked into
nested_limited : (p : Point) (s : Scene) (q : Asked) (lines : List Line) (size : Option ℕ) (a : Answer) → SoFar p s q lines a [] → LiesWithin p q (Answered (limited_answer size a))
nested_limited p s q lines size a so = λ u b m n. so.tells.nested u b (subst (λ (zs : List Reference). In u zs) (unexplored_limited size a ∙ sym (none_with [] a refl)) m) n

limited_left : (size : Option ℕ) (a : Answer) → to_follow (limited_answer size a) ≡ to_follow a
limited_left size (EntryFound info x) = refl
limited_left size (Matched equal copy x) = refl
limited_left size (Listed subs xs o) = refl
limited_left size (Found infos xs o) = refl
limited_left size Changed = refl

gathered_final : (k : Hand) (whole : Gathered) → IsFinalWhole whole → is_final (gathered_reply k whole) ≡ true
gathered_final k (Whole a) e = ap is_empty (limited_left k.message.request.controls.size a ∙ e)
gathered_final k (Broken x) e = e

-- ---- the references are gathered

module _ (known : NeededAgents) (p : Point) (s : Scene) (g : Ground p s) (from : Option ℕ) (k : Hand) (i : Journal) (at : AtHand p s k i) (look : IsLooked k.message) (begins : begins_parts k (find (s.holdings k.receiver) k.message) ≡ true)
    (takes : (r : Reference) → In r (needs (s.holdings k.receiver) k.message) → MayTake s from k r i) (alone : siblings (depth_at k) i.lines ≡ []) where
  may_gather : MayGather p s from k (rest_of_parts (holdings_at p k.receiver) k.message) i
  may_gather = record {
    begins = begun known p s g k i at look begins;
    needed = λ r m. of_rest (holdings_at p k.receiver) k.message r m;
    takes = λ r m. takes r (in_needs known p s g k i at look begins r m);
    fresh = λ r m. record {
      passed = λ e f a n. elim n [ ];
      only = λ l n agent carried. elim (subst (λ (xs : List Line). In l xs) alone n) [ ];
    };
    once =
        once_sorted taken_before (walked_needs (holdings_at p k.receiver) k.message)
        (once_shuffled (walked_needs (holdings_at p k.receiver) k.message) (part_needs (holdings_at p k.receiver) k.message)
        (needs_shuffled (holdings_at p k.receiver) k.message (spots_are_once p (line_for k) (begun known p s g k i at look begins)))
        (subst (λ (xs : List Reference). Once xs) (needs_parts known p s g k i at look begins) (apart_here p s g k i at known).once));
    apart = apart_here p s g k i at known;
  }

  -- what is gathered is a result, limited last; or messages ran out
  module _ (most : ℕ) (j : Journal) (whole : Gathered) (stood : ℕ) (w : GatherRight p s most at.line from k (rest_of_parts (holdings_at p k.receiver) k.message) [] whole i j) (same : length j.accepted ≡ stood) where
    gathered_right : RightReply p s (asked_line (line_at k at.line.number) stood) j (is_spent most j) (gathered_reply k whole) × LiesWithin p (asked_line (line_at k at.line.number) stood) (gathered_reply k whole)
    gathered_right = by whole w.gathered
      where
        not_able : is_unable (s.holdings k.receiver) k.message ≡ false
        not_able = able_by (s.holdings k.receiver) k.message (find (s.holdings k.receiver) k.message) refl (λ z. (let y : false ≡ true = ap (begins_parts k) (sym z) ∙ begins in cc))

        stands : In at.line j.lines
        stands = line_there p s k j (at_hand_later p s most k i j at w.keeps.keeps)

        by : (x : Gathered) → GatheredRight p s most k at.line.number j [] x → RightReply p s (asked_line (line_at k at.line.number) stood) j (is_spent most j) (gathered_reply k x) × LiesWithin p (asked_line (line_at k at.line.number) stood) (gathered_reply k x)
        by (Whole a) so =
            let res = limit_last p s (serving_of j k at.line.number) j.lines a so in (
              usual (ap not not_able)
                  (right.result (own_answered at.line stood j.lines stands)
                  (subst (λ (n : ℕ). IsResult p s (asked_line (line_at k at.line.number) n) j.lines (at_limit k a)) same res)
                  (ap not (query known p s g k i at look begins)) ((nat_same_decides (length j.accepted) stood).1 same)),
              nested_limited p s (serving_of j k at.line.number) j.lines k.message.request.controls.size a so,
            )
        by (Broken x) e = subst (λ (y : Reply). RightReply p s (asked_line (line_at k at.line.number) stood) j (is_spent most j) y × LiesWithin p (asked_line (line_at k at.line.number) stood) y) (sym e.0) (
          placed.limit (own_answered at.line stood j.lines stands) (or_left (is_spent most j) _ e.1)
              (or_left _ _ ((nat_same_decides (length j.accepted) stood).1 same)),
          tt,
        )

    -- each was taken, or messages ran out
    all_sent : is_spent most j ≡ true ⊎ ((r : Reference) → In r (rest_of_parts (holdings_at p k.receiver) k.message) → is_sent_by j.lines at.line from r ≡ true)
    all_sent = by whole w.gathered w.asked
      where
        by : (x : Gathered) → GatheredRight p s most k at.line.number j [] x → AllAsked j at.line from (rest_of_parts (holdings_at p k.receiver) k.message) x
            → is_spent most j ≡ true ⊎ ((r : Reference) → In r (rest_of_parts (holdings_at p k.receiver) k.message) → is_sent_by j.lines at.line from r ≡ true)
        by (Whole a) so f = inr f
        by (Broken x) e f = inl e.1

pub asks_parts_right : NeededAgents → AsksParts
asks_parts_right known p s most k i j a whole g arrives_here begins idle local d gathers at comes =
    let look = looked p s g k i at comes.none arrives_here (found_at s i k) refl free in
    let starts : begins_parts k (find (s.holdings k.receiver) k.message) ≡ true = ap (begins_parts k) (found_same p s g k i at comes.none arrives_here (found_at s i k) refl free) ∙ begins in
    let same = holds_is p s g k i at comes.none arrives_here (found_at s i k) refl free in
    let refs : parts_refs s i k ≡ rest_of_parts (holdings_at p k.receiver) k.message = ap (λ (h : Holdings). rest_of_parts h k.message) same in
    let here_local : local_part (holdings_at p k.receiver) k.message ≡ Answered a = ap (λ (h : Holdings). local_part h k.message) (sym same) ∙ local in
    let none : is_update k.message.request.body ≡ false = query known p s g k i at look starts in
    let may = may_gather known p s g (Some k.receiver) k i at look starts (λ r need. owner_may p s k r i at idle need) comes.alone in
    let so : SoFar p s (serving_of i k at.line.number) i.lines a (rest_of_parts (holdings_at p k.receiver) k.message) = local_so known p s g k i at look starts a here_local in
    let w : GatherRight p s most at.line (Some k.receiver) k (rest_of_parts (holdings_at p k.receiver) k.message) [] whole i j =
    subst (λ (rs : List Reference). GatherRight p s most at.line (Some k.receiver) k rs [] whole i j) refs
    (gathers [] at (subst (λ (rs : List Reference). MayGather p s (Some k.receiver) k rs i) (sym refs) may) (quiet none (fresh p s g k i at comes.none arrives_here (found_at s i k) refl free))
    (subst (λ (rs : List Reference). SoFar p s (serving_of i k at.line.number) i.lines a (rs ++ [])) (sym refs) (subst (λ (rs : List Reference). SoFar p s (serving_of i k at.line.number) i.lines a rs) (sym (none_more (rest_of_parts (holdings_at p k.receiver) k.message))) so))) in
    let right_one = gathered_right known p s g (Some k.receiver) k i at look starts (λ r need. owner_may p s k r i at idle need) comes.alone most j whole (length i.accepted) w (ap length (w.keeps.reads none).accepted_same) in
    let last : is_final (gathered_reply k whole) ≡ true = all_final d local in
    record {
      keeps = w.keeps;
      right = right_one.0;
      within = right_one.1;
      own = elim (all_sent known p s g (Some k.receiver) k i at look starts (λ r need. owner_may p s k r i at idle need) comes.alone most j whole (length i.accepted) w (ap length (w.keeps.reads none).accepted_same)) [
        | inl spent ↦ inl spent
        | inr f ↦ inr (
          itself_all known p s g k i at look starts j (λ r m. owner_takes known p s g k i at look starts j r idle (f r m)),
          settled_query known p s g k i at look starts j,
          λ z. served_all known p s g k i at look starts j (λ r m. owner_takes known p s g k i at look starts j r idle (f r m)),
        )
      ];
      left = λ z. absurd (let y : true ≡ false = sym last ∙ z in cc);
    }
  where
    free : found_at s i k ≡ Stuck → ⊥
    free z = (let y : false ≡ true = ap (begins_parts k) (sym z) ∙ begins in cc)

    quiet : is_update k.message.request.body ≡ false → is_done_before s i at.line ≡ false → Rests p s most at.line (is_update k.message.request.body) i
    quiet none new = record {
      calm = λ u. absurd (let z : true ≡ false = sym u ∙ none in cc);
      none = comes.none;
      fresh = new;
      at_once = comes.at_once;
    }

    none_more : (xs : List Reference) → xs ++ [] ≡ xs
    none_more [] = refl
    none_more (x ∷ xs) = ap (λ zs. x ∷ zs) (none_more xs)

    all_final : Does s most (Gathers (Some k.receiver) k (parts_refs s i k) a whole) i j → local_part (holds_now s i k) k.message ≡ Answered a → is_final (gathered_reply k whole) ≡ true
    all_final d e = gathered_final k whole (idle_is_followed s most (Gathers (Some k.receiver) k (parts_refs s i k) a whole) i j d (ap (filter (λ (r : Reference). not r.tried)) (local_whole (holds_now s i k) k.message a e)))

-- ---- who follows asks them

pub unexplored_right : NeededAgents → Unexplored
unexplored_right known p s most from k i j a whole g some d gathers stood at m rests =
    let left = m.left some in
    let starts = left.0.0 in
    let look = left.0.2 in
    let refs : to_follow a ≡ rest_of_parts (holdings_at p k.receiver) k.message = left.0.1 ∙ ap (λ (h : ℕ → Holdings). rest_of_parts (h k.receiver) k.message) g.setting.holdings in
    let none : is_update k.message.request.body ≡ false = query known p s g k i at look starts in
    let may = may_gather known p s g from k i at look starts takes left.2 in
    let so : SoFar p s (asked_line (line_at k at.line.number) stood) i.lines (only_unexplored (passed_by a) a) (to_follow a) =
    follow_tells p s (asked_line (line_at k at.line.number) stood) i (is_spent most i) a g.setting.by_keys (inr g.setting.copies) (query_below known p s g k i at look starts) m.right m.within in
    let w : GatherRight p s most at.line from k (rest_of_parts (holdings_at p k.receiver) k.message) [] whole i j =
    subst (λ (rs : List Reference). GatherRight p s most at.line from k rs [] whole i j) refs
    (gathers [] at (subst (λ (rs : List Reference). MayGather p s from k rs i) (sym refs) may) (rests some)
    (subst (λ (rs : List Reference). SoFar p s (serving_of i k at.line.number) i.lines (only_unexplored (passed_by a) a) rs) (sym (none_more (to_follow a)))
    (subst (λ (n : ℕ). SoFar p s (asked_line (line_at k at.line.number) n) i.lines (only_unexplored (passed_by a) a) (to_follow a)) left.3 so))) in
    let same : length j.accepted ≡ stood = ap length (w.keeps.reads none).accepted_same ∙ sym left.3 in
    let right_one = gathered_right known p s g from k i at look starts takes left.2 most j whole stood w same in
    record {
      keeps = w.keeps;
      right = right_one.0;
      within = right_one.1;
      served = elim (all_sent known p s g from k i at look starts takes left.2 most j whole stood w same) [
        | inl spent ↦ inl spent
        | inr f ↦ inr (served_all known p s g k i at look starts j (λ r n. follower_takes known p s g k i at look starts j r from left.1 m.sender_is (f r n)))
      ];
    }
  where
    takes : (r : Reference) → In r (needs (s.holdings k.receiver) k.message) → MayTake s from k r i
    takes r need = record {
      needed = need;
      sender_is = λ e f.
          let q : Some at.line ≡ Some e = sym at.at_hand ∙ f in
          let same : at.line ≡ e = cc in
          subst (λ (l : Line). may_send s l from ≡ true) same (m.sends some);
      chains = λ l sender c. m.chains some r l sender c;
    }

    none_more : (xs : List Reference) → xs ++ [] ≡ xs
    none_more [] = refl
    none_more (x ∷ xs) = ap (λ zs. x ∷ zs) (none_more xs)

-- ---- what a list or search is told

abbrev IsList : Told → Type 0
IsList (Shows info) = ⊥
IsList (Compares equal copy) = ⊥
IsList (Lists subs cut) = Unit {0}
IsList (Finds infos cut) = Unit {0}
IsList Changes = ⊥
IsList (Refuses x) = Unit {0}

told_is_list : (h : Holdings) (m : Chained) (b : Body) → is_query_below b ≡ true → IsList (told_in h m b)
told_is_list h m (ListBelow name) q = tt
told_is_list h m (Search base subset f selection) q = tt
told_is_list h m (Read name selection) q = tt
told_is_list h m (Compare name x) q = tt
told_is_list h m (AddEntry name xs) q = tt
told_is_list h m (RemoveEntry name) q = tt
told_is_list h m (ModifyEntry name xs) q = tt
told_is_list h m (ModifyDn name rdn x) q = tt

abbrev IsListing : Answer → Type 0
IsListing (EntryFound info x) = ⊥
IsListing (Matched equal copy x) = ⊥
IsListing (Listed subs xs o) = Unit {0}
IsListing (Found infos xs o) = Unit {0}
IsListing Changed = ⊥

listing_of : (sources : List Source) (t : Told) (a : Answer) → IsList t → reply_from sources t ≡ Answered a → IsListing a
listing_of sources (Shows info) a f e = absurd f
listing_of sources (Compares equal copy) a f e = absurd f
listing_of sources (Lists subs cut) a f e = (let same : Listed subs sources (record { limited = cut; unexplored = [] }) ≡ a = cc in subst IsListing same tt)
listing_of sources (Finds infos cut) a f e = (let same : Found infos sources (record { limited = cut; unexplored = [] }) ≡ a = cc in subst IsListing same tt)
listing_of sources Changes a f e = absurd f
listing_of sources (Refuses x) a f e = cc

listing_left : (size : Option ℕ) (rs : List Reference) (a : Answer) → IsListing a → unexplored_of a ≡ [] → ((r : Reference) → In r rs → r.tried ≡ false) → to_follow (limited_answer size (with_unexplored rs a)) ≡ rs
listing_left size rs (EntryFound info x) l e f = absurd l
listing_left size rs (Matched equal copy x) l e f = absurd l
listing_left size rs (Listed subs xs o) l e f = ap (λ (zs : List Reference). filter (λ r. not r.tried) (zs ++ rs)) e ∙ untried_all rs f
listing_left size rs (Found infos xs o) l e f = ap (λ (zs : List Reference). filter (λ r. not r.tried) (zs ++ rs)) e ∙ untried_all rs f
listing_left size rs Changed l e f = absurd l

-- ---- who may not chain gives its own part

pub gives_parts_right : NeededAgents → GivesParts
gives_parts_right known p s most k j a g arrives_here begins idle local at comes =
    let look = looked p s g k j at comes.none arrives_here (found_at s j k) refl free in
    let starts : begins_parts k (find (s.holdings k.receiver) k.message) ≡ true = ap (begins_parts k) (found_same p s g k j at comes.none arrives_here (found_at s j k) refl free) ∙ begins in
    let same = holds_is p s g k j at comes.none arrives_here (found_at s j k) refl free in
    let refs : parts_refs s j k ≡ rest_of_parts (holdings_at p k.receiver) k.message = ap (λ (h : Holdings). rest_of_parts h k.message) same in
    let here_local : local_part (holdings_at p k.receiver) k.message ≡ Answered a = ap (λ (h : Holdings). local_part h k.message) (sym same) ∙ local in
    let so : SoFar p s (serving_of j k at.line.number) j.lines a (rest_of_parts (holdings_at p k.receiver) k.message) = local_so known p s g k j at look starts a here_local in
    let left_it : to_follow (at_limit k (with_unexplored (rest_of_parts (holdings_at p k.receiver) k.message) a)) ≡ rest_of_parts (holdings_at p k.receiver) k.message =
    listing_left k.message.request.controls.size (rest_of_parts (holdings_at p k.receiver) k.message) a
    (listing_of (local_sources (holdings_at p k.receiver) k.message) (local_told (holdings_at p k.receiver) k.message) a
    (told_is_list (holdings_at p k.receiver) k.message k.message.request.body (query_below known p s g k j at look starts)) here_local) (local_whole (holdings_at p k.receiver) k.message a here_local)
    (λ r m. (rest_part (holdings_at p k.receiver) k.message r m).1) in
    subst (λ (rs : List Reference). ServedRight p s most at.line k (Answered (at_limit k (with_unexplored rs a))) j j) (sym refs) (record {
      keeps = unchanged p s most k (is_update k.message.request.body) j at.licensed at.accepted comes.at_once;
      right =
          usual (ap not (able p s g k j at comes.none arrives_here (found_at s j k) refl free))
          (right.result (own_answered at.line (length j.accepted) j.lines (line_there p s k j at)) (idle_result known p s g k j at look starts a idle so)
          (ap not (query known p s g k j at look starts)) ((nat_same_decides (length j.accepted) (length j.accepted)).1 refl));
      within = λ u b m n. so.tells.nested u b (subst (λ (zs : List Reference). In u zs) (unexplored_limited k.message.request.controls.size (with_unexplored (rest_of_parts (holdings_at p k.receiver) k.message) a)) m) n;
      own = inr (
        itself_idle known p s g k j at look starts j idle,
        settled_query known p s g k j at look starts j,
        λ z. served_all known p s g k j at look starts j (λ r m. elim (subst (λ (zs : List Reference). In r zs) (sym left_it ∙ empty_is _ z) m) [ ]),
      );
      left = λ z. ((starts, left_it ∙ ap (λ (h : ℕ → Holdings). rest_of_parts (h k.receiver) k.message) (sym g.setting.holdings), look), idle, refl, fresh p s g k j at comes.none arrives_here (found_at s j k) refl free);
    })
  where
    free : found_at s j k ≡ Stuck → ⊥
    free z = (let y : false ≡ true = ap (begins_parts k) (sym z) ∙ begins in cc)

    empty_is : (xs : List Reference) → is_empty xs ≡ true → xs ≡ []
    empty_is [] e = refl
    empty_is (x ∷ xs) e = cc
