-- What an agent answers by itself is the result of what was asked, by cases of requests; what is passed on is the same
-- operation, unless it's a probe, of which nothing but an error is told. The rest is one induction over all that is
-- done.
use Rattle.std.proofs.Common.{◌≡◌, ℕ, Bool, true, false, List, [], ◌∷◌, refl, sym, subst, ◌∙◌, Option, Some, None, Ok, Err, if◌then◌else◌}
use Rattle.x5_model.specs.Members.{In, here, there}
use Rattle.x5_model.specs.Keys.{Key}
use Rattle.x5_model.specs.Values.{TypeRef, Name, key_of}
use Rattle.x5_model.specs.Entries.{Named}
use Rattle.x5_model.specs.Selections.{selection_fault}
use Rattle.x5_model.specs.Requests.{Selection, Body, Read, Compare, ListBelow, Search, AddEntry, RemoveEntry, ModifyEntry, ModifyDn, Request}
use Rattle.x5_model.specs.References.{Reference, Chained}
use Rattle.x5_model.specs.Answers.{Source, Answer, EntryFound, Matched, Listed, Found, Changed, DirError, ServiceProblem, Reply, Answered, Failed, Referred}
use Rattle.x5_model.specs.Statics.{fault_of}
use Rattle.x5_model.proofs.Lists.{both_true}
use Rattle.x5_model_tree.specs.Tree.{Tree, entry_at, is_there_or_root, tree_of}
use Rattle.x5_model_tree.specs.Apply.{Applied, apply}
use Rattle.x5_model_tree.specs.Ask as ask
use Rattle.x5_model_tree.specs.Ask.{Told, Shows, Compares, Lists, Finds, Changes, Refuses, is_update, at_object, has_type, limited_list, limited_found, just_below, searched, updated, ask_body, ask_marked}
use Rattle.x5_model.specs.Problems.{loop_detected}
use Rattle.x5_model_run.specs.Journal.{Journal, operation_of, is_wide, item_of}
use Rattle.x5_model_run.specs.Holdings.{Holdings}
use Rattle.x5_model_run.specs.Chain.{Scene, is_probe, part_body, part_request, probe_request, asks_part, is_user}
use Rattle.x5_model_theory.proofs.Tests.{false_true}
use Rattle.x5_model_serve.specs.Answering.{reply_from, own_source, copy_source, local_sources, local_told, told_in, local_part, merged, with_unexplored, only_unexplored, limited_answer, passed_by, in_vain, is_unavailable}
use Rattle.x5_model_serve.specs.Serving.{Hand, hand, is_looped, limit_reply, held_back, Heard, Unheard, Hears, Gathered, Whole, Broken, Act, Does, carried_for, gathered_reply, heard_or, holds_now, parts_refs, IsRequest, not_heard, not_told, answers, loops, is_long, done_before, refused, unfit, stuck, nowhere, refers, goes, casts, reads, reads_copy, gives_parts, asks_parts, updates, not_done, does, probes_all, misses, taken, breaks, no_probe, clear, unsure, silent, holds_back, spent, lost, dropped, sends, final, referral, wide_referral, unexplored, none_yet, in_vain_too, heard, unheard, none_asked, unable_too, silent_too, answered, nobody_has, some_silent, no_part, part_unheard, part_unavailable, part_answered, part_breaks}
use Rattle.x5_model_limits.specs.Operations.{answered_by, IsAnswerTo, IsReplyTo, IsHeardTo, IsWholeTo, GivenAsked, ToldAsked, RepliesToAsked, RequestsAnswered}
use Rattle.x5_model_limits.proofs.Onward.{onward_is_no_probe}

-- what a user tells himself replies to any operation
held_replies : (b : Body) (k : Hand) → IsReplyTo b (held_back k)
held_replies b k = by (is_looped k)
  where
    by : (c : Bool) → IsReplyTo b (if c then Failed (ServiceProblem loop_detected None (Some (item_of k.receiver k.message))) else limit_reply)
    by true = tt
    by false = tt

-- ---- operations by their codes

one_code : (n k : ℕ) → n ≡ k → In n (k ∷ [])
one_code n k e = subst (λ (x : ℕ). In n (x ∷ [])) e here

update_codes : (b : Body) → is_update b ≡ true → IsAnswerTo b Changed
update_codes (Read name selection) e = cc
update_codes (Compare name assertion) e = cc
update_codes (ListBelow name) e = cc
update_codes (Search base subset f selection) e = cc
update_codes (AddEntry name attributes) e = here
update_codes (RemoveEntry name) e = there here
update_codes (ModifyEntry name changes) e = there (there here)
update_codes (ModifyDn name rdn drops) e = there (there (there here))

-- ---- what an agent answers by itself

abbrev TellsOf : Body → Told → Type 0
TellsOf b (Shows info) = operation_of b ≡ 1
TellsOf b (Compares equal copy) = operation_of b ≡ 2
TellsOf b (Lists subs cut) = operation_of b ≡ 4
TellsOf b (Finds infos cut) = operation_of b ≡ 5
TellsOf b Changes = is_update b ≡ true
TellsOf b (Refuses x) = Unit {0}

replied : (b : Body) (sources : List Source) (t : Told) → TellsOf b t → IsReplyTo b (reply_from sources t)
replied b [] (Shows info) e = tt
replied b (s ∷ more) (Shows info) e = one_code (operation_of b) 1 e
replied b [] (Compares equal copy) e = tt
replied b (s ∷ more) (Compares equal copy) e = one_code (operation_of b) 2 e
replied b sources (Lists subs cut) e = one_code (operation_of b) 4 e
replied b sources (Finds infos cut) e = one_code (operation_of b) 5 e
replied b sources Changes e = update_codes b e
replied b sources (Refuses x) e = tt

if_tells : (b : Body) (x : Bool) (t u : Told) → TellsOf b t → TellsOf b u → TellsOf b (if x then t else u)
if_tells b true t u e f = e
if_tells b false t u e f = f

module _ (copies : Key → Bool) (t : Tree) (r : Request) where
  object_tells : (b : Body) (name : Name) (f : Named → Told) → ((e : Named) → TellsOf b (f e))
      → TellsOf b (at_object t name f)
  object_tells b name f g = by (entry_at t.entries (key_of name)) refl
    where
      by : (o : Option Named) → entry_at t.entries (key_of name) ≡ o → TellsOf b (at_object t name f)
      by None q = rw q tt
      by (Some e) q = rw q (g e)

  read_tells : (name : Name) (selection : Selection) (e : Named)
      → TellsOf (Read name selection) (ask.read copies selection e)
  read_tells name selection e = by (selection_fault selection e.entry) refl
    where
      by : (o : Option TypeRef) → selection_fault selection e.entry ≡ o
          → TellsOf (Read name selection) (ask.read copies selection e)
      by None q = rw q refl
      by (Some k) q = rw q tt

  applied_tells : (b : Body) (x : Applied) → is_update b ≡ true → TellsOf b (updated x)
  applied_tells b (Ok new) e = e
  applied_tells b (Err x) e = tt

  body_tells : (b : Body) → TellsOf b (ask_body copies t r b)
  body_tells (Read name selection) =
      object_tells (Read name selection) name (ask.read copies selection) (λ e. read_tells name selection e)
  body_tells (Compare name a) =
      object_tells (Compare name a) name (ask.compare copies a)
      (λ e. if_tells (Compare name a) (has_type e.entry a.kind) _ _ refl tt)
  body_tells (ListBelow name) =
      if_tells (ListBelow name) (is_there_or_root t.entries (key_of name))
      (limited_list copies r.controls.size (just_below t name)) (ask.absent t name) refl tt
  body_tells (Search base subset f selection) =
      if_tells (Search base subset f selection) (is_there_or_root t.entries (key_of base))
      (limited_found copies r.controls.size selection (searched t base subset f)) (ask.absent t base) refl tt
  body_tells (AddEntry name attributes) = applied_tells (AddEntry name attributes) (apply t r) refl
  body_tells (RemoveEntry name) = applied_tells (RemoveEntry name) (apply t r) refl
  body_tells (ModifyEntry name changes) = applied_tells (ModifyEntry name changes) (apply t r) refl
  body_tells (ModifyDn name rdn drops) = applied_tells (ModifyDn name rdn drops) (apply t r) refl

  asked_tells : TellsOf r.body (ask_marked copies t r)
  asked_tells = by (fault_of r.body) refl
    where
      by : (o : Option DirError) → fault_of r.body ≡ o → TellsOf r.body (ask_marked copies t r)
      by None q = rw q (body_tells r.body)
      by (Some x) q = rw q tt

told_tells : (h : Holdings) (m : Chained) (b : Body) → TellsOf b (told_in h m b)
told_tells h m (Read name selection) = tt
told_tells h m (Compare name assertion) = tt
told_tells h m (ListBelow name) = refl
told_tells h m (Search base subset f selection) = refl
told_tells h m (AddEntry name attributes) = tt
told_tells h m (RemoveEntry name) = tt
told_tells h m (ModifyEntry name changes) = tt
told_tells h m (ModifyDn name rdn drops) = tt

part_answer : (h : Holdings) (m : Chained) (a : Answer) → local_part h m ≡ Answered a → IsAnswerTo m.request.body a
part_answer h m a e =
    subst (IsReplyTo m.request.body) e
    (replied m.request.body (local_sources h m) (local_told h m) (told_tells h m m.request.body))

-- ---- what is made of answers

with_same : (rs : List Reference) (a : Answer) → answered_by (with_unexplored rs a) ≡ answered_by a
with_same rs (EntryFound info source) = refl
with_same rs (Matched equal copy source) = refl
with_same rs (Listed subs sources o) = refl
with_same rs (Found infos sources o) = refl
with_same rs Changed = refl

only_same : (rs : List Reference) (a : Answer) → answered_by (only_unexplored rs a) ≡ answered_by a
only_same rs (EntryFound info source) = refl
only_same rs (Matched equal copy source) = refl
only_same rs (Listed subs sources o) = refl
only_same rs (Found infos sources o) = refl
only_same rs Changed = refl

limited_same : (size : Option ℕ) (a : Answer) → answered_by (limited_answer size a) ≡ answered_by a
limited_same size (EntryFound info source) = refl
limited_same size (Matched equal copy source) = refl
limited_same size (Listed subs sources o) = refl
limited_same size (Found infos sources o) = refl
limited_same size Changed = refl

merged_same : (a b : Answer) → answered_by (merged a b) ≡ answered_by a
merged_same (Listed subs sources o) (Listed more others q) = refl
merged_same (Found infos sources o) (Found more others q) = refl
merged_same (EntryFound info source) b = refl
merged_same (Matched equal copy source) b = refl
merged_same Changed b = refl
merged_same (Listed subs sources o) (EntryFound info source) = refl
merged_same (Listed subs sources o) (Matched equal copy source) = refl
merged_same (Listed subs sources o) (Found more others q) = refl
merged_same (Listed subs sources o) Changed = refl
merged_same (Found infos sources o) (EntryFound info source) = refl
merged_same (Found infos sources o) (Matched equal copy source) = refl
merged_same (Found infos sources o) (Listed more others q) = refl
merged_same (Found infos sources o) Changed = refl

alike : (b : Body) (x y : Answer) → answered_by x ≡ answered_by y → IsAnswerTo b y → IsAnswerTo b x
alike b x y e i = subst (λ (codes : List ℕ). In (operation_of b) codes) (sym e) i

whole_to : (k : Hand) (w : Gathered) → IsWholeTo k.message.request.body w
    → IsReplyTo k.message.request.body (gathered_reply k w)
whole_to k (Whole a) t =
    alike k.message.request.body (limited_answer k.message.request.controls.size a) a
    (limited_same k.message.request.controls.size a) t
whole_to k (Broken y) t = t

heard_to : (b : Body) (r : Reference) (h : Heard) → IsHeardTo b h → IsReplyTo b (heard_or (is_unavailable r) h)
heard_to b r Unheard t = tt
heard_to b r (Hears y) t = t

-- ---- what is passed on

part_operation : (wide : Bool) (base : Name) (b : Body) → operation_of (part_body wide base b) ≡ operation_of b
part_operation wide base (Read name selection) = refl
part_operation wide base (Compare name assertion) = refl
part_operation wide base (ListBelow name) = refl
part_operation wide base (Search old subset f selection) = refl
part_operation wide base (AddEntry name attributes) = refl
part_operation wide base (RemoveEntry name) = refl
part_operation wide base (ModifyEntry name changes) = refl
part_operation wide base (ModifyDn name rdn drops) = refl

part_probe : (wide : Bool) (base : Name) (b : Body) (t : Name) → is_probe (part_body wide base b) t ≡ is_probe b t
part_probe wide base (Read name selection) t = refl
part_probe wide base (Compare name assertion) t = refl
part_probe wide base (ListBelow name) t = refl
part_probe wide base (Search old subset f selection) t = refl
part_probe wide base (AddEntry name attributes) t = refl
part_probe wide base (RemoveEntry name) t = refl
part_probe wide base (ModifyEntry name changes) t = refl
part_probe wide base (ModifyDn name rdn drops) t = refl

part_reply : (wide : Bool) (base : Name) (b : Body) (y : Reply) → IsReplyTo (part_body wide base b) y → IsReplyTo b y
part_reply wide base b (Answered a) t = subst (λ (n : ℕ). In n (answered_by a)) (part_operation wide base b) t
part_reply wide base b (Failed x) t = tt
part_reply wide base b (Referred r) t = sym (part_probe wide base b r.target) ∙ t

-- a reply to what is carried by a reference, but for a probe, is one to what it's carried for
carried_reply : (from : Option ℕ) (o : Hand) (r : Reference) (y : Reply)
    → is_probe o.message.request.body r.target ≡ false → IsReplyTo (carried_for from o r).request.body y
    → IsReplyTo o.message.request.body y
carried_reply from o r y plain t = by (is_probe o.message.request.body r.target) (asks_part r) plain t
  where
    request : Bool → Bool → Request
    request probe part =
        if probe then probe_request r.target
        else (if part then part_request (is_user from) (is_wide r.kind) r.target o.message.request
        else o.message.request)

    by : (probe part : Bool) → probe ≡ false → IsReplyTo (request probe part).body y
        → IsReplyTo o.message.request.body y
    by true part e u = absurd (false_true (sym e))
    by false true e u = part_reply (is_wide r.kind) r.target o.message.request.body y u
    by false false e u = u

carried_heard : (from : Option ℕ) (o : Hand) (r : Reference) (h : Heard)
    → is_probe o.message.request.body r.target ≡ false → IsHeardTo (carried_for from o r).request.body h
    → IsHeardTo o.message.request.body h
carried_heard from o r Unheard plain t = tt
carried_heard from o r (Hears y) plain t = carried_reply from o r y plain t

-- ---- all that is done

module _ (s : Scene) (most : ℕ) where
  abbrev Comes : Act → Type 0
  Comes x = GivenAsked x → ToldAsked x

  comes : (x : Act) (i j : Journal) → Does s most x i j → Comes x
  comes _ _ _ (loops e) = λ g. tt
  comes _ _ _ (is_long e t) = λ g. tt
  comes _ _ _ (done_before {k} e t u) = λ g.
      update_codes k.message.request.body (both_true (is_update k.message.request.body) _ u).0
  comes _ _ _ (refused x e t u h) = λ g. tt
  comes _ _ _ (unfit e t u h l) = λ g. tt
  comes _ _ _ (stuck a e) = λ g. tt
  comes _ _ _ (nowhere m a e) = λ g. tt
  comes _ _ _ (refers {k} {j} r a e t) = λ g. onward_is_no_probe (holds_now s j k) k.message r a.fit e
  comes _ _ _ (goes {k} {i} r h a e t u d) =
      let next = comes _ _ _ d in
      λ g. heard_to k.message.request.body (in_vain r) h
      (next (onward_is_no_probe (holds_now s i k) k.message r a.fit e))
  comes _ _ _ (casts {k} {i} r y a e t u d) =
      let next = comes _ _ _ d in
      λ g. next (onward_is_no_probe (holds_now s i k) k.message r a.fit e)
  comes _ _ _ (reads {k} c a e t u) = λ g.
      replied k.message.request.body (own_source k.receiver c ∷ [])
      (ask_marked (λ key. false) (tree_of c.entries []) k.message.request)
      (asked_tells (λ key. false) (tree_of c.entries []) k.message.request)
  comes _ _ _ (reads_copy {k} c a e t) = λ g.
      replied k.message.request.body (copy_source k.receiver c ∷ [])
      (ask_marked (λ key. true) (tree_of c.held.entries []) k.message.request)
      (asked_tells (λ key. true) (tree_of c.held.entries []) k.message.request)
  comes _ _ _ (gives_parts {k} {j} y a e t u) = λ g.
      alike k.message.request.body
      (limited_answer k.message.request.controls.size (with_unexplored (parts_refs s j k) y)) y
      (limited_same k.message.request.controls.size (with_unexplored (parts_refs s j k) y)
      ∙ with_same (parts_refs s j k) y)
      (part_answer (holds_now s j k) k.message y u)
  comes _ _ _ (asks_parts {k} {i} y w a e t u d) =
      let next = comes _ _ _ d in
      λ g. whole_to k w (next (part_answer (holds_now s i k) k.message y u))
  comes _ _ _ (updates c y a e t d) = (let next = comes _ _ _ d in λ g. next t)
  comes _ _ _ (not_done x e) = λ g. tt
  comes _ _ _ (does {k} mine e t) = λ g. update_codes k.message.request.body g
  comes _ _ _ (probes_all {k} mine r e t d) = λ g. update_codes k.message.request.body g
  comes _ _ _ (misses mine r a noted e t d) = λ g. tt
  comes _ _ _ (taken mine r a b c m y e t u d v) = λ g. tt
  comes _ _ _ (breaks mine r a b c m x e t u q z d v) = λ g. tt
  comes _ _ _ no_probe = λ g. tt
  comes _ _ _ (clear a y e d u) = λ g. tt
  comes _ _ _ (unsure a y e d u) = λ g. tt
  comes _ _ _ (silent a d u) = λ g. tt
  comes _ _ _ (holds_back {from} {o} {r} a e) = λ g. held_replies (carried_for from o r).request.body (hand a (carried_for from o r))
  comes _ _ _ (spent a hb e) = λ g. tt
  comes _ _ _ (lost a hb e t) = λ g. tt
  comes _ _ _ (dropped a y hb e t d) = λ g. tt
  comes _ _ _ (sends a y z hb e t d u) =
      let first = comes _ _ _ d in
      let next = comes _ _ _ u in
      λ g. next (first tt)
  comes _ _ _ (final y e) = λ g. g
  comes _ _ _ (referral {k = k} r h e d) =
      (let next = comes _ _ _ d in λ g. heard_to k.message.request.body (in_vain r) h (next g))
  comes _ _ _ (wide_referral r y e d) = (let next = comes _ _ _ d in λ g. next g)
  comes _ _ _ (unexplored {k = k} a w e d) =
      let next = comes _ _ _ d in
      λ g. whole_to k w
      (next (alike k.message.request.body (only_unexplored (passed_by a) a) a (only_same (passed_by a) a) g))
  comes _ _ _ none_yet = λ g. tt
  comes _ _ _ (in_vain_too a d u) = λ g. tt
  comes _ _ _ (heard {from} {o} {r} b c a y e d u) =
      (let next = comes _ _ _ u in λ g. carried_reply from o r y g (next tt))
  comes _ _ _ (unheard d) = λ g. tt
  comes _ _ _ none_asked = λ g. tt
  comes _ _ _ (unable_too a y e d u) = λ g. tt
  comes _ _ _ (silent_too a d u) = λ g. tt
  comes _ _ _ (answered {from} {o} {r} b c m a y e t d u) =
      (let next = comes _ _ _ u in λ g. carried_reply from o r y g (next tt))
  comes _ _ _ (nobody_has d) = λ g. tt
  comes _ _ _ (some_silent m e d) = λ g. tt
  comes _ _ _ no_part = λ g. g
  comes _ _ _ (part_unheard {o = o} {b = b} r d u) =
      let next = comes _ _ _ d in
      λ g. alike o.message.request.body (with_unexplored (in_vain r ∷ []) b) b (with_same (in_vain r ∷ []) b) (next g)
  comes _ _ _ (part_unavailable {o = o} {b = b} r v d u) =
      let next = comes _ _ _ d in
      λ g. alike o.message.request.body (with_unexplored (in_vain v ∷ []) b) b (with_same (in_vain v ∷ []) b) (next g)
  comes _ _ _ (part_answered {o = o} {b = b} r c d u) =
      let next = comes _ _ _ d in
      λ g. alike o.message.request.body (merged b c) b (merged_same b c) (next g)
  comes _ _ _ (part_breaks b c r x e d u) = λ g. tt

  request_answered : (j : Journal) (y : Reply) → IsRequest s most j y → IsReplyTo s.message.request.body y
  request_answered _ _ (not_heard e) = tt
  request_answered _ _ (not_told y e d) = tt
  request_answered _ _ (answers y e d) = comes _ _ _ d tt

pub replies_to_asked : RepliesToAsked
replies_to_asked s most x i j d = comes s most x i j d

pub requests_answered : RequestsAnswered
requests_answered s most j y r = request_answered s most j y r
