-- What is replied to a message answers its operation, and a referral goes on with what the message asks for; and a reply
-- that leaves anything to follow is to a message that might be passed on: by one induction over all that is done.
use Rattle.std.proofs.Common.{◌≡◌, ℕ, ◌==◌, nat_le, Bool, true, false, not, ◌&&◌, List, [], ◌∷◌, refl, ap, subst, ◌∙◌, Option, Some, None, Ok, Err, if◌then◌else◌}
use Rattle.x5_model.specs.Words.{is_empty}
use Rattle.x5_model.specs.Keys.{Key}
use Rattle.x5_model.specs.Values.{TypeRef, Name, key_of}
use Rattle.x5_model.specs.Entries.{Named}
use Rattle.x5_model.specs.Filters.{Assertion}
use Rattle.x5_model.specs.Requests.{Selection, Body, Read, Compare, ListBelow, Search, AddEntry, RemoveEntry, ModifyEntry, ModifyDn, Request}
use Rattle.x5_model.specs.References.{Reference, Chained}
use Rattle.x5_model.specs.Answers.{Source, Answer, EntryFound, Matched, Listed, Found, Changed, DirError, ServiceProblem, Reply, Answered, Failed, Referred}
use Rattle.x5_model.specs.Problems.{loop_detected}
use Rattle.x5_model.specs.Selections.{selection_fault}
use Rattle.x5_model.specs.Statics.{fault_of}
use Rattle.x5_model.proofs.Lists.{both_true}
use Rattle.x5_model_tree.specs.Tree.{Tree, entry_at, tree_of, is_there_or_root}
use Rattle.x5_model_tree.specs.Apply.{Applied, apply}
use Rattle.x5_model_tree.specs.Ask.{Told, Shows, Compares, Lists, Finds, Changes, Refuses, is_update, has_type, absent, limited_list, limited_found, just_below, searched, at_object, read, compare, updated, ask_body, ask_marked}
use Rattle.x5_model_run.specs.Journal.{Journal, item_of, is_wide, operation_of, same_name}
use Rattle.x5_model_run.specs.Holdings.{Holdings}
use Rattle.x5_model_run.specs.Needs.{target_of}
use Rattle.x5_model_run.specs.Chain.{Scene, probe_request, is_probe, part_body, part_request, asks_part, is_user}
use Rattle.x5_model_theory.proofs.Tests.{false_true}
use Rattle.x5_model_serve.specs.Answering.{own_source, copy_source, reply_from, local_sources, told_in, local_told, local_part, with_unexplored, only_unexplored, limited_answer, merged, to_follow, passed_by, in_vain, is_unavailable}
use Rattle.x5_model_serve.specs.Serving.{Hand, hand, is_looped, held_back, limit_reply, Heard, Unheard, Hears, Gathered, Whole, Broken, Act, Serves, Follows, Sends, Tries, Takes, Spreads, Casts, Gathers, Probes, Updates, Does, Arrives, carried_for, holds_now, is_final, at_limit, parts_refs, gathered_reply, heard_or, loops, is_long, done_before, refused, unfit, stuck, nowhere, refers, goes, casts, reads, reads_copy, gives_parts, asks_parts, updates, not_done, does, probes_all, misses, taken, breaks, no_probe, clear, unsure, silent, holds_back, spent, lost, dropped, sends, final, referral, wide_referral, unexplored, none_yet, in_vain_too, heard, unheard, none_asked, unable_too, silent_too, answered, nobody_has, some_silent, no_part, part_unheard, part_unavailable, part_answered, part_breaks}
use Rattle.x5_model_serve.proofs.Finals.{leaves}
use Rattle.x5_serve.specs.Sendable.{is_answer_to, replies_to, MayBePassedOn}
use Rattle.x5_serve.proofs.Onward.{onward_no_probe}

-- ---- what an agent tells by itself

abbrev tells_for : ℕ → Told → Bool
tells_for n (Shows info) = n == 1
tells_for n (Compares equal copy) = n == 2
tells_for n (Lists subs cut) = n == 4
tells_for n (Finds infos cut) = n == 5
tells_for n Changes = nat_le 6 n && nat_le n 9
tells_for n (Refuses x) = true

from_these : (n : ℕ) (sources : List Source) (t : Told) → tells_for n t ≡ true
    → replies_to n (reply_from sources t) ≡ true
from_these n [] (Shows info) e = refl
from_these n (x ∷ xs) (Shows info) e = e
from_these n [] (Compares equal copy) e = refl
from_these n (x ∷ xs) (Compares equal copy) e = e
from_these n sources (Lists subs cut) e = e
from_these n sources (Finds infos cut) e = e
from_these n sources Changes e = e
from_these n sources (Refuses x) e = refl

read_tells : (copies : Key → Bool) (selection : Selection) (e : Named) → tells_for 1 (read copies selection e) ≡ true
read_tells copies selection e = by (selection_fault selection e.entry) refl
  where
    by : (o : Option TypeRef) → selection_fault selection e.entry ≡ o → tells_for 1 (read copies selection e) ≡ true
    by None q = rw q refl
    by (Some kind) q = rw q refl

compare_tells : (copies : Key → Bool) (a : Assertion) (e : Named) → tells_for 2 (compare copies a e) ≡ true
compare_tells copies a e = by (has_type e.entry a.kind) refl
  where
    by : (b : Bool) → has_type e.entry a.kind ≡ b → tells_for 2 (compare copies a e) ≡ true
    by true q = rw q refl
    by false q = rw q refl

object_tells : (n : ℕ) (t : Tree) (name : Name) (f : Named → Told) → ((e : Named) → tells_for n (f e) ≡ true)
    → tells_for n (at_object t name f) ≡ true
object_tells n t name f g = by (entry_at t.entries (key_of name)) refl
  where
    by : (o : Option Named) → entry_at t.entries (key_of name) ≡ o → tells_for n (at_object t name f) ≡ true
    by None q = rw q refl
    by (Some e) q = rw q (g e)

there_tells : (n : ℕ) (b : Bool) (t : Tree) (name : Name) (x : Told) → tells_for n x ≡ true
    → tells_for n (if b then x else absent t name) ≡ true
there_tells n true t name x e = e
there_tells n false t name x e = refl

updated_tells : (n : ℕ) (a : Applied) → (nat_le 6 n && nat_le n 9) ≡ true → tells_for n (updated a) ≡ true
updated_tells n (Ok t) e = e
updated_tells n (Err x) e = refl

body_tells : (copies : Key → Bool) (t : Tree) (r : Request) (b : Body)
    → tells_for (operation_of b) (ask_body copies t r b) ≡ true
body_tells copies t r (Read name selection) =
    object_tells 1 t name (read copies selection) (read_tells copies selection)
body_tells copies t r (Compare name a) = object_tells 2 t name (compare copies a) (compare_tells copies a)
body_tells copies t r (ListBelow name) =
    there_tells 4 (is_there_or_root t.entries (key_of name)) t name
    (limited_list copies r.controls.size (just_below t name)) refl
body_tells copies t r (Search base subset f selection) =
    there_tells 5 (is_there_or_root t.entries (key_of base)) t base
    (limited_found copies r.controls.size selection (searched t base subset f)) refl
body_tells copies t r (AddEntry name attributes) = updated_tells 6 (apply t r) refl
body_tells copies t r (RemoveEntry name) = updated_tells 7 (apply t r) refl
body_tells copies t r (ModifyEntry name changes) = updated_tells 8 (apply t r) refl
body_tells copies t r (ModifyDn name rdn drops) = updated_tells 9 (apply t r) refl

asked_tells : (copies : Key → Bool) (t : Tree) (r : Request)
    → tells_for (operation_of r.body) (ask_marked copies t r) ≡ true
asked_tells copies t r = by (fault_of r.body) refl
  where
    by : (o : Option DirError) → fault_of r.body ≡ o → tells_for (operation_of r.body) (ask_marked copies t r) ≡ true
    by None q = rw q (body_tells copies t r r.body)
    by (Some x) q = rw q refl

told_tells : (h : Holdings) (m : Chained) (b : Body) → tells_for (operation_of b) (told_in h m b) ≡ true
told_tells h m (Read name selection) = refl
told_tells h m (Compare name a) = refl
told_tells h m (ListBelow name) = refl
told_tells h m (Search base subset f selection) = refl
told_tells h m (AddEntry name attributes) = refl
told_tells h m (RemoveEntry name) = refl
told_tells h m (ModifyEntry name changes) = refl
told_tells h m (ModifyDn name rdn drops) = refl

-- no update has parts
told_query : (h : Holdings) (m : Chained) (sources : List Source) (a : Answer) (b : Body)
    → reply_from sources (told_in h m b) ≡ Answered a → is_update b ≡ false
told_query h m sources a (Read name selection) e = refl
told_query h m sources a (Compare name x) e = refl
told_query h m sources a (ListBelow name) e = refl
told_query h m sources a (Search base subset f selection) e = refl
told_query h m sources a (AddEntry name attributes) e = cc
told_query h m sources a (RemoveEntry name) e = cc
told_query h m sources a (ModifyEntry name changes) e = cc
told_query h m sources a (ModifyDn name rdn drops) e = cc

-- ---- what is made of answers

more_answers : (n : ℕ) (rs : List Reference) (a : Answer) → is_answer_to n (with_unexplored rs a) ≡ is_answer_to n a
more_answers n rs (EntryFound info source) = refl
more_answers n rs (Matched equal copy source) = refl
more_answers n rs (Listed subs sources o) = refl
more_answers n rs (Found infos sources o) = refl
more_answers n rs Changed = refl

only_answers : (n : ℕ) (rs : List Reference) (a : Answer) → is_answer_to n (only_unexplored rs a) ≡ is_answer_to n a
only_answers n rs (EntryFound info source) = refl
only_answers n rs (Matched equal copy source) = refl
only_answers n rs (Listed subs sources o) = refl
only_answers n rs (Found infos sources o) = refl
only_answers n rs Changed = refl

limited_answers : (n : ℕ) (size : Option ℕ) (a : Answer)
    → is_answer_to n (limited_answer size a) ≡ is_answer_to n a
limited_answers n size (EntryFound info source) = refl
limited_answers n size (Matched equal copy source) = refl
limited_answers n size (Listed subs sources o) = refl
limited_answers n size (Found infos sources o) = refl
limited_answers n size Changed = refl

merged_answers : (n : ℕ) (a b : Answer) → is_answer_to n (merged a b) ≡ is_answer_to n a
merged_answers n (Listed subs sources o) (Listed more others q) = refl
merged_answers n (Found infos sources o) (Found more others q) = refl
merged_answers n (EntryFound info source) b = refl
merged_answers n (Matched equal copy source) b = refl
merged_answers n Changed b = refl
merged_answers n (Listed subs sources o) (EntryFound info source) = refl
merged_answers n (Listed subs sources o) (Matched equal copy source) = refl
merged_answers n (Listed subs sources o) (Found more others q) = refl
merged_answers n (Listed subs sources o) Changed = refl
merged_answers n (Found infos sources o) (EntryFound info source) = refl
merged_answers n (Found infos sources o) (Matched equal copy source) = refl
merged_answers n (Found infos sources o) (Listed more others q) = refl
merged_answers n (Found infos sources o) Changed = refl

-- ---- what is asked

abbrev operation : Hand → ℕ
operation k = operation_of k.message.request.body

-- what goes by the reference is no probe
abbrev AsksOn : Hand → Reference → Type 0
AsksOn k r = is_probe k.message.request.body r.target ≡ false

part_operation : (wide : Bool) (base : Name) (b : Body) → operation_of (part_body wide base b) ≡ operation_of b
part_operation wide base (Read name selection) = refl
part_operation wide base (Compare name a) = refl
part_operation wide base (ListBelow name) = refl
part_operation wide base (Search old subset f selection) = refl
part_operation wide base (AddEntry name attributes) = refl
part_operation wide base (RemoveEntry name) = refl
part_operation wide base (ModifyEntry name changes) = refl
part_operation wide base (ModifyDn name rdn drops) = refl

carried_operation : (from : Option ℕ) (k : Hand) (r : Reference) → AsksOn k r
    → operation_of (carried_for from k r).request.body ≡ operation k
carried_operation from k r e = ap (λ (b : Bool). operation_of (asked b (asks_part r)).body) e ∙ by (asks_part r)
  where
    asked : Bool → Bool → Request
    asked probe part =
        if probe then probe_request r.target
        else (if part then part_request (is_user from) (is_wide r.kind) r.target k.message.request
        else k.message.request)

    by : (part : Bool) → operation_of (asked false part).body ≡ operation k
    by true = part_operation (is_wide r.kind) r.target k.message.request.body
    by false = refl

-- only updates have probes
query_asks : (k : Hand) (r : Reference) → is_update k.message.request.body ≡ false → AsksOn k r
query_asks k r e = ap (λ (b : Bool). b && not (same_name (target_of k.message.request.body) r.target)) e

-- a list or search is no update
listed_query : (b : Body) → (operation_of b == 4) ≡ true → is_update b ≡ false
listed_query (Read name selection) e = refl
listed_query (Compare name a) e = refl
listed_query (ListBelow name) e = refl
listed_query (Search base subset f selection) e = refl
listed_query (AddEntry name attributes) e = absurd (false_true e)
listed_query (RemoveEntry name) e = absurd (false_true e)
listed_query (ModifyEntry name changes) e = absurd (false_true e)
listed_query (ModifyDn name rdn drops) e = absurd (false_true e)

found_query : (b : Body) → (operation_of b == 5) ≡ true → is_update b ≡ false
found_query (Read name selection) e = refl
found_query (Compare name a) e = refl
found_query (ListBelow name) e = refl
found_query (Search base subset f selection) e = refl
found_query (AddEntry name attributes) e = absurd (false_true e)
found_query (RemoveEntry name) e = absurd (false_true e)
found_query (ModifyEntry name changes) e = absurd (false_true e)
found_query (ModifyDn name rdn drops) e = absurd (false_true e)

true_false : true ≡ false → ⊥
true_false e = cc

left_query : (b : Body) (a : Answer) → is_answer_to (operation_of b) a ≡ true → is_final (Answered a) ≡ false
    → is_update b ≡ false
left_query b (EntryFound info source) e f = absurd (true_false f)
left_query b (Matched equal copy source) e f = absurd (true_false f)
left_query b (Listed subs sources o) e f = listed_query b e
left_query b (Found infos sources o) e f = found_query b e
left_query b Changed e f = absurd (true_false f)

changed_answers : (b : Body) → is_update b ≡ true → is_answer_to (operation_of b) Changed ≡ true
changed_answers (Read name selection) e = absurd (false_true e)
changed_answers (Compare name a) e = absurd (false_true e)
changed_answers (ListBelow name) e = absurd (false_true e)
changed_answers (Search base subset f selection) e = absurd (false_true e)
changed_answers (AddEntry name attributes) e = refl
changed_answers (RemoveEntry name) e = refl
changed_answers (ModifyEntry name changes) e = refl
changed_answers (ModifyDn name rdn drops) e = refl

-- ---- of each thing that is done

-- a referral goes on with what is asked for
abbrev GoesOn : Hand → Reply → Type 0
GoesOn k (Answered a) = Unit {0}
GoesOn k (Failed x) = Unit {0}
GoesOn k (Referred r) = AsksOn k r

record Suits (k : Hand) (y : Reply) : Type 0 where
  answers : replies_to (operation k) y ≡ true
  goes_on : GoesOn k y

abbrev SuitsHeard : Hand → Heard → Type 0
SuitsHeard o Unheard = Unit {0}
SuitsHeard o (Hears y) = Suits o y

abbrev SuitsWhole : Hand → Gathered → Type 0
SuitsWhole o (Whole a) = is_answer_to (operation o) a ≡ true
SuitsWhole o (Broken y) = Suits o y

record Served (k : Hand) (y : Reply) : Type 0 where
  suits : Suits k y
  passable : is_final y ≡ false → MayBePassedOn k

abbrev Replies : Act → Type 0
Replies (Serves k y) = Served k y
Replies (Follows from k y last) = Suits k y → Suits k last
Replies (Sends from o r a h) = AsksOn o r → SuitsHeard o h
Replies (Tries from o r agents) = Unit {0}
Replies (Takes from o r h) = AsksOn o r → SuitsHeard o h
Replies (Spreads from o r agents noted) = Unit {0}
Replies (Casts from o r y) = AsksOn o r → Suits o y
Replies (Gathers from o rs a whole) =
    is_update o.message.request.body ≡ false → is_answer_to (operation o) a ≡ true → SuitsWhole o whole
Replies (Probes k r agents noted) = Unit {0}
Replies (Updates k y) = is_update k.message.request.body ≡ true → Suits k y

error_suits : (k : Hand) (x : DirError) → Suits k (Failed x)
error_suits k x = record { answers = refl; goes_on = tt }

held_suits : (k x : Hand) → Suits k (held_back x)
held_suits k x = by (is_looped x)
  where
    by : (b : Bool) → Suits k (if b then Failed (ServiceProblem loop_detected None (Some (item_of x.receiver x.message))) else limit_reply)
    by true = error_suits k _
    by false = error_suits k _

changed_suits : (k : Hand) → is_update k.message.request.body ≡ true → Suits k (Answered Changed)
changed_suits k e = record { answers = changed_answers k.message.request.body e; goes_on = tt }

told_goes_on : (k : Hand) (sources : List Source) (t : Told) → GoesOn k (reply_from sources t)
told_goes_on k [] (Shows info) = tt
told_goes_on k (x ∷ xs) (Shows info) = tt
told_goes_on k [] (Compares equal copy) = tt
told_goes_on k (x ∷ xs) (Compares equal copy) = tt
told_goes_on k sources (Lists subs cut) = tt
told_goes_on k sources (Finds infos cut) = tt
told_goes_on k sources Changes = tt
told_goes_on k sources (Refuses x) = tt

told_suits : (k : Hand) (source : Source) (copies : Key → Bool) (t : Tree)
    → Suits k (reply_from (source ∷ []) (ask_marked copies t k.message.request))
told_suits k source copies t = record {
  answers = from_these (operation k) (source ∷ []) (ask_marked copies t k.message.request)
      (asked_tells copies t k.message.request);
  goes_on = told_goes_on k (source ∷ []) (ask_marked copies t k.message.request);
}

final_goes_on : (k : Hand) (y : Reply) → is_final y ≡ true → GoesOn k y
final_goes_on k (Answered a) e = tt
final_goes_on k (Failed x) e = tt
final_goes_on k (Referred r) e = absurd (false_true e)

whole_suits : (k : Hand) (w : Gathered) → SuitsWhole k w → Suits k (gathered_reply k w)
whole_suits k (Whole a) e =
    record { answers = limited_answers (operation k) k.message.request.controls.size a ∙ e; goes_on = tt }
whole_suits k (Broken y) e = e

heard_suits : (k : Hand) (r : Reference) (h : Heard) → SuitsHeard k h
    → Suits k (heard_or (is_unavailable (in_vain r)) h)
heard_suits k r Unheard e = record { answers = refl; goes_on = tt }
heard_suits k r (Hears y) e = e

local_answers : (h : Holdings) (k : Hand) (a : Answer) → local_part h k.message ≡ Answered a
    → is_answer_to (operation k) a ≡ true
local_answers h k a e =
    subst (λ (y : Reply). replies_to (operation k) y ≡ true) e
    (from_these (operation k) (local_sources h k.message) (local_told h k.message)
    (told_tells h k.message k.message.request.body))

local_query : (h : Holdings) (k : Hand) (a : Answer) → local_part h k.message ≡ Answered a
    → is_update k.message.request.body ≡ false
local_query h k a e = told_query h k.message (local_sources h k.message) a k.message.request.body e

-- a message that is looked at might be passed on; an error leaves nothing
arrived : (s : Scene) (k : Hand) (j : Journal) → Arrives s k j → MayBePassedOn k
arrived s k j a = record { unlooped = a.unlooped; short = a.short }

early : (k : Hand) (y : Reply) → is_final y ≡ true → Suits k y → Served k y
early k y e f = record { suits = f; passable = λ g. absurd (false_true (sym_of g e)) }
  where
    sym_of : {b : Bool} → b ≡ false → b ≡ true → false ≡ true
    sym_of {b} g h = subst (λ (c : Bool). c ≡ true) g h

early_error : (k : Hand) (x : DirError) → Served k (Failed x)
early_error k x = early k (Failed x) refl (error_suits k x)

late : (s : Scene) (k : Hand) (y : Reply) (j : Journal) → Arrives s k j → Suits k y → Served k y
late s k y j a f = record { suits = f; passable = λ g. arrived s k j a }

module _ (s : Scene) (most : ℕ) where
  replies : (x : Act) (i j : Journal) → Does s most x i j → Replies x
  replies _ _ _ (loops {k} e) = early_error k _
  replies _ _ _ (is_long {k} e f) = early_error k _
  replies _ _ _ (done_before {k} e f g) =
      early k (Answered Changed) refl
      (changed_suits k (both_true (is_update k.message.request.body) _ g).0)
  replies _ _ _ (refused {k} x e f g h) = early_error k x
  replies _ _ _ (unfit {k} e f g h i) = early_error k _
  replies _ _ _ (stuck {k} {j} a e) = late s k _ j a (error_suits k _)
  replies _ _ _ (nowhere {k} {j} m a e) = late s k _ j a (error_suits k _)
  replies _ _ _ (refers {k} {j} r a e f) =
      late s k (Referred r) j a (record {
        answers = refl;
        goes_on = onward_no_probe (holds_now s j k) k.message r a.fit e;
      })
  replies _ _ _ (goes {k} {i} r h a e f g d) =
      let next = replies _ _ _ d in
      late s k _ i a (heard_suits k r h (next (onward_no_probe (holds_now s i k) k.message r a.fit e)))
  replies _ _ _ (casts {k} {i} r y a e f g d) =
      let next = replies _ _ _ d in
      late s k y i a (next (onward_no_probe (holds_now s i k) k.message r a.fit e))
  replies _ _ _ (reads {k} {j} c a e f g) =
      late s k _ j a (told_suits k (own_source k.receiver c) (λ key. false) (tree_of c.entries []))
  replies _ _ _ (reads_copy {k} {j} c a e f) =
      late s k _ j a (told_suits k (copy_source k.receiver c) (λ key. true) (tree_of c.held.entries []))
  replies _ _ _ (gives_parts {k} {j} y a e f g) =
      late s k _ j a (record {
        answers = limited_answers (operation k) k.message.request.controls.size (with_unexplored (parts_refs s j k) y)
            ∙ more_answers (operation k) (parts_refs s j k) y ∙ local_answers (holds_now s j k) k y g;
        goes_on = tt;
      })
  replies _ _ _ (asks_parts {k} {i} y w a e f g d) =
      let next = replies _ _ _ d in
      late s k _ i a (whole_suits k w (next (local_query (holds_now s i k) k y g)
      (local_answers (holds_now s i k) k y g)))
  replies _ _ _ (updates {k} {i} c y a e f d) = (let next = replies _ _ _ d in late s k y i a (next f))
  replies _ _ _ (not_done {k} x e) = λ u. error_suits k x
  replies _ _ _ (does {k} mine e f) = λ u. changed_suits k u
  replies _ _ _ (probes_all {k} mine r e f d) = λ u. changed_suits k u
  replies _ _ _ (misses {k} mine r a noted e f d) = λ u. error_suits k _
  replies _ _ _ (taken {k} mine r a b c m y e f g d u) = λ t. error_suits k _
  replies _ _ _ (breaks {k} mine r a b c m x e f g p q d u) = λ t. error_suits k x
  replies _ _ _ no_probe = tt
  replies _ _ _ (clear a y e d u) = tt
  replies _ _ _ (unsure a y e d u) = tt
  replies _ _ _ (silent a d u) = tt
  replies _ _ _ (holds_back {from} {o} {r} a e) = λ t. held_suits o (hand a (carried_for from o r))
  replies _ _ _ (spent {o = o} a free e) = λ t. error_suits o _
  replies _ _ _ (lost a free e f) = λ t. tt
  replies _ _ _ (dropped a y free e f d) = λ t. tt
  replies _ _ _ (sends {from} {o} {r} a y z free e f d u) =
      let first : Served (hand a (carried_for from o r)) y = replies _ _ _ d in
      let next : Suits (hand a (carried_for from o r)) y → Suits (hand a (carried_for from o r)) z = replies _ _ _ u in
      let last : is_final z ≡ true = leaves s most _ _ _ u in
      λ t. record {
        answers = subst (λ (n : ℕ). replies_to n z ≡ true) (carried_operation from o r t) (next first.suits).answers;
        goes_on = final_goes_on o z last;
      }
  replies _ _ _ (final y e) = λ t. t
  replies _ _ _ (referral {k = k} r h e d) = (let next = replies _ _ _ d in λ t. heard_suits k r h (next t.goes_on))
  replies _ _ _ (wide_referral r y e d) = (let next = replies _ _ _ d in λ t. next t.goes_on)
  replies _ _ _ (unexplored {k = k} a w e d) =
      let next = replies _ _ _ d in
      λ t. whole_suits k w (next (left_query k.message.request.body a t.answers e)
      (only_answers (operation k) (passed_by a) a ∙ t.answers))
  replies _ _ _ none_yet = tt
  replies _ _ _ (in_vain_too a d u) = tt
  replies _ _ _ (heard b c a y e d u) = (let next = replies _ _ _ u in λ t. next t)
  replies _ _ _ (unheard d) = λ t. tt
  replies _ _ _ none_asked = tt
  replies _ _ _ (unable_too a y e d u) = tt
  replies _ _ _ (silent_too a d u) = tt
  replies _ _ _ (answered b c m a y e f d u) = (let next = replies _ _ _ u in λ t. next t)
  replies _ _ _ (nobody_has {o = o} d) = λ t. error_suits o _
  replies _ _ _ (some_silent {o = o} m e d) = λ t. error_suits o _
  replies _ _ _ no_part = λ q t. t
  replies _ _ _ (part_unheard {o = o} {b = b} r d u) =
      let next = replies _ _ _ d in
      λ q t. more_answers (operation o) (in_vain r ∷ []) b ∙ next q t
  replies _ _ _ (part_unavailable {o = o} {b = b} r v d u) =
      let next = replies _ _ _ d in
      λ q t. more_answers (operation o) (in_vain v ∷ []) b ∙ next q t
  replies _ _ _ (part_answered {o = o} {b = b} r c d u) =
      let next = replies _ _ _ d in
      λ q t. merged_answers (operation o) b c ∙ next q t
  replies _ _ _ (part_breaks {o = o} b c r x e d u) = λ q t. error_suits o x

  -- what is served answers the operation of its message
  pub served_answers : (k : Hand) (y : Reply) (i j : Journal) → Does s most (Serves k y) i j
      → replies_to (operation_of k.message.request.body) y ≡ true
  served_answers k y i j d = (let w : Served k y = replies _ _ _ d in w.suits.answers)

  -- and what leaves anything to follow is to a message that might be passed on
  pub served_passable : (k : Hand) (y : Reply) (i j : Journal) → Does s most (Serves k y) i j → is_final y ≡ false
      → MayBePassedOn k
  served_passable k y i j d = (let w : Served k y = replies _ _ _ d in w.passable)
