-- What a read or compare finds where a name is resolved: nothing of it is completed, and a copy answers it exactly where
-- the copy's reply is no error. And the root is what a list or search alone asks for.
use Rattle.std.proofs.Common.{◌≡◌, ◌≤◌, ◌-◌, nat_lt, Bool, true, false, not, ◌&&◌, ◌||◌, List, [], ◌∷◌, ◌++◌, map, length, refl, ap, ◌∙◌, Option, Some, None, arith, ltb-false}
use Rattle.std.specs.Option.{is_some}
use Rattle.std.specs.List.{flat_map, filter}
use Rattle.std.proofs.lemmas.Bool.Decides.{Decides-eqb}
use Rattle.std.proofs.lemmas.List.{length-take-le}
use Rattle.x5_model.specs.Members.{In}
use Rattle.x5_model.specs.Words.{is_empty, first_of, when}
use Rattle.x5_model.specs.Keys.{Key, same_key, is_root}
use Rattle.x5_model.specs.Values.{TypeRef, Name, key_of, name_above}
use Rattle.x5_model.specs.Entries.{Named}
use Rattle.x5_model.specs.Filters.{Assertion}
use Rattle.x5_model.specs.Selections.{selection_fault}
use Rattle.x5_model.specs.Requests.{Selection, Body, Read, Compare, ListBelow, Search, AddEntry, RemoveEntry, ModifyEntry, ModifyDn, Request}
use Rattle.x5_model.specs.References.{Chained}
use Rattle.x5_model.specs.Answers.{Source, DirError}
use Rattle.x5_model.specs.Statics.{name_refusals, given, value_refusals, repeat_refusals, added_refusals, static_refusals, fault_of}
use Rattle.x5_model.proofs.KeyLaws.{key_decides}
use Rattle.x5_model.proofs.Lists.{both_true, and_true, left_empty, in_map, in_filter, not_found}
use Rattle.x5_model_tree.specs.Tree.{Tree, tree_of, entry_at, is_there}
use Rattle.x5_model_tree.specs.Ask.{Told, Shows, Compares, Lists, Finds, Changes, Refuses, is_update, read, compare, has_type, ask_body, ask_marked, ask}
use Rattle.x5_model_run.specs.Journal.{same_name, is_done}
use Rattle.x5_model_run.specs.Holdings.{Held, Copy, Holdings, held_at, may_copy, usable_copies}
use Rattle.x5_model_run.specs.Needs.{target_of, fails, copy_answers, subset_in, by_pin, subset_of}
use Rattle.x5_model_run.specs.Placed.{fits, is_query_below}
use Rattle.x5_model_heard.specs.Kept.{looks_at_one}
use Rattle.x5_model_serve.specs.Answering.{reply_from}
use Rattle.x5_model_theory.proofs.Stages.{key_length}
use Rattle.x5_model_serve.specs.Finding as finding
use Rattle.x5_agent.specs.Answers.{is_failed}
use Rattle.x5_agent.proofs.Shortness.{root_asked}

-- ---- the kind of the request

pub no_update : (b : Body) → looks_at_one b ≡ true → is_update b ≡ false
no_update (Read name s) e = refl
no_update (Compare name a) e = refl
no_update (ListBelow name) e = cc
no_update (Search name s f l) e = cc
no_update (AddEntry name a) e = cc
no_update (RemoveEntry name) e = cc
no_update (ModifyEntry name c) e = cc
no_update (ModifyDn name r d) e = cc

no_query : (b : Body) → looks_at_one b ≡ true → is_query_below b ≡ false
no_query (Read name s) e = refl
no_query (Compare name a) e = refl
no_query (ListBelow name) e = cc
no_query (Search name s f l) e = cc
no_query (AddEntry name a) e = cc
no_query (RemoveEntry name) e = cc
no_query (ModifyEntry name c) e = cc
no_query (ModifyDn name r d) e = cc

no_subset : (pinned : Bool) (b : Body) → looks_at_one b ≡ true → subset_in pinned b ≡ None
no_subset pinned (Read name s) e = refl
no_subset pinned (Compare name a) e = refl
no_subset pinned (ListBelow name) e = cc
no_subset pinned (Search name s f l) e = cc
no_subset pinned (AddEntry name a) e = cc
no_subset pinned (RemoveEntry name) e = cc
no_subset pinned (ModifyEntry name c) e = cc
no_subset pinned (ModifyDn name r d) e = cc

pub without_parts : (m : Chained) → looks_at_one m.request.body ≡ true → subset_of m ≡ None
without_parts m one = no_subset (by_pin m) m.request.body one

pub unfinished : (m : Chained) → looks_at_one m.request.body ≡ true → fits m ≡ true → is_done m.progress ≡ false
unfinished m one fit =
    by (is_done m.progress) (is_query_below m.request.body)
    (both_true (same_name (target_of m.request.body) m.target) (not (is_done m.progress) || is_query_below
    m.request.body) fit).1 (no_query m.request.body one)
  where
    by : (d q : Bool) → (not d || q) ≡ true → q ≡ false → d ≡ false
    by false q e f = refl
    by true q e f = cc

-- ---- the root

none_first : (xs : List DirError) → first_of xs ≡ None → xs ≡ []
none_first [] e = refl
none_first (x ∷ xs) e = cc

unnamed : (b : Body) → fault_of b ≡ None → name_refusals b ≡ []
unnamed b e =
    let all : static_refusals b ≡ [] = none_first (static_refusals b) e in
    left_empty (name_refusals b) (flat_map value_refusals (given b))
    (left_empty (name_refusals b ++ flat_map value_refusals (given b)) (repeat_refusals b)
    (left_empty (name_refusals b ++ flat_map value_refusals (given b) ++ repeat_refusals b) (added_refusals b) all))

no_name : (n : Name) (x : DirError) → when (is_empty n) x ≡ [] → is_root (key_of n) ≡ true → ⊥
no_name [] x e r = cc
no_name (y ∷ ys) x e r = absurd (let z : length (key_of (y ∷ ys)) ≡ 0 = (Decides-eqb (length (key_of
    (y ∷ ys))) 0).0 r in omega (arith, z))

unless : (b : Bool) (x : DirError) → when b x ≡ [] → b ≡ false
unless true x e = cc
unless false x e = refl

-- what stands above a name of two RDNs isn't the root
no_parent : (n : Name) (x : DirError) → when (nat_lt (length n) 2) x ≡ [] → is_root (key_of (name_above n)) ≡ true → ⊥
no_parent n x e r =
    let long : 2 ≤ length n = ltb-false (length n) 2 (unless (nat_lt (length n) 2) x e) in
    let none : length (key_of (name_above n)) ≡ 0 = (Decides-eqb (length (key_of (name_above n))) 0).0 r in
    let same = key_length (name_above n) in
    let kept = length-take-le (length n - 1) n (omega arith) in
    absurd (omega (arith, long, none, same, kept))

root_named : (b : Body) → fault_of b ≡ None → is_root (key_of (target_of b)) ≡ true → is_query_below b ≡ true
root_named (Read name s) f r = absurd (no_name name _ (unnamed (Read name s) f) r)
root_named (Compare name a) f r = absurd (no_name name _ (unnamed (Compare name a) f) r)
root_named (ListBelow name) f r = refl
root_named (Search name s g l) f r = refl
root_named (AddEntry name a) f r = absurd (no_parent name _ (unnamed (AddEntry name a) f) r)
root_named (RemoveEntry name) f r = absurd (no_name name _ (unnamed (RemoveEntry name) f) r)
root_named (ModifyEntry name c) f r = absurd (no_name name _ (unnamed (ModifyEntry name c) f) r)
root_named (ModifyDn name x d) f r = absurd (no_name name _ (unnamed (ModifyDn name x d) f) r)

-- the root is the base of a list or search alone
pub root_query : (h : Holdings) (m : Chained) → fault_of m.request.body ≡ None → fits m ≡ true
    → finding.find h m ≡ finding.Root → is_query_below m.request.body ≡ true
root_query h m fault fit e =
    let same : key_of (target_of m.request.body) ≡ key_of m.target =
    (key_decides (key_of (target_of m.request.body)) (key_of m.target)).0
    (both_true (same_name (target_of m.request.body) m.target) _ fit).0 in
    root_named m.request.body fault (ap is_root same ∙ root_asked h m e)

-- ---- copies

pub failed_from : (s : Source) (t : Told) → is_failed (reply_from (s ∷ []) t) ≡ fails t
failed_from s (Shows i) = refl
failed_from s (Compares e c) = refl
failed_from s (Lists n c) = refl
failed_from s (Finds n c) = refl
failed_from s Changes = refl
failed_from s (Refuses x) = refl

module _ (c d : Key → Bool) where
  read_alike : (s : Selection) (e : Named) → fails (read c s e) ≡ fails (read d s e)
  read_alike s e = by (selection_fault s e.entry) refl
    where
      by : (o : Option TypeRef) → selection_fault s e.entry ≡ o → fails (read c s e) ≡ fails (read d s e)
      by None q = rw q refl
      by (Some k) q = rw q refl

  compare_alike : (a : Assertion) (e : Named) → fails (compare c a e) ≡ fails (compare d a e)
  compare_alike a e = by (has_type e.entry a.kind) refl
    where
      by : (b : Bool) → has_type e.entry a.kind ≡ b → fails (compare c a e) ≡ fails (compare d a e)
      by true q = rw q refl
      by false q = rw q refl

  body_alike : (t : Tree) (r : Request) (b : Body) → looks_at_one b ≡ true
      → fails (ask_body c t r b) ≡ fails (ask_body d t r b)
  body_alike t r (Read name s) e = by (entry_at t.entries (key_of name)) refl
    where
      by : (o : Option Named) → entry_at t.entries (key_of name) ≡ o
          → fails (ask_body c t r (Read name s)) ≡ fails (ask_body d t r (Read name s))
      by None q = rw q refl
      by (Some x) q = rw q (read_alike s x)
  body_alike t r (Compare name a) e = by (entry_at t.entries (key_of name)) refl
    where
      by : (o : Option Named) → entry_at t.entries (key_of name) ≡ o
          → fails (ask_body c t r (Compare name a)) ≡ fails (ask_body d t r (Compare name a))
      by None q = rw q refl
      by (Some x) q = rw q (compare_alike a x)
  body_alike t r (ListBelow name) e = cc
  body_alike t r (Search name s f l) e = cc
  body_alike t r (AddEntry name a) e = cc
  body_alike t r (RemoveEntry name) e = cc
  body_alike t r (ModifyEntry name x) e = cc
  body_alike t r (ModifyDn name x y) e = cc

  -- an error is one whatever is marked as a copy's
  pub fails_alike : (t : Tree) (r : Request) → looks_at_one r.body ≡ true
      → fails (ask_marked c t r) ≡ fails (ask_marked d t r)
  fails_alike t r one = by (fault_of r.body) refl
    where
      by : (o : Option DirError) → fault_of r.body ≡ o → fails (ask_marked c t r) ≡ fails (ask_marked d t r)
      by None q = rw q (body_alike t r r.body one)
      by (Some x) q = rw q refl

module _ (h : Holdings) (m : Chained) (c : Copy) where
  abbrev used : List Held
  used = map (λ (d : Copy). d.held) (filter (λ (d : Copy). is_some d.stamp) h.copies)

  -- where the copy's reply is no error it answers
  pub answers : may_copy m.request ≡ true → is_some c.stamp ≡ true → In c h.copies
      → is_there c.held.entries (key_of m.target) ≡ true
      → fails (ask (tree_of c.held.entries []) m.request) ≡ false → copy_answers h m c ≡ true
  answers may stamped held there passes =
      and_true (is_some (held_at (usable_copies m.request h) (key_of c.held.prefix)))
      (is_there c.held.entries (key_of m.target) && not (fails (ask (tree_of c.held.entries []) m.request))) usable
      (and_true (is_there c.held.entries (key_of m.target)) (not (fails (ask (tree_of c.held.entries []) m.request)))
      there (ap not passes))
    where
      usable : is_some (held_at (usable_copies m.request h) (key_of c.held.prefix)) ≡ true
      usable = rw may (by (held_at used (key_of c.held.prefix)) refl)
        where
          by : (o : Option Held) → held_at used (key_of c.held.prefix) ≡ o → is_some o ≡ true
          by (Some x) q = refl
          by None q =
              absurd (let one : In c.held used = in_map (λ (d : Copy). d.held) c (filter (λ (d : Copy). is_some d.stamp)
              h.copies) (in_filter (λ (d : Copy). is_some d.stamp) c h.copies held stamped) in
              let f : same_key (key_of c.held.prefix) (key_of c.held.prefix) ≡ false = not_found (λ (d : Held).
              same_key (key_of d.prefix) (key_of c.held.prefix)) c.held used q one in
              let t : same_key (key_of c.held.prefix) (key_of c.held.prefix) ≡ true = (key_decides (key_of c.held.prefix)
              (key_of c.held.prefix)).1 refl in cc)

  -- where it is one, the supplier is asked
  pub to_supplier : fails (ask (tree_of c.held.entries []) m.request) ≡ true → copy_answers h m c ≡ false
  to_supplier f =
      rw f (neither (is_some (held_at (usable_copies m.request h) (key_of c.held.prefix)))
      (is_there c.held.entries (key_of m.target)))
    where
      neither : (a b : Bool) → (a && (b && false)) ≡ false
      neither true true = refl
      neither true false = refl
      neither false b = refl
