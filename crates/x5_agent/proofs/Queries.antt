-- What a request asks for decides what is made of its target: a list or search is evaluated wherever its base is found,
-- in a copy too, which never answers it by an error; what is neither that nor an update is a read or compare.
use Rattle.std.proofs.Common.{◌≡◌, Bool, true, false, cond, not, ◌&&◌, ◌||◌, List, [], refl, sym, ap, subst, ◌∙◌, Option, Some, None}
use Rattle.std.specs.Option.{is_none}
use Rattle.x5_model.specs.Keys.{Key, same_key, is_root}
use Rattle.x5_model.specs.Values.{key_of}
use Rattle.x5_model.specs.Entries.{Named}
use Rattle.x5_model.specs.Requests.{Body, Read, Compare, ListBelow, Search, AddEntry, RemoveEntry, ModifyEntry, ModifyDn, Request}
use Rattle.x5_model.specs.References.{Progress, Start, Next, Done, Chained}
use Rattle.x5_model.specs.Answers.{DirError}
use Rattle.x5_model.specs.Statics.{fault_of}
use Rattle.x5_model.proofs.Ascending.{in_sorted}
use Rattle.x5_model.proofs.KeyLaws.{key_decides}
use Rattle.x5_model.proofs.Lists.{any_in, both_true, of_any, or_right}
use Rattle.x5_model_tree.specs.Tree.{Tree, key_at, tree_of, is_there, named_below, sorted_entries}
use Rattle.x5_model_tree.specs.Ask.{Told, Refuses, is_update, absent, ask, ask_body, just_below, limited_found, limited_list, searched}
use Rattle.x5_model_run.specs.Holdings.{Held, Copy, Holdings, may_copy}
use Rattle.x5_model_run.specs.Journal.{is_done, is_wide, same_name}
use Rattle.x5_model_run.specs.Needs.{by_pin, fails, subset_in, subset_of, target_of}
use Rattle.x5_model_run.specs.Placed.{fits, is_query_below}
use Rattle.x5_model_heard.specs.Kept.{looks_at_one}
use Rattle.x5_model_serve.specs.Finding as finding
use Rattle.x5_model_serve.specs.Serving.{begins_parts, hand}

pub one_left : (b : Body) → is_update b ≡ false → is_query_below b ≡ false → looks_at_one b ≡ true
one_left (Read name s) u q = refl
one_left (Compare name a) u q = refl
one_left (ListBelow name) u q = cc
one_left (Search name s f l) u q = cc
one_left (AddEntry name a) u q = cc
one_left (RemoveEntry name) u q = cc
one_left (ModifyEntry name c) u q = cc
one_left (ModifyDn name r d) u q = cc

-- ---- where a part begins

query_subset : (pinned : Bool) (b : Body) → is_query_below b ≡ true → not (is_none (subset_in pinned b)) ≡ true
query_subset true (ListBelow name) q = refl
query_subset false (ListBelow name) q = refl
query_subset pinned (Search name s f l) q = refl
query_subset pinned (Read name s) q = cc
query_subset pinned (Compare name a) q = cc
query_subset pinned (AddEntry name a) q = cc
query_subset pinned (RemoveEntry name) q = cc
query_subset pinned (ModifyEntry name c) q = cc
query_subset pinned (ModifyDn name r d) q = cc

module _ (h : Holdings) (m : Chained) (query : is_query_below m.request.body ≡ true) where
  abbrev Begins : Type 0
  Begins = begins_parts (hand h.me m) (finding.find h m) ≡ true

  has_subset : not (is_none (subset_of m)) ≡ true
  has_subset = query_subset (by_pin m) m.request.body query

  pub begins_here : (c : Held) → finding.find h m ≡ finding.Here c → Begins
  begins_here c e = ap (begins_parts (hand h.me m)) e ∙ has_subset

  pub begins_in_copy : (c : Copy) → finding.find h m ≡ finding.CopyHere c → Begins
  begins_in_copy c e = ap (begins_parts (hand h.me m)) e ∙ has_subset

  pub begins_at_root : finding.find h m ≡ finding.Root → Begins
  begins_at_root e = ap (begins_parts (hand h.me m)) e ∙ has_subset

-- below the entry of a nonSpecific reference
module _ (h : Holdings) (m : Chained) (below : (is_done m.progress && is_wide m.kind) ≡ true) where
  found_below : finding.find h m ≡ finding.Below
  found_below = by m.progress refl (both_true (is_done m.progress) (is_wide m.kind) below)
    where
      by : (x : Progress) → m.progress ≡ x → (is_done m.progress ≡ true) × (is_wide m.kind ≡ true)
          → finding.find h m ≡ finding.Below
      by Start e w = let d : is_done Start ≡ true = subst (λ (y : Progress). is_done y ≡ true) e w.0 in cc
      by (Next k) e w = let d : is_done (Next k) ≡ true = subst (λ (y : Progress). is_done y ≡ true) e w.0 in cc
      by Done e w = rw (e, w.1) refl

  pub begins_below : begins_parts (hand h.me m) (finding.find h m) ≡ true
  begins_below = ap (begins_parts (hand h.me m)) found_below

pub below_query : (m : Chained) → fits m ≡ true → (is_done m.progress && is_wide m.kind) ≡ true
    → is_query_below m.request.body ≡ true
below_query m fit below =
    by (is_done m.progress) (is_query_below m.request.body)
    (both_true (same_name (target_of m.request.body) m.target) (not (is_done m.progress) || is_query_below
    m.request.body) fit).1 (both_true (is_done m.progress) (is_wide m.kind) below).0
  where
    by : (d q : Bool) → (not d || q) ≡ true → d ≡ true → q ≡ true
    by true q e f = e
    by false q e f = cc

-- ---- copies

abbrev unless_refused : Tree → Request → Option DirError → Told
unless_refused t r (Some x) = Refuses x
unless_refused t r None = ask_body (λ key. false) t r r.body

-- a list or search of what is there gives no error
body_passes : (t : Tree) (r : Request) (b : Body) (key : Key) → is_query_below b ≡ true → key_of (target_of b) ≡ key
    → is_there t.entries key ≡ true → fails (ask_body (λ key. false) t r b) ≡ false
body_passes t r (ListBelow name) key q same there =
    ap (λ (b : Bool). fails (cond b (limited_list (λ key. false) r.controls.size (just_below t name)) (absent t name)))
    (or_right (is_root (key_of name)) (is_there t.entries (key_of name))
    (subst (λ (k : Key). is_there t.entries k ≡ true) (sym same) there))
body_passes t r (Search base s f selection) key q same there =
    ap (λ (b : Bool). fails (cond b (limited_found (λ key. false) r.controls.size selection (searched t base s f))
    (absent t base))) (or_right (is_root (key_of base)) (is_there t.entries (key_of base))
    (subst (λ (k : Key). is_there t.entries k ≡ true) (sym same) there))
body_passes t r (Read name selection) key q same there = cc
body_passes t r (Compare name a) key q same there = cc
body_passes t r (AddEntry name attributes) key q same there = cc
body_passes t r (RemoveEntry name) key q same there = cc
body_passes t r (ModifyEntry name changes) key q same there = cc
body_passes t r (ModifyDn name rdn drops) key q same there = cc

there_sorted : (entries : List Named) (key : Key) → is_there entries key ≡ true
    → is_there (sorted_entries entries) key ≡ true
there_sorted entries key e =
    let w = of_any (λ (x : Named). same_key (key_at x) key) entries e in
    any_in (λ (x : Named). same_key (key_at x) key) w.0 (sorted_entries entries)
    (in_sorted named_below w.0 entries w.1) w.2

pub query_passes : (m : Chained) (entries : List Named) → is_query_below m.request.body ≡ true
    → fault_of m.request.body ≡ None → fits m ≡ true → is_there entries (key_of m.target) ≡ true
    → fails (ask (tree_of entries []) m.request) ≡ false
query_passes m entries query fault fit there =
    ap (λ (o : Option DirError). fails (unless_refused (tree_of entries []) m.request o)) fault
    ∙ body_passes (tree_of entries []) m.request m.request.body (key_of m.target) query
    ((key_decides (key_of (target_of m.request.body)) (key_of m.target)).0 (both_true (same_name (target_of
    m.request.body) m.target) _ fit).0) (there_sorted entries (key_of m.target) there)

-- a request that may use copies is no update
pub no_copied_update : (r : Request) → may_copy r ≡ true → is_update r.body ≡ false
no_copied_update r e =
    by (is_update r.body) (both_true (not r.controls.nocopy) (not (is_update r.body)) e).1
  where
    by : (b : Bool) → not b ≡ true → b ≡ false
    by false f = refl
    by true f = cc
