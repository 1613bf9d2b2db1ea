-- A read or compare of an entry in a context of the agent's own is what the one tree tells, and an update there is
-- judged by its master: the object is the same entry in the context and in the tree.
use Rattle.std.proofs.Common.{◌≡◌, ℕ, Bool, true, false, cond, not, ◌||◌, List, [], ◌∷◌, length, refl, sym, ap, subst, ◌∙◌, Option, Some, None}
use Rattle.x5_model.specs.Words.{in_option}
use Rattle.x5_model.specs.Members.{In}
use Rattle.x5_model.specs.Keys.{Key, same_key, is_root}
use Rattle.x5_model.specs.Values.{Name, key_of}
use Rattle.x5_model.specs.Entries.{Named}
use Rattle.x5_model.specs.Requests.{Base, OneLevel, Body, Read, Compare, ListBelow, Search, AddEntry, RemoveEntry, ModifyEntry, ModifyDn, Request}
use Rattle.x5_model.specs.References.{Progress, Start, Next, Done, Reference, Chained}
use Rattle.x5_model.specs.Answers.{DirError}
use Rattle.x5_model.specs.Statics.{fault_of}
use Rattle.x5_model.proofs.KeyLaws.{key_decides}
use Rattle.x5_model.proofs.Ascending.{of_sorted, in_sorted}
use Rattle.x5_model.proofs.Lists.{both_true, of_find, any_in}
use Rattle.x5_model_tree.specs.World.{World}
use Rattle.x5_model_tree.specs.Tree.{Tree, key_at, named_below, sorted_entries, entry_at, lowest, longest, tree_of, part}
use Rattle.x5_model_tree.specs.Masters.{pin_of}
use Rattle.x5_model_tree.specs.Ask.{Told, Refuses, is_update, at_object, absent, read, compare, ask_body, ask_marked}
use Rattle.x5_model_tree.proofs.Longest.{longest_is, IsLowest, lowest_right, entry_is}
use Rattle.x5_model_run.specs.Journal.{same_name, is_done, is_wide}
use Rattle.x5_model_run.specs.Holdings.{Held, Copy, Holdings, known_pin, held_at, copy_at, holds_within}
use Rattle.x5_model_run.specs.Needs.{target_of, resolves, superior_needs, multicast_needs, copy_answers, specific_needs, subset_of}
use Rattle.x5_model_run.specs.History.{knowledge_at, tree_at, world_at, holdings_at}
use Rattle.x5_model_run.specs.Covers.{context_of, touched, answer_below, answer_at_pin}
use Rattle.x5_model_run.specs.Placed.{is_query_below}
use Rattle.x5_model_theory.specs.Described.{knowledge_of}
use Rattle.x5_model_updates.proofs.Held.{of_held}
use Rattle.x5_model_updates.proofs.Trees.{tree_one_each, of_part}
use Rattle.x5_model_serve.specs.Finding.{Found, Here, CopyHere, Root, Onward, Nowhere, Stuck, by_first, in_own, in_copy, at_pin, resolved, find}
use Rattle.x5_model_find.specs.Finds.{OwnIsTold, HereIsJudge}
use Rattle.x5_model_updates.proofs.Judged.{holder_is_master}
use Rattle.x5_model_find.proofs.Needing.{false_true}
use Rattle.x5_model_find.proofs.Deciding.{subset_by}

-- ---- the object is the same entry in both

abbrev pub picked : Tree → Name → (Named → Told) → Option Named → Told
picked t name f None = absent t name
picked t name f (Some e) = f e

pub object_is : (t : Tree) (name : Name) (f : Named → Told) (e : Named) → entry_at t.entries (key_of name) ≡ Some e → at_object t name f ≡ f e
object_is t name f e q = ap (picked t name f) q

pub some_subset : (b : Bool) → cond b (Some Base) (Some OneLevel) ≡ None → ⊥
some_subset true e = cc
some_subset false e = cc

body_same : (m : Chained) (copies : Key → Bool) (t u : Tree) (r : Request) (b : Body) (e : Named) → subset_by m b ≡ None → is_update b ≡ false → entry_at t.entries (key_of (target_of b)) ≡ Some e → entry_at u.entries (key_of (target_of b)) ≡ Some e
    → ask_body copies t r b ≡ ask_body copies u r b
body_same m copies t u r (Read name selection) e none query x y = object_is t name (read copies selection) e x ∙ sym (object_is u name (read copies selection) e y)
body_same m copies t u r (Compare name a) e none query x y = object_is t name (compare copies a) e x ∙ sym (object_is u name (compare copies a) e y)
body_same m copies t u r (ListBelow name) e none query x y = absurd (some_subset _ none)
body_same m copies t u r (Search base s f selection) e none query x y = cc
body_same m copies t u r (AddEntry name attributes) e none query x y = cc
body_same m copies t u r (RemoveEntry name) e none query x y = cc
body_same m copies t u r (ModifyEntry name changes) e none query x y = cc
body_same m copies t u r (ModifyDn name rdn drops) e none query x y = cc

-- no list or search, so it asks for its object
pub single : (m : Chained) (b : Body) → subset_by m b ≡ None → is_update b ≡ false → is_query_below b ≡ false
single m (Read name selection) none query = refl
single m (Compare name a) none query = refl
single m (ListBelow name) none query = absurd (some_subset _ none)
single m (Search base s f selection) none query = cc
single m (AddEntry name attributes) none query = refl
single m (RemoveEntry name) none query = refl
single m (ModifyEntry name changes) none query = refl
single m (ModifyDn name rdn drops) none query = refl

pub object_touched : (w : World) (t : Tree) (o : ℕ) (m : Chained) → subset_of m ≡ None → is_update m.request.body ≡ false → touched w t o m ≡ context_of t (key_of (target_of m.request.body))
object_touched w t o m none query = by m.request.body refl (λ b q. subst (λ (x : Body). subset_by m x ≡ None) q none) (λ b q. subst (λ (x : Body). is_update x ≡ false) q query)
  where
    by : (b : Body) → m.request.body ≡ b → ((b : Body) → m.request.body ≡ b → subset_by m b ≡ None) → ((b : Body) → m.request.body ≡ b → is_update b ≡ false) → touched w t o m ≡ context_of t (key_of (target_of m.request.body))
    by (Read name selection) q f g = rw q refl
    by (Compare name a) q f g = rw q refl
    by (ListBelow name) q f g = absurd (some_subset _ (f (ListBelow name) q))
    by (Search base s x selection) q f g = (let z : Some s ≡ None = f (Search base s x selection) q in cc)
    by (AddEntry name attributes) q f g = absurd (false_true (sym (g (AddEntry name attributes) q)))
    by (RemoveEntry name) q f g = absurd (false_true (sym (g (RemoveEntry name) q)))
    by (ModifyEntry name changes) q f g = absurd (false_true (sym (g (ModifyEntry name changes) q)))
    by (ModifyDn name rdn drops) q f g = absurd (false_true (sym (g (ModifyDn name rdn drops) q)))

abbrev pub first_refused : (Key → Bool) → Tree → Request → Option DirError → Told
first_refused copies t r (Some x) = Refuses x
first_refused copies t r None = ask_body copies t r r.body

asked_same : (m : Chained) (copies : Key → Bool) (t u : Tree) (e : Named) → fault_of m.request.body ≡ None → subset_of m ≡ None → is_update m.request.body ≡ false → entry_at t.entries (key_of (target_of m.request.body)) ≡ Some e
    → entry_at u.entries (key_of (target_of m.request.body)) ≡ Some e → ask_marked copies t m.request ≡ ask_marked copies u m.request
asked_same m copies t u e fine none query x y =
    ap (first_refused copies t m.request) fine ∙ body_same m copies t u m.request m.request.body e none query x y ∙ sym (ap (first_refused copies u m.request) fine)

pub not_done : (d q : Bool) → (not d || q) ≡ true → q ≡ false → d ≡ false
not_done true q e f = absurd (false_true (sym f ∙ e))
not_done false q e f = refl

-- ---- found in a context of its own

here_is : (c d : Held) → Here c ≡ Here d → c ≡ d
here_is c d e = cc

here_first : (rs : List Reference) (other : Found) (c : Held) → by_first rs other ≡ Here c → other ≡ Here c
here_first [] other c e = e
here_first (r ∷ rs) other c e = (let w : Onward r ≡ Here c = e in cc)

pub record IsHere (h : Holdings) (m : Chained) (c : Held) : Type 0 where
  pub pin : Key
  pub known : known_pin m.request h (key_of m.target) ≡ Some pin
  pub found : held_at h.own pin ≡ Some c
  pub entry : Named
  pub low : lowest c.entries (key_of m.target) ≡ Some entry
  pub is : same_name entry.name m.target ≡ true

module _ (h : Holdings) (m : Chained) (c : Held) where
  own_here : (d : Held) → in_own h m d ≡ Here c → (d ≡ c) × (e : Named) × (lowest d.entries (key_of m.target) ≡ Some e) × (same_name e.name m.target ≡ true)
  own_here d e = by (lowest d.entries (key_of m.target)) refl
    where
      at : (x : Named) → lowest d.entries (key_of m.target) ≡ Some x → (b : Bool) → same_name x.name m.target ≡ b → (d ≡ c) × (same_name x.name m.target ≡ true)
      at x z true k = (here_is d c (rw (z, k) at e), k)
      at x z false k = (let f = here_first (multicast_needs h m d) (Nowhere x.name) c (rw (z, k) at e) in let w : Nowhere x.name ≡ Here c = f in cc)

      by : (x : Option Named) → lowest d.entries (key_of m.target) ≡ x → (d ≡ c) × (e : Named) × (lowest d.entries (key_of m.target) ≡ Some e) × (same_name e.name m.target ≡ true)
      by None z = (let w : Nowhere [] ≡ Here c = rw z at e in cc)
      by (Some x) z = (let w = at x z (same_name x.name m.target) refl in (w.0, x, z, w.1))

  copy_here : (d : Copy) → in_copy h m d ≡ Here c → ⊥
  copy_here d e = by (copy_answers h m d) refl
    where
      by : (b : Bool) → copy_answers h m d ≡ b → ⊥
      by true q = (let w : CopyHere d ≡ Here c = rw q at e in cc)
      by false q = (let w : Onward _ ≡ Here c = rw q at e in cc)

  pub pin_here : (x : Option Key) → known_pin m.request h (key_of m.target) ≡ x → at_pin h m x ≡ Here c → IsHere h m c
  pin_here None k e = absurd (root (is_root (key_of m.target)) (here_first (superior_needs h m) (cond (is_root (key_of m.target)) Root (Nowhere [])) c e))
    where
      root : (b : Bool) → cond b Root (Nowhere []) ≡ Here c → ⊥
      root true z = cc
      root false z = cc
  pin_here (Some q) k e = by_own (held_at h.own q) refl
    where
      by_copy : held_at h.own q ≡ None → (x : Option Copy) → copy_at h q ≡ x → ⊥
      by_copy n None z = (let f = here_first (specific_needs h m q) Stuck c (rw (n, z) at e) in let w : Stuck ≡ Here c = f in cc)
      by_copy n (Some d) z = copy_here d (rw (n, z) at e)

      by_own : (x : Option Held) → held_at h.own q ≡ x → IsHere h m c
      by_own None z = absurd (by_copy z (copy_at h q) refl)
      by_own (Some d) z =
          let w = own_here d (rw z at e) in
          record {
            pin = q;
            known = k;
            found = z ∙ ap (λ (x : Held). Some x) w.0;
            entry = w.1;
            low = subst (λ (x : Held). lowest x.entries (key_of m.target) ≡ Some w.1) w.0 w.2;
            is = w.3;
          }

done_not : (h : Holdings) (m : Chained) → is_done m.progress ≡ false → (c : Held) → find h m ≡ Here c → resolved h m ≡ Here c
done_not h m going c e = by m.progress refl
  where
    by : (x : Progress) → m.progress ≡ x → resolved h m ≡ Here c
    by Start q = rw q at e
    by (Next k) q = next (holds_within h (key_of m.target) k) refl
      where
        next : (b : Bool) → holds_within h (key_of m.target) k ≡ b → resolved h m ≡ Here c
        next true w = rw (q, w) at e
        next false w = (let f : Stuck ≡ Here c = rw (q, w) at e in cc)
    by Done q = (let f : true ≡ false = rw q at going in absurd (false_true (sym f)))

pub own_is_told : OwnIsTold
own_is_told p o m c s looked e none query =
    let going : is_done m.progress ≡ false = not_done (is_done m.progress) (is_query_below m.request.body) (both_true (same_name (target_of m.request.body) m.target) (not (is_done m.progress) || is_query_below m.request.body) looked.1).1 (single m m.request.body none query) in
    let x = pin_here (holdings_at p o) m c (known_pin m.request (holdings_at p o) (key_of m.target)) refl (done_not (holdings_at p o) m going c e) in
    let at = (of_find (λ (y : Held). same_key (key_of y.prefix) x.pin) c (holdings_at p o).own x.found).0 in
    let w = of_held p s o c at in
    let lowest_here = subst (λ (y : Option Named). IsLowest c.entries (key_of m.target) (length (key_of m.target)) y) x.low (lowest_right c.entries (key_of m.target)) in
    let inside : In x.entry (part (tree_at p) (key_of c.prefix)) = subst (λ (es : List Named). In x.entry es) (ap (λ (y : Held). y.entries) w.6 ∙ ap (λ (k : Key). part (tree_at p) k) (ap (λ (y : Held). key_of y.prefix) (sym w.6))) lowest_here.0 in
    let y = of_part (knowledge_of (world_at p)) (tree_at p) s.coherent s.tree (key_of c.prefix) x.entry inside in
    let same : key_of (target_of m.request.body) ≡ key_of m.target = (key_decides (key_of (target_of m.request.body)) (key_of m.target)).0 (both_true (same_name (target_of m.request.body) m.target) (not (is_done m.progress) || is_query_below m.request.body) looked.1).0 in
    let key : key_at x.entry ≡ key_of (target_of m.request.body) = (key_decides (key_of x.entry.name) (key_of m.target)).0 x.is ∙ sym same in
    let one = tree_one_each (knowledge_of (world_at p)) (tree_at p) s.coherent s.tree in
    let in_tree : (f : Named) → In f (sorted_entries c.entries) → In f (tree_at p).entries = (λ f i.
    let j : In f (part (tree_at p) (pin_of w.1)) = subst (λ (es : List Named). In f es) (ap (λ (z : Held). z.entries) w.6) (of_sorted named_below f c.entries i) in
    (of_part (knowledge_of (world_at p)) (tree_at p) s.coherent s.tree (pin_of w.1) f j).0) in
    let there : entry_at (tree_at p).entries (key_of (target_of m.request.body)) ≡ Some x.entry = entry_is (tree_at p).entries (key_of (target_of m.request.body)) x.entry one y.0 key in
    let here : entry_at (sorted_entries c.entries) (key_of (target_of m.request.body)) ≡ Some x.entry =
    entry_is (sorted_entries c.entries) (key_of (target_of m.request.body)) x.entry (λ f g i j q. one f g (in_tree f i) (in_tree g j) q) (in_sorted named_below x.entry c.entries lowest_here.0) key in (
      ap (λ (b : Bool). cond b (cond (is_wide m.kind) (answer_below (λ key. false) (tree_at p) m.request m.request.body) (answer_at_pin (λ key. false) (tree_at p) m.request m.request.body)) (ask_marked (λ key. false) (tree_at p) m.request)) going
          ∙ asked_same m (λ key. false) (tree_at p) (tree_of c.entries []) x.entry looked.0 none query there here,
      object_touched (knowledge_at p) (tree_at p) o m none query
          ∙ ap (λ (k : Option Key). in_option [] (λ (q : Key). q ∷ []) k) (ap (λ (k : Key). longest (tree_at p).pins k) (sym key) ∙ longest_is (tree_at p).pins (key_at x.entry) (key_of c.prefix) y.1),
    )

-- ---- the judge of an update

update_alone : (b : Body) → is_update b ≡ true → is_query_below b ≡ false
update_alone (Read name selection) e = refl
update_alone (Compare name a) e = refl
update_alone (ListBelow name) e = absurd (false_true e)
update_alone (Search base s f selection) e = absurd (false_true e)
update_alone (AddEntry name attributes) e = refl
update_alone (RemoveEntry name) e = refl
update_alone (ModifyEntry name changes) e = refl
update_alone (ModifyDn name rdn drops) e = refl

resolving_here : (h : Holdings) (m : Chained) (c : Held) → is_done m.progress ≡ false → find h m ≡ Here c → resolves h m ≡ true
resolving_here h m c goes e = by m.progress refl
  where
    next : (k : ℕ) → m.progress ≡ Next k → (b : Bool) → holds_within h (key_of m.target) k ≡ b → resolves h m ≡ true
    next k q true w = rw (q, w) refl
    next k q false w = (let f : Stuck ≡ Here c = rw (q, w) at e in cc)

    by : (x : Progress) → m.progress ≡ x → resolves h m ≡ true
    by Start q = rw q refl
    by (Next k) q = next k q (holds_within h (key_of m.target) k) refl
    by Done q = (let f : true ≡ false = rw q at goes in absurd (false_true (sym f)))

pub here_is_judge : HereIsJudge
here_is_judge p o m c s looked update e =
    let both = both_true (same_name (target_of m.request.body) m.target) (not (is_done m.progress) || is_query_below m.request.body) looked.1 in
    let goes : is_done m.progress ≡ false = not_done (is_done m.progress) (is_query_below m.request.body) both.1 (update_alone m.request.body update) in
    let x = pin_here (holdings_at p o) m c (known_pin m.request (holdings_at p o) (key_of m.target)) refl (done_not (holdings_at p o) m goes c e) in
    let at = (of_find (λ (y : Held). same_key (key_of y.prefix) x.pin) c (holdings_at p o).own x.found).0 in
    let low = subst (λ (y : Option Named). IsLowest c.entries (key_of m.target) (length (key_of m.target)) y) x.low (lowest_right c.entries (key_of m.target)) in
    record {
      stands = s;
      update = update;
      target = sym ((key_decides (key_of (target_of m.request.body)) (key_of m.target)).0 both.0);
      resolving = resolving_here (holdings_at p o) m c goes e;
      master = holder_is_master p o c (key_of m.target) s at (any_in (λ (y : Named). same_key (key_at y) (key_of m.target)) x.entry c.entries low.0 x.is);
    }
