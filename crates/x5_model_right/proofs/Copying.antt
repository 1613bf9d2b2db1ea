-- A read or compare in a copy (X.518, section 19.2): what the copy tells, marked so, is what that one source tells; and a
-- copy that would refuse it doesn't answer.
use Rattle.std.proofs.Common.{◌≡◌, ℕ, Bool, true, false, cond, not, ◌&&◌, ◌==◌, if◌then◌else◌, inl, inr, List, [], ◌∷◌, map, length, refl, sym, ap, subst, ◌∙◌, Option, Some, None}
use Rattle.std.specs.Option.{is_some}
use Rattle.std.specs.List.{list_all, filter, AllByRecursion}
use Rattle.x5_model.specs.Words.{has, distinct, in_option}
use Rattle.x5_model.specs.Members.{In}
use Rattle.x5_model.specs.Keys.{Key, same_key, is_root}
use Rattle.x5_model.specs.Values.{Name, TypeRef, key_of}
use Rattle.x5_model.specs.Entries.{Named}
use Rattle.x5_model.specs.Selections.{selection_fault}
use Rattle.x5_model.specs.Problems.{no_such_attribute_or_value}
use Rattle.x5_model.specs.Requests.{Subset, Selection, Body, Read, Compare, ListBelow, Search, AddEntry, RemoveEntry, ModifyEntry, ModifyDn, Request}
use Rattle.x5_model.specs.References.{Progress, Start, Next, Done, Reference, Chained}
use Rattle.x5_model.specs.Answers.{Source, Answer, EntryFound, Matched, DirError, NoSuchObject, AttributeProblem}
use Rattle.x5_model.proofs.KeyLaws.{key_decides}
use Rattle.x5_model.proofs.Decide.{nat_same_decides}
use Rattle.x5_model.proofs.Lists.{both_true, and_true, either_true, not_true, or_left, or_right, of_find}
use Rattle.x5_model_tree.specs.Tree.{Tree, tree_of, lowest, entry_at, is_there, matched}
use Rattle.x5_model_tree.specs.Ask.{rest_of, sources_of, unexplored_of, Told, Shows, Compares, Lists, Finds, Changes, Refuses, is_update, has_type, at_object, read, compare, info_of, ask_body, ask_marked, ask}
use Rattle.x5_model_run.specs.Network.{arrives}
use Rattle.x5_model_run.specs.Journal.{Journal, same_name, is_done}
use Rattle.x5_model_run.specs.Holdings.{Held, Copy, Holdings, may_copy, usable_copies, known_pin, held_at, copy_at, holds_within, is_first_level}
use Rattle.x5_model_run.specs.Needs.{target_of, subset_of, is_unable, resolves, superior_needs, multicast_needs, fails, copy_answers, specific_needs, ends_here, ends_at_pin, probe_due, needs}
use Rattle.x5_model_run.specs.History.{Point, knowledge_at, tree_at, holdings_at}
use Rattle.x5_model_run.specs.Chain.{Scene}
use Rattle.x5_model_run.specs.Accepting.{carries_update, may_accept}
use Rattle.x5_model_run.specs.Covers.{is_covered, are_apart, touched, mixed, is_copied, told}
use Rattle.x5_model_run.specs.Blocked.{hears, Blocked}
use Rattle.x5_model_run.specs.Right as right
use Rattle.x5_model_run.specs.Right.{is_source, is_holder, is_copy_source, copy_name, own_name, kept_name, same_keys, uncovered, IsResult}
use Rattle.x5_model_run.specs.Placed.{is_query_below}
use Rattle.x5_model_replies.specs.Replies.{RightReply, usual}
use Rattle.x5_model_serve.specs.Finding.{Found, Here, CopyHere, Root, Onward, Nowhere, Stuck, IsLooked, find, by_first, in_own, in_copy, at_pin, resolved}
use Rattle.x5_model_serve.specs.Answering.{reply_from, copy_source, reply_in_copy}
use Rattle.x5_model_serve.specs.Serving.{Hand, is_spent}
use Rattle.x5_model_serve.specs.Claims.{AtHand, LiesWithin, serving_of}
use Rattle.x5_model_find.proofs.Copies.{copy_is_told}
use Rattle.x5_model_find.proofs.Deciding.{subset_by, needs_are}
use Rattle.x5_model_find.proofs.Needing.{part_of, passing}
use Rattle.x5_model_find.proofs.Owns.{some_subset}
use Rattle.x5_model_bounds.proofs.Parting.{told_final}
use Rattle.x5_model_joins.proofs.Backs.{own_back, own_answered}
use Rattle.x5_model_right.specs.Kept.{Ground}
use Rattle.x5_model_right.specs.Served.{ReadsCopy}
use Rattle.x5_model_right.proofs.Kept.{line_there}
use Rattle.x5_model_right.proofs.Adding.{no_carrier}
use Rattle.x5_model_right.proofs.Finding.{looked, found_is, able}
use Rattle.x5_model_right.proofs.Leaves.{with_nothing, settled_unless}
use Rattle.x5_model_right.proofs.Reading.{IsObject, of_body, nothing_new}

-- ---- marks don't decide whether it is refused

if_alike : (b : Bool) (x y u v : Told) → fails x ≡ fails u → fails y ≡ fails v → fails (if b then x else y) ≡ fails (if b then u else v)
if_alike true x y u v f g = f
if_alike false x y u v f g = g

object_alike : (t : Tree) (name : Name) (f g : Named → Told) → ((e : Named) → fails (f e) ≡ fails (g e)) → fails (at_object t name f) ≡ fails (at_object t name g)
object_alike t name f g h = go (entry_at t.entries (key_of name))
  where
    by : (Named → Told) → Option Named → Told
    by x None = Refuses (NoSuchObject (matched t.entries (key_of name)))
    by x (Some e) = x e

    go : (x : Option Named) → fails (by f x) ≡ fails (by g x)
    go None = refl
    go (Some e) = h e

read_alike : (f g : Key → Bool) (selection : Selection) (e : Named) → fails (read f selection e) ≡ fails (read g selection e)
read_alike f g selection e = go (selection_fault selection e.entry)
  where
    by : (Key → Bool) → Option TypeRef → Told
    by x None = Shows (info_of x selection e)
    by x (Some kind) = Refuses (AttributeProblem no_such_attribute_or_value kind)

    go : (x : Option TypeRef) → fails (by f x) ≡ fails (by g x)
    go None = refl
    go (Some kind) = refl

body_alike : (m : Chained) (f g : Key → Bool) (t : Tree) (r : Request) (b : Body) → subset_by m b ≡ None → is_update b ≡ false → fails (ask_body f t r b) ≡ fails (ask_body g t r b)
body_alike m f g t r (Read name selection) none query = object_alike t name (read f selection) (read g selection) (read_alike f g selection)
body_alike m f g t r (Compare name a) none query = object_alike t name (compare f a) (compare g a) (λ e. if_alike (has_type e.entry a.kind) _ _ _ _ refl refl)
body_alike m f g t r (ListBelow name) none query = absurd (some_subset _ none)
body_alike m f g t r (Search base s z selection) none query = cc
body_alike m f g t r (AddEntry name attributes) none query = cc
body_alike m f g t r (RemoveEntry name) none query = cc
body_alike m f g t r (ModifyEntry name changes) none query = cc
body_alike m f g t r (ModifyDn name rdn drops) none query = cc

abbrev asked_first : (Key → Bool) → Tree → Request → Option DirError → Told
asked_first copies t r (Some x) = Refuses x
asked_first copies t r None = ask_body copies t r r.body

-- ---- a copy is found

copy_first : (rs : List Reference) (other : Found) (c : Copy) → by_first rs other ≡ CopyHere c → other ≡ CopyHere c
copy_first [] other c e = e
copy_first (r ∷ rs) other c e = (let w : Onward r ≡ CopyHere c = e in cc)

same_copy : (c d : Copy) → CopyHere c ≡ CopyHere d → c ≡ d
same_copy c d e = cc

record IsCopyHere (h : Holdings) (m : Chained) (c : Copy) : Type 0 where
  pin : Key
  known : known_pin m.request h (key_of m.target) ≡ Some pin
  unowned : held_at h.own pin ≡ None
  found : copy_at h pin ≡ Some c
  answers : copy_answers h m c ≡ true

module _ (h : Holdings) (m : Chained) (c : Copy) where
  own_never : (d : Held) → in_own h m d ≡ CopyHere c → ⊥
  own_never d e = by (lowest d.entries (key_of m.target)) refl
    where
      at : (x : Named) → lowest d.entries (key_of m.target) ≡ Some x → (b : Bool) → same_name x.name m.target ≡ b → ⊥
      at x z true k = (let w : Here d ≡ CopyHere c = rw (z, k) at e in cc)
      at x z false k = (let w : Nowhere x.name ≡ CopyHere c = copy_first (multicast_needs h m d) (Nowhere x.name) c (rw (z, k) at e) in cc)

      by : (x : Option Named) → lowest d.entries (key_of m.target) ≡ x → ⊥
      by None z = (let w : Nowhere [] ≡ CopyHere c = rw z at e in cc)
      by (Some x) z = at x z (same_name x.name m.target) refl

  copy_here : (d : Copy) → in_copy h m d ≡ CopyHere c → (d ≡ c) × (copy_answers h m d ≡ true)
  copy_here d e = by (copy_answers h m d) refl
    where
      by : (b : Bool) → copy_answers h m d ≡ b → (d ≡ c) × (copy_answers h m d ≡ true)
      by true q = (same_copy d c (rw q at e), q)
      by false q = (let w : Onward _ ≡ CopyHere c = rw q at e in cc)

  pin_copy : (x : Option Key) → known_pin m.request h (key_of m.target) ≡ x → at_pin h m x ≡ CopyHere c → IsCopyHere h m c
  pin_copy None k e = absurd (root (is_root (key_of m.target)) (copy_first (superior_needs h m) (cond (is_root (key_of m.target)) Root (Nowhere [])) c e))
    where
      root : (b : Bool) → cond b Root (Nowhere []) ≡ CopyHere c → ⊥
      root true z = cc
      root false z = cc
  pin_copy (Some q) k e = by_own (held_at h.own q) refl
    where
      by_copy : held_at h.own q ≡ None → (x : Option Copy) → copy_at h q ≡ x → IsCopyHere h m c
      by_copy n None z = (let w : Stuck ≡ CopyHere c = copy_first (specific_needs h m q) Stuck c (rw (n, z) at e) in cc)
      by_copy n (Some d) z =
          let w = copy_here d (rw (n, z) at e) in
          record { pin = q; known = k; unowned = n; found = z ∙ ap (λ (y : Copy). Some y) w.0; answers = subst (λ (y : Copy). copy_answers h m y ≡ true) w.0 w.1 }

      by_own : (x : Option Held) → held_at h.own q ≡ x → IsCopyHere h m c
      by_own None z = by_copy z (copy_at h q) refl
      by_own (Some d) z = absurd (own_never d (rw z at e))

resolving_here : (h : Holdings) (m : Chained) (c : Copy) → is_done m.progress ≡ false → find h m ≡ CopyHere c → (resolves h m ≡ true) × (resolved h m ≡ CopyHere c)
resolving_here h m c goes e = by m.progress refl
  where
    next : (k : ℕ) → m.progress ≡ Next k → (b : Bool) → holds_within h (key_of m.target) k ≡ b → (resolves h m ≡ true) × (resolved h m ≡ CopyHere c)
    next k q true w = (rw (q, w) refl, rw (q, w) at e)
    next k q false w = (let f : Stuck ≡ CopyHere c = rw (q, w) at e in cc)

    by : (x : Progress) → m.progress ≡ x → (resolves h m ≡ true) × (resolved h m ≡ CopyHere c)
    by Start q = (rw q refl, rw q at e)
    by (Next k) q = next k q (holds_within h (key_of m.target) k) refl
    by Done q = (let f : true ≡ false = rw q at goes in cc)

-- who asks neither for parts nor for an update isn't asked below
alone : (m : Chained) (b : Body) → subset_by m b ≡ None → is_query_below b ≡ false
alone m (Read name selection) none = refl
alone m (Compare name a) none = refl
alone m (ListBelow name) none = absurd (some_subset _ none)
alone m (Search base s z selection) none = cc
alone m (AddEntry name attributes) none = refl
alone m (RemoveEntry name) none = refl
alone m (ModifyEntry name changes) none = refl
alone m (ModifyDn name rdn drops) none = refl

module _ (p : Point) (s : Scene) (most : ℕ) (g : Ground p s) (k : Hand) (j : Journal) (at : AtHand p s k j) (look : IsLooked k.message) (c : Copy) (found : find (holdings_at p k.receiver) k.message ≡ CopyHere c) (none : subset_of k.message ≡ None) where
  going : is_done k.message.progress ≡ false
  going = elim (either_true (not (is_done k.message.progress)) _ (both_true (same_name (target_of k.message.request.body) k.message.target) _ look.1).1) [
    | inl e ↦ not_true (is_done k.message.progress) e
    | inr e ↦ (let z = alone k.message k.message.request.body none in let y : true ≡ false = sym e ∙ z in cc)
  ]

  tells : (t : ℕ) × (c.stamp ≡ Some t) × (may_copy k.message.request ≡ true) × (is_copy_source p (copy_source k.receiver c) t ≡ true)
      × (touched (knowledge_at p) (tree_at p) k.receiver k.message ≡ key_of c.held.prefix ∷ [])
      × (ask_marked (λ key. true) (tree_of c.held.entries []) k.message.request
      ≡ told (is_copied p (copy_source k.receiver c ∷ [])) (mixed p (copy_source k.receiver c ∷ [])) k.message)
  tells = copy_is_told p k.receiver k.message c g.setting.whole g.setting.copies look found none

  pub query : is_update k.message.request.body ≡ false
  query = not_true (is_update k.message.request.body) (both_true (not k.message.request.controls.nocopy) (not (is_update k.message.request.body)) tells.2).1

  x : IsCopyHere (holdings_at p k.receiver) k.message c
  x = pin_copy (holdings_at p k.receiver) k.message c (known_pin k.message.request (holdings_at p k.receiver) (key_of k.message.target)) refl (resolving_here (holdings_at p k.receiver) k.message c going found).1

  pin_is : key_of c.held.prefix ≡ x.pin
  pin_is = (key_decides (key_of c.held.prefix) x.pin).0 (of_find (λ (y : Copy). same_key (key_of y.held.prefix) x.pin) c (holdings_at p k.receiver).copies x.found).1

  stands : In at.line j.lines
  stands = line_there p s k j at

  held_same : s.holdings k.receiver ≡ holdings_at p k.receiver
  held_same = ap (λ (f : ℕ → Holdings). f k.receiver) g.setting.holdings

  ends_there : ends_here (holdings_at p k.receiver) k.message ≡ true
  ends_there =
      and_true (resolves (holdings_at p k.receiver) k.message) _ (resolving_here (holdings_at p k.receiver) k.message c going found).0
      (ap (λ (o : Option Key). in_option (is_first_level (holdings_at p k.receiver) && is_root (key_of k.message.target)) (ends_at_pin (holdings_at p k.receiver) k.message) o) x.known
      ∙ ap (λ (o : Option Held). in_option (in_option false (copy_answers (holdings_at p k.receiver) k.message) (copy_at (holdings_at p k.receiver) x.pin)) (λ (y : Held). is_there y.entries (key_of k.message.target)) o) x.unowned
      ∙ ap (λ (o : Option Copy). in_option false (copy_answers (holdings_at p k.receiver) k.message) o) x.found ∙ x.answers)

  result : (a : Answer) → sources_of a ≡ copy_source k.receiver c ∷ [] → unexplored_of a ≡ [] → rest_of a ≡ ask_marked (λ key. true) (tree_of c.held.entries []) k.message.request → IsResult p s (serving_of j k at.line.number) j.lines a
  result a sources unexplored rest = record {
    found = or_right (is_done k.message.progress) _ (own_back (λ l. ends_here (s.holdings l.receiver) l.message) at.line (length j.accepted) j.lines stands
        ((λ q. ends_here (s.holdings (at.receiver_is q)) (at.message_is q)) ∙ ap (λ (y : Holdings). ends_here y k.message) held_same ∙ ends_there));
    sources = subst (λ (xs : List Source). list_all (is_source p (serving_of j k at.line.number) j.lines) xs ≡ true) (sym sources)
        (and_true _ true (and_true (hears (serving_of j k at.line.number) j.lines k.receiver) _
        (own_back (λ l. l.receiver == k.receiver) at.line (length j.accepted) j.lines stands ((nat_same_decides at.line.receiver k.receiver).1 at.receiver_is))
        (ap (is_holder p (serving_of j k at.line.number) (copy_source k.receiver c)) tells.1 ∙ and_true (may_copy k.message.request) _ tells.2 tells.3)) refl);
    spelled = subst (λ (xs : List Source). map (kept_name s) xs ≡ map (λ y. Some y.context) xs) (sym sources)
        (ap (λ (o : Option Name). o ∷ []) (ap (λ (b : Bool). if b then copy_name (s.holdings k.receiver) (key_of c.held.prefix) else own_name (s.holdings k.receiver) (key_of c.held.prefix)) (ap (λ (o : Option ℕ). is_some o) tells.1)
        ∙ ap (λ (y : Holdings). copy_name y (key_of c.held.prefix)) held_same
        ∙ ap (λ (q : Key). copy_name (holdings_at p k.receiver) q) pin_is ∙ ap (in_option None (λ (y : Copy). Some y.held.prefix)) x.found));
    once = subst (λ (xs : List Source). distinct same_key (map (λ y. key_of y.context) xs) ≡ true) (sym sources) refl;
    exactly = (λ q. same_keys (map (λ y. key_of y.context) (sources q)) (uncovered p (serving_of j k at.line.number) (unexplored q)))
        ∙ ap (λ (ks : List Key). same_keys (key_of c.held.prefix ∷ []) (filter (λ (pin : Key). not (is_covered (knowledge_at p) [] pin)) ks)) tells.4
        ∙ same_single (key_of c.held.prefix);
    answered = rest ∙ tells.5 ∙ (λ q. told (is_copied p (sym sources q)) (mixed p (sym sources q)) k.message);
    blocked = subst (λ (us : List Reference). AllByRecursion (Blocked s (serving_of j k at.line.number) j.lines) us) (sym unexplored) tt;
    completed = ap (list_all (λ (r : Reference). is_done r.progress)) unexplored;
    apart = ap (are_apart (knowledge_at p)) unexplored;
  }
    where
      same_single : (q : Key) → same_keys (q ∷ []) (q ∷ []) ≡ true
      same_single q =
          let e : has same_key (q ∷ []) q ≡ true = or_left (same_key q q) false ((key_decides q q).1 refl) in
          and_true (list_all (has same_key (q ∷ [])) (q ∷ [])) _ (and_true _ true e refl) (and_true _ true e refl)

  asked_is : (f : Key → Bool) → ask_marked f (tree_of c.held.entries []) k.message.request ≡ ask_body f (tree_of c.held.entries []) k.message.request k.message.request.body
  asked_is f = ap (asked_first f (tree_of c.held.entries []) k.message.request) look.0

  -- the copy answers, so it doesn't refuse
  not_refused : fails (ask_marked (λ key. true) (tree_of c.held.entries []) k.message.request) ≡ false
  not_refused =
      let a = both_true (is_some (held_at (usable_copies k.message.request (holdings_at p k.receiver)) (key_of c.held.prefix))) _ x.answers in
      let b = both_true (is_there c.held.entries (key_of k.message.target)) _ a.1 in
      ap fails (asked_is (λ key. true))
      ∙ body_alike k.message (λ key. true) (λ key. false) (tree_of c.held.entries []) k.message.request k.message.request.body none query
      ∙ sym (ap fails (asked_is (λ key. false))) ∙ not_true (fails (ask (tree_of c.held.entries []) k.message.request)) b.1

  pub copy_right : is_unable (s.holdings k.receiver) k.message ≡ false → RightReply p s (serving_of j k at.line.number) j (is_spent most j) (reply_in_copy k.receiver k.message c) × LiesWithin p (serving_of j k at.line.number) (reply_in_copy k.receiver k.message c)
  copy_right not_unable =
      by (ask_marked (λ key. true) (tree_of c.held.entries []) k.message.request) refl
      (subst IsObject (sym (asked_is (λ key. true))) (of_body k.message (λ key. true) (tree_of c.held.entries []) k.message.request k.message.request.body none query)) not_refused
    where
      by : (y : Told) → ask_marked (λ key. true) (tree_of c.held.entries []) k.message.request ≡ y → IsObject y → fails y ≡ false
          → RightReply p s (serving_of j k at.line.number) j (is_spent most j) (reply_from (copy_source k.receiver c ∷ []) y) × LiesWithin p (serving_of j k at.line.number) (reply_from (copy_source k.receiver c ∷ []) y)
      by (Shows info) e f z = (
        usual (ap not not_unable) (right.result (own_answered at.line (length j.accepted) j.lines stands) (result (EntryFound info (copy_source k.receiver c)) refl refl (sym e)) (ap not query) ((nat_same_decides (length j.accepted) (length j.accepted)).1 refl)),
        λ u b i n. elim i [ ],
      )
      by (Compares equal copy) e f z = (
        usual (ap not not_unable) (right.result (own_answered at.line (length j.accepted) j.lines stands) (result (Matched equal copy (copy_source k.receiver c)) refl refl (sym e)) (ap not query) ((nat_same_decides (length j.accepted) (length j.accepted)).1 refl)),
        λ u b i n. elim i [ ],
      )
      by (Refuses y) e f z = (let w : true ≡ false = z in cc)
      by (Lists subs cut) e f z = absurd f
      by (Finds infos cut) e f z = absurd f
      by Changes e f z = absurd f

  pub nothing_needed_here : needs (holdings_at p k.receiver) k.message ≡ []
  nothing_needed_here =
      let w = passing (holdings_at p k.receiver) k.message (CopyHere c) found refl in
      needs_are (holdings_at p k.receiver) k.message look [] [] [] [] w.0 (ap (λ (y : Option Subset). in_option [] (part_of (holdings_at p k.receiver) k.message) y) none) w.1
      (ap (in_option [] (probe_due (holdings_at p k.receiver) k.message)) (nothing_new k.message k.message.request.body none query))

pub reads_copy_right : ReadsCopy
reads_copy_right p s most k j c g a e none at comes =
    let free : CopyHere c ≡ Stuck → ⊥ = λ z. cc in
    let look = looked p s g k j at comes.none a (CopyHere c) e free in
    let found = found_is p s g k j at comes.none a (CopyHere c) e free in
    let w = copy_right p s most g k j at look c found none (able p s g k j at comes.none a (CopyHere c) e free) in
    with_nothing p s most g k j at comes (reply_in_copy k.receiver k.message c) w.0 w.1
    (ap (λ (f : ℕ → Holdings). needs (f k.receiver) k.message) g.setting.holdings ∙ nothing_needed_here p s most g k j at look c found none)
    (settled_unless p s most g k j at comes (λ due.
    let b = both_true (may_accept s j.lines at.line.receiver at.line) _ due in
    let d = both_true (arrives at.line.fate) _ (both_true (at.line.receiver == at.line.receiver) _ b.0).1 in
    let carries = both_true (carries_update s at.line) _ d.1 in
    let off = no_carrier s at.line (ap (λ (y : Chained). is_update y.request.body) at.message_is ∙ query p s most g k j at look c found none) in
    let z : true ≡ false = sym carries.0 ∙ off in cc))
    (told_final (copy_source k.receiver c ∷ []) (ask_marked (λ key. true) (tree_of c.held.entries []) k.message.request))
