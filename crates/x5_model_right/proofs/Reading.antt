-- A read or compare in a context of the agent's own (X.518, section 19.2): what its entries tell is what the tree tells,
-- and what that one source tells; so it is a result, or the tree's error, by the master of the target.
use Rattle.std.proofs.Common.{◌≡◌, ℕ, ◌<◌, ◌≤◌, Bool, true, false, not, ◌&&◌, ◌||◌, ◌==◌, if◌then◌else◌, inl, inr, List, [], ◌∷◌, ◌++◌, map, length, refl, sym, ap, subst, ◌∙◌, arith, Option, Some, None}
use Rattle.std.specs.Option.{is_some}
use Rattle.std.specs.List.{list_any, list_all, filter, AllByRecursion}
use Rattle.x5_model.specs.Words.{has, distinct, in_option, some_and}
use Rattle.x5_model.specs.Members.{In, here, there}
use Rattle.x5_model.specs.Keys.{Key, IsPrefix, same_key, is_root}
use Rattle.x5_model.specs.Values.{Name, TypeRef, key_of}
use Rattle.x5_model.specs.Entries.{Named}
use Rattle.x5_model.specs.Selections.{selection_fault}
use Rattle.x5_model.specs.Problems.{no_such_attribute_or_value, entry_already_exists}
use Rattle.x5_model.specs.Requests.{Selection, Body, Read, Compare, ListBelow, Search, AddEntry, RemoveEntry, ModifyEntry, ModifyDn, Request}
use Rattle.x5_model.specs.Statics.{fault_of}
use Rattle.x5_model.specs.References.{Progress, Start, Next, Done, Reference, Chained}
use Rattle.x5_model.specs.Answers.{Source, Answer, EntryFound, Matched, DirError, NoSuchObject, AttributeProblem, UpdateProblem, ServiceProblem}
use Rattle.x5_model.proofs.KeyLaws.{key_decides}
use Rattle.x5_model.proofs.Decide.{nat_same_decides}
use Rattle.x5_model.proofs.Lists.{both_true, and_true, either_true, not_true, or_left, or_right, in_first, any_in, of_find}
use Rattle.x5_model.proofs.Prefixes.{prefix_itself, prefix_length, same_by_length}
use Rattle.x5_model_tree.specs.Tree.{Tree, key_at, tree_of, sorted_entries, longest, lowest, entry_at, is_there, part, matched}
use Rattle.x5_model_tree.specs.Masters.{master_of}
use Rattle.x5_model_tree.specs.Ask.{rest_of, sources_of, unexplored_of, Told, Shows, Compares, Lists, Finds, Changes, Refuses, is_update, has_type, at_object, read, compare, info_of, ask_body, ask_marked}
use Rattle.x5_model_tree.proofs.Longest.{IsLowest, lowest_right}
use Rattle.x5_model_run.specs.Network.{arrives}
use Rattle.x5_model_run.specs.Journal.{Journal, same_name, is_done}
use Rattle.x5_model_run.specs.Holdings.{Held, Holdings, known_pin, copy_at, holds_within, is_first_level}
use Rattle.x5_model_run.specs.Needs.{target_of, subset_of, is_unable, resolves, copy_answers, ends_here, ends_at_pin, new_name, probe_due, due_probes}
use Rattle.x5_model_run.specs.History.{Point, knowledge_at, tree_at, world_at, holdings_at}
use Rattle.x5_model_run.specs.Chain.{Scene}
use Rattle.x5_model_run.specs.Accepting.{carries_update, may_accept}
use Rattle.x5_model_run.specs.Covers.{is_covered, are_apart, touched, mixed, is_copied, told}
use Rattle.x5_model_run.specs.Blocked.{hears, Blocked}
use Rattle.x5_model_run.specs.Right as right
use Rattle.x5_model_run.specs.Right.{master_at, is_source, own_name, kept_name, same_keys, uncovered, is_for, hears_of, hears_master, hears_nssr, hears_pin, hears_taken, is_told, IsResult}
use Rattle.x5_model_replies.specs.Replies.{RightReply, usual}
use Rattle.x5_model_updates.proofs.Held.{of_held}
use Rattle.x5_model_updates.proofs.Trees.{of_part, tree_filled}
use Rattle.x5_model_theory.specs.Described.{knowledge_of}
use Rattle.x5_model_updates.proofs.Judged.{holder_is_master}
use Rattle.x5_model_serve.specs.Finding.{Here, Stuck, IsLooked, find, resolved}
use Rattle.x5_model_serve.specs.Answering.{reply_from, own_source, reply_in_own}
use Rattle.x5_model_serve.specs.Serving.{Hand, is_spent}
use Rattle.x5_model_serve.specs.Claims.{AtHand, LiesWithin, serving_of}
use Rattle.x5_model_find.proofs.Deciding.{subset_by, here_needs}
use Rattle.x5_model_find.proofs.Owns.{IsHere, pin_here, own_is_told, some_subset, object_touched, single}
use Rattle.x5_model_bounds.proofs.Parting.{told_final}
use Rattle.x5_model_joins.proofs.Backs.{own_back, own_answered}
use Rattle.x5_model_right.specs.Kept.{Ground}
use Rattle.x5_model_right.specs.Served.{ReadsOwn}
use Rattle.x5_model_right.proofs.Kept.{line_there}
use Rattle.x5_model_right.proofs.Adding.{no_carrier}
use Rattle.x5_model_right.proofs.Finding.{looked, found_same, found_is, able}
use Rattle.x5_model_right.proofs.Leaves.{with_nothing, settled_unless, within_error}

-- ---- what is told of an object

abbrev pub IsObject : Told → Type 0
IsObject (Shows info) = Unit {0}
IsObject (Compares equal copy) = Unit {0}
IsObject (Lists subs cut) = ⊥
IsObject (Finds infos cut) = ⊥
IsObject Changes = ⊥
IsObject (Refuses x) = Unit {0}

object_if : (b : Bool) (x y : Told) → IsObject x → IsObject y → IsObject (if b then x else y)
object_if true x y f g = f
object_if false x y f g = g

of_object : (t : Tree) (name : Name) (f : Named → Told) → ((e : Named) → IsObject (f e)) → IsObject (at_object t name f)
of_object t name f h = go (entry_at t.entries (key_of name))
  where
    by : Option Named → Told
    by None = Refuses (NoSuchObject (matched t.entries (key_of name)))
    by (Some e) = f e

    go : (x : Option Named) → IsObject (by x)
    go None = tt
    go (Some e) = h e

of_read : (copies : Key → Bool) (selection : Selection) (e : Named) → IsObject (read copies selection e)
of_read copies selection e = go (selection_fault selection e.entry)
  where
    by : Option TypeRef → Told
    by None = Shows (info_of copies selection e)
    by (Some kind) = Refuses (AttributeProblem no_such_attribute_or_value kind)

    go : (x : Option TypeRef) → IsObject (by x)
    go None = tt
    go (Some kind) = tt

module _ (m : Chained) where
  pub of_body : (copies : Key → Bool) (t : Tree) (r : Request) (b : Body) → subset_by m b ≡ None → is_update b ≡ false → IsObject (ask_body copies t r b)
  of_body copies t r (Read name selection) none query = of_object t name (read copies selection) (of_read copies selection)
  of_body copies t r (Compare name a) none query = of_object t name (compare copies a) (λ e. object_if (has_type e.entry a.kind) _ _ tt tt)
  of_body copies t r (ListBelow name) none query = absurd (some_subset _ none)
  of_body copies t r (Search base s z selection) none query = cc
  of_body copies t r (AddEntry name attributes) none query = cc
  of_body copies t r (RemoveEntry name) none query = cc
  of_body copies t r (ModifyEntry name changes) none query = cc
  of_body copies t r (ModifyDn name rdn drops) none query = cc

  -- which pins there are is nothing to it
  pins_apart : (copies : Key → Bool) (es : List Named) (ps qs : List Key) (r : Request) (b : Body) → subset_by m b ≡ None → is_update b ≡ false
      → ask_body copies (record { entries = es; pins = ps }) r b ≡ ask_body copies (record { entries = es; pins = qs }) r b
  pins_apart copies es ps qs r (Read name selection) none query = refl
  pins_apart copies es ps qs r (Compare name a) none query = refl
  pins_apart copies es ps qs r (ListBelow name) none query = absurd (some_subset _ none)
  pins_apart copies es ps qs r (Search base s z selection) none query = cc
  pins_apart copies es ps qs r (AddEntry name attributes) none query = cc
  pins_apart copies es ps qs r (RemoveEntry name) none query = cc
  pins_apart copies es ps qs r (ModifyEntry name changes) none query = cc
  pins_apart copies es ps qs r (ModifyDn name rdn drops) none query = cc

  pub nothing_new : (b : Body) → subset_by m b ≡ None → is_update b ≡ false → new_name b ≡ None
  nothing_new (Read name selection) none query = refl
  nothing_new (Compare name a) none query = refl
  nothing_new (ListBelow name) none query = refl
  nothing_new (Search base s z selection) none query = refl
  nothing_new (AddEntry name attributes) none query = cc
  nothing_new (RemoveEntry name) none query = refl
  nothing_new (ModifyEntry name changes) none query = refl
  nothing_new (ModifyDn name rdn drops) none query = cc

abbrev asked_first : (Key → Bool) → Tree → Request → Option DirError → Told
asked_first copies t r (Some x) = Refuses x
asked_first copies t r None = ask_body copies t r r.body

told_plain : (copies : Key → Bool) (t : Tree) (m : Chained) → is_done m.progress ≡ false → fault_of m.request.body ≡ None → told copies t m ≡ ask_body copies t m.request m.request.body
told_plain copies t m going none = (let a : told copies t m ≡ ask_marked copies t m.request = rw going refl in a ∙ ap (asked_first copies t m.request) none)

-- what is there is the lowest on the way to itself
lowest_there : (entries : List Named) (key : Key) (e : Named) → In e entries → key_at e ≡ key → 0 < length key → (x : Named) × (lowest entries key ≡ Some x) × (key_at x ≡ key)
lowest_there entries key e i same full = by (lowest entries key) refl (lowest_right entries key)
  where
    on : IsPrefix (key_at e) key
    on = subst (λ (k : Key). IsPrefix (key_at e) k) same (prefix_itself (key_at e))

    long : length (key_at e) ≡ length key
    long = ap length same

    by : (o : Option Named) → lowest entries key ≡ o → IsLowest entries key (length key) o → (x : Named) × (lowest entries key ≡ Some x) × (key_at x ≡ key)
    by None z l = absurd (l e i on (let a = long in omega (arith, a, full)) (let a = long in omega (arith, a)))
    by (Some x) z l =
        let a = long in
        let b : length (key_at e) ≤ length (key_at x) = l.1.1 e i on (omega (arith, a)) in
        let c : length (key_at x) ≤ length key = prefix_length (key_at x) key l.1.0 in
        (x, z, same_by_length (key_at x) key key l.1.0 (prefix_itself key) (omega (arith, a, b, c)))

resolving_here : (h : Holdings) (m : Chained) (c : Held) → is_done m.progress ≡ false → find h m ≡ Here c → (resolves h m ≡ true) × (resolved h m ≡ Here c)
resolving_here h m c goes e = by m.progress refl
  where
    next : (k : ℕ) → m.progress ≡ Next k → (b : Bool) → holds_within h (key_of m.target) k ≡ b → (resolves h m ≡ true) × (resolved h m ≡ Here c)
    next k q true w = (rw (q, w) refl, rw (q, w) at e)
    next k q false w = (let f : Stuck ≡ Here c = rw (q, w) at e in cc)

    by : (x : Progress) → m.progress ≡ x → (resolves h m ≡ true) × (resolved h m ≡ Here c)
    by Start q = (rw q refl, rw q at e)
    by (Next k) q = next k q (holds_within h (key_of m.target) k) refl
    by Done q = (let f : true ≡ false = rw q at goes in cc)

none_moved : (xs : List Source) → (ks : Option Key) → ((x : Source) → In x xs → x.moment ≡ None) → some_and (λ pin. list_any (λ x. same_key (key_of x.context) pin && is_some x.moment) xs) ks ≡ false
none_moved xs None f = refl
none_moved xs (Some pin) f = by xs f
  where
    by : (ys : List Source) → ((x : Source) → In x ys → x.moment ≡ None) → list_any (λ x. same_key (key_of x.context) pin && is_some x.moment) ys ≡ false
    by [] g = refl
    by (y ∷ ys) g = λ q. both_off (same_key (key_of y.context) pin) (is_some y.moment) (ap (λ (o : Option ℕ). is_some o) (g y here)) q || by ys (λ x m. g x (there m)) q
      where
        both_off : (a b : Bool) → b ≡ false → (a && b) ≡ false
        both_off true b e = e
        both_off false b e = refl

no_more : (xs : List Named) → xs ++ [] ≡ xs
no_more [] = refl
no_more (x ∷ xs) = ap (λ zs. x ∷ zs) (no_more xs)

module _ (p : Point) (s : Scene) (most : ℕ) (g : Ground p s) (k : Hand) (j : Journal) (at : AtHand p s k j) (look : IsLooked k.message) (c : Held) (found : find (holdings_at p k.receiver) k.message ≡ Here c)
    (query : is_update k.message.request.body ≡ false) (none : subset_of k.message ≡ None) where
  abbrev h : Holdings
  h = holdings_at p k.receiver

  abbrev m : Chained
  m = k.message

  target_is : key_of (target_of k.message.request.body) ≡ key_of k.message.target
  target_is = (key_decides (key_of (target_of k.message.request.body)) (key_of k.message.target)).0 (both_true (same_name (target_of k.message.request.body) k.message.target) _ look.1).0

  going : is_done k.message.progress ≡ false
  going = elim (either_true (not (is_done k.message.progress)) _ (both_true (same_name (target_of k.message.request.body) k.message.target) _ look.1).1) [
    | inl e ↦ not_true (is_done k.message.progress) e
    | inr e ↦ (let z = single k.message k.message.request.body none query in let y : true ≡ false = sym e ∙ z in cc)
  ]

  x : IsHere (holdings_at p k.receiver) k.message c
  x = pin_here (holdings_at p k.receiver) k.message c (known_pin k.message.request (holdings_at p k.receiver) (key_of k.message.target)) refl (resolving_here (holdings_at p k.receiver) k.message c going found).1

  pin_is : key_of c.prefix ≡ x.pin
  pin_is = (key_decides (key_of c.prefix) x.pin).0 (of_find (λ (y : Held). same_key (key_of y.prefix) x.pin) c (holdings_at p k.receiver).own x.found).1

  owned : In c (holdings_at p k.receiver).own
  owned = (of_find (λ (y : Held). same_key (key_of y.prefix) x.pin) c (holdings_at p k.receiver).own x.found).0

  entry_in : In x.entry c.entries
  entry_in = (subst (λ (o : Option Named). IsLowest c.entries (key_of k.message.target) (length (key_of k.message.target)) o) x.low (lowest_right c.entries (key_of k.message.target))).0

  entry_key : key_at x.entry ≡ key_of k.message.target
  entry_key = (key_decides (key_of x.entry.name) (key_of k.message.target)).0 x.is

  there_target : is_there c.entries (key_of k.message.target) ≡ true
  there_target = any_in (λ (y : Named). same_key (key_at y) (key_of k.message.target)) x.entry c.entries entry_in x.is

  mastered_here : master_at p (key_of k.message.target) ≡ Some k.receiver
  mastered_here = holder_is_master p k.receiver c (key_of k.message.target) g.setting.whole owned there_target

  entries_are : c.entries ≡ part (tree_at p) (key_of c.prefix)
  entries_are = (let w = of_held p g.setting.whole k.receiver c owned in ap (λ (y : Held). y.entries) w.6 ∙ ap (λ (q : Key). part (tree_at p) q) (ap (λ (y : Held). key_of y.prefix) (sym w.6)))

  in_tree : In x.entry (tree_at p).entries
  in_tree = (of_part (knowledge_of (world_at p)) (tree_at p) g.setting.whole.coherent g.setting.whole.tree (key_of c.prefix) x.entry (subst (λ (es : List Named). In x.entry es) entries_are entry_in)).0

  low_tree : (y : Named) × (lowest (tree_at p).entries (key_of k.message.target) ≡ Some y) × (key_at y ≡ key_of k.message.target)
  low_tree =
      lowest_there (tree_at p).entries (key_of k.message.target) x.entry in_tree entry_key
      (subst (λ (q : Key). 0 < length q) entry_key (tree_filled (knowledge_of (world_at p)) (tree_at p) g.setting.whole.coherent g.setting.whole.tree x.entry in_tree))

  tells : (told (λ key. false) (tree_at p) k.message ≡ ask_marked (λ key. false) (tree_of c.entries []) k.message.request) × (touched (knowledge_at p) (tree_at p) k.receiver k.message ≡ key_of c.prefix ∷ [])
  tells = own_is_told p k.receiver k.message c g.setting.whole look found none query

  longest_is_pin : longest (tree_at p).pins (key_of k.message.target) ≡ Some (key_of c.prefix)
  longest_is_pin = only_one (longest (tree_at p).pins (key_of (target_of k.message.request.body))) (sym (object_touched (knowledge_at p) (tree_at p) k.receiver k.message none query) ∙ tells.1) (ap (λ (q : Key). longest (tree_at p).pins q) target_is)
    where
      only_one : (o : Option Key) → in_option [] (λ (q : Key). q ∷ []) o ≡ key_of c.prefix ∷ [] → o ≡ longest (tree_at p).pins (key_of k.message.target) → longest (tree_at p).pins (key_of k.message.target) ≡ Some (key_of c.prefix)
      only_one None e f = cc
      only_one (Some q) e f = (let same : q ≡ key_of c.prefix = cc in sym f ∙ ap (λ (y : Key). Some y) same)

  master_is : master_of (knowledge_at p) (key_of c.prefix) ≡ Some k.receiver
  master_is = ap (in_option None (master_of (knowledge_at p))) (sym longest_is_pin) ∙ mastered_here

  abbrev source : Source
  source = own_source k.receiver c

  abbrev t : Told
  t = ask_marked (λ key. false) (tree_of c.entries []) k.message.request

  asked_is : ask_marked (λ key. false) (tree_of c.entries []) k.message.request ≡ ask_body (λ key. false) (tree_of c.entries []) k.message.request k.message.request.body
  asked_is = ap (asked_first (λ key. false) (tree_of c.entries []) k.message.request) look.0

  marks : is_copied p (own_source k.receiver c ∷ []) ≡ (λ (key : Key). false)
  marks = λ q key. none_moved (own_source k.receiver c ∷ []) (longest (tree_at p).pins key) (λ y i. elim (in_first y (own_source k.receiver c) [] i) [ inl e ↦ ap (λ (z : Source). z.moment) e | inr n ↦ elim n [ ] ]) q

  source_tells : ask_marked (λ key. false) (tree_of c.entries []) k.message.request ≡ told (is_copied p (own_source k.receiver c ∷ [])) (mixed p (own_source k.receiver c ∷ [])) k.message
  source_tells =
      asked_is
      ∙ pins_apart k.message (λ key. false) (sorted_entries c.entries) [] (tree_at p).pins k.message.request k.message.request.body none query
      ∙ ap (λ (es : List Named). ask_body (λ key. false) (record { entries = sorted_entries es; pins = (tree_at p).pins }) k.message.request k.message.request.body) (entries_are ∙ sym (no_more (part (tree_at p) (key_of c.prefix))))
      ∙ sym (ap (λ (f : Key → Bool). ask_body f (mixed p (own_source k.receiver c ∷ [])) k.message.request k.message.request.body) marks)
      ∙ sym (told_plain (is_copied p (own_source k.receiver c ∷ [])) (mixed p (own_source k.receiver c ∷ [])) k.message going look.0)

  stands : In at.line j.lines
  stands = line_there p s k j at

  held_same : s.holdings k.receiver ≡ holdings_at p k.receiver
  held_same = ap (λ (f : ℕ → Holdings). f k.receiver) g.setting.holdings

  ends_there : ends_here (holdings_at p k.receiver) k.message ≡ true
  ends_there =
      and_true (resolves (holdings_at p k.receiver) k.message) _ (resolving_here (holdings_at p k.receiver) k.message c going found).0
      (ap (λ (o : Option Key). in_option (is_first_level (holdings_at p k.receiver) && is_root (key_of k.message.target)) (ends_at_pin (holdings_at p k.receiver) k.message) o) x.known
      ∙ ap (λ (o : Option Held). in_option (in_option false (copy_answers (holdings_at p k.receiver) k.message) (copy_at (holdings_at p k.receiver) x.pin)) (λ (y : Held). is_there y.entries (key_of k.message.target)) o) x.found ∙ there_target)

  result : (a : Answer) → sources_of a ≡ own_source k.receiver c ∷ [] → unexplored_of a ≡ [] → rest_of a ≡ ask_marked (λ key. false) (tree_of c.entries []) k.message.request → IsResult p s (serving_of j k at.line.number) j.lines a
  result a sources unexplored rest = record {
    found = or_right (is_done k.message.progress) _ (own_back (λ l. ends_here (s.holdings l.receiver) l.message) at.line (length j.accepted) j.lines stands
        ((λ q. ends_here (s.holdings (at.receiver_is q)) (at.message_is q)) ∙ ap (λ (y : Holdings). ends_here y k.message) held_same ∙ ends_there));
    sources = subst (λ (xs : List Source). list_all (is_source p (serving_of j k at.line.number) j.lines) xs ≡ true) (sym sources)
        (and_true _ true (and_true (hears (serving_of j k at.line.number) j.lines k.receiver) _
        (own_back (λ l. l.receiver == k.receiver) at.line (length j.accepted) j.lines stands ((nat_same_decides at.line.receiver k.receiver).1 at.receiver_is))
        (ap (some_and (λ y. y == k.receiver)) master_is ∙ (nat_same_decides k.receiver k.receiver).1 refl)) refl);
    spelled = subst (λ (xs : List Source). map (kept_name s) xs ≡ map (λ y. Some y.context) xs) (sym sources)
        (ap (λ (o : Option Name). o ∷ []) (ap (λ (y : Holdings). own_name y (key_of c.prefix)) held_same
        ∙ ap (λ (q : Key). own_name (holdings_at p k.receiver) q) pin_is ∙ ap (in_option None (λ (y : Held). Some y.prefix)) x.found));
    once = subst (λ (xs : List Source). distinct same_key (map (λ y. key_of y.context) xs) ≡ true) (sym sources) refl;
    exactly = (λ q. same_keys (map (λ y. key_of y.context) (sources q)) (uncovered p (serving_of j k at.line.number) (unexplored q)))
        ∙ ap (λ (ks : List Key). same_keys (key_of c.prefix ∷ []) (filter (λ (pin : Key). not (is_covered (knowledge_at p) [] pin)) ks)) tells.1
        ∙ same_single (key_of c.prefix);
    answered = rest ∙ source_tells ∙ (λ q. told (is_copied p (sym sources q)) (mixed p (sym sources q)) k.message);
    blocked = subst (λ (us : List Reference). AllByRecursion (Blocked s (serving_of j k at.line.number) j.lines) us) (sym unexplored) tt;
    completed = ap (list_all (λ (r : Reference). is_done r.progress)) unexplored;
    apart = ap (are_apart (knowledge_at p)) unexplored;
  }
    where
      same_single : (q : Key) → same_keys (q ∷ []) (q ∷ []) ≡ true
      same_single q =
          let e : has same_key (q ∷ []) q ≡ true = or_left (same_key q q) false ((key_decides q q).1 refl) in
          and_true (list_all (has same_key (q ∷ [])) (q ∷ [])) _ (and_true _ true e refl) (and_true _ true e refl)

  told_error : (e : DirError) → hears_taken p s (serving_of j k at.line.number) j.lines e ≡ true → is_told p s (serving_of j k at.line.number) j.lines e ≡ true
  told_error e taken =
      let y = low_tree in
      or_right (is_some (fault_of k.message.request.body)) _
      (and_true (hears_master p (serving_of j k at.line.number) j.lines (lowest (tree_at p).entries (key_of k.message.target))) _
      (ap (hears_master p (serving_of j k at.line.number) j.lines) y.1
      ∙ ap (λ (q : Key). some_and (hears_of (serving_of j k at.line.number) j.lines k.message.target) (master_at p q)) y.2
      ∙ ap (some_and (hears_of (serving_of j k at.line.number) j.lines k.message.target)) mastered_here
      ∙ own_back (λ l. (l.receiver == k.receiver) && is_for k.message.target l) at.line (length j.accepted) j.lines stands
      (and_true (at.line.receiver == k.receiver) _ ((nat_same_decides at.line.receiver k.receiver).1 at.receiver_is)
      ((key_decides (key_of at.line.message.target) (key_of k.message.target)).1 (ap (λ (z : Chained). key_of z.target) at.message_is))))
      (and_true (hears_nssr p s (serving_of j k at.line.number) j.lines (lowest (tree_at p).entries (key_of k.message.target))) _
      (ap (hears_nssr p s (serving_of j k at.line.number) j.lines) y.1 ∙ or_left (same_name y.0.name k.message.target) _ ((key_decides (key_of y.0.name) (key_of k.message.target)).1 y.2)) taken))

  taken_by : (e : DirError) → hears_taken p s (serving_of j k at.line.number) j.lines e ≡ true
  taken_by (NoSuchObject n) = refl
  taken_by (AttributeProblem n kind) = refl
  taken_by (ServiceProblem n r i) = refl
  taken_by (UpdateProblem n) = or_right (not (n == entry_already_exists)) _ (ap (in_option true (hears_pin p s (serving_of j k at.line.number) j.lines)) (nothing_new k.message k.message.request.body none query))

  pub read_right : is_unable (s.holdings k.receiver) k.message ≡ false → RightReply p s (serving_of j k at.line.number) j (is_spent most j) (reply_in_own k.receiver k.message c) × LiesWithin p (serving_of j k at.line.number) (reply_in_own k.receiver k.message c)
  read_right not_unable = by (ask_marked (λ key. false) (tree_of c.entries []) k.message.request) refl (subst IsObject (sym asked_is) (of_body k.message (λ key. false) (tree_of c.entries []) k.message.request k.message.request.body none query))
    where
      by : (y : Told) → ask_marked (λ key. false) (tree_of c.entries []) k.message.request ≡ y → IsObject y
          → RightReply p s (serving_of j k at.line.number) j (is_spent most j) (reply_from (own_source k.receiver c ∷ []) y) × LiesWithin p (serving_of j k at.line.number) (reply_from (own_source k.receiver c ∷ []) y)
      by (Shows info) e f = (
        usual (ap not not_unable) (right.result (own_answered at.line (length j.accepted) j.lines stands) (result (EntryFound info (own_source k.receiver c)) refl refl (sym e)) (ap not query) ((nat_same_decides (length j.accepted) (length j.accepted)).1 refl)),
        λ u b i n. elim i [ ],
      )
      by (Compares equal copy) e f = (
        usual (ap not not_unable) (right.result (own_answered at.line (length j.accepted) j.lines stands) (result (Matched equal copy (own_source k.receiver c)) refl refl (sym e)) (ap not query) ((nat_same_decides (length j.accepted) (length j.accepted)).1 refl)),
        λ u b i n. elim i [ ],
      )
      by (Refuses y) e f = (
        usual (ap not not_unable) (right.error (own_answered at.line (length j.accepted) j.lines stands) (tells.0 ∙ e) (told_error y (taken_by y)) ((nat_same_decides (length j.accepted) (length j.accepted)).1 refl)),
        within_error p k at.line.number (length j.accepted) y going,
      )
      by (Lists subs cut) e f = absurd f
      by (Finds infos cut) e f = absurd f
      by Changes e f = absurd f

no_needs : (h : Holdings) (m : Chained) → new_name m.request.body ≡ None → due_probes h m ≡ []
no_needs h m e = by (is_some (fault_of m.request.body))
  where
    by : (b : Bool) → (if b then [] else in_option [] (probe_due h m) (new_name m.request.body)) ≡ []
    by true = refl
    by false = ap (in_option [] (probe_due h m)) e

pub reads_right : ReadsOwn
reads_right p s most k j c g a e query none at comes =
    let free : Here c ≡ Stuck → ⊥ = λ z. cc in
    let look = looked p s g k j at comes.none a (Here c) e free in
    let found = found_is p s g k j at comes.none a (Here c) e free in
    let w = read_right p s most g k j at look c found query none (able p s g k j at comes.none a (Here c) e free) in
    with_nothing p s most g k j at comes (reply_in_own k.receiver k.message c) w.0 w.1
    (here_needs (s.holdings k.receiver) k.message c look (found_same p s g k j at comes.none a (Here c) e free) none ∙ no_needs (s.holdings k.receiver) k.message (nothing_new k.message k.message.request.body none query))
    (settled_unless p s most g k j at comes (λ due.
    let b = both_true (may_accept s j.lines at.line.receiver at.line) _ due in
    let d = both_true (arrives at.line.fate) _ (both_true (at.line.receiver == at.line.receiver) _ b.0).1 in
    let carries = both_true (carries_update s at.line) _ d.1 in
    let off = no_carrier s at.line (ap (λ (y : Chained). is_update y.request.body) at.message_is ∙ query) in
    let z : true ≡ false = sym carries.0 ∙ off in cc))
    (told_final (own_source k.receiver c ∷ []) (ask_marked (λ key. false) (tree_of c.entries []) k.message.request))
