-- Whether a request may be answered from a context with a prefix: from one that is mastered, or else from the copy, of which there is
-- one at most, where it was refreshed and copies may be used.
use Rattle.std.proofs.Common.{◌≡◌, ℕ, Bool, true, false, cond, not, ◌&&◌, ◌||◌, List, [], ◌∷◌, ◌++◌, map, refl, sym, ap, ◌∙◌, ◌<◌, zero, suc, length, get_or, arith, Option, Some, None}
use Rattle.std.specs.List.{filter, find, list_any, slice_get}
use Rattle.std.specs.Option.{is_some, is_none, option_map}
use Rattle.x5_model.specs.Words.{distinct, has}
use Rattle.x5_model.specs.Keys.{Key, same_key}
use Rattle.x5_model.specs.Values.{Name, key_of}
use Rattle.x5_model.specs.Entries.{Named}
use Rattle.x5_model.specs.Requests.{Request}
use Rattle.x5_model.proofs.KeyLaws.{key_decides}
use Rattle.x5_model.proofs.Lists.{both_true, not_true, of_find}
use Rattle.x5_model_tree.specs.Tree.{entry_at}
use Rattle.x5_dse.specs.declared.node.NodeId.{NodeId}
use Rattle.x5_dse.specs.Linked.{Node, AreNumbered, entries_of, id_of, name_in, named_of, node_at, node_key, node_with}
use Rattle.x5_model_run.specs.Holdings.{Held, Copy, Holdings, held_at, copy_at, masters_pin, may_copy, served, usable_copies}
use Rattle.x5_holdings.specs.Known.{IsPlaceOf, IsKnown}
use Rattle.x5_holdings.specs.State.{Kept, CopyKept, State, are_once, brought_for, copy_view, held_view, holdings_view, stamp_of}
use Rattle.x5_holdings.specs.declared.holdings.Pin.{Pin}
use Rattle.x5_model_run.specs.Holdings.{known_pin}
use Rattle.x5_eval.proofs.Adding.{map_twice}

found_any : {A : Type 0} (test : A → Bool) (xs : List A) → is_some (find test xs) ≡ list_any test xs
found_any test [] = refl
found_any test (x ∷ xs) = by (test x) (found_any test xs)
  where
    by : (b : Bool) → is_some (find test xs) ≡ list_any test xs → is_some (cond b (Some x) (find test xs)) ≡ (b || list_any test xs)
    by true e = refl
    by false e = e

any_joined : {A : Type 0} (test : A → Bool) (xs ys : List A) → list_any test (xs ++ ys) ≡ (list_any test xs || list_any test ys)
any_joined test [] ys = refl
any_joined test (x ∷ xs) ys = ap (λ (b : Bool). test x || b) (any_joined test xs ys) ∙ by (test x) (list_any test xs) (list_any test ys)
  where
    by : (a b c : Bool) → (a || (b || c)) ≡ ((a || b) || c)
    by true b c = refl
    by false b c = refl

-- those that pass one test all pass another
any_left : {A : Type 0} (test other : A → Bool) (xs : List A) → ((x : A) → test x ≡ true → other x ≡ true)
    → list_any test (filter other xs) ≡ list_any test xs
any_left test other [] f = refl
any_left test other (x ∷ xs) f = by (test x) (other x) refl refl (any_left test other xs f)
  where
    by : (a b : Bool) → test x ≡ a → other x ≡ b → list_any test (filter other xs) ≡ list_any test xs
        → list_any test (cond b (x ∷ filter other xs) (filter other xs)) ≡ (a || list_any test xs)
    by a true p q e = ap (λ (c : Bool). c || list_any test (filter other xs)) p ∙ ap (λ (c : Bool). a || c) e
    by true false p q e = absurd (let t : other x ≡ true = f x p in cc)
    by false false p q e = e

module _ (r : Request) (h : Holdings) (p : Key) where
  abbrev at : Held → Bool
  at c = same_key (key_of c.prefix) p

  abbrev stamped : List Copy → List Held
  stamped ks = map (λ k. k.held) (filter (λ k. is_some k.stamp) ks)

  any_served : is_some (held_at (served r h) p) ≡ (list_any at h.own || list_any at (filter (λ c. not (masters_pin h (key_of c.prefix))) (usable_copies r h)))
  any_served = found_any at (served r h) ∙ any_joined at h.own (filter (λ c. not (masters_pin h (key_of c.prefix))) (usable_copies r h))

  pub own_served : is_some (held_at h.own p) ≡ true → is_some (held_at (served r h) p) ≡ true
  own_served e =
      any_served ∙ ap (λ (b : Bool). b || list_any at (filter (λ c. not (masters_pin h (key_of c.prefix))) (usable_copies r h)))
      (sym (found_any at h.own) ∙ e)

  by_copies : held_at h.own p ≡ None → is_some (held_at (served r h) p) ≡ list_any at (usable_copies r h)
  by_copies e =
      any_served
      ∙ ap (λ (b : Bool). b || list_any at (filter (λ c. not (masters_pin h (key_of c.prefix))) (usable_copies r h)))
      (sym (found_any at h.own) ∙ ap is_some e)
      ∙ any_left at (λ c. not (masters_pin h (key_of c.prefix))) (usable_copies r h)
      (λ c t. ap (λ (k : Key). not (is_some (held_at h.own k))) ((key_decides (key_of c.prefix) p).0 t) ∙ ap (λ (o : Option Held). not (is_some o)) e)

  none_stamped : (ks : List Copy) → find (λ k. at k.held) ks ≡ None → list_any at (stamped ks) ≡ false
  none_stamped [] e = refl
  none_stamped (k ∷ ks) e = by (at k.held) (is_some k.stamp) refl e (none_stamped ks)
    where
      by : (a b : Bool) → at k.held ≡ a → cond a (Some k) (find (λ k. at k.held) ks) ≡ None
          → (find (λ k. at k.held) ks ≡ None → list_any at (stamped ks) ≡ false)
          → list_any at (map (λ k. k.held) (cond b (k ∷ filter (λ k. is_some k.stamp) ks) (filter (λ k. is_some k.stamp) ks))) ≡ false
      by true b q f g = cc
      by false true q f g = ap (λ (c : Bool). c || list_any at (stamped ks)) q ∙ g f
      by false false q f g = g f

  none_more : (ks : List Copy) → has same_key (map (λ k. key_of k.held.prefix) ks) p ≡ false → list_any at (stamped ks) ≡ false
  none_more [] e = refl
  none_more (k ∷ ks) e = by (at k.held) (is_some k.stamp) refl e (none_more ks)
    where
      by : (a b : Bool) → at k.held ≡ a → (a || has same_key (map (λ k. key_of k.held.prefix) ks) p) ≡ false
          → (has same_key (map (λ k. key_of k.held.prefix) ks) p ≡ false → list_any at (stamped ks) ≡ false)
          → list_any at (map (λ k. k.held) (cond b (k ∷ filter (λ k. is_some k.stamp) ks) (filter (λ k. is_some k.stamp) ks))) ≡ false
      by true b q f g = cc
      by false true q f g = ap (λ (c : Bool). c || list_any at (stamped ks)) q ∙ g f
      by false false q f g = g f

  first_is : (c k : Copy) → Some c ≡ Some k → c ≡ k
  first_is c k q = cc

  one_stamped : (ks : List Copy) (k : Copy) → distinct same_key (map (λ k. key_of k.held.prefix) ks) ≡ true
      → find (λ k. at k.held) ks ≡ Some k → list_any at (stamped ks) ≡ is_some k.stamp
  one_stamped [] k d e = cc
  one_stamped (c ∷ ks) k d e =
      let both = both_true (not (has same_key (map (λ k. key_of k.held.prefix) ks) (key_of c.held.prefix))) (distinct same_key (map (λ k. key_of k.held.prefix) ks)) d in
      by (at c.held) (is_some c.stamp) refl refl e (not_true (has same_key (map (λ k. key_of k.held.prefix) ks) (key_of c.held.prefix)) both.0)
      (one_stamped ks k both.1)
    where
      by : (a b : Bool) → at c.held ≡ a → is_some c.stamp ≡ b → cond a (Some c) (find (λ k. at k.held) ks) ≡ Some k
          → has same_key (map (λ k. key_of k.held.prefix) ks) (key_of c.held.prefix) ≡ false
          → (find (λ k. at k.held) ks ≡ Some k → list_any at (stamped ks) ≡ is_some k.stamp)
          → list_any at (map (λ k. k.held) (cond b (c ∷ filter (λ k. is_some k.stamp) ks) (filter (λ k. is_some k.stamp) ks))) ≡ is_some k.stamp
      by true true q s f h g = ap (λ (x : Bool). x || list_any at (stamped ks)) q ∙ sym s ∙ ap (λ (x : Copy). is_some x.stamp) (first_is c k f)
      by true false q s f h g =
          none_more ks (ap (has same_key (map (λ k. key_of k.held.prefix) ks)) (sym ((key_decides (key_of c.held.prefix) p).0 q)) ∙ h)
          ∙ sym s ∙ ap (λ (x : Copy). is_some x.stamp) (first_is c k f)
      by false true q s f h g = ap (λ (x : Bool). x || list_any at (stamped ks)) q ∙ g f
      by false false q s f h g = g f

  usable_any : (b : Bool) (ks : List Copy) → list_any at (cond b (stamped ks) []) ≡ (b && list_any at (stamped ks))
  usable_any true ks = refl
  usable_any false ks = refl

  pub copy_served : held_at h.own p ≡ None → distinct same_key (map (λ k. key_of k.held.prefix) h.copies) ≡ true
      → (k : Copy) → copy_at h p ≡ Some k → is_some (held_at (served r h) p) ≡ (may_copy r && is_some k.stamp)
  copy_served e d k q =
      by_copies e ∙ usable_any (may_copy r) h.copies ∙ ap (λ (b : Bool). may_copy r && b) (one_stamped h.copies k d q)

  pub none_served : held_at h.own p ≡ None → copy_at h p ≡ None → is_some (held_at (served r h) p) ≡ false
  none_served e q =
      by_copies e ∙ usable_any (may_copy r) h.copies ∙ ap (λ (b : Bool). may_copy r && b) (none_stamped h.copies q) ∙ by (may_copy r)
    where
      by : (b : Bool) → (b && false) ≡ false
      by true = refl
      by false = refl

-- what a request may be answered from is brought
pub brought_some : (r : Request) (c : CopyKept) → is_some (brought_for r c) ≡ (may_copy r && is_some (stamp_of c.refreshed))
brought_some r c = by (may_copy r) c.refreshed
  where
    by : (b : Bool) (o : Option (Kept × ℕ)) → is_some (cond b (option_map (λ s. s.0) o) None) ≡ (b && is_some (stamp_of o))
    by true None = refl
    by true (Some s) = refl
    by false o = refl

-- ---- places of tables
placed_some : {A B : Type 0} (v : A → B) (xs : List A) (found : Option B) (o : Option ℕ) → IsPlaceOf v xs found o → is_some o ≡ true → is_some found ≡ true
placed_some v xs found None p e = cc
placed_some {A} {B} v xs found (Some n) p e = ap is_some p.0 ∙ by (slice_get xs n) p.1
  where
    by : (o : Option A) → is_some o ≡ true → is_some (option_map v o) ≡ true
    by None q = q
    by (Some x) q = refl

placed_none : {A B : Type 0} (v : A → B) (xs : List A) (found : Option B) (o : Option ℕ) → IsPlaceOf v xs found o → is_some o ≡ false → found ≡ None
placed_none v xs found None p e = p
placed_none v xs found (Some n) p e = cc

pub some_within : {A : Type 0} (xs : List A) (i : ℕ) → is_some (slice_get xs i) ≡ true → i < length xs
some_within [] i e = cc
some_within (x ∷ xs) zero e = omega arith
some_within (x ∷ xs) (suc i) e = (let l = some_within xs i e in omega (arith, l))

module _ (s : State) (r : Request) (p : Key) (own : Option ℕ) (at_own : IsPlaceOf held_view s.own (held_at (holdings_view s).own p) own) where
  pub own_is : is_some own ≡ true → is_some (held_at (served r (holdings_view s)) p) ≡ true
  own_is e = own_served r (holdings_view s) p (placed_some held_view s.own (held_at (holdings_view s).own p) own at_own e)

  pub none_is : is_some own ≡ false → copy_at (holdings_view s) p ≡ None → is_some (held_at (served r (holdings_view s)) p) ≡ false
  none_is e q = none_served r (holdings_view s) p (placed_none held_view s.own (held_at (holdings_view s).own p) own at_own e) q

  pub copy_is : is_some own ≡ false → are_once s.copies ≡ true → (n : ℕ) (k : CopyKept)
      → copy_at (holdings_view s) p ≡ option_map copy_view (slice_get s.copies n) → slice_get s.copies n ≡ Some k
      → is_some (brought_for r k) ≡ is_some (held_at (served r (holdings_view s)) p)
  copy_is e once n k q g =
      brought_some r k
      ∙ sym (copy_served r (holdings_view s) p (placed_none held_view s.own (held_at (holdings_view s).own p) own at_own e)
      (ap (distinct same_key) (map_twice copy_view (λ (c : Copy). key_of c.held.prefix) s.copies) ∙ once)
      (copy_view k) (q ∙ ap (option_map copy_view) g))

-- nothing on the way is known
pub known_none : (r : Request) (h : Holdings) (n : Key) (o : Option Pin) → IsKnown r h n o → is_none o ≡ is_none (known_pin r h n)
known_none r h n None e = sym (ap is_none e)
known_none r h n (Some pin) e = sym (ap is_none e.longest)

-- ---- options
pub none_back : {A : Type 0} (o : Option A) (b : Bool) → is_some o ≡ not b → b ≡ is_none o
none_back None true e = refl
none_back None false e = cc
none_back (Some x) true e = cc
none_back (Some x) false e = refl

pub none_of_some : {A : Type 0} (o : Option A) → is_some o ≡ false → is_none o ≡ true
none_of_some None e = refl
none_of_some (Some x) e = cc

pub some_mapped : {A B : Type 0} (f : A → B) (o : Option A) → is_some o ≡ is_some (option_map f o)
some_mapped f None = refl
some_mapped f (Some x) = refl

pub got_at : {A : Type 0} (xs : List A) (i : ℕ) (x : A) → i < length xs → x ≡ get_or xs i x → slice_get xs i ≡ Some x
got_at [] i x l e = absurd (omega (arith, l))
got_at (y ∷ xs) zero x l e = ap Some (sym e)
got_at (y ∷ xs) (suc i) x l e = got_at xs i x (omega (arith, l)) e

-- ---- entries by their nodes
node_entry : (nodes : List Node) (key : Key) → entry_at (entries_of nodes) key ≡ option_map named_of (node_at nodes key)
node_entry [] key = refl
node_entry (n ∷ nodes) key = by (same_key (node_key n) key) (node_entry nodes key)
  where
    by : (b : Bool) → entry_at (entries_of nodes) key ≡ option_map named_of (node_at nodes key)
        → cond b (Some n.named) (entry_at (entries_of nodes) key) ≡ option_map named_of (cond b (Some n) (node_at nodes key))
    by true e = refl
    by false e = e

pub no_name : (nodes : List Node) (key : Key) → None ≡ option_map id_of (node_at nodes key)
    → None ≡ option_map (λ (e : Named). e.name) (entry_at (entries_of nodes) key)
no_name nodes key e = by (node_at nodes key) e ∙ sym (ap (option_map (λ (x : Named). x.name)) (node_entry nodes key))
  where
    by : (o : Option Node) → None ≡ option_map id_of o → None ≡ option_map (λ (x : Named). x.name) (option_map named_of o)
    by None q = refl
    by (Some n) q = cc

pub name_found : (nodes : List Node) (key : Key) (id : NodeId) (name : Name) → AreNumbered nodes
    → Some id ≡ option_map id_of (node_at nodes key) → option_map name_in (node_with nodes id) ≡ Some name
    → Some name ≡ option_map (λ (e : Named). e.name) (entry_at (entries_of nodes) key)
name_found nodes key id name numbered e f =
    by (node_at nodes key) refl e ∙ sym (ap (option_map (λ (x : Named). x.name)) (node_entry nodes key))
  where
    same : (a b : NodeId) → Some a ≡ Some b → a ≡ b
    same a b q = cc

    by : (o : Option Node) → node_at nodes key ≡ o → Some id ≡ option_map id_of o → Some name ≡ option_map (λ (x : Named). x.name) (option_map named_of o)
    by None q r = cc
    by (Some n) q r =
        sym f ∙ ap (option_map name_in) (ap (node_with nodes) (same id n.id r)
        ∙ numbered n (of_find (λ (x : Node). same_key (node_key x) key) n nodes q).0)
