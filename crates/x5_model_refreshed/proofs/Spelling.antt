-- An update keeps names spelled on: in its context each name but the prefix's goes on that of the entry just above.
use Rattle.std.proofs.Common.{◌≡◌, ◌≢◌, ℕ, zero, suc, ◌+◌, ◌-◌, ◌<◌, ◌≤◌, Bool, true, false, not, ◌||◌, ◌⊎◌, inl, inr, List, [], ◌∷◌, ◌++◌, map, length, take, drop, refl, sym, ap, subst, ◌∙◌, arith, length-take, Ok, if◌then◌else◌}
use Rattle.std.specs.List.{filter, list_any}
use Rattle.std.proofs.lemmas.List.{map-append, append_assoc, drop_all}
use Rattle.x5_model.specs.Members.{In}
use Rattle.x5_model.specs.Keys.{Key, IsPrefix, same_key, is_prefix, is_below, parent}
use Rattle.x5_model.specs.Values.{Rdn, Name, key_of, key_of_rdn, last_rdn, name_above}
use Rattle.x5_model.specs.Entries.{Entry, Named}
use Rattle.x5_model.specs.Changes.{renamed}
use Rattle.x5_model.specs.Requests.{Attribute, Body, Read, Compare, ListBelow, Search, AddEntry, RemoveEntry, ModifyEntry, ModifyDn}
use Rattle.x5_model.proofs.KeyLaws.{key_decides}
use Rattle.x5_model.proofs.Lists.{true_or_false, in_first, in_either, in_left, in_map, of_map, in_filter, of_filter, none_of}
use Rattle.x5_model.proofs.Prefixes.{prefix_decides, prefix_length, prefix_chain, prefix_by_length, below_decides}
use Rattle.x5_model.proofs.Ascending.{in_sorted, of_sorted}
use Rattle.x5_model_tree.specs.Tree.{Tree, key_at, named_below, sorted_entries, has_below}
use Rattle.x5_model_tree.specs.Ask.{is_update}
use Rattle.x5_model_tree.specs.Apply.{Ground, ground_of, above_pin, above_nssr, update}
use Rattle.x5_model_theory.proofs.Stages.{key_length}
use Rattle.x5_model_updates.specs.Afterwards.{new_entry, name_after}
use Rattle.x5_model_updates.proofs.Lookups.{OneEach, entry_found}
use Rattle.x5_model_updates.proofs.Outcomes.{added, removed, changed_so, renamed_so, moved_entry}
use Rattle.x5_model_updates.proofs.Renaming.{filled_name, moved_itself, moved_below, moved_apart}
use Rattle.x5_model_refreshed.specs.Doable.{IsBelow}
use Rattle.x5_model_refreshed.proofs.Noting.{last_of_end}

-- each but the prefix's is below another, by the name that its own goes on
abbrev pub IsSpelled : Key → List Named → Named → Type 0
IsSpelled pin es e = (key_at e ≡ pin) ⊎ IsBelow es e

abbrev pub AreSpelled : Key → List Named → Type 0
AreSpelled pin es = (e : Named) → In e es → IsSpelled pin es e

-- which others there are is nothing to it, as long as all of them stay
pub more_spelled : (pin : Key) (es us : List Named) (e : Named) → ((f : Named) → In f es → In f us) → IsSpelled pin es e → IsSpelled pin us e
more_spelled pin es us e stays (inl q) = inl q
more_spelled pin es us e stays (inr b) = inr (record { above = b.above; there = stays b.above b.there; spelled = b.spelled })

-- ---- names that go on another

front_of : {A : Type 0} (xs ys : List A) → take (length xs) (xs ++ ys) ≡ xs
front_of [] ys = refl
front_of {A} (x ∷ xs) ys = ap (λ (zs : List A). x ∷ zs) (front_of xs ys)

one_longer : {A : Type 0} (xs : List A) (y : A) → length (xs ++ y ∷ []) ≡ suc (length xs)
one_longer [] y = refl
one_longer (x ∷ xs) y = ap (λ (n : ℕ). suc n) (one_longer xs y)

take_within : {A : Type 0} (k : ℕ) (xs ys : List A) → k ≤ length xs → take k (xs ++ ys) ≡ take k xs
take_within zero xs ys l = refl
take_within (suc k) [] ys l = absurd (omega arith)
take_within {A} (suc k) (x ∷ xs) ys l = ap (λ (zs : List A). x ∷ zs) (take_within k xs ys (omega arith))

drop_within : {A : Type 0} (k : ℕ) (xs ys : List A) → k ≤ length xs → drop k (xs ++ ys) ≡ drop k xs ++ ys
drop_within zero xs ys l = refl
drop_within (suc k) [] ys l = absurd (omega arith)
drop_within (suc k) (x ∷ xs) ys l = drop_within k xs ys (omega arith)

-- the key of what is above is a prefix, and one shorter
pub above_prefix : (above : Named) (e : Named) (r : Rdn) → e.name ≡ above.name ++ r ∷ [] → IsPrefix (key_at above) (key_at e)
above_prefix above e r s =
    ap (λ (n : Name). take (length (key_at above)) (key_of n)) s
    ∙ ap (take (length (key_at above))) (map-append key_of_rdn above.name (r ∷ []))
    ∙ front_of (key_at above) (key_of_rdn r ∷ [])

pub above_shorter : (above : Named) (e : Named) (r : Rdn) → e.name ≡ above.name ++ r ∷ [] → length e.name ≡ suc (length above.name)
above_shorter above e r s = ap length s ∙ one_longer above.name r

-- ---- addEntry

module _ (pin : Key) (es : List Named) (above : Named) (name : Name) (attributes : List Attribute) (i : In above es) (all : AreSpelled pin es) where
  abbrev new : Named
  new = new_entry above name attributes

  abbrev grown : List Named
  grown = sorted_entries (es ++ new ∷ [])

  stays_added : (f : Named) → In f es → In f grown
  stays_added f j = in_sorted named_below f (es ++ new ∷ []) (in_left f es (new ∷ []) j)

  new_spelled : IsBelow grown new
  new_spelled = record {
    above = above;
    there = stays_added above i;
    spelled = ap (λ (r : Rdn). above.name ++ r ∷ []) (sym (last_of_end above.name (last_rdn name)));
  }

  add_keeps : AreSpelled pin grown
  add_keeps e j = elim (in_either e es (new ∷ []) (of_sorted named_below e (es ++ new ∷ []) j)) [
    | inl k ↦ more_spelled pin es grown e stays_added (all e k)
    | inr k ↦ elim (in_first e new [] k) [
      | inl q ↦ inr (subst (λ (x : Named). IsBelow grown x) (sym q) new_spelled)
      | inr l ↦ elim l [ ]
    ]
  ]

-- ---- removeEntry

module _ (pin : Key) (es : List Named) (name : Name) (leaf : has_below es (key_of name) ≡ false) (all : AreSpelled pin es) where
  abbrev stays : Named → Bool
  stays e = not (same_key (key_at e) (key_of name))

  not_above : (e : Named) → In e es → (b : IsBelow es e) → stays b.above ≡ true
  not_above e i b = elim (true_or_false (same_key (key_at b.above) (key_of name))) [
    | inr f ↦ ap not f
    | inl t ↦
        let q : key_at b.above ≡ key_of name = (key_decides (key_at b.above) (key_of name)).0 t in
        let p : IsPrefix (key_of name) (key_at e) = subst (λ (x : Key). IsPrefix x (key_at e)) q (above_prefix b.above e (last_rdn e.name) b.spelled) in
        let l : length e.name ≡ suc (length b.above.name) = above_shorter b.above e (last_rdn e.name) b.spelled in
        let m : length (key_at b.above) ≡ length (key_of name) = ap length q in
        let less : length (key_of name) < length (key_at e) = omega (arith, key_length e.name, key_length b.above.name) in
        let under : is_below (key_of name) (key_at e) ≡ true = (below_decides (key_of name) (key_at e)).1 (less, p) in
        let none : is_below (key_of name) (key_at e) ≡ false = none_of (λ (f : Named). is_below (key_of name) (key_at f)) e es leaf i in
        cc
  ]

  remove_keeps : AreSpelled pin (filter stays es)
  remove_keeps e j =
      let w = of_filter stays e es j in
      elim (all e w.0) [
        | inl q ↦ inl q
        | inr b ↦ inr (record { above = b.above; there = in_filter stays b.above es b.there (not_above e w.0 b); spelled = b.spelled })
      ]

-- ---- modifyEntry

module _ (pin : Key) (es : List Named) (name : Name) (at : Named) (new : Entry) (one : OneEach es) (i : In at es) (q : key_at at ≡ key_of name)
    (all : AreSpelled pin es) where
  abbrev put_if : Bool → Named → Named
  put_if b e = if b then record at { entry = new } else e

  abbrev put : Named → Named
  put e = put_if (same_key (key_at e) (key_of name)) e

  same_name : (e : Named) → In e es → (put e).name ≡ e.name
  same_name e j = by (same_key (key_at e) (key_of name)) refl
    where
      by : (b : Bool) → same_key (key_at e) (key_of name) ≡ b → (put_if b e).name ≡ e.name
      by false t = refl
      by true t = ap (λ (x : Named). x.name) (one at e i j (q ∙ sym ((key_decides (key_at e) (key_of name)).0 t)))

  put_spelled : (x : Named) → In x es → IsSpelled pin es x → IsSpelled pin (map put es) (put x)
  put_spelled x j (inl p) = inl (ap key_of (same_name x j) ∙ p)
  put_spelled x j (inr b) = inr (record {
    above = put b.above;
    there = in_map put b.above es b.there;
    spelled =
        same_name x j
        ∙ b.spelled
        ∙ ap (λ (n : Name). n ++ last_rdn x.name ∷ []) (sym (same_name b.above b.there))
        ∙ ap (λ (n : Name). (put b.above).name ++ last_rdn n ∷ []) (sym (same_name x j));
  })

  modify_keeps : AreSpelled pin (map put es)
  modify_keeps e j =
      let w = of_map put e es j in
      subst (λ (x : Named). IsSpelled pin (map put es) x) (sym w.2) (put_spelled w.0 w.1 (all w.0 w.1))

-- ---- modifyDN

module _ (pin : Key) (es : List Named) (name : Name) (rdn : Rdn) (new : Entry) (full : 0 < length name) (off : IsPrefix (key_of name) pin → ⊥)
    (all : AreSpelled pin es) where
  abbrev goes : Named → Named
  goes e = moved_entry name rdn new e

  abbrev gone : List Named
  gone = sorted_entries (map goes es)

  abbrev cut : ℕ
  cut = length (name_above name)

  cut_is : suc cut ≡ length name
  cut_is = omega (arith, length-take (length name - 1) name)

  -- what is at or below the name has another RDN in it
  under_name : (e : Named) → IsPrefix (key_of name) (key_at e) → (goes e).name ≡ name_after name rdn e
  under_name e p = elim (true_or_false (same_key (key_at e) (key_of name))) [
    | inl t ↦ ap (λ (x : Named). x.name) (moved_itself name rdn new e ((key_decides (key_at e) (key_of name)).0 t))
    | inr f ↦ ap (λ (x : Named). x.name) (moved_below name rdn new e (λ q. (let t : same_key (key_at e) (key_of name) ≡ true = (key_decides (key_at e) (key_of name)).1 q in cc)) p)
  ]

  apart_name : (e : Named) → (IsPrefix (key_of name) (key_at e) → ⊥) → (goes e).name ≡ e.name
  apart_name e o = ap (λ (x : Named). x.name) (moved_apart name rdn new e o)

  -- the name of one that is below another ends with some RDN still
  ends : (e : Named) (b : IsBelow es e) → (r : Rdn) × ((goes e).name ≡ (goes b.above).name ++ r ∷ [])
  ends e b = elim (true_or_false (is_prefix (key_of name) (key_at e))) [
    | inr f ↦
        let o : IsPrefix (key_of name) (key_at e) → ⊥ = (λ p. (let t : is_prefix (key_of name) (key_at e) ≡ true = (prefix_decides (key_of name) (key_at e)).1 p in cc)) in (
          last_rdn e.name,
          apart_name e o
              ∙ b.spelled
              ∙ ap (λ (n : Name). n ++ last_rdn e.name ∷ []) (sym (apart_name b.above (λ p. o (prefix_chain (key_of name) (key_at b.above) (key_at e) p on)))),
        )
    | inl t ↦
        let p : IsPrefix (key_of name) (key_at e) = (prefix_decides (key_of name) (key_at e)).0 t in
        elim (true_or_false (same_key (key_at e) (key_of name))) [
          | inl s ↦ itself p ((key_decides (key_at e) (key_of name)).0 s)
          | inr f ↦ below p (λ q. (let u : same_key (key_at e) (key_of name) ≡ true = (key_decides (key_at e) (key_of name)).1 q in cc))
        ]
  ]
    where
      on : IsPrefix (key_at b.above) (key_at e)
      on = above_prefix b.above e (last_rdn e.name) b.spelled

      long : length e.name ≡ suc (length b.above.name)
      long = above_shorter b.above e (last_rdn e.name) b.spelled

      itself : IsPrefix (key_of name) (key_at e) → key_at e ≡ key_of name → (r : Rdn) × ((goes e).name ≡ (goes b.above).name ++ r ∷ [])
      itself p q =
          let m : length (key_at e) ≡ length (key_of name) = ap length q in
          let c : suc cut ≡ length name = cut_is in
          let l : length e.name ≡ suc (length b.above.name) = long in
          let same : cut ≡ length b.above.name = omega (arith, key_length e.name, key_length name) in
          let o : IsPrefix (key_of name) (key_at b.above) → ⊥ = (λ u. (let v : length (key_of name) ≤ length (key_at b.above) = prefix_length (key_of name) (key_at b.above) u in
          absurd (omega (arith, key_length name, key_length b.above.name)))) in
          let none : drop (cut + 1) e.name ≡ [] = drop_all (cut + 1) e.name (omega arith) in (
            rdn,
            under_name e p
                ∙ ap (λ (rest : Name). take cut e.name ++ rdn ∷ rest) none
                ∙ ap (λ (n : ℕ). take n e.name ++ rdn ∷ []) same
                ∙ ap (λ (n : Name). take (length b.above.name) n ++ rdn ∷ []) b.spelled
                ∙ ap (λ (n : Name). n ++ rdn ∷ []) (front_of b.above.name (last_rdn e.name ∷ []))
                ∙ ap (λ (n : Name). n ++ rdn ∷ []) (sym (apart_name b.above o)),
          )

      below : IsPrefix (key_of name) (key_at e) → key_at e ≢ key_of name → (r : Rdn) × ((goes e).name ≡ (goes b.above).name ++ r ∷ [])
      below p other =
          let c : suc cut ≡ length name = cut_is in
          let l : length e.name ≡ suc (length b.above.name) = long in
          let v : length (key_of name) ≤ length (key_at e) = prefix_length (key_of name) (key_at e) p in
          let within : length (key_of name) ≤ length (key_at b.above) = elim (longer_or (length (key_of name)) (length (key_at b.above))) [
            | inl w ↦ w
            | inr w ↦
                let s : length (key_of name) ≡ length (key_at e) = omega (arith, key_length e.name, key_length b.above.name) in
                absurd (other (sym (sym p ∙ ap (λ (n : ℕ). take n (key_at e)) s ∙ take_all (key_at e))))
          ] in
          let u : IsPrefix (key_of name) (key_at b.above) = prefix_by_length (key_of name) (key_at b.above) (key_at e) p on within in
          let a : cut ≤ length b.above.name = omega (arith, key_length name, key_length b.above.name) in
          let d : cut + 1 ≤ length b.above.name = omega (arith, key_length name, key_length b.above.name) in (
            last_rdn e.name,
            under_name e p
                ∙ ap (λ (n : Name). take cut n ++ rdn ∷ drop (cut + 1) n) b.spelled
                ∙ ap (λ (n : Name). n ++ rdn ∷ drop (cut + 1) (b.above.name ++ last_rdn e.name ∷ [])) (take_within cut b.above.name (last_rdn e.name ∷ []) a)
                ∙ ap (λ (n : Name). take cut b.above.name ++ rdn ∷ n) (drop_within (cut + 1) b.above.name (last_rdn e.name ∷ []) d)
                ∙ sym (append_assoc (take cut b.above.name) (rdn ∷ drop (cut + 1) b.above.name) (last_rdn e.name ∷ []))
                ∙ ap (λ (n : Name). n ++ last_rdn e.name ∷ []) (sym (under_name b.above u)),
          )
        where
          longer_or : (x y : ℕ) → (x ≤ y) ⊎ (y < x)
          longer_or zero y = inl (omega arith)
          longer_or (suc x) zero = inr (omega arith)
          longer_or (suc x) (suc y) = elim (longer_or x y) [ inl w ↦ inl (omega arith) | inr w ↦ inr (omega arith) ]

          take_all : (k : Key) → take (length k) k ≡ k
          take_all [] = refl
          take_all (r ∷ k) = ap (λ (z : Key). r ∷ z) (take_all k)

  goes_spelled : (x : Named) → IsSpelled pin es x → IsSpelled pin gone (goes x)
  goes_spelled x (inl q) =
      inl (ap key_of (apart_name x (λ p. off (subst (λ (k : Key). IsPrefix (key_of name) k) q p))) ∙ q)
  goes_spelled x (inr b) =
      let w = ends x b in
      inr (record {
        above = goes b.above;
        there = in_sorted named_below (goes b.above) (map goes es) (in_map goes b.above es b.there);
        spelled = w.1 ∙ ap (λ (r : Rdn). (goes b.above).name ++ r ∷ []) (sym (ap last_rdn w.1 ∙ last_of_end (goes b.above).name w.0));
      })

  rename_keeps : AreSpelled pin gone
  rename_keeps e j =
      let w = of_map goes e es (of_sorted named_below e (map goes es) j) in
      subst (λ (x : Named). IsSpelled pin gone x) (sym w.2) (goes_spelled w.0 (all w.0 w.1))

-- ---- an update

first_false : (a b : Bool) → (a || b) ≡ false → a ≡ false
first_false true b e = cc
first_false false b e = refl

-- a name that is above no pin is no prefix of one
pub not_over_pin : (g : Ground) (key pin : Key) → above_pin g key ≡ false → In pin g.pins → IsPrefix key pin → ⊥
not_over_pin g key pin h i p =
    let f : is_prefix key pin ≡ false = none_of (is_prefix key) pin g.pins (first_false (list_any (is_prefix key) g.pins) (above_nssr g key) h) i in
    let t : is_prefix key pin ≡ true = (prefix_decides key pin).1 p in
    cc

pub update_keeps : (t : Tree) (body : Body) (us : List Named) (pin : Key) → OneEach t.entries → ((e : Named) → In e t.entries → 0 < length (key_at e))
    → In pin t.pins → is_update body ≡ true → update (ground_of t) body ≡ Ok us → AreSpelled pin t.entries → AreSpelled pin us
update_keeps t (Read name selection) us pin one full i up h all = cc
update_keeps t (Compare name assertion) us pin one full i up h all = cc
update_keeps t (ListBelow name) us pin one full i up h all = cc
update_keeps t (Search base subset f selection) us pin one full i up h all = cc
update_keeps t (AddEntry name attributes) us pin one full i up h all =
    let a = added (ground_of t) name attributes us h in
    let w = entry_found t.entries (parent (key_of name)) a.above a.there in
    subst (λ (xs : List Named). AreSpelled pin xs) (sym a.made) (add_keeps pin t.entries a.above name attributes w.0 all)
update_keeps t (RemoveEntry name) us pin one full i up h all =
    let a = removed (ground_of t) name us h in
    subst (λ (xs : List Named). AreSpelled pin xs) (sym a.made) (remove_keeps pin t.entries name a.below all)
update_keeps t (ModifyEntry name changes) us pin one full i up h all =
    let a = changed_so (ground_of t) name changes us h in
    let w = entry_found t.entries (key_of name) a.at a.there in
    subst (λ (xs : List Named). AreSpelled pin xs) (sym a.made) (modify_keeps pin t.entries name a.at a.new one w.0 w.1 all)
update_keeps t (ModifyDn name rdn drops) us pin one full i up h all =
    let a = renamed_so (ground_of t) name rdn drops us h in
    let w = entry_found t.entries (key_of name) a.at a.there in
    let long : 0 < length name = filled_name name (subst (λ (x : Key). 0 < length x) w.1 (full a.at w.0)) in
    subst (λ (xs : List Named). AreSpelled pin xs) (sym a.made)
    (rename_keeps pin t.entries name rdn (renamed (last_rdn name) rdn drops a.at.entry) long
    (not_over_pin (ground_of t) (key_of name) pin a.above i) all)
