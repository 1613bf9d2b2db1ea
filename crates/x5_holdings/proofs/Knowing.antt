-- The longest known prefix of a name, one RDN after another from its end: where the whole name is known it's that,
-- and else it
-- is that of the name above. And whether a context is held on the way, in the same steps.
use Rattle.std.proofs.Common.{◌≡◌, ℕ, zero, suc, ◌-◌, ◌<◌, ◌≤◌, Bool, true, false, ◌&&◌, ◌⊎◌, inl, inr, nat_le, List}
use Rattle.std.proofs.Common.{[], ◌∷◌, ◌++◌, map, take, length, Option, Some, None, refl, sym, ap, subst, ◌∙◌, arith}
use Rattle.std.specs.Cmp.{both_ways}
use Rattle.std.specs.Prelude.{slice_get}
use Rattle.std.specs.Option.{is_some, option_map}
use Rattle.x5_model.specs.Members.{In}
use Rattle.x5_model.specs.Words.{has}
use Rattle.x5_model.specs.Keys.{Key, IsPrefix, same_key, is_prefix, parent}
use Rattle.x5_model.specs.Values.{Name, key_of, key_of_rdn}
use Rattle.x5_model.specs.Requests.{Request}
use Rattle.x5_model.proofs.KeyLaws.{key_decides}
use Rattle.x5_model.proofs.Prefixes.{prefix_decides, prefix_itself, prefix_length, prefix_chain, prefix_of_parent}
use Rattle.x5_model.proofs.Prefixes.{parent_is_prefix, same_by_length}
use Rattle.x5_model.proofs.Lists.{in_left, in_right, in_either, in_map, of_map, of_find, not_found, both_true}
use Rattle.x5_model.proofs.Lists.{and_true, any_in, of_any, true_or_false, has_in, of_has}
use Rattle.x5_model_tree.specs.World.{Specific}
use Rattle.x5_model_tree.specs.Tree.{longest}
use Rattle.x5_model_tree.proofs.Longest.{IsLongest, longest_is, longest_right}
use Rattle.x5_model_run.specs.Holdings.{Held, Copy, Holdings, held_at, copy_at, prefixes, subordinates, known_pins}
use Rattle.x5_model_run.specs.Holdings.{known_pin, holds_within}
use Rattle.x5_model_run.specs.Needs.{specific_at}
use Rattle.x5_ops.specs.KnowledgeViews.{specific_view, cross_view}
use Rattle.x5_holdings.specs.declared.holdings.Pin.{Pin}
use Rattle.x5_holdings.specs.declared.holdings.Pin.TheVariants.{Own, Copy as CopyAt, Subordinate, Cross}
use Rattle.x5_holdings.specs.Known.{IsKnownAt, IsKnown, IsPlaceOf}
use Rattle.std.proofs.lemmas.List.{length-map}

there : {A : Type 0} (o : Option A) → is_some o ≡ true → (x : A) × (o ≡ Some x)
there None e = cc
there (Some x) e = (x, refl)

le_of : (a b : ℕ) → nat_le a b ≡ true → a ≤ b
le_of a b e = grind arith

of_le : (a b : ℕ) → a ≤ b → nat_le a b ≡ true
of_le a b h = grind arith

-- ---- the longest of keys

module _ (pins : List Key) (key : Key) where
  pub itself_longest : In key pins → longest pins key ≡ Some key
  itself_longest i = longest_is pins key key (i, (prefix_itself key, λ q j p. prefix_length q key p))

  shorter : (q : Key) → (In key pins → ⊥) → In q pins → IsPrefix q key → length q < length key
  shorter q out i p = elim (less_or_same) [
    | inl l ↦ l
    | inr e ↦ absurd (out (subst (λ (k : Key). In k pins) (same_by_length q key key p (prefix_itself key) e) i))
  ]
    where
      less_or_same : (length q < length key) ⊎ (length q ≡ length key)
      less_or_same = (let l : length q ≤ length key = prefix_length q key p in grind arith)

  pub longest_above : (In key pins → ⊥) → longest pins key ≡ longest pins (parent key)
  longest_above out = by (longest pins (parent key)) (longest_right pins (parent key))
    where
      none : (o : Option Key) → IsLongest pins key o → IsLongest pins (parent key) None → o ≡ None
      none None h g = refl
      none (Some q) h g = absurd (g q h.0 (prefix_of_parent q key h.1.0 (shorter q out h.0 h.1.0)))

      by : (o : Option Key) → IsLongest pins (parent key) o → longest pins key ≡ o
      by None g = none (longest pins key) (longest_right pins key) g
      by (Some p) g = longest_is pins key p (
        g.0,
        (
          prefix_chain p (parent key) key g.1.0 (parent_is_prefix key),
          λ q i z. g.1.1 q i
              (prefix_of_parent q key z (shorter q out i z)),
        ),
      )

pub root_unknown : (pins : List Key) → (In [] pins → ⊥) → longest pins [] ≡ None
root_unknown pins out = by (longest pins []) (longest_right pins [])
  where
    by : (o : Option Key) → IsLongest pins [] o → o ≡ None
    by None h = refl
    by (Some q) h = absurd (out (subst (λ (k : Key). In k pins) (empty q (prefix_length q [] h.1.0)) h.0))
      where
        empty : (q : Key) → length q ≤ 0 → q ≡ []
        empty [] l = refl
        empty (r ∷ q) l = absurd (omega arith)

-- where no context is held at the key, it isn't a prefix of one
module _ (h : Holdings) (key : Key) (no_own : held_at h.own key ≡ None) (no_copy : copy_at h key ≡ None) where
  not_prefix : (n : Name) → In n (prefixes h) → key_of n ≡ key → ⊥
  not_prefix n i e =
      elim (in_either n (map (λ (d : Held). d.prefix) h.own) (map (λ (d : Copy). d.held.prefix) h.copies) i) [
        | inl j ↦ (let w = of_map (λ (d : Held). d.prefix) n h.own j in
            let f : same_key (key_of w.0.prefix) key ≡ false = not_found
            (λ (d : Held). same_key (key_of d.prefix) key) w.0 h.own no_own w.1 in
            let t : same_key (key_of w.0.prefix) key ≡ true = (key_decides (key_of w.0.prefix) key).1
            (ap key_of (sym w.2) ∙ e) in
            cc)
        | inr j ↦ (let w = of_map (λ (d : Copy). d.held.prefix) n h.copies j in
            let f : same_key (key_of w.0.held.prefix) key ≡ false = not_found
            (λ (d : Copy). same_key (key_of d.held.prefix) key) w.0 h.copies no_copy w.1 in
            let t : same_key (key_of w.0.held.prefix) key ≡ true = (key_decides (key_of w.0.held.prefix) key).1
            (ap key_of (sym w.2) ∙ e) in
            cc)
      ]

-- ---- which pins are known

module _ (r : Request) (h : Holdings) (key : Key) where
  abbrev pub pins : List Key
  pins = map key_of (known_pins r h)

  in_prefixes : (n : Name) → In n (prefixes h) → In (key_of n) pins
  in_prefixes n i = in_map key_of n (known_pins r h)
      (in_left n (prefixes h ++ map (λ (k : Specific). k.pin) (subordinates r h))
      (map (λ (k : Specific). k.pin) h.cross)
      (in_left n (prefixes h) (map (λ (k : Specific). k.pin) (subordinates r h)) i))

  in_subordinates : (k : Specific) → In k (subordinates r h) → In (key_of k.pin) pins
  in_subordinates k i = in_map key_of k.pin (known_pins r h)
      (in_left k.pin (prefixes h ++ map (λ (k : Specific). k.pin) (subordinates r h))
      (map (λ (k : Specific). k.pin) h.cross)
      (in_right k.pin (prefixes h) (map (λ (k : Specific). k.pin) (subordinates r h))
      (in_map (λ (k : Specific). k.pin) k (subordinates r h) i)))

  in_cross : (k : Specific) → In k h.cross → In (key_of k.pin) pins
  in_cross k i = in_map key_of k.pin (known_pins r h)
      (in_right k.pin (prefixes h ++ map (λ (k : Specific). k.pin) (subordinates r h))
      (map (λ (k : Specific). k.pin) h.cross) (in_map (λ (k : Specific). k.pin) k h.cross i))

  own_is_known : (c : Held) → held_at h.own key ≡ Some c → In key pins
  own_is_known c e =
      let w = of_find (λ (d : Held). same_key (key_of d.prefix) key) c h.own e in
      subst (λ (k : Key). In k pins) ((key_decides (key_of c.prefix) key).0 w.1)
      (in_prefixes c.prefix (in_left c.prefix (map (λ (d : Held). d.prefix) h.own)
      (map (λ (d : Copy). d.held.prefix) h.copies) (in_map (λ (d : Held). d.prefix) c h.own w.0)))

  copy_is_known : (c : Copy) → copy_at h key ≡ Some c → In key pins
  copy_is_known c e =
      let w = of_find (λ (d : Copy). same_key (key_of d.held.prefix) key) c h.copies e in
      subst (λ (k : Key). In k pins) ((key_decides (key_of c.held.prefix) key).0 w.1)
      (in_prefixes c.held.prefix
      (in_right c.held.prefix (map (λ (d : Held). d.prefix) h.own) (map (λ (d : Copy). d.held.prefix) h.copies)
      (in_map (λ (d : Copy). d.held.prefix) c h.copies w.0)))

  subordinate_is_known : (k : Specific) → specific_at (subordinates r h) key ≡ Some k → In key pins
  subordinate_is_known k e =
      let w = of_find (λ (d : Specific). same_key (key_of d.pin) key) k (subordinates r h) e in
      subst (λ (q : Key). In q pins) ((key_decides (key_of k.pin) key).0 w.1) (in_subordinates k w.0)

  cross_is_known : (k : Specific) → specific_at h.cross key ≡ Some k → In key pins
  cross_is_known k e =
      let w = of_find (λ (d : Specific). same_key (key_of d.pin) key) k h.cross e in
      subst (λ (q : Key). In q pins) ((key_decides (key_of k.pin) key).0 w.1) (in_cross k w.0)

  module _ (no_own : held_at h.own key ≡ None) (no_copy : copy_at h key ≡ None) where
    pub not_known : specific_at (subordinates r h) key ≡ None → specific_at h.cross key ≡ None → In key pins → ⊥
    not_known no_sub no_cross i =
        let v = of_map key_of key (known_pins r h) i in
        elim (in_either v.0 (prefixes h ++ map (λ (k : Specific). k.pin) (subordinates r h))
        (map (λ (k : Specific). k.pin) h.cross) v.1) [
          | inl j ↦ elim (in_either v.0 (prefixes h) (map (λ (k : Specific). k.pin) (subordinates r h)) j) [
            | inl m ↦ not_prefix h key no_own no_copy v.0 m (sym v.2)
            | inr m ↦ not_one (subordinates r h) no_sub v.0 m (sym v.2)
          ]
          | inr j ↦ not_one h.cross no_cross v.0 j (sym v.2)
        ]
      where
        not_one : (ks : List Specific) → specific_at ks key ≡ None → (n : Name) → In n
            (map (λ (k : Specific). k.pin) ks) → key_of n ≡ key → ⊥
        not_one ks none n j e =
            let w = of_map (λ (k : Specific). k.pin) n ks j in
            let f : same_key (key_of w.0.pin) key ≡ false = not_found (λ (d : Specific). same_key (key_of d.pin) key)
            w.0 ks none w.1 in
            let t : same_key (key_of w.0.pin) key ≡ true = (key_decides (key_of w.0.pin) key).1
            (ap key_of (sym w.2) ∙ e) in
            cc

-- ---- what is known of the name itself, and of the name above

module _ (r : Request) (h : Holdings) where
  pub known_here : (key : Key) (pin : Pin) → IsKnownAt r h key (Some pin) → IsKnown r h key (Some pin)
  known_here key (Own place) f = record {
    key = key;
    longest = itself_longest (map key_of (known_pins r h)) key
        (let w = there (slice_get h.own place) f.1 in own_is_known r h key w.0 (f.0 ∙ w.1));
    first = f;
  }
  known_here key (CopyAt place) f = record {
    key = key;
    longest = itself_longest (map key_of (known_pins r h)) key
        (let w = there (slice_get h.copies place) f.2 in copy_is_known r h key w.0 (f.1 ∙ w.1));
    first = f;
  }
  known_here key (Subordinate k) f = record {
    key = key;
    longest = itself_longest (map key_of (known_pins r h)) key
        (subordinate_is_known r h key (specific_view k.now) f.2);
    first = f;
  }
  known_here key (Cross k) f = record {
    key = key;
    longest = itself_longest (map key_of (known_pins r h)) key
        (cross_is_known r h key (cross_view k.now) f.3);
    first = f;
  }

  pub known_found : (key : Key) (found : Option Pin) → IsKnownAt r h key found → is_some found ≡ true → IsKnown r h
      key found
  known_found key None f e = cc
  known_found key (Some pin) f e = known_here key pin f

  unknown : (key : Key) (found : Option Pin) → IsKnownAt r h key found → is_some found ≡ false → In key
      (map key_of (known_pins r h)) → ⊥
  unknown key None f e i = not_known r h key f.0 f.1 f.2 f.3 i
  unknown key (Some pin) f e i = cc

  -- what is known of the pin says whether it's known
  pub knows_is : (key : Key) (found : Option Pin) → IsKnownAt r h key found → is_some found ≡ has same_key
      (map key_of (known_pins r h)) key
  knows_is key None f =
      elim (true_or_false (has same_key (map key_of (known_pins r h)) key)) [
        | inr e ↦ sym e
        | inl e ↦ absurd (unknown key None f refl (of_has same_key key_decides key (map key_of (known_pins r h)) e))
      ]
  knows_is key (Some (Own place)) f =
      sym (has_in same_key key_decides key (map key_of (known_pins r h))
      (let w = there (slice_get h.own place) f.1 in own_is_known r h key w.0 (f.0 ∙ w.1)))
  knows_is key (Some (CopyAt place)) f =
      sym (has_in same_key key_decides key (map key_of (known_pins r h))
      (let w = there (slice_get h.copies place) f.2 in copy_is_known r h key w.0 (f.1 ∙ w.1)))
  knows_is key (Some (Subordinate k)) f =
      sym (has_in same_key key_decides key (map key_of (known_pins r h))
      (subordinate_is_known r h key (specific_view k.now) f.2))
  knows_is key (Some (Cross k)) f =
      sym (has_in same_key key_decides key (map key_of (known_pins r h)) (cross_is_known r h key (cross_view k.now) f.3))

  pub known_root : (key : Key) (found : Option Pin) → length key ≡ 0 → IsKnownAt r h key found → is_some found ≡ false
      → IsKnown r h key None
  known_root [] found z f e = root_unknown (map key_of (known_pins r h)) (unknown [] found f e)
  known_root (x ∷ key) found z f e = absurd (omega arith)

  pub known_above : (key upper : Key) (found above : Option Pin) → upper ≡ parent key → IsKnownAt r h key found →
      is_some found ≡ false → IsKnown r h upper above → IsKnown r h key above
  known_above key upper found above u f e g = by above (subst (λ (k : Key). IsKnown r h k above) u g)
    where
      same : known_pin r h key ≡ known_pin r h (parent key)
      same = longest_above (map key_of (known_pins r h)) key (unknown key found f e)

      by : (o : Option Pin) → IsKnown r h (parent key) o → IsKnown r h key o
      by None g = same ∙ g
      by (Some pin) g = record { key = g.key; longest = same ∙ g.longest; first = g.first }

-- ---- a context that is held on the way

module _ (h : Holdings) where
  abbrev on_way : Key → ℕ → Name → Bool
  on_way key least n = is_prefix (key_of n) key && nat_le least (length n)

  pub too_short : (key : Key) (least : ℕ) → length key < least → false ≡ holds_within h key least
  too_short key least l = both_ways false (holds_within h key least) (λ e. cc) (λ e.
      let w = of_any (on_way key least) (prefixes h) e in
      let v = both_true (is_prefix (key_of w.0) key) (nat_le least (length w.0)) w.2 in
      let p : length (key_of w.0) ≤ length key = prefix_length (key_of w.0) key
      ((prefix_decides (key_of w.0) key).0 v.0) in
      let m : length (key_of w.0) ≡ length w.0 = length-map w.0 key_of_rdn in
      let b : least ≤ length w.0 = le_of least (length w.0) v.1 in
      absurd (omega arith))

  here_within : (key : Key) (least : ℕ) (n : Name) → In n (prefixes h) → key_of n ≡ key → least ≤ length key → true ≡
      holds_within h key least
  here_within key least n i e l =
      let m : length (key_of n) ≡ length n = length-map n key_of_rdn in
      let s : length (key_of n) ≡ length key = ap length e in
      sym (any_in (on_way key least) n (prefixes h) i
      (and_true (is_prefix (key_of n) key) (nat_le least (length n))
      ((prefix_decides (key_of n) key).1 (subst (λ (k : Key). IsPrefix k key) (sym e) (prefix_itself key)))
      (of_le least (length n) (omega arith))))

  pub own_within : (key : Key) (least : ℕ) → is_some (held_at h.own key) ≡ true → least ≤ length key → true ≡
      holds_within h key least
  own_within key least s l =
      let w = there (held_at h.own key) s in
      let v = of_find (λ (d : Held). same_key (key_of d.prefix) key) w.0 h.own w.1 in
      here_within key least w.0.prefix
      (in_left w.0.prefix (map (λ (d : Held). d.prefix) h.own) (map (λ (d : Copy). d.held.prefix) h.copies)
      (in_map (λ (d : Held). d.prefix) w.0 h.own v.0)) ((key_decides (key_of w.0.prefix) key).0 v.1) l

  pub copy_within : (key : Key) (least : ℕ) → is_some (copy_at h key) ≡ true → least ≤ length key → true ≡
      holds_within h key least
  copy_within key least s l =
      let w = there (copy_at h key) s in
      let v = of_find (λ (d : Copy). same_key (key_of d.held.prefix) key) w.0 h.copies w.1 in
      here_within key least w.0.held.prefix
      (in_right w.0.held.prefix (map (λ (d : Held). d.prefix) h.own) (map (λ (d : Copy). d.held.prefix) h.copies)
      (in_map (λ (d : Copy). d.held.prefix) w.0 h.copies v.0)) ((key_decides (key_of w.0.held.prefix) key).0 v.1) l

  module _ (key : Key) (least : ℕ) (no_own : held_at h.own key ≡ None) (no_copy : copy_at h key ≡ None) where
    -- a prefix that is held is shorter
    less : (n : Name) → In n (prefixes h) → IsPrefix (key_of n) key → length (key_of n) < length key
    less n i p =
        elim (less_or_same) [
          | inl l ↦ l
          | inr e ↦ absurd (not_prefix h key no_own no_copy n i
              (same_by_length (key_of n) key key p (prefix_itself key) e))
        ]
      where
        less_or_same : (length (key_of n) < length key) ⊎ (length (key_of n) ≡ length key)
        less_or_same = (let l : length (key_of n) ≤ length key = prefix_length (key_of n) key p in grind arith)

    pub within_above : holds_within h (parent key) least ≡ holds_within h key least
    within_above = both_ways (holds_within h (parent key) least) (holds_within h key least) down up
      where
        down : holds_within h (parent key) least ≡ true → holds_within h key least ≡ true
        down e =
            let w = of_any (on_way (parent key) least) (prefixes h) e in
            let v = both_true (is_prefix (key_of w.0) (parent key)) (nat_le least (length w.0)) w.2 in
            let p : IsPrefix (key_of w.0) key = prefix_chain (key_of w.0) (parent key) key
            ((prefix_decides (key_of w.0) (parent key)).0 v.0) (parent_is_prefix key) in
            any_in (on_way key least) w.0 (prefixes h) w.1
            (and_true (is_prefix (key_of w.0) key) (nat_le least (length w.0))
            ((prefix_decides (key_of w.0) key).1 p) v.1)

        up : holds_within h key least ≡ true → holds_within h (parent key) least ≡ true
        up e =
            let w = of_any (on_way key least) (prefixes h) e in
            let v = both_true (is_prefix (key_of w.0) key) (nat_le least (length w.0)) w.2 in
            let p : IsPrefix (key_of w.0) key = (prefix_decides (key_of w.0) key).0 v.0 in
            any_in (on_way (parent key) least) w.0 (prefixes h) w.1
            (and_true (is_prefix (key_of w.0) (parent key)) (nat_le least (length w.0))
            ((prefix_decides (key_of w.0) (parent key)).1 (prefix_of_parent (key_of w.0) key p (less w.0 w.1 p)))
            v.1)

    pub within_root : length key ≡ 0 → false ≡ holds_within h key least
    within_root n = both_ways false (holds_within h key least) (λ e. cc) (λ e.
        let w = of_any (on_way key least) (prefixes h) e in
        let v = both_true (is_prefix (key_of w.0) key) (nat_le least (length w.0)) w.2 in
        let l : length (key_of w.0) < length key = less w.0 w.1 ((prefix_decides (key_of w.0) key).0 v.0) in
        absurd (omega arith))

-- the key of the name above
keys_taken : (n : ℕ) (name : Name) → key_of (take n name) ≡ take n (key_of name)
keys_taken zero name = refl
keys_taken (suc n) [] = refl
keys_taken (suc n) (r ∷ name) = ap (λ (k : Key). key_of_rdn r ∷ k) (keys_taken n name)

pub upper_key : (name : Name) (n : ℕ) → n ≡ length name - 1 → key_of (take n name) ≡ parent (key_of name)
upper_key name n e =
    keys_taken n name ∙ (let f : n ≡ length (key_of name) - 1 = omega (arith, length-map name key_of_rdn) in ap
    (λ (k : ℕ). take k (key_of name)) f)

-- what is found is there
pub found_some : {A B : Type 0} (view : A → B) (xs : List A) (o : Option B) (found : Option ℕ) → IsPlaceOf view xs o
    found → is_some o ≡ is_some found
found_some {A} {B} view xs o None e = ap (λ (p : Option B). is_some p) e
found_some {A} {B} view xs o (Some n) e = ap (λ (p : Option B). is_some p) e.0 ∙ mapped (slice_get xs n) e.1
  where
    mapped : (p : Option A) → is_some p ≡ true → is_some (option_map view p) ≡ true
    mapped None f = cc
    mapped (Some x) f = refl

pub nothing_found : {B : Type 0} (o : Option B) → is_some o ≡ false → o ≡ None
nothing_found None e = refl
nothing_found (Some x) e = cc
