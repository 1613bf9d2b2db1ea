-- The last RDNs of pins just below an entry, as rows of pins lead to them, are those of the definition, put in order.
use Rattle.std.proofs.Common.{◌≡◌, ℕ, ◌+◌, Bool, true, false, cond, not, ◌&&◌, ◌==◌, inl, inr, List, [], ◌∷◌, ◌++◌, length, map, take, refl, sym, ap, ◌∙◌, arith, Option, Some}
use Rattle.std.proofs.lemmas.Bool.Decides.{Decides-eqb}
use Rattle.std.proofs.lemmas.List.{map-append}
use Rattle.std.specs.Cmp.{tied_itself}
use Rattle.std.specs.List.{filter, flat_map}
use Rattle.std.specs.List.Sorted.{ties}
use Rattle.std.specs.Option.{is_some}
use Rattle.std.specs.Ordering.{is_lt, ordering_then}
use Rattle.std.specs.declared.cmp.Ordering.{Ordering}
use Rattle.std.specs.declared.cmp.Ordering.TheVariants.{Less, Equal, Greater}
use Rattle.x5_model.specs.Members.{In}
use Rattle.x5_model.specs.Keys.{Key, KeyRdn, is_prefix, is_child, rdn_cmp, key_cmp, key_below}
use Rattle.x5_model.specs.Values.{Rdn, Name, key_of, key_of_rdn, last_rdn}
use Rattle.x5_model.specs.Requests.{Request}
use Rattle.x5_model.proofs.KeyLaws.{key_decides, rdn_cmp_total}
use Rattle.x5_model.proofs.Lists.{both_true, in_first}
use Rattle.x5_model_tree.specs.World.{Specific}
use Rattle.x5_model_run.specs.Holdings.{Held, Copy, Holdings, masters_pin, may_copy, usable_copies}
use Rattle.x5_model_run.specs.Needs.{rdn_below}
use Rattle.x5_model_theory.proofs.Stages.{key_length}
use Rattle.x5_ops.specs.KnowledgeViews.{specific_view}
use Rattle.x5_ops.specs.declared.knowledge.Specific as code
use Rattle.x5_holdings.specs.Runs.{run_of, long_places}
use Rattle.x5_holdings.specs.State.{Kept, CopyKept, State, held_view, copy_view, holdings_view}
use Rattle.x5_eval.specs.Numbers.{counts, reaches}
use Rattle.x5_eval.specs.Rest.{at_place, places_to, last_in, own_last, copy_last, pin_last, treated_pins}
use Rattle.x5_eval.proofs.Adding.{map_twice}
use Rattle.x5_eval.proofs.Classes.{AreAlike, alike_joined}
use Rattle.x5_eval.proofs.Excluding.{rdn_weak}
use Rattle.x5_eval.proofs.Gathering.{filter_joined}
use Rattle.x5_eval.proofs.Picking.{picked}

-- ---- names just below one are in the order of their last RDNs

same_order : (a b z : KeyRdn) (rest : Ordering) → a ≡ z → b ≡ z → ordering_then (rdn_cmp a b) rest ≡ rest
same_order a b z rest e f =
    (λ i. ordering_then (rdn_cmp (e i) (f i)) rest) ∙ ap (λ (o : Ordering). ordering_then o rest) (tied_itself rdn_cmp_total z)

order_alone : (o : Ordering) → is_lt (ordering_then o Equal) ≡ is_lt o
order_alone Less = refl
order_alone Equal = refl
order_alone Greater = refl

heads : (a z : KeyRdn) (k l : Key) → a ∷ k ≡ z ∷ l → a ≡ z
heads a z k l e = cc

tails_of : (a z : KeyRdn) (k l : Key) → a ∷ k ≡ z ∷ l → k ≡ l
tails_of a z k l e = cc

last_order : (at : Key) (n o : Name) → length (key_of n) ≡ length at + 1 → take (length at) (key_of n) ≡ at
    → length (key_of o) ≡ length at + 1 → take (length at) (key_of o) ≡ at
    → key_below (key_of o) (key_of n) ≡ rdn_below (last_rdn o) (last_rdn n)
last_order at [] o l p k q = absurd (omega (arith, l))
last_order at (x ∷ n) [] l p k q = absurd (omega (arith, k))
last_order [] (x ∷ []) (y ∷ []) l p k q = order_alone (rdn_cmp (key_of_rdn y) (key_of_rdn x))
last_order [] (x ∷ []) (y ∷ z ∷ o) l p k q = absurd (omega (arith, k))
last_order [] (x ∷ w ∷ n) (y ∷ o) l p k q = absurd (omega (arith, l))
last_order (z ∷ at) (x ∷ []) (y ∷ o) l p k q = absurd (omega (arith, l))
last_order (z ∷ at) (x ∷ w ∷ n) (y ∷ []) l p k q = absurd (omega (arith, k))
last_order (z ∷ at) (x ∷ w ∷ n) (y ∷ v ∷ o) l p k q =
    ap is_lt (same_order (key_of_rdn y) (key_of_rdn x) z (key_cmp (key_of (v ∷ o)) (key_of (w ∷ n)))
    (heads (key_of_rdn y) z (take (length at) (key_of (v ∷ o))) at q) (heads (key_of_rdn x) z (take (length at) (key_of (w ∷ n))) at p))
    ∙ last_order at (w ∷ n) (v ∷ o) (omega (arith, l)) (tails_of (key_of_rdn x) z (take (length at) (key_of (w ∷ n))) at p)
    (omega (arith, k)) (tails_of (key_of_rdn y) z (take (length at) (key_of (v ∷ o))) at q)

swapped : (a b : Bool) → (a && b) ≡ (b && a)
swapped true true = refl
swapped true false = refl
swapped false true = refl
swapped false false = refl

module _ (at : Name) where
  abbrev base : Key
  base = key_of at

  abbrev depth : Option ℕ
  depth = Some (length at + 1)

  below_reached : (k : Key) → reaches base depth k ≡ is_child base k
  below_reached k =
      ap (λ (n : ℕ). is_prefix base k && (length k == (n + 1))) (sym (key_length at))
      ∙ swapped (is_prefix base k) (length k == (length base + 1))

  children_order : (n o : Name) → is_child base (key_of n) ≡ true → is_child base (key_of o) ≡ true
      → key_below (key_of o) (key_of n) ≡ rdn_below (last_rdn o) (last_rdn n)
  children_order n o e f =
      let v = both_true (length (key_of n) == (length base + 1)) (is_prefix base (key_of n)) e in
      let w = both_true (length (key_of o) == (length base + 1)) (is_prefix base (key_of o)) f in
      last_order base n o
      ((Decides-eqb (length (key_of n)) (length base + 1)).0 v.0) ((key_decides (take (length base) (key_of n)) base).0 v.1)
      ((Decides-eqb (length (key_of o)) (length base + 1)).0 w.0) ((key_decides (take (length base) (key_of o)) base).0 w.1)

  -- ---- members that have names, of which some count
  module _ {B : Type 0} (p : B → Name) (t : B → Bool) where
    abbrev lasts : B → List Rdn
    lasts x = cond (t x) (last_in (p x)) []

    abbrev below : B → List Rdn
    below x = cond (is_child base (key_of (p x))) (lasts x) []

    of_lasts : (x : B) (a : Rdn) → In a (lasts x) → a ≡ last_rdn (p x)
    of_lasts x a i = by (t x) (p x) i
      where
        by : (b : Bool) (n : Name) → In a (cond b (last_in n) []) → a ≡ last_rdn n
        by true [] j = elim j [ ]
        by true (r ∷ rs) j = elim (in_first a (last_rdn (r ∷ rs)) [] j) [ inl e ↦ e | inr k ↦ elim k [ ] ]
        by false n j = elim j [ ]

    of_below : (x : B) (a : Rdn) → In a (below x) → (is_child base (key_of (p x)) ≡ true) × (a ≡ last_rdn (p x))
    of_below x a i = by (is_child base (key_of (p x))) refl i
      where
        by : (b : Bool) → is_child base (key_of (p x)) ≡ b → In a (cond b (lasts x) []) → (is_child base (key_of (p x)) ≡ true) × (a ≡ last_rdn (p x))
        by true e j = (e, of_lasts x a j)
        by false e j = elim j [ ]

    apart : (x y : B) → key_below (key_of (p y)) (key_of (p x)) ≡ true → (a b : Rdn) → In a (below x) → In b (below y) → rdn_below b a ≡ true
    apart x y e a b i j =
        let v = of_below x a i in
        let w = of_below y b j in
        (λ n. rdn_below (w.1 n) (v.1 n)) ∙ sym (children_order (p x) (p y) v.0 w.0) ∙ e

    pub lasts_alike : (xs : List B)
        → AreAlike rdn_below rdn_weak (flat_map (at_place lasts xs) (places_to (map (λ x. key_of (p x)) xs) base depth)) (flat_map below xs)
    lasts_alike xs =
        picked (λ x. key_of (p x)) rdn_below rdn_weak lasts below base depth
        (λ x e. sym (ap (λ (b : Bool). cond b (lasts x) []) (sym (below_reached (key_of (p x))) ∙ e)))
        (λ x e. ap (λ (b : Bool). cond b (lasts x) []) (sym (below_reached (key_of (p x))) ∙ e))
        apart xs

    abbrev counting : List B → List Name
    counting xs = map p (filter t xs)

    -- those of the members that count are what the definition takes
    pub lasts_are : (xs : List B) → flat_map below xs ≡ map last_rdn (filter (λ n. is_child base (key_of n)) (map p (filter t xs)))
    lasts_are [] = refl
    lasts_are (x ∷ xs) = by (t x) (is_child base (key_of (p x))) refl (lasts_are xs)
      where
        named : (n : Name) → is_child base (key_of n) ≡ true → last_in n ≡ last_rdn n ∷ []
        named [] e = absurd (let w : 0 ≡ length base + 1 = (Decides-eqb 0 (length base + 1)).0 (both_true (0 == (length base + 1)) (is_prefix base []) e).0 in omega (arith, w))
        named (r ∷ rs) e = refl

        by : (b c : Bool) → is_child base (key_of (p x)) ≡ c → flat_map below xs ≡ map last_rdn (filter (λ n. is_child base (key_of n)) (counting xs))
            → cond c (cond b (last_in (p x)) []) [] ++ flat_map below xs ≡ map last_rdn (filter (λ n. is_child base (key_of n)) (map p (cond b (x ∷ filter t xs) (filter t xs))))
        by true true e q =
            (λ i. named (p x) e i ++ q i)
            ∙ sym (ap (λ (c : Bool). map last_rdn (cond c (p x ∷ filter (λ n. is_child base (key_of n)) (counting xs)) (filter (λ n. is_child base (key_of n)) (counting xs)))) e)
        by true false e q =
            q ∙ sym (ap (λ (c : Bool). map last_rdn (cond c (p x ∷ filter (λ n. is_child base (key_of n)) (counting xs)) (filter (λ n. is_child base (key_of n)) (counting xs)))) e)
        by false true e q = q
        by false false e q = q

all_left : {A : Type 0} (xs : List A) → filter (λ x. true) xs ≡ xs
all_left [] = refl
all_left {A} (x ∷ xs) = ap (λ (l : List A). x ∷ l) (all_left xs)

-- copies that count are those of contexts that aren't mastered, among those that may be used
module _ (r : Request) (h : Holdings) where
  abbrev alone : Held → Bool
  alone c = not (masters_pin h (key_of c.prefix))

  abbrev stamped : List Copy → List Held
  stamped ks = map (λ k. k.held) (filter (λ k. is_some k.stamp) ks)

  counted : (ks : List Copy) (b : Bool) → may_copy r ≡ b
      → map (λ k. k.held.prefix) (filter (counts r h) ks)
      ≡ map (λ c. c.prefix) (filter alone (cond b (map (λ k. k.held) (filter (λ k. is_some k.stamp) ks)) []))
  counted [] true e = refl
  counted [] false e = refl
  counted (k ∷ ks) false e =
      ap (λ (b : Bool). map (λ k. k.held.prefix) (cond (b && (is_some k.stamp && alone k.held)) (k ∷ filter (counts r h) ks) (filter (counts r h) ks))) e
      ∙ counted ks false e
  counted (k ∷ ks) true e =
      ap (λ (b : Bool). map (λ k. k.held.prefix) (cond (b && (is_some k.stamp && alone k.held)) (k ∷ filter (counts r h) ks) (filter (counts r h) ks))) e
      ∙ by (is_some k.stamp) (alone k.held) refl (counted ks true e)
    where
      by : (a b : Bool) → alone k.held ≡ b
          → map (λ k. k.held.prefix) (filter (counts r h) ks) ≡ map (λ c. c.prefix) (filter alone (stamped ks))
          → map (λ k. k.held.prefix) (cond (a && b) (k ∷ filter (counts r h) ks) (filter (counts r h) ks))
          ≡ map (λ c. c.prefix) (filter alone (map (λ k. k.held) (cond a (k ∷ filter (λ k. is_some k.stamp) ks) (filter (λ k. is_some k.stamp) ks))))
      by false b p q = q
      by true true p q =
          ap (λ (l : List Name). k.held.prefix ∷ l) q
          ∙ sym (ap (λ (z : Bool). map (λ c. c.prefix) (cond z (k.held ∷ filter alone (stamped ks)) (filter alone (stamped ks)))) p)
      by true false p q = q ∙ sym (ap (λ (z : Bool). map (λ c. c.prefix) (cond z (k.held ∷ filter alone (stamped ks)) (filter alone (stamped ks)))) p)

  -- all that the agent answers itself or asks for by these references
  module _ (ks : List Specific) (at : Name) where
    abbrev child : Name → Bool
    child n = is_child (key_of at) (key_of n)

    abbrev copied : List Held
    copied = filter alone (usable_copies r h)

    pub treated_are : map last_rdn (treated_pins r h ks (key_of at))
        ≡ (flat_map (below at (λ (c : Held). c.prefix) (λ c. true)) h.own
        ++ flat_map (below at (λ (k : Copy). k.held.prefix) (counts r h)) h.copies)
        ++ flat_map (below at (λ (k : Specific). k.pin) (λ k. true)) ks
    treated_are =
        ap (map last_rdn) (
        ap (filter child) (ap (λ (l : List Name). l ++ map (λ k. k.pin) ks) (map-append (λ (c : Held). c.prefix) h.own copied))
        ∙ filter_joined child (map (λ c. c.prefix) h.own ++ map (λ c. c.prefix) copied) (map (λ k. k.pin) ks)
        ∙ ap (λ (l : List Name). l ++ filter child (map (λ k. k.pin) ks)) (filter_joined child (map (λ c. c.prefix) h.own) (map (λ c. c.prefix) copied)))
        ∙ map-append last_rdn (filter child (map (λ c. c.prefix) h.own) ++ filter child (map (λ c. c.prefix) copied)) (filter child (map (λ k. k.pin) ks))
        ∙ (λ i. map-append last_rdn (filter child (map (λ c. c.prefix) h.own)) (filter child (map (λ c. c.prefix) copied)) i ++ map last_rdn (filter child (map (λ k. k.pin) ks)))
        ∙ (λ i. (own_part i ++ copy_part i) ++ pin_part i)
      where
        own_part : map last_rdn (filter child (map (λ c. c.prefix) h.own)) ≡ flat_map (below at (λ (c : Held). c.prefix) (λ c. true)) h.own
        own_part =
            ap (λ (l : List Held). map last_rdn (filter child (map (λ c. c.prefix) l))) (sym (all_left h.own))
            ∙ sym (lasts_are at (λ (c : Held). c.prefix) (λ c. true) h.own)

        copy_part : map last_rdn (filter child (map (λ c. c.prefix) copied)) ≡ flat_map (below at (λ (k : Copy). k.held.prefix) (counts r h)) h.copies
        copy_part =
            ap (λ (l : List Name). map last_rdn (filter child l)) (sym (counted h.copies (may_copy r) refl))
            ∙ sym (lasts_are at (λ (k : Copy). k.held.prefix) (counts r h) h.copies)

        pin_part : map last_rdn (filter child (map (λ k. k.pin) ks)) ≡ flat_map (below at (λ (k : Specific). k.pin) (λ k. true)) ks
        pin_part =
            ap (λ (l : List Specific). map last_rdn (filter child (map (λ k. k.pin) l))) (sym (all_left ks))
            ∙ sym (lasts_are at (λ (k : Specific). k.pin) (λ k. true) ks)

    abbrev own_keys : List Key
    own_keys = map (λ c. key_of c.prefix) h.own

    abbrev copy_keys : List Key
    copy_keys = map (λ k. key_of k.held.prefix) h.copies

    abbrev pin_keys : List Key
    pin_keys = map (λ k. key_of k.pin) ks

    pub treated_alike : (rdns : List Rdn)
        → rdns ≡ (flat_map (at_place own_last h.own) (places_to own_keys (key_of at) (Some (length at + 1)))
        ++ flat_map (at_place (copy_last r h) h.copies) (places_to copy_keys (key_of at) (Some (length at + 1))))
        ++ flat_map (at_place pin_last ks) (places_to pin_keys (key_of at) (Some (length at + 1)))
        → AreAlike rdn_below rdn_weak rdns (map last_rdn (treated_pins r h ks (key_of at)))
    treated_alike rdns e q =
        ap (filter (ties rdn_below q)) e
        ∙ alike_joined rdn_below rdn_weak
        (flat_map (at_place own_last h.own) (places_to own_keys (key_of at) (Some (length at + 1))) ++ flat_map (at_place (copy_last r h) h.copies) (places_to copy_keys (key_of at) (Some (length at + 1))))
        (flat_map (below at (λ (c : Held). c.prefix) (λ c. true)) h.own ++ flat_map (below at (λ (k : Copy). k.held.prefix) (counts r h)) h.copies)
        (flat_map (at_place pin_last ks) (places_to pin_keys (key_of at) (Some (length at + 1))))
        (flat_map (below at (λ (k : Specific). k.pin) (λ k. true)) ks)
        (alike_joined rdn_below rdn_weak
        (flat_map (at_place own_last h.own) (places_to own_keys (key_of at) (Some (length at + 1))))
        (flat_map (below at (λ (c : Held). c.prefix) (λ c. true)) h.own)
        (flat_map (at_place (copy_last r h) h.copies) (places_to copy_keys (key_of at) (Some (length at + 1))))
        (flat_map (below at (λ (k : Copy). k.held.prefix) (counts r h)) h.copies)
        (lasts_alike at (λ (c : Held). c.prefix) (λ c. true) h.own)
        (lasts_alike at (λ (k : Copy). k.held.prefix) (counts r h) h.copies))
        (lasts_alike at (λ (k : Specific). k.pin) (λ k. true) ks) q
        ∙ ap (filter (ties rdn_below q)) (sym treated_are)

-- the same as the code has it: the places that three tables give, one list added behind the other
module _ (s : State) (r : Request) (subs : List code.Specific) (at : Name) where
  abbrev h : Holdings
  h = holdings_view s

  abbrev ks : List Specific
  ks = map specific_view subs

  abbrev deep : List Key → List ℕ
  deep keys = long_places (length at + 1) (run_of keys (key_of at))

  own_keys_are : map (λ (c : Kept). key_of c.prefix) s.own ≡ map (λ (c : Held). key_of c.prefix) h.own
  own_keys_are = sym (map_twice held_view (λ (c : Held). key_of c.prefix) s.own)

  copy_keys_are : map (λ (c : CopyKept). key_of c.prefix) s.copies ≡ map (λ (k : Copy). key_of k.held.prefix) h.copies
  copy_keys_are = sym (map_twice copy_view (λ (k : Copy). key_of k.held.prefix) s.copies)

  pin_keys_are : map (λ (k : code.Specific). key_of k.pin) subs ≡ map (λ (k : Specific). key_of k.pin) ks
  pin_keys_are = sym (map_twice specific_view (λ (k : Specific). key_of k.pin) subs)

  pub treated_by : (own copies pins : List ℕ) (r0 r1 r2 r3 : List Rdn)
      → own ≡ deep (map (λ (c : Kept). key_of c.prefix) s.own)
      → copies ≡ deep (map (λ (c : CopyKept). key_of c.prefix) s.copies)
      → pins ≡ deep (map (λ (k : code.Specific). key_of k.pin) subs)
      → r0 ≡ [] → r1 ≡ r0 ++ flat_map (at_place own_last h.own) own
      → r2 ≡ r1 ++ flat_map (at_place (copy_last r h) h.copies) copies
      → r3 ≡ r2 ++ flat_map (at_place pin_last ks) pins
      → AreAlike rdn_below rdn_weak r3 (map last_rdn (treated_pins r h ks (key_of at)))
  treated_by own copies pins r0 r1 r2 r3 o c p e0 e1 e2 e3 =
      treated_alike r h ks at r3 (
      e3
      ∙ ap (λ (l : List Rdn). l ++ flat_map (at_place pin_last ks) pins) (
      e2 ∙ ap (λ (l : List Rdn). l ++ flat_map (at_place (copy_last r h) h.copies) copies) (
      e1 ∙ ap (λ (l : List Rdn). l ++ flat_map (at_place own_last h.own) own) e0))
      ∙ (λ i. (flat_map (at_place own_last h.own) ((o ∙ ap deep own_keys_are) i)
      ++ flat_map (at_place (copy_last r h) h.copies) ((c ∙ ap deep copy_keys_are) i))
      ++ flat_map (at_place pin_last ks) ((p ∙ ap deep pin_keys_are) i)))
