-- The references for the rest of a list or search, as rows of pins and of NSSRs lead to them, are those of the definition, put in
-- order.
use Rattle.std.proofs.Common.{◌≡◌, ℕ, ◌+◌, ◌<◌, nat_lt, Bool, true, false, cond, not, ◌&&◌, ◌==◌, inl, inr, List, [], ◌∷◌, ◌++◌, length, map, take, refl, sym, ap, subst, ◌∙◌, append-nil, Option, Some, None}
use Rattle.std.proofs.lemmas.Bool.Decides.{Decides-eqb, Decides-ltb}
use Rattle.std.specs.List.{filter, flat_map}
use Rattle.std.specs.List.Sorted.{ties}
use Rattle.std.specs.Option.{is_none, is_some, option_map}
use Rattle.x5_model.specs.Words.{in_option}
use Rattle.x5_model.specs.Members.{In, here, there}
use Rattle.x5_model.specs.Keys.{Key, is_root, same_key, is_prefix, key_below}
use Rattle.x5_model.specs.Values.{Rdn, Name, key_of}
use Rattle.x5_model.specs.Entries.{Named}
use Rattle.x5_model.specs.Requests.{Subset, Base, OneLevel, WholeSubtree}
use Rattle.x5_model.specs.References.{Done, Subordinate, Reference, Chained}
use Rattle.x5_model.proofs.KeyLaws.{key_decides}
use Rattle.x5_model.proofs.Prefixes.{prefix_decides, prefix_itself}
use Rattle.x5_model.proofs.Lists.{both_true, and_true, true_or_false, of_map, in_filter, of_filter, of_find}
use Rattle.x5_model.proofs.Ascending.{in_sorted}
use Rattle.x5_model_tree.specs.World.{Specific, Nssr}
use Rattle.x5_model_tree.specs.Tree.{key_at, entry_at}
use Rattle.x5_model_tree.specs.Ask.{in_subset}
use Rattle.x5_model_run.specs.Holdings.{Held, Holdings, held_at, is_first_level, known_pin, served, usable_agents}
use Rattle.x5_model_run.specs.Needs.{reference, others, in_scope, below_needs, to_each, wide_needs, treated_below, resolves, subset_of, answers_root}
use Rattle.x5_model_theory.proofs.Stages.{key_length}
use Rattle.x5_model_serve.specs.Walking.{left}
use Rattle.x5_model_serve.specs.Answering.{taken_before, walked_needs, rest_of_parts}
use Rattle.x5_merge.proofs.Sorting.{tie}
use Rattle.x5_ops.specs.KnowledgeViews.{nssr_view, specific_view}
use Rattle.x5_ops.specs.declared.knowledge.Nssr as nssr
use Rattle.x5_ops.specs.declared.knowledge.Specific as specific
use Rattle.x5_holdings.specs.Runs.{run_of}
use Rattle.x5_eval.specs.Numbers.{own_place, reaches}
use Rattle.x5_model_heard.specs.Told.{are_agents}
use Rattle.x5_eval.specs.Rest.{AreAlike, AreKnown, at_place, depth_in, entry_needs, places_to, pin_needs, root_needs, wide_to, wide_by, nssr_needs, context_needs, unnamed}
use Rattle.x5_eval.proofs.Adding.{map_twice}
use Rattle.x5_eval.proofs.Classes.{alike_joined}
use Rattle.x5_eval.proofs.Picking.{picked}
use Rattle.x5_eval.proofs.Taking.{taken_weak, below_first}

-- the members of lists that are alike are the same
alike_in : (r : Reference) (rs ts : List Reference) → AreAlike rs ts → In r rs → In r ts
alike_in r rs ts f i =
    (of_filter (ties taken_before r) r ts (subst (λ (l : List Reference). In r l) (f r)
    (in_filter (ties taken_before r) r rs i (tie taken_before taken_weak r r (never r) (never r))))).0
  where
    never : (x : Reference) → taken_before x x ≡ false
    never x = elim (true_or_false (taken_before x x)) [ inl e ↦ taken_weak.one_way x x e | inr e ↦ e ]

-- ---- names that are passed over

key_within : (base k : Key) → same_key base k ≡ true → is_prefix base k ≡ true
key_within base k e =
    let s = (key_decides base k).0 e in
    (prefix_decides base k).1 (subst (λ (x : Key). take (length base) x ≡ base) s (prefix_itself base))

subset_within : (subset : Subset) (base k : Key) → in_subset subset base k ≡ true → is_prefix base k ≡ true
subset_within Base base k e = key_within base k e
subset_within OneLevel base k e = (both_true (length k == (length base + 1)) (is_prefix base k) e).1
subset_within WholeSubtree base k e = e

subset_reached : (subset : Subset) (name : Name) (k : Key) → in_subset subset (key_of name) k ≡ true
    → reaches (key_of name) (depth_in subset (length name)) k ≡ true
subset_reached Base name k e =
    let s = (key_decides (key_of name) k).0 e in
    and_true (is_prefix (key_of name) k) (length k == length name) (key_within (key_of name) k e)
    ((Decides-eqb (length k) (length name)).1 (sym (ap length s) ∙ key_length name))
subset_reached OneLevel name k e =
    let w = both_true (length k == (length (key_of name) + 1)) (is_prefix (key_of name) k) e in
    and_true (is_prefix (key_of name) k) (length k == (length name + 1)) w.1
    (ap (λ (n : ℕ). length k == (n + 1)) (sym (key_length name)) ∙ w.0)
subset_reached WholeSubtree name k e = e

scope_within : (subset : Subset) (base k : Key) → in_scope subset base k ≡ true → is_prefix base k ≡ true
scope_within Base base k e = cc
scope_within OneLevel base k e = key_within base k e
scope_within WholeSubtree base k e = e

-- ---- subordinate references

singles : {A B : Type 0} (g : A → B) (test : A → Bool) (xs : List A) → flat_map (λ x. map g (filter test (x ∷ []))) xs ≡ map g (filter test xs)
singles g test [] = refl
singles {A} {B} g test (x ∷ xs) = by (test x) (singles g test xs)
  where
    by : (b : Bool) → flat_map (λ x. map g (filter test (x ∷ []))) xs ≡ map g (filter test xs)
        → map g (cond b (x ∷ []) []) ++ flat_map (λ x. map g (filter test (x ∷ []))) xs ≡ map g (cond b (x ∷ filter test xs) (filter test xs))
    by true e = ap (λ (l : List B). g x ∷ l) e
    by false e = e

module _ (h : Holdings) (m : Chained) (subset : Subset) where
  abbrev base : Key
  base = key_of m.target

  abbrev is_asked : Specific → Bool
  is_asked k = in_subset subset base (key_of k.pin) && is_none (held_at (served m.request h) (key_of k.pin))

  abbrev asks : Specific → Reference
  asks k = reference k.pin Done Subordinate (usable_agents m.request k.access)

  pin_singles : (ks : List Specific) → flat_map (pin_needs h m subset) ks ≡ below_needs h m subset ks
  pin_singles ks = singles asks is_asked ks

  pin_target : (k : Specific) (r : Reference) → In r (pin_needs h m subset k) → key_of r.target ≡ key_of k.pin
  pin_target k r i =
      let w = of_map asks r (filter is_asked (k ∷ [])) i in
      ap (λ (x : Reference). key_of x.target) w.2 ∙ ap (λ (x : Specific). key_of x.pin) (one (of_filter is_asked w.0 (k ∷ []) w.1).0)
    where
      one : {x : Specific} → In x (k ∷ []) → x ≡ k
      one here = refl
      one (there j) = elim j [ ]

  pin_within : (k : Specific) → in_subset subset base (key_of k.pin) ≡ false → pin_needs h m subset k ≡ []
  pin_within k e = ap (λ (b : Bool). map asks (cond (b && is_none (held_at (served m.request h) (key_of k.pin))) (k ∷ []) [])) e

  targets_apart : {X : Type 0} (key : X → Key) (f : X → List Reference) → ((x : X) (r : Reference) → In r (f x) → key_of r.target ≡ key x)
      → (x y : X) → key_below (key y) (key x) ≡ true → (a b : Reference) → In a (f x) → In b (f y) → taken_before b a ≡ true
  targets_apart key f t x y e a b i j = below_first b a ((λ n. key_below (t y b j n) (t x a i n)) ∙ e)

  no_subset : (depth : Option ℕ) → ((k : Key) → in_subset subset base k ≡ true → reaches base depth k ≡ true)
      → (k : Key) → reaches base depth k ≡ false → in_subset subset base k ≡ false
  no_subset depth f k e = elim (true_or_false (in_subset subset base k)) [
    | inl t ↦ absurd (let u : reaches base depth k ≡ true = f k t in cc)
    | inr t ↦ t
  ]

  pins_alike : (depth : Option ℕ) → ((k : Key) → in_subset subset base k ≡ true → reaches base depth k ≡ true) → (ks : List Specific)
      → AreAlike (flat_map (at_place (pin_needs h m subset) ks) (places_to (map (λ k. key_of k.pin) ks) base depth)) (below_needs h m subset ks)
  pins_alike depth f ks q =
      picked (λ k. key_of k.pin) taken_before taken_weak (pin_needs h m subset) (pin_needs h m subset) base depth
      (λ k e. refl) (λ k e. pin_within k (no_subset depth f (key_of k.pin) e))
      (targets_apart (λ k. key_of k.pin) (pin_needs h m subset) pin_target) ks q
      ∙ ap (λ (l : List Reference). filter (ties taken_before q) l) (pin_singles ks)

  -- those of a context, and of the root
  pub below_alike : (ks : List Specific)
      → AreAlike (flat_map (at_place (pin_needs h m subset) ks) (places_to (map (λ k. key_of k.pin) ks) base (depth_in subset (length m.target)))) (below_needs h m subset ks)
  below_alike ks = pins_alike (depth_in subset (length m.target)) (subset_reached subset m.target) ks

  pub all_alike : (ks : List Specific)
      → AreAlike (flat_map (at_place (pin_needs h m subset) ks) (places_to (map (λ k. key_of k.pin) ks) base None)) (below_needs h m subset ks)
  all_alike ks = pins_alike None (subset_within subset base) ks

  -- ---- NSSRs
  module _ (c : Held) where
    told_none : (n : Nssr) → is_prefix base (key_of n.at) ≡ false → nssr_needs h m subset c n ≡ []
    told_none n e = by (entry_at c.entries (key_of n.at)) refl
      where
        by : (o : Option Named) → entry_at c.entries (key_of n.at) ≡ o → in_option [] (to_each h m subset c n) o ≡ []
        by None q = refl
        by (Some x) q =
            let same : key_at x ≡ key_of n.at = (key_decides (key_at x) (key_of n.at)).0 (of_find (λ (y : Named). same_key (key_at y) (key_of n.at)) x c.entries q).1 in
            let out : in_scope subset base (key_of x.name) ≡ false = elim (true_or_false (in_scope subset base (key_of x.name))) [
              | inl t ↦ absurd (let u : is_prefix base (key_of n.at) ≡ true = ap (is_prefix base) (sym same) ∙ scope_within subset base (key_of x.name) t in cc)
              | inr t ↦ t
            ] in
            ap (λ (b : Bool). cond b (wide_by x.name (treated_below h m c (key_of x.name)) h.me n.agents) []) out

    told_target : (n : Nssr) (r : Reference) → In r (nssr_needs h m subset c n) → key_of r.target ≡ key_of n.at
    told_target n r i = by (entry_at c.entries (key_of n.at)) refl i
      where
        at_entry : (x : Named) (b : Bool) → In r (cond b (wide_by x.name (treated_below h m c (key_of x.name)) h.me n.agents) []) → key_of r.target ≡ key_of x.name
        at_entry x true j =
            let w = of_map (wide_to x.name (treated_below h m c (key_of x.name))) r (others h.me n.agents) j in
            ap (λ (y : Reference). key_of y.target) w.2
        at_entry x false j = elim j [ ]

        by : (o : Option Named) → entry_at c.entries (key_of n.at) ≡ o → In r (in_option [] (to_each h m subset c n) o) → key_of r.target ≡ key_of n.at
        by None q j = elim j [ ]
        by (Some x) q j =
            at_entry x (in_scope subset base (key_of x.name)) j
            ∙ (key_decides (key_at x) (key_of n.at)).0 (of_find (λ (y : Named). same_key (key_at y) (key_of n.at)) x c.entries q).1

    pub wide_alike : AreAlike (flat_map (at_place (nssr_needs h m subset c) c.nssrs) (places_to (map (λ n. key_of n.at) c.nssrs) base None)) (wide_needs h m subset c)
    wide_alike =
        picked (λ n. key_of n.at) taken_before taken_weak (nssr_needs h m subset c) (nssr_needs h m subset c) base None
        (λ n e. refl) told_none (targets_apart (λ n. key_of n.at) (nssr_needs h m subset c) told_target) c.nssrs

    -- whom what is asked by places names, are those whom the needs name
    pub wide_known : (n : ℕ) → AreKnown n (wide_needs h m subset c)
        → AreKnown n (flat_map (at_place (nssr_needs h m subset c) c.nssrs) (places_to (map (λ n. key_of n.at) c.nssrs) base None))
    wide_known n k r i = k r (alike_in r _ _ wide_alike i)

  pub below_known : (n : ℕ) (ks : List Specific) → AreKnown n (below_needs h m subset ks)
      → AreKnown n (flat_map (at_place (pin_needs h m subset) ks) (places_to (map (λ k. key_of k.pin) ks) base (depth_in subset (length m.target))))
  below_known n ks k r i = k r (alike_in r _ _ (below_alike ks) i)

  pub all_known : (n : ℕ) (ks : List Specific) → AreKnown n (below_needs h m subset ks)
      → AreKnown n (flat_map (at_place (pin_needs h m subset) ks) (places_to (map (λ k. key_of k.pin) ks) base None))
  all_known n ks k r i = k r (alike_in r _ _ (all_alike ks) i)

-- ---- what is added to others
pub alike_more : (before new rs ts : List Reference) → new ≡ before ++ rs → AreAlike rs ts → AreAlike new (before ++ ts)
alike_more before new rs ts e f q =
    ap (filter (ties taken_before q)) e
    ∙ alike_joined taken_before taken_weak before before rs ts (λ z. refl) f q

all_rows : {A : Type 0} (xs : List A) → filter (λ x. true) xs ≡ xs
all_rows [] = refl
all_rows {A} (x ∷ xs) = ap (λ (l : List A). x ∷ l) (all_rows xs)

-- the places of all rows at or below a name
pub places_all : (keys : List Key) (base : Key) → map own_place (run_of keys base) ≡ places_to keys base None
places_all keys base = ap (map own_place) (sym (all_rows (run_of keys base)))

-- ---- all contexts

pub unnamed_needs : (h : Holdings) (m : Chained) (subset : Subset) (cs : List Held)
    → flat_map (context_needs h m subset) (map unnamed cs) ≡ flat_map (context_needs h m subset) cs
unnamed_needs h m subset [] = refl
unnamed_needs h m subset (c ∷ cs) = ap (λ (l : List Reference). context_needs h m subset c ++ l) (unnamed_needs h m subset cs)

pub walked_are : (h : Holdings) (m : Chained) (subset : Subset) → Some subset ≡ subset_of m
    → walked_needs h m ≡ root_needs h m subset ++ flat_map (context_needs h m subset) (left h m)
walked_are h m subset e =
    ap (λ (o : Option Subset). in_option [] (λ s. root_needs h m s ++ flat_map (context_needs h m s) (left h m)) o) (sym e)

pub in_rest : (h : Holdings) (m : Chained) (r : Reference) → In r (walked_needs h m) → In r (rest_of_parts h m)
in_rest h m r i = in_sorted taken_before r (walked_needs h m) i

-- ---- the same as the code has it

module _ (h : Holdings) (m : Chained) (subset : Subset) (kept subs : List specific.Specific) (is : subs ≡ kept) (places : List ℕ) where
  abbrev ks : List Specific
  ks = map specific_view kept

  abbrev pins : List Key
  pins = map (λ (k : specific.Specific). key_of k.pin) kept

  pins_are : pins ≡ map (λ (k : Specific). key_of k.pin) ks
  pins_are = sym (map_twice specific_view (λ (k : Specific). key_of k.pin) kept)

  abbrev found : List specific.Specific → List ℕ → List Reference
  found l ns = flat_map (at_place (pin_needs h m subset) (map specific_view l)) ns

  abbrev AreBelow : Type 0
  AreBelow = places ≡ places_to pins (key_of m.target) (depth_in subset (length m.target))

  abbrev AreAll : Type 0
  AreAll = places ≡ map own_place (run_of pins (key_of m.target))

  below_is : AreBelow → found subs places ≡ found kept (places_to (map (λ (k : Specific). key_of k.pin) ks) (key_of m.target) (depth_in subset (length m.target)))
  below_is e =
      ap (λ (l : List specific.Specific). found l places) is
      ∙ ap (found kept) (e ∙ ap (λ (l : List Key). places_to l (key_of m.target) (depth_in subset (length m.target))) pins_are)

  all_is : AreAll → found subs places ≡ found kept (places_to (map (λ (k : Specific). key_of k.pin) ks) (key_of m.target) None)
  all_is e =
      ap (λ (l : List specific.Specific). found l places) is
      ∙ ap (found kept) (e ∙ places_all pins (key_of m.target) ∙ ap (λ (l : List Key). places_to l (key_of m.target) None) pins_are)

  pub below_found : (before new : List Reference) → AreBelow → new ≡ before ++ found subs places → AreAlike new (before ++ below_needs h m subset ks)
  below_found before new e f =
      alike_more before new (found kept (places_to (map (λ (k : Specific). key_of k.pin) ks) (key_of m.target) (depth_in subset (length m.target)))) (below_needs h m subset ks)
      (f ∙ ap (λ (l : List Reference). before ++ l) (below_is e)) (below_alike h m subset ks)

  pub below_there : (n : ℕ) → AreBelow → AreKnown n (below_needs h m subset ks) → AreKnown n (found subs places)
  below_there n e k = subst (λ (l : List Reference). AreKnown n l) (sym (below_is e)) (below_known h m subset n ks k)

  pub all_found : (before new : List Reference) → AreAll → new ≡ before ++ found subs places → AreAlike new (before ++ below_needs h m subset ks)
  all_found before new e f =
      alike_more before new (found kept (places_to (map (λ (k : Specific). key_of k.pin) ks) (key_of m.target) None)) (below_needs h m subset ks)
      (f ∙ ap (λ (l : List Reference). before ++ l) (all_is e)) (all_alike h m subset ks)

  pub all_there : (n : ℕ) → AreAll → AreKnown n (below_needs h m subset ks) → AreKnown n (found subs places)
  all_there n e k = subst (λ (l : List Reference). AreKnown n l) (sym (all_is e)) (all_known h m subset n ks k)

module _ (h : Holdings) (m : Chained) (subset : Subset) (c : Held) (nssrs : List nssr.Nssr) (same : c.nssrs ≡ map nssr_view nssrs) (places : List ℕ)
    (all : places ≡ map own_place (run_of (map (λ (n : nssr.Nssr). key_of n.at) nssrs) (key_of m.target))) where
  abbrev told : List Nssr → List ℕ → List Reference
  told ns ps = flat_map (at_place (nssr_needs h m subset c) ns) ps

  wide_is : told (map nssr_view nssrs) places ≡ told c.nssrs (places_to (map (λ (n : Nssr). key_of n.at) c.nssrs) (key_of m.target) None)
  wide_is =
      ap (told (map nssr_view nssrs)) (all ∙ places_all (map (λ (n : nssr.Nssr). key_of n.at) nssrs) (key_of m.target)
      ∙ ap (λ (l : List Key). places_to l (key_of m.target) None) (sym (map_twice nssr_view (λ (n : Nssr). key_of n.at) nssrs)))
      ∙ ap (λ (ns : List Nssr). told ns (places_to (map (λ (n : Nssr). key_of n.at) ns) (key_of m.target) None)) (sym same)

  pub wide_found : (before new : List Reference) → new ≡ before ++ told (map nssr_view nssrs) places → AreAlike new (before ++ wide_needs h m subset c)
  wide_found before new f =
      alike_more before new (told c.nssrs (places_to (map (λ (n : Nssr). key_of n.at) c.nssrs) (key_of m.target) None)) (wide_needs h m subset c)
      (f ∙ ap (λ (l : List Reference). before ++ l) wide_is) (wide_alike h m subset c)

  pub wide_there : (n : ℕ) → AreKnown n (wide_needs h m subset c) → AreKnown n (told (map nssr_view nssrs) places)
  wide_there n k = subst (λ (l : List Reference). AreKnown n l) (sym wide_is) (wide_known h m subset c n k)

-- ---- the root

pub root_there : (h : Holdings) (m : Chained) (subset : Subset) (n : ℕ) → answers_root h m ≡ true → AreKnown n (root_needs h m subset)
    → AreKnown n (below_needs h m subset h.root)
root_there h m subset n e k = subst (λ (b : Bool). AreKnown n (cond b (below_needs h m subset h.root) [])) e k

pub root_found : (h : Holdings) (m : Chained) (subset : Subset) (before new : List Reference) → answers_root h m ≡ true
    → AreAlike new (before ++ below_needs h m subset h.root) → AreAlike new (before ++ root_needs h m subset)
root_found h m subset before new e f =
    subst (λ (b : Bool). AreAlike new (before ++ cond b (below_needs h m subset h.root) [])) (sym e) f

pub no_root : (h : Holdings) (m : Chained) (subset : Subset) (before : List Reference) → answers_root h m ≡ false
    → AreAlike before (before ++ root_needs h m subset)
no_root h m subset before e q =
    ap (filter (ties taken_before q)) (sym (append-nil before) ∙ ap (λ (b : Bool). before ++ cond b (below_needs h m subset h.root) []) (sym e))

pub root_by : (h : Holdings) (m : Chained) → is_some (subset_of m) ≡ true → is_first_level h ≡ true → is_root (key_of m.target) ≡ true
    → resolves h m ≡ true → is_none (known_pin m.request h (key_of m.target)) ≡ answers_root h m
root_by h m a b c d =
    sym (λ i. a i && (b i && (c i && (d i && is_none (known_pin m.request h (key_of m.target))))))

and_none : (a : Bool) → (a && false) ≡ false
and_none true = refl
and_none false = refl

pub root_unless : (h : Holdings) (m : Chained) → (is_first_level h && is_root (key_of m.target)) ≡ false → answers_root h m ≡ false
root_unless h m e = by (is_some (subset_of m)) (is_first_level h) (is_root (key_of m.target)) (resolves h m && is_none (known_pin m.request h (key_of m.target))) e
  where
    by : (a b c d : Bool) → (b && c) ≡ false → (a && (b && (c && d))) ≡ false
    by false b c d p = refl
    by true false c d p = refl
    by true true false d p = refl
    by true true true d p = cc

pub root_unresolved : (h : Holdings) (m : Chained) → resolves h m ≡ false → answers_root h m ≡ false
root_unresolved h m e =
    ap (λ (r : Bool). is_some (subset_of m) && (is_first_level h && (is_root (key_of m.target) && (r && is_none (known_pin m.request h (key_of m.target)))))) e
    ∙ by (is_some (subset_of m)) (is_first_level h) (is_root (key_of m.target))
  where
    by : (a b c : Bool) → (a && (b && (c && false))) ≡ false
    by false b c = refl
    by true false c = refl
    by true true c = and_none c

-- ---- those of an NSSR

pub each_agent : (name : Name) (exclusions : List Rdn) (me : ℕ) (agents : List ℕ)
    → flat_map (λ a. wide_by name exclusions me (a ∷ [])) agents ≡ wide_by name exclusions me agents
each_agent name exclusions me agents = singles (wide_to name exclusions) (λ a. not (a == me)) agents

pub agent_there : (n : ℕ) (name : Name) (exclusions : List Rdn) (me a : ℕ) → (a == me) ≡ false
    → AreKnown n (wide_by name exclusions me (a ∷ [])) → a < n
agent_there n name exclusions me a e k =
    let named : are_agents n (a ∷ []) ≡ true = k (wide_to name exclusions a)
    (subst (λ (b : Bool). In (wide_to name exclusions a) (map (wide_to name exclusions) (cond (not b) (a ∷ []) []))) (sym e) here) in
    (Decides-ltb a n).0 (both_true (nat_lt a n) true named).0

pub named_is : (h : Holdings) (m : Chained) (subset : Subset) (c : Held) (n : Nssr) (o : Option Name)
    → o ≡ option_map (λ e. e.name) (entry_at c.entries (key_of n.at))
    → nssr_needs h m subset c n ≡ in_option [] (entry_needs h m subset c n.agents) o
named_is h m subset c n o e = by (entry_at c.entries (key_of n.at)) ∙ ap (in_option [] (entry_needs h m subset c n.agents)) (sym e)
  where
    by : (x : Option Named) → in_option [] (to_each h m subset c n) x ≡ in_option [] (entry_needs h m subset c n.agents) (option_map (λ e. e.name) x)
    by None = refl
    by (Some x) = refl

pub out_of_scope : (h : Holdings) (m : Chained) (subset : Subset) (c : Held) (agents : List ℕ) (name : Name)
    → in_scope subset (key_of m.target) (key_of name) ≡ false → entry_needs h m subset c agents name ≡ []
out_of_scope h m subset c agents name e =
    ap (λ (b : Bool). cond b (wide_by name (treated_below h m c (key_of name)) h.me agents) []) e

pub in_its_scope : (h : Holdings) (m : Chained) (subset : Subset) (c : Held) (agents : List ℕ) (name : Name) (exclusions : List Rdn) (me : ℕ)
    → in_scope subset (key_of m.target) (key_of name) ≡ true → exclusions ≡ treated_below h m c (key_of name) → me ≡ h.me
    → entry_needs h m subset c agents name ≡ flat_map (λ a. wide_by name exclusions me (a ∷ [])) agents
in_its_scope h m subset c agents name exclusions me e f g =
    ap (λ (b : Bool). cond b (wide_by name (treated_below h m c (key_of name)) h.me agents) []) e
    ∙ sym (λ i. wide_by name (f i) (g i) agents)
    ∙ sym (each_agent name exclusions me agents)

-- the agents of a pin that is due
pub pin_there : (n : ℕ) (h : Holdings) (m : Chained) (subset : Subset) (k : Specific)
    → (in_subset subset (key_of m.target) (key_of k.pin) && is_none (held_at (served m.request h) (key_of k.pin))) ≡ true
    → AreKnown n (pin_needs h m subset k) → are_agents n (usable_agents m.request k.access) ≡ true
pin_there n h m subset k e known =
    known (asks h m subset k)
    (subst (λ (b : Bool). In (asks h m subset k) (map (asks h m subset) (cond b (k ∷ []) []))) (sym e) here)
