-- Whether a known pin stands at or below a name: it does where the range of one of the tables has a row.
use Rattle.std.proofs.Common.{◌≡◌, ℕ, ◌+◌, Bool, true, false, not, ◌||◌, ◌==◌, inl, inr, List, [], ◌∷◌, ◌++◌, map, length, refl, sym, ap, subst, ◌∙◌, arith, if◌then◌else◌}
use Rattle.std.proofs.lemmas.List.{map-append}
use Rattle.std.proofs.lemmas.List.Folds.{list_any-append}
use Rattle.std.specs.List.{filter, flat_map, list_any, enumerate_from}
use Rattle.std.specs.Option.{is_some}
use Rattle.x5_model.specs.Members.{In, here, there}
use Rattle.x5_model.specs.Keys.{Key, is_prefix}
use Rattle.x5_model.specs.Values.{Name, key_of}
use Rattle.x5_model.specs.Requests.{Request}
use Rattle.x5_model.proofs.Lists.{true_or_false, in_first, in_filter, of_filter, any_in, of_any}
use Rattle.x5_model.proofs.Ascending.{in_sorted, of_sorted}
use Rattle.x5_model_tree.specs.World as world
use Rattle.x5_model_run.specs.Holdings as model
use Rattle.x5_ops.specs.KnowledgeViews.{specific_view, cross_view}
use Rattle.x5_holdings.specs.Rows.{KeyRow, numbered, row_below, rows_of}
use Rattle.x5_holdings.specs.Runs.{run_of, stands_under}
use Rattle.x5_holdings.specs.Spots.{joined, pins_in}
use Rattle.x5_holdings.specs.State.{Kept, CopyKept, State, held_view, copy_view, holdings_view}
use Rattle.x5_holdings.specs.Tables.{below_own}
use Rattle.x5_holdings.proofs.Finding.{own_references}

-- ---- rows and keys

abbrev turned : ℕ × Key → KeyRow
turned p = (p.1, p.0)

row_of : (n : ℕ) (keys : List Key) (k : Key) → In k keys → (i : ℕ) × In (k, i) (map turned (enumerate_from n keys))
row_of n [] k i = elim i [ ]
row_of n (x ∷ keys) k i = elim (in_first k x keys i) [
  | inl e ↦ (n, subst (λ (y : Key). In (k, n) ((y, n) ∷ map turned (enumerate_from (n + 1) keys))) e here)
  | inr j ↦ (let w = row_of (n + 1) keys k j in (w.0, there w.1))
]

key_in : (n : ℕ) (keys : List Key) (r : KeyRow) → In r (map turned (enumerate_from n keys)) → In r.0 keys
key_in n [] r i = elim i [ ]
key_in n (x ∷ keys) r i = elim (in_first r (x, n) (map turned (enumerate_from (n + 1) keys)) i) [
  | inl e ↦ subst (λ (y : Key). In y (x ∷ keys)) (sym (ap (λ (q : KeyRow). q.0) e)) here
  | inr j ↦ there (key_in (n + 1) keys r j)
]

module _ (keys : List Key) (at : Key) where
  by_run : (rows : List KeyRow) → filter (stands_under at) (rows_of keys) ≡ rows → list_any (is_prefix at) keys ≡ not (length rows == 0)
  by_run [] e =
      elim (true_or_false (list_any (is_prefix at) keys)) [
        | inr f ↦ f
        | inl t ↦ absurd (
            let w = of_any (is_prefix at) keys t in
            let r = row_of 0 keys w.0 w.1 in
            let i : In (w.0, r.0) (filter (stands_under at) (rows_of keys)) =
            in_filter (stands_under at) (w.0, r.0) (rows_of keys) (in_sorted row_below (w.0, r.0) (numbered keys) r.1) w.2 in
            elim (subst (λ (rs : List KeyRow). In (w.0, r.0) rs) e i) [ ])
      ]
  by_run (r ∷ rows) e =
      let i : In r (filter (stands_under at) (rows_of keys)) = subst (λ (rs : List KeyRow). In r rs) (sym e) here in
      let w = of_filter (stands_under at) r (rows_of keys) i in
      any_in (is_prefix at) r.0 keys (key_in 0 keys r (of_sorted row_below r (numbered keys) w.0)) w.1
      ∙ sym (ap not (let z : (length (r ∷ rows) == 0) ≡ false = grind arith in z))

  pub some_under : (rows : List KeyRow) → rows ≡ run_of keys at → list_any (is_prefix at) keys ≡ not (length rows == 0)
  some_under rows e = by_run rows (sym e)

-- ---- all that is known

any_map : {A B : Type 0} (test : B → Bool) (f : A → B) (xs : List A) → list_any test (map f xs) ≡ list_any (λ x. test (f x)) xs
any_map test f [] = refl
any_map test f (x ∷ xs) = ap (λ (b : Bool). test (f x) || b) (any_map test f xs)

module _ (s : State) (at : Key) (r : Request) where
  abbrev is_under : Name → Bool
  is_under n = is_prefix at (key_of n)

  abbrev pins : List world.Specific → List Name
  pins ks = map (λ (k : world.Specific). k.pin) ks

  own_prefixes : list_any is_under (map (λ (c : model.Held). c.prefix) (map held_view s.own))
      ≡ list_any (is_prefix at) (map (λ (c : Kept). key_of c.prefix) s.own)
  own_prefixes =
      any_map is_under (λ (c : model.Held). c.prefix) (map held_view s.own)
      ∙ any_map (λ (c : model.Held). is_under c.prefix) held_view s.own
      ∙ sym (any_map (is_prefix at) (λ (c : Kept). key_of c.prefix) s.own)

  copy_prefixes : list_any is_under (map (λ (c : model.Copy). c.held.prefix) (map copy_view s.copies))
      ≡ list_any (is_prefix at) (map (λ (c : CopyKept). key_of c.prefix) s.copies)
  copy_prefixes =
      any_map is_under (λ (c : model.Copy). c.held.prefix) (map copy_view s.copies)
      ∙ any_map (λ (c : model.Copy). is_under c.held.prefix) copy_view s.copies
      ∙ sym (any_map (is_prefix at) (λ (c : CopyKept). key_of c.prefix) s.copies)

  own_pins : list_any is_under (pins (flat_map (λ (c : model.Held). c.subordinate) (map held_view s.own)))
      ≡ list_any (is_prefix at) (pins_in (below_own s))
  own_pins =
      ap (λ (ks : List world.Specific). list_any is_under (pins ks)) (own_references s.own)
      ∙ any_map is_under (λ (k : world.Specific). k.pin) (map specific_view (joined (below_own s)))
      ∙ any_map (λ (k : world.Specific). is_under k.pin) specific_view (joined (below_own s))
      ∙ sym (any_map (is_prefix at) (λ k. key_of k.pin) (joined (below_own s)))

  root_pins : list_any is_under (pins (map specific_view s.root)) ≡ list_any (is_prefix at) (map (λ k. key_of k.pin) s.root)
  root_pins =
      any_map is_under (λ (k : world.Specific). k.pin) (map specific_view s.root)
      ∙ any_map (λ (k : world.Specific). is_under k.pin) specific_view s.root
      ∙ sym (any_map (is_prefix at) (λ k. key_of k.pin) s.root)

  cross_pins : list_any is_under (pins (map cross_view s.cross)) ≡ list_any (is_prefix at) (map (λ k. key_of k.pin) s.cross)
  cross_pins =
      any_map is_under (λ (k : world.Specific). k.pin) (map cross_view s.cross)
      ∙ any_map (λ (k : world.Specific). is_under k.pin) cross_view s.cross
      ∙ sym (any_map (is_prefix at) (λ k. key_of k.pin) s.cross)

  abbrev subordinates_if : Bool → List world.Specific
  subordinates_if b =
      flat_map (λ (c : model.Held). c.subordinate) (map held_view s.own)
      ++ flat_map (λ (c : model.Held). c.subordinate)
      (if b then map (λ (c : model.Copy). c.held) (filter (λ (c : model.Copy). is_some c.stamp) (map copy_view s.copies)) else [])
      ++ map specific_view s.root

  abbrev O : List world.Specific
  O = flat_map (λ (c : model.Held). c.subordinate) (map held_view s.own)

  without : list_any is_under (pins (subordinates_if false)) ≡ (list_any is_under (pins O) || list_any is_under (pins (map specific_view s.root)))
  without =
      ap (list_any is_under) (map-append (λ (k : world.Specific). k.pin) (O ++ []) (map specific_view s.root))
      ∙ list_any-append is_under (pins (O ++ [])) (pins (map specific_view s.root))
      ∙ ap (λ (b : Bool). b || list_any is_under (pins (map specific_view s.root)))
      (ap (list_any is_under) (map-append (λ (k : world.Specific). k.pin) O []) ∙ list_any-append is_under (pins O) [] ∙ or_false (list_any is_under (pins O)))
    where
      or_false : (b : Bool) → (b || false) ≡ b
      or_false true = refl
      or_false false = refl

  pub known_under : model.may_copy r ≡ false → (a b c d e : Bool)
      → a ≡ list_any (is_prefix at) (map (λ (c : Kept). key_of c.prefix) s.own)
      → b ≡ list_any (is_prefix at) (map (λ (c : CopyKept). key_of c.prefix) s.copies)
      → c ≡ list_any (is_prefix at) (pins_in (below_own s))
      → d ≡ list_any (is_prefix at) (map (λ k. key_of k.pin) s.root)
      → e ≡ list_any (is_prefix at) (map (λ k. key_of k.pin) s.cross)
      → (a || (b || (c || (d || e)))) ≡ list_any (is_prefix at) (map key_of (model.known_pins r (holdings_view s)))
  known_under may a b c d e p q t u v =
      split a b c d e
      ∙ (λ i. (((p ∙ sym own_prefixes) i || (q ∙ sym copy_prefixes) i) || ((t ∙ sym own_pins) i || (u ∙ sym root_pins) i)) || (v ∙ sym cross_pins) i)
      ∙ sym (ap (λ (x : Bool). (x || (list_any is_under (pins O) || list_any is_under (pins (map specific_view s.root)))) || list_any is_under (pins (map cross_view s.cross)))
      (list_any-append is_under prefixes_own prefixes_copies))
      ∙ sym (ap (λ (x : Bool). (list_any is_under (prefixes_own ++ prefixes_copies) || x) || list_any is_under (pins (map cross_view s.cross)))
      (ap (λ (x : Bool). list_any is_under (pins (subordinates_if x))) may ∙ without))
      ∙ sym (ap (λ (x : Bool). x || list_any is_under (pins (map cross_view s.cross)))
      (list_any-append is_under (prefixes_own ++ prefixes_copies) (pins (model.subordinates r (holdings_view s)))))
      ∙ sym (list_any-append is_under ((prefixes_own ++ prefixes_copies) ++ pins (model.subordinates r (holdings_view s))) (pins (map cross_view s.cross)))
      ∙ sym (any_map (is_prefix at) key_of (model.known_pins r (holdings_view s)))
    where
      prefixes_own : List Name
      prefixes_own = map (λ (c : model.Held). c.prefix) (map held_view s.own)

      prefixes_copies : List Name
      prefixes_copies = map (λ (c : model.Copy). c.held.prefix) (map copy_view s.copies)

      split : (a b c d e : Bool) → (a || (b || (c || (d || e)))) ≡ (((a || b) || (c || d)) || e)
      split true b c d e = refl
      split false true c d e = refl
      split false false true d e = refl
      split false false false d e = refl
