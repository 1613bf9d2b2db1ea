-- What a search by halves finds among rows in order: rows of lesser keys stand before a place and no others, so the
-- first row
-- of a key, which has its first place, stands there or nowhere.
use Rattle.std.proofs.Common.{◌≡◌, ℕ, zero, suc, ◌<◌, ◌≤◌, true, false, ◌==◌, ◌⊎◌, inl, inr, List, [], ◌∷◌, length}
use Rattle.std.proofs.Common.{get_or, Option, Some, None, Bor, refl, sym, ap, subst, ◌∙◌, arith}
use Rattle.std.specs.List.{list_any}
use Rattle.std.specs.List.Sorted.{IsSorted, IsPartitionedBy, IsPartitionPoint}
use Rattle.std.specs.Slice.{IsItemAt}
use Rattle.std.specs.declared.cmp.Ordering.{Ordering}
use Rattle.std.specs.declared.cmp.Ordering.TheVariants.{Less, Equal, Greater}
use Rattle.std.specs.Ordering.{is_lt, is_eq, ordering_then, nat_cmp}
use Rattle.std.proofs.lemmas.List.Folds.{list_any_at}
use Rattle.std.proofs.lemmas.List.Sorted.{sorted_far, ranks_by}
use Rattle.x5_model.specs.Keys.{Key, same_key, key_cmp, key_below}
use Rattle.x5_model.proofs.KeyLaws.{key_decides, key_itself, equal_keys, never_below, below_chain, neither_below}
use Rattle.x5_model.proofs.Lists.{true_or_false, either_true, both_true, and_true}
use Rattle.x5_model.proofs.Decide.{nat_same_decides}
use Rattle.x5_holdings.specs.Rows.{KeyRow, same_row, row_cmp, places_of}
use Rattle.x5_holdings.specs.RowOrder.{row_cmp_total}

-- ---- items of a list

pub item_at : {A : Type 0} (xs : List A) (i : ℕ) (r : Option (Bor A)) (x : Bor A) → IsItemAt xs i r → r ≡ Some x →
    (i < length xs) × (x.now ≡ get_or xs i x.now)
item_at xs i None x h e = cc
item_at {A} xs i (Some y) x h e = let q : y ≡ x = cc in subst
    (λ (z : Bor A). (i < length xs) × (z.now ≡ get_or xs i z.now)) q (h.3.0, h.1)

pub no_item : {A : Type 0} (xs : List A) (i : ℕ) (r : Option (Bor A)) → IsItemAt xs i r → r ≡ None → length xs ≤ i
no_item xs i None h e = h.3
no_item xs i (Some y) h e = cc

pub same_item : {A : Type 0} (xs : List A) (i : ℕ) (d f : A) → i < length xs → get_or xs i d ≡ get_or xs i f
same_item [] i d f lt = absurd (omega arith)
same_item (y ∷ xs) zero d f lt = refl
same_item (y ∷ xs) (suc i) d f lt = same_item xs i d f (omega arith)

-- ---- rows

same_is : (x y : KeyRow) → same_row x y ≡ true → x ≡ y
same_is x y e =
    let w = both_true (same_key x.0 y.0) (x.1 == y.1) e in
    let k : x.0 ≡ y.0 = (key_decides x.0 y.0).0 w.0 in
    let n : x.1 ≡ y.1 = (nat_same_decides x.1 y.1).0 w.1 in
    λ i. (k i, n i)

is_same : (x : KeyRow) → same_row x x ≡ true
is_same x = and_true (same_key x.0 x.0) (x.1 == x.1) ((key_decides x.0 x.0).1 refl) ((nat_same_decides x.1 x.1).1 refl)

below_place : (k : Key) (m n : ℕ) → m < n → is_lt (row_cmp (k, m) (k, n)) ≡ true
below_place k m n h = ap (λ (o : Ordering). is_lt (ordering_then o (nat_cmp m n))) (key_itself k) ∙
    (let e : nat_cmp m n ≡ Less = grind arith in ap is_lt e)

less_of : (o : Ordering) → is_lt o ≡ true → o ≡ Less
less_of Less e = refl
less_of Equal e = cc
less_of Greater e = cc

pub below_key : (a b : KeyRow) → key_below a.0 b.0 ≡ true → is_lt (row_cmp a b) ≡ true
below_key a b h = ap (λ (o : Ordering). is_lt (ordering_then o (nat_cmp a.1 b.1))) (less_of (key_cmp a.0 b.0) h)

equal_of : (o : Ordering) → is_eq o ≡ true → o ≡ Equal
equal_of Less e = cc
equal_of Equal e = refl
equal_of Greater e = cc

itself_equal : (k : Key) → is_eq (key_cmp k k) ≡ true
itself_equal k = ap is_eq (key_itself k)

place_of : (x : KeyRow) (xs : List KeyRow) → list_any (λ row. same_row row x) xs ≡ true → (i : ℕ) ×
    ((i < length xs) × (get_or xs i x ≡ x))
place_of x [] e = cc
place_of x (y ∷ xs) e =
    elim (either_true (same_row y x) (list_any (λ row. same_row row x) xs) e) [
      | inl h ↦ (0, (omega arith, same_is y x h))
      | inr h ↦ (let w = place_of x xs h in (suc w.0, (omega arith, w.1.1)))
    ]

not_there : (x : KeyRow) (xs : List KeyRow) → ((i : ℕ) → i < length xs → get_or xs i x ≡ x → ⊥) → list_any
    (λ row. same_row row x) xs ≡ false
not_there x xs f =
    elim (true_or_false (list_any (λ row. same_row row x) xs)) [
      | inl e ↦ absurd (let w = place_of x xs e in f w.0 w.1.0 w.1.1)
      | inr e ↦ e
    ]

below_or_not : (k n : ℕ) → (k < n) ⊎ (n ≤ k)
below_or_not k n = grind arith

-- ---- the place that parts the rows

module _ (rows : List KeyRow) (sorted : IsSorted row_cmp rows) (key : Key) where
  -- a later row isn't less
  far : (i j : ℕ) (d : KeyRow) → i ≤ j → j < length rows → is_lt (row_cmp (get_or rows j d) (get_or rows i d)) ≡ false
  far i j d le lt = sorted_far (λ a c. is_lt (row_cmp a c)) (ranks_by row_cmp_total (λ (r : KeyRow). r)) rows sorted i
      j d le lt

  not_less : (a b : KeyRow) → is_lt (row_cmp b a) ≡ false → key_below b.0 key ≡ true → key_below a.0 key ≡ true
  not_less a b h e =
      elim (true_or_false (key_below a.0 key)) [
        | inl t ↦ t
        | inr f ↦ absurd (let s : is_lt (row_cmp b a) ≡ true = below_key b a (above f) in cc)
      ]
    where
      above : key_below a.0 key ≡ false → key_below b.0 a.0 ≡ true
      above f =
          elim (true_or_false (key_below key a.0)) [
            | inl t ↦ below_chain b.0 key a.0 e t
            | inr g ↦ subst (λ (k : Key). key_below b.0 k ≡ true) (sym (neither_below a.0 key f g)) e
          ]

  pub partitioned : IsPartitionedBy (λ (r : KeyRow). key_below r.0 key) rows
  partitioned i j d le lt e = not_less (get_or rows i d) (get_or rows j d) (far i j d le lt) e

  module _ (place : ℕ) (split : IsPartitionPoint (λ (r : KeyRow). key_below r.0 key ≡ true)
      (λ (r : KeyRow). key_below r.0 key ≡ false) rows place) where
    -- a row of the key stands behind
    behind : (n j : ℕ) → j < length rows → get_or rows j (key, n) ≡ (key, n) → place ≤ j
    behind n j l e =
        elim (below_or_not j place) [
          | inl b ↦ absurd (let s : key_below (get_or rows j (key, n)).0 key ≡ true = split.0 j (key, n) (omega arith)
              b in never_below key (subst (λ (r : KeyRow). key_below r.0 key ≡ true) e s))
          | inr b ↦ b
        ]

    pub none_behind : length rows ≤ place → (n : ℕ) → places_of rows key n ≡ false
    none_behind h n = not_there (key, n) rows (λ j l e. let b : place ≤ j = behind n j l e in omega arith)

    module _ (row : KeyRow) (in' : place < length rows) (is : row ≡ get_or rows place row) where
      later : (x : KeyRow) (j : ℕ) → place ≤ j → j < length rows → get_or rows j x ≡ x → is_lt (row_cmp x row) ≡ false
      later x j b l e =
          let f : is_lt (row_cmp (get_or rows j x) (get_or rows place x)) ≡ false = far place j x b l in
          let one : get_or rows place x ≡ row = same_item rows place x row in' ∙ sym is in
          subst (λ (r : KeyRow). is_lt (row_cmp x r) ≡ false) one
          (subst (λ (r : KeyRow). is_lt (row_cmp r (get_or rows place x)) ≡ false) e f)

      at_place : key_below row.0 key ≡ false
      at_place = subst (λ (r : KeyRow). key_below r.0 key ≡ false) (sym is) (split.1 place row (omega arith) in')

      pub other_key : is_eq (key_cmp row.0 key) ≡ false → (n : ℕ) → places_of rows key n ≡ false
      other_key other n = not_there (key, n) rows (λ j l e.
          let f : is_lt (row_cmp (key, n) row) ≡ false = later (key, n) j (behind n j l e) l e in
          let t : is_lt (row_cmp (key, n) row) ≡ true = below_key (key, n) row higher in
          cc)
        where
          higher : key_below key row.0 ≡ true
          higher =
              elim (true_or_false (key_below key row.0)) [
                | inl t ↦ t
                | inr g ↦ absurd (let s : is_eq (key_cmp row.0 key) ≡ true = subst
                    (λ (k : Key). is_eq (key_cmp row.0 k) ≡ true) (neither_below row.0 key at_place g)
                    (itself_equal row.0) in cc)
              ]

      pub its_place : is_eq (key_cmp row.0 key) ≡ true → (places_of rows key row.1 ≡ true) ×
          ((m : ℕ) → m < row.1 → places_of rows key m ≡ false)
      its_place same = (there, least)
        where
          k : row.0 ≡ key
          k = equal_keys row.0 key (equal_of (key_cmp row.0 key) same)

          r : row ≡ (key, row.1)
          r = λ i. (k i, row.1)

          there : places_of rows key row.1 ≡ true
          there = list_any_at (λ (x : KeyRow). same_row x (key, row.1)) rows place row in'
              (subst (λ (x : KeyRow). same_row x (key, row.1) ≡ true) (sym r ∙ is) (is_same (key, row.1)))

          least : (m : ℕ) → m < row.1 → places_of rows key m ≡ false
          least m h = not_there (key, m) rows (λ j l e.
              let f : is_lt (row_cmp (key, m) row) ≡ false = later (key, m) j (behind m j l e) l e in
              let t : is_lt (row_cmp (key, m) row) ≡ true = subst (λ (x : KeyRow). is_lt (row_cmp (key, m) x) ≡ true)
              (sym r) (below_place key m row.1 h) in
              cc)

-- ---- a search as the code makes it: over the table's own rows

pub record IsSplit (view : List KeyRow) (key : Key) (place : ℕ) : Type 0 where
  pub sorted : IsSorted row_cmp view
  pub split : IsPartitionPoint (λ (r : KeyRow). key_below r.0 key ≡ true) (λ (r : KeyRow). key_below r.0 key ≡ false)
      view place

pub as_split : (view rows items : List KeyRow) (key : Key) (place : ℕ) → rows ≡ view → items ≡ rows → IsSorted row_cmp
    rows
    → IsPartitionPoint (λ (r : KeyRow). key_below r.0 key ≡ true) (λ (r : KeyRow). key_below r.0 key ≡ false) items
    place → IsSplit view key place
as_split view rows items key place e f sorted split = record {
  sorted = subst (λ (xs : List KeyRow). IsSorted row_cmp xs) e sorted;
  split = subst (λ (xs : List KeyRow). IsPartitionPoint (λ (r : KeyRow). key_below r.0 key ≡ true)
      (λ (r : KeyRow). key_below r.0 key ≡ false) xs place) (f ∙ e) split;
}

module _ (view items : List KeyRow) (key : Key) (place : ℕ) (h : IsSplit view key place) (f : items ≡ view)
    (got : Option (Bor KeyRow)) (item : IsItemAt items place got) where
  item_of : (row : Bor KeyRow) → got ≡ Some row → (place < length view) × (row.now ≡ get_or view place row.now)
  item_of row g = subst (λ (xs : List KeyRow). (place < length xs) × (row.now ≡ get_or xs place row.now)) f
      (item_at items place got row item g)

  pub found_first : (row : Bor KeyRow) → got ≡ Some row → is_eq (key_cmp row.now.0 key) ≡ true →
      (places_of view key row.now.1 ≡ true) × ((m : ℕ) → m < row.now.1 → places_of view key m ≡ false)
  found_first row g s = let w = item_of row g in its_place view h.sorted key place h.split row.now w.0 w.1 s

  pub found_other : (row : Bor KeyRow) → got ≡ Some row → is_eq (key_cmp row.now.0 key) ≡ false → (n : ℕ) → places_of
      view key n ≡ false
  found_other row g s = let w = item_of row g in other_key view h.sorted key place h.split row.now w.0 w.1 s

  pub found_none : got ≡ None → (n : ℕ) → places_of view key n ≡ false
  found_none g = none_behind view h.sorted key place h.split
      (subst (λ (xs : List KeyRow). length xs ≤ place) f (no_item items place got item g))
