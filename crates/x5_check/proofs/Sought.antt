-- What a search by halves finds among rows in order: the row itself, or the place behind which all rows are greater; so the
-- next number of a key stands there or nowhere.
use Rattle.std.proofs.Common.{◌≡◌, ℕ, suc, ◌<◌, ◌≤◌, true, false, ◌==◌, ◌⊎◌, inl, inr, List, [], ◌∷◌, length, get_or, Option, Some, None, Bor, refl, sym, ap, subst, ◌∙◌, arith}
use Rattle.std.specs.Bool.{Decides}
use Rattle.std.specs.List.{list_any}
use Rattle.std.specs.List.Sorted.{IsSorted, IsPermutation, IsPartitionPoint, IsNonDecreasingBy, IsSearchInRange, IsBinarySearchResult}
use Rattle.std.specs.declared.result.Result.{Result}
use Rattle.std.specs.declared.result.Result.TheVariants.{Ok, Err}
use Rattle.std.specs.Result.{is_ok}
use Rattle.std.specs.Slice.{IsItemAt}
use Rattle.std.specs.declared.cmp.Ordering.{Ordering}
use Rattle.std.specs.declared.cmp.Ordering.TheVariants.{Less, Equal, Greater}
use Rattle.std.specs.Ordering.{is_lt, ordering_then, ordering_index, ordering_reverse, nat_cmp}
use Rattle.std.proofs.lemmas.List.Folds.{list_any_at}
use Rattle.std.proofs.lemmas.List.Sorted.{list_any-IsPermutation, searchable_from_sorted, sorted_far, ranks_by}
use Rattle.x5_model.specs.Keys.{Key, same_key, key_cmp}
use Rattle.x5_model.proofs.KeyLaws.{key_decides, key_itself, equal_keys, key_cmp_total}
use Rattle.x5_model.proofs.Lists.{true_or_false, either_true, both_true, and_true}
use Rattle.x5_check.specs.Rows.{KeyRow, same_row, row_cmp, numbers_of}
use Rattle.x5_check.specs.RowOrder.{row_cmp_total}
use Rattle.x5_check.proofs.Places.{item_at, no_item, same_item}

-- ---- rows

nat_decides : (x y : ℕ) → Decides (x == y) (x ≡ y)
nat_decides x y = (λ e. grind arith, λ e. grind arith)

same_is : (x y : KeyRow) → same_row x y ≡ true → x ≡ y
same_is x y e =
    let w = both_true (same_key x.0 y.0) (x.1 == y.1) e in
    let k : x.0 ≡ y.0 = (key_decides x.0 y.0).0 w.0 in
    let n : x.1 ≡ y.1 = (nat_decides x.1 y.1).0 w.1 in
    λ i. (k i, n i)

is_same : (x : KeyRow) → same_row x x ≡ true
is_same x = and_true (same_key x.0 x.0) (x.1 == x.1) ((key_decides x.0 x.0).1 refl) ((nat_decides x.1 x.1).1 refl)

row_itself : (x : KeyRow) → row_cmp x x ≡ Equal
row_itself x = ap (λ (o : Ordering). ordering_then o (nat_cmp x.1 x.1)) (key_itself x.0) ∙ (let e : nat_cmp x.1 x.1 ≡ Equal = grind arith in e)

below_number : (k : Key) (m n : ℕ) → m < n → row_cmp (k, m) (k, n) ≡ Less
below_number k m n h = ap (λ (o : Ordering). ordering_then o (nat_cmp m n)) (key_itself k) ∙ (let e : nat_cmp m n ≡ Less = grind arith in e)

-- of one key, what is greater has a greater number
above_number : (k : Key) (m n : ℕ) → row_cmp (k, m) (k, n) ≡ Greater → n < m
above_number k m n e = by (nat_cmp m n) refl (sym (ap (λ (o : Ordering). ordering_then o (nat_cmp m n)) (key_itself k)) ∙ e)
  where
    by : (o : Ordering) → nat_cmp m n ≡ o → o ≡ Greater → n < m
    by Less h g = cc
    by Equal h g = cc
    by Greater h g = grind arith

less_number : (k : Key) (m n : ℕ) → row_cmp (k, m) (k, n) ≡ Less → m < n
less_number k m n e = by (nat_cmp m n) refl (sym (ap (λ (o : Ordering). ordering_then o (nat_cmp m n)) (key_itself k)) ∙ e)
  where
    by : (o : Ordering) → nat_cmp m n ≡ o → o ≡ Less → m < n
    by Less h g = grind arith
    by Equal h g = cc
    by Greater h g = cc

-- a row that is greater has a key that isn't less
key_not_less : (a b : KeyRow) → row_cmp a b ≡ Greater → key_cmp a.0 b.0 ≡ Less → ⊥
key_not_less a b e h = (let l : row_cmp a b ≡ Less = ap (λ (o : Ordering). ordering_then o (nat_cmp a.1 b.1)) h in cc)

-- of a lesser key it's less
key_less : (a b : KeyRow) → key_cmp a.0 b.0 ≡ Less → row_cmp a b ≡ Less
key_less a b h = ap (λ (o : Ordering). ordering_then o (nat_cmp a.1 b.1)) h

-- ---- the rows' test

pub permuted : (xs ys : List KeyRow) → IsPermutation xs ys → numbers_of ys ≡ numbers_of xs
permuted xs ys p = λ i key number. sym (list_any-IsPermutation (λ (row : KeyRow). same_row row (key, number)) xs ys p) i

place_of : (x : KeyRow) (xs : List KeyRow) → list_any (λ row. same_row row x) xs ≡ true → (i : ℕ) × ((i < length xs) × (get_or xs i x ≡ x))
place_of x [] e = cc
place_of x (y ∷ xs) e =
    elim (either_true (same_row y x) (list_any (λ row. same_row row x) xs) e) [
      | inl h ↦ (0, (omega arith, same_is y x h))
      | inr h ↦ (let w = place_of x xs h in (suc w.0, (omega arith, w.1.1)))
    ]

not_there : (x : KeyRow) (xs : List KeyRow) → ((i : ℕ) → i < length xs → get_or xs i x ≡ x → ⊥) → list_any (λ row. same_row row x) xs ≡ false
not_there x xs f =
    elim (true_or_false (list_any (λ row. same_row row x) xs)) [
      | inl e ↦ absurd (let w = place_of x xs e in f w.0 w.1.0 w.1.1)
      | inr e ↦ e
    ]

-- ---- what is found

module _ (rows : List KeyRow) (sorted : IsSorted row_cmp rows) (key : Key) (from : ℕ) where
  pub at_equal : (i : ℕ) → i < length rows → row_cmp (get_or rows i (key, from)) (key, from) ≡ Equal → numbers_of rows key from ≡ true
  at_equal i h e = list_any_at (λ (row : KeyRow). same_row row (key, from)) rows i (key, from) h (subst (λ (r : KeyRow). same_row r (key, from) ≡ true) (sym (level (get_or rows i (key, from)) e)) (is_same (key, from)))
    where
      level : (r : KeyRow) → row_cmp r (key, from) ≡ Equal → r ≡ (key, from)
      level r e = by (key_cmp r.0 key) (nat_cmp r.1 from) refl refl e
        where
          by : (o p : Ordering) → key_cmp r.0 key ≡ o → nat_cmp r.1 from ≡ p → ordering_then o p ≡ Equal → r ≡ (key, from)
          by Less p h g e = cc
          by Greater p h g e = cc
          by Equal Less h g e = cc
          by Equal Greater h g e = cc
          by Equal Equal h g e = (let k : r.0 ≡ key = equal_keys r.0 key h in let n : r.1 ≡ from = grind arith in λ i. (k i, n i))

  module _ (place : ℕ) (split : IsPartitionPoint (λ y. row_cmp y (key, from) ≡ Less) (λ y. row_cmp y (key, from) ≡ Greater) rows place) where
    -- a row of this key with a number that isn't less stands behind
    behind : (m j : ℕ) → from ≤ m → j < length rows → get_or rows j (key, m) ≡ (key, m) → place ≤ j
    behind m j h l e = elim (split_at) [
      | inl b ↦ absurd (let s : row_cmp (get_or rows j (key, m)) (key, from) ≡ Less = split.0 j (key, m) (omega arith) b in
          let t : row_cmp (key, m) (key, from) ≡ Less = subst (λ (r : KeyRow). row_cmp r (key, from) ≡ Less) e s in
          let u : m < from = less_number key m from t in omega arith)
      | inr b ↦ b
    ]
      where
        split_at : (j < place) ⊎ (place ≤ j)
        split_at = grind arith

    pub not_found : numbers_of rows key from ≡ false
    not_found = not_there (key, from) rows (λ j l e.
        let b : place ≤ j = behind from j (omega arith) l e in
        let s : row_cmp (get_or rows j (key, from)) (key, from) ≡ Greater = split.1 j (key, from) b l in
        let t : row_cmp (key, from) (key, from) ≡ Greater = subst (λ (r : KeyRow). row_cmp r (key, from) ≡ Greater) e s in
        let u : row_cmp (key, from) (key, from) ≡ Equal = row_itself (key, from) in
        cc)

    pub none_behind : length rows ≤ place → (n : ℕ) → from ≤ n → numbers_of rows key n ≡ false
    none_behind h n g = not_there (key, n) rows (λ j l e. let b : place ≤ j = behind n j g l e in omega arith)

    module _ (row : KeyRow) (in' : place < length rows) (is : row ≡ get_or rows place row) where
      greater : row_cmp row (key, from) ≡ Greater
      greater = subst (λ (r : KeyRow). row_cmp r (key, from) ≡ Greater) (sym is) (split.1 place row (omega arith) in')

      -- no row behind is less than that at the place
      not_less : (x : KeyRow) (j : ℕ) → place ≤ j → j < length rows → get_or rows j x ≡ x → row_cmp x row ≡ Less → ⊥
      not_less x j b l e less =
          let far : is_lt (row_cmp (get_or rows j x) (get_or rows place x)) ≡ false = sorted_far (λ a c. is_lt (row_cmp a c)) (ranks_by row_cmp_total (λ (r : KeyRow). r)) rows sorted place j x b l in
          let one : get_or rows place x ≡ row = same_item rows place x row in' ∙ sym is in
          let two : is_lt (row_cmp x row) ≡ false = subst (λ (r : KeyRow). is_lt (row_cmp x r) ≡ false) one (subst (λ (r : KeyRow). is_lt (row_cmp r (get_or rows place x)) ≡ false) e far) in
          let three : is_lt (row_cmp x row) ≡ true = ap is_lt less in
          cc

      pub other_key : same_key row.0 key ≡ false → (n : ℕ) → from ≤ n → numbers_of rows key n ≡ false
      other_key other n g = not_there (key, n) rows (λ j l e. not_less (key, n) j (behind n j g l e) l e (key_less (key, n) row lower))
        where
          lower : key_cmp key row.0 ≡ Less
          lower = by (key_cmp row.0 key) refl
            where
              by : (o : Ordering) → key_cmp row.0 key ≡ o → key_cmp key row.0 ≡ Less
              by Less h = absurd (key_not_less row (key, from) greater h)
              by Equal h = absurd (let s : same_key row.0 key ≡ true = (key_decides row.0 key).1 (equal_keys row.0 key h) in cc)
              by Greater h = key_cmp_total.antisymm key row.0 ∙ ap ordering_reverse h

      pub its_number : same_key row.0 key ≡ true → (numbers_of rows key row.1 ≡ true) × (from ≤ row.1) × ((m : ℕ) → from ≤ m → m < row.1 → numbers_of rows key m ≡ false)
      its_number same = (there, above, least)
        where
          k : row.0 ≡ key
          k = (key_decides row.0 key).0 same

          r : row ≡ (key, row.1)
          r = λ i. (k i, row.1)

          there : numbers_of rows key row.1 ≡ true
          there = list_any_at (λ (x : KeyRow). same_row x (key, row.1)) rows place row in' (subst (λ (x : KeyRow). same_row x (key, row.1) ≡ true) (sym r ∙ is) (is_same (key, row.1)))

          above : from ≤ row.1
          above = let u : from < row.1 = above_number key row.1 from (subst (λ (x : KeyRow). row_cmp x (key, from) ≡ Greater) r greater) in omega arith

          least : (m : ℕ) → from ≤ m → m < row.1 → numbers_of rows key m ≡ false
          least m g h = not_there (key, m) rows (λ j l e. not_less (key, m) j (behind m j g l e) l e (subst (λ (x : KeyRow). row_cmp (key, m) x ≡ Less) (sym r) (below_number key m row.1 h)))

-- rows in order can be searched
pub searchable : (rows : List KeyRow) (x : KeyRow) → IsSorted row_cmp rows → IsNonDecreasingBy (λ y. ordering_index (row_cmp y x)) rows
searchable rows x sorted = searchable_from_sorted row_cmp_total (λ (r : KeyRow). r) rows x sorted

-- ---- a search by halves, as the code makes it: over the table's own rows

pub record IsSought (view : List KeyRow) (key : Key) (from : ℕ) (r : Result ℕ ℕ) : Type 0 where
  pub sorted : IsSorted row_cmp view
  pub bound : IsSearchInRange r (length view)
  pub position : IsBinarySearchResult (λ y. row_cmp y (key, from)) view r

pub as_sought : (view rows items : List KeyRow) (key : Key) (from : ℕ) (x : KeyRow) (r : Result ℕ ℕ) → rows ≡ view → items ≡ rows → x ≡ (key, from) → IsSorted row_cmp rows → IsSearchInRange r (length items) → IsBinarySearchResult (λ y. row_cmp y x) items r → IsSought view key from r
as_sought view rows items key from x r e f g sorted bound position = record {
  sorted = subst (λ (xs : List KeyRow). IsSorted row_cmp xs) e sorted;
  bound = subst (λ (xs : List KeyRow). IsSearchInRange r (length xs)) (f ∙ e) bound;
  position = subst (λ (xs : List KeyRow). IsBinarySearchResult (λ y. row_cmp y (key, from)) xs r) (f ∙ e) (subst (λ (z : KeyRow). IsBinarySearchResult (λ y. row_cmp y z) items r) g position);
}

-- it says whether the row is there
pub sought : (view : List KeyRow) (key : Key) (from : ℕ) (r : Result ℕ ℕ) → IsSought view key from r → is_ok r ≡ numbers_of view key from
sought view key from (Ok i) h = sym (at_equal view h.sorted key from i h.bound (h.position (key, from)))
sought view key from (Err i) h = sym (not_found view h.sorted key from i (h.position (searchable view (key, from) h.sorted)))

pub sought_there : (view : List KeyRow) (key : Key) (from : ℕ) (r : Result ℕ ℕ) (i : ℕ) → IsSought view key from r → r ≡ Ok i → numbers_of view key from ≡ true
sought_there view key from r i h e = sym (sought view key from r h) ∙ ap (λ (o : Result ℕ ℕ). is_ok o) e

split_of : (view : List KeyRow) (key : Key) (from : ℕ) (r : Result ℕ ℕ) (place : ℕ) → IsSought view key from r → r ≡ Err place → IsPartitionPoint (λ y. row_cmp y (key, from) ≡ Less) (λ y. row_cmp y (key, from) ≡ Greater) view place
split_of view key from r place h e =
    let p : IsBinarySearchResult (λ y. row_cmp y (key, from)) view (Err place) = subst (λ (o : Result ℕ ℕ). IsBinarySearchResult (λ y. row_cmp y (key, from)) view o) e h.position in
    p (searchable view (key, from) h.sorted)

-- or where the next number is
module _ (view items : List KeyRow) (key : Key) (from : ℕ) (r : Result ℕ ℕ) (place : ℕ) (h : IsSought view key from r) (e : r ≡ Err place) (f : items ≡ view) (got : Option (Bor KeyRow)) (item : IsItemAt items place got) where
  item_of : (row : Bor KeyRow) → got ≡ Some row → (place < length view) × (row.now ≡ get_or view place row.now)
  item_of row g = subst (λ (xs : List KeyRow). (place < length xs) × (row.now ≡ get_or xs place row.now)) f (item_at items place got row item g)

  pub sought_next : (row : Bor KeyRow) (x : KeyRow) → got ≡ Some row → x ≡ row.now → same_key x.0 key ≡ true → (numbers_of view key x.1 ≡ true) × (from ≤ x.1) × ((m : ℕ) → from ≤ m → m < x.1 → numbers_of view key m ≡ false)
  sought_next row x g n s =
      let w = item_of row g in
      its_number view h.sorted key from place (split_of view key from r place h e) x w.0 (n ∙ w.1 ∙ sym (same_item view place x row.now w.0)) s

  pub sought_other : (row : Bor KeyRow) (x : KeyRow) → got ≡ Some row → x ≡ row.now → same_key x.0 key ≡ false → (n : ℕ) → from ≤ n → numbers_of view key n ≡ false
  sought_other row x g n s =
      let w = item_of row g in
      other_key view h.sorted key from place (split_of view key from r place h e) x w.0 (n ∙ w.1 ∙ sym (same_item view place x row.now w.0)) s

  pub sought_none : got ≡ None → (n : ℕ) → from ≤ n → numbers_of view key n ≡ false
  sought_none g =
      none_behind view h.sorted key from place (split_of view key from r place h e) (subst (λ (xs : List KeyRow). length xs ≤ place) f (no_item items place got item g))
