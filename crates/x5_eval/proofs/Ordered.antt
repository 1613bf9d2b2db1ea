-- What sorting leaves the same: members that are left out before or after, lists sorted part by part, and rows of keys, which
-- stand as a sort by keys alone leaves them, since those of one key stand by their places.
use Rattle.std.proofs.Common.{◌≡◌, ℕ, ◌+◌, ◌≤◌, Bool, true, false, cond, inl, inr, List, [], ◌∷◌, ◌++◌, map, refl, sym, ap, ◌∙◌, arith}
use Rattle.std.specs.Prelude.{⊤}
use Rattle.std.specs.List.{filter, enumerate_from}
use Rattle.std.specs.List.Sorted.{ties}
use Rattle.std.specs.Cmp.{IsStrictWeakOrder}
use Rattle.std.specs.Ordering.{is_lt, nat_cmp, ordering_then}
use Rattle.std.specs.declared.cmp.Ordering.{Ordering}
use Rattle.std.specs.declared.cmp.Ordering.TheVariants.{Less, Equal, Greater}
use Rattle.x5_model.specs.Words.{insert_sorted, sorted}
use Rattle.x5_model.specs.Members.{In, here, there}
use Rattle.x5_model.specs.Keys.{Key, key_below, key_cmp}
use Rattle.x5_model.proofs.Lists.{in_first}
use Rattle.x5_model.proofs.Ascending.{of_sorted}
use Rattle.x5_merge.proofs.Sorting.{one_outcome, sorted_rising, class_sorted}
use Rattle.x5_holdings.specs.Rows.{KeyRow, row_below, numbered, rows_of}
use Rattle.x5_eval.proofs.Gathering.{filter_joined}

-- ---- filters
module _ {A : Type 0} (f g : A → Bool) where
  pub filters_swapped : (xs : List A) → filter f (filter g xs) ≡ filter g (filter f xs)
  filters_swapped [] = refl
  filters_swapped (x ∷ xs) = by (f x) (g x) refl refl (filters_swapped xs)
    where
      by : (a b : Bool) → f x ≡ a → g x ≡ b → filter f (filter g xs) ≡ filter g (filter f xs)
          → filter f (cond b (x ∷ filter g xs) (filter g xs)) ≡ filter g (cond a (x ∷ filter f xs) (filter f xs))
      by true true p q e =
          ap (λ (c : Bool). cond c (x ∷ filter f (filter g xs)) (filter f (filter g xs))) p ∙ ap (λ (l : List A). x ∷ l) e
          ∙ sym (ap (λ (c : Bool). cond c (x ∷ filter g (filter f xs)) (filter g (filter f xs))) q)
      by true false p q e = e ∙ sym (ap (λ (c : Bool). cond c (x ∷ filter g (filter f xs)) (filter g (filter f xs))) q)
      by false true p q e = ap (λ (c : Bool). cond c (x ∷ filter f (filter g xs)) (filter f (filter g xs))) p ∙ e
      by false false p q e = e

-- what a test of each member says of what it stands for
pub filter_mapped : {A B : Type 0} (h : A → B) (f : A → Bool) (g : B → Bool) (xs : List A) → ((x : A) → In x xs → f x ≡ g (h x))
    → map h (filter f xs) ≡ filter g (map h xs)
filter_mapped h f g [] e = refl
filter_mapped {A} {B} h f g (x ∷ xs) e =
    by (f x) (filter_mapped h f g xs (λ y i. e y (there i)))
    ∙ ap (λ (b : Bool). cond b (h x ∷ filter g (map h xs)) (filter g (map h xs))) (e x here)
  where
    by : (b : Bool) → map h (filter f xs) ≡ filter g (map h xs)
        → map h (cond b (x ∷ filter f xs) (filter f xs)) ≡ cond b (h x ∷ filter g (map h xs)) (filter g (map h xs))
    by true p = ap (λ (l : List B). h x ∷ l) p
    by false p = p

-- ---- one order in place of another
module _ {A : Type 0} (lt other : A → A → Bool) where
  insert_same : (x : A) (ys : List A) → ((y : A) → In y ys → lt y x ≡ other y x) → insert_sorted lt x ys ≡ insert_sorted other x ys
  insert_same x [] e = refl
  insert_same x (y ∷ ys) e =
      ap (λ (b : Bool). cond b (y ∷ insert_sorted lt x ys) (x ∷ y ∷ ys)) (e y here)
      ∙ ap (λ (l : List A). cond (other y x) (y ∷ l) (x ∷ y ∷ ys)) (insert_same x ys (λ z i. e z (there i)))

  pub sorted_same : (xs : List A) → ((x y : A) → In x xs → In y xs → lt y x ≡ other y x) → sorted lt xs ≡ sorted other xs
  sorted_same [] e = refl
  sorted_same (x ∷ xs) e =
      insert_same x (sorted lt xs) (λ y i. e x y here (there (of_sorted lt y xs i)))
      ∙ ap (insert_sorted other x) (sorted_same xs (λ y z i j. e y z (there i) (there j)))

  abbrev pub AreLater : List A → Type 0
  AreLater [] = ⊤
  AreLater (x ∷ xs) = ((y : A) → In y xs → lt y x ≡ other y x) × AreLater xs

  -- the same, where each member is only compared with later ones
  pub sorted_later : (xs : List A) → AreLater xs → sorted lt xs ≡ sorted other xs
  sorted_later [] e = refl
  sorted_later (x ∷ xs) e =
      insert_same x (sorted lt xs) (λ y i. e.0 y (of_sorted lt y xs i)) ∙ ap (insert_sorted other x) (sorted_later xs e.1)

module _ {A X : Type 0} (below : X → X → Bool) (h : A → X) where
  abbrev low : A → A → Bool
  low a b = below (h a) (h b)

  insert_map : (x : A) (ys : List A) → map h (insert_sorted low x ys) ≡ insert_sorted below (h x) (map h ys)
  insert_map x [] = refl
  insert_map x (y ∷ ys) = by (low y x) (insert_map x ys)
    where
      by : (b : Bool) → map h (insert_sorted low x ys) ≡ insert_sorted below (h x) (map h ys)
          → map h (cond b (y ∷ insert_sorted low x ys) (x ∷ y ∷ ys)) ≡ cond b (h y ∷ insert_sorted below (h x) (map h ys)) (h x ∷ h y ∷ map h ys)
      by true e = ap (λ (zs : List X). h y ∷ zs) e
      by false e = refl

  -- members in the order of what they stand for
  pub sorted_map : (xs : List A) → map h (sorted low xs) ≡ sorted below (map h xs)
  sorted_map [] = refl
  sorted_map (x ∷ xs) = insert_map x (sorted low xs) ∙ ap (insert_sorted below (h x)) (sorted_map xs)

-- ---- lists sorted part by part
module _ {A : Type 0} (lt : A → A → Bool) (weak : IsStrictWeakOrder lt) where
  class_left : (q : A) (f : A → Bool) (xs : List A) → filter (ties lt q) (filter f (sorted lt xs)) ≡ filter (ties lt q) (filter f xs)
  class_left q f xs =
      filters_swapped (ties lt q) f (sorted lt xs) ∙ ap (filter f) (class_sorted lt weak q xs) ∙ filters_swapped f (ties lt q) xs

  pub sorted_parts : (f g : A → Bool) (xs ys : List A) → sorted lt (filter f (sorted lt xs) ++ filter g (sorted lt ys)) ≡ sorted lt (filter f xs ++ filter g ys)
  sorted_parts f g xs ys =
      one_outcome lt weak (sorted lt (filter f (sorted lt xs) ++ filter g (sorted lt ys))) (sorted lt (filter f xs ++ filter g ys))
      (sorted_rising lt weak (filter f (sorted lt xs) ++ filter g (sorted lt ys))) (sorted_rising lt weak (filter f xs ++ filter g ys))
      (λ q. class_sorted lt weak q (filter f (sorted lt xs) ++ filter g (sorted lt ys))
      ∙ filter_joined (ties lt q) (filter f (sorted lt xs)) (filter g (sorted lt ys))
      ∙ (λ i. class_left q f xs i ++ class_left q g ys i)
      ∙ sym (filter_joined (ties lt q) (filter f xs) (filter g ys))
      ∙ sym (class_sorted lt weak q (filter f xs ++ filter g ys)))

  -- the same of one list
  pub sorted_twice : (f : A → Bool) (xs : List A) → sorted lt (filter f (sorted lt xs)) ≡ sorted lt (filter f xs)
  sorted_twice f xs =
      one_outcome lt weak (sorted lt (filter f (sorted lt xs))) (sorted lt (filter f xs)) (sorted_rising lt weak (filter f (sorted lt xs)))
      (sorted_rising lt weak (filter f xs))
      (λ q. class_sorted lt weak q (filter f (sorted lt xs)) ∙ class_left q f xs ∙ sym (class_sorted lt weak q (filter f xs)))

-- ---- rows of keys
abbrev pub by_key : KeyRow → KeyRow → Bool
by_key a b = key_below a.0 b.0

not_earlier : (o : Ordering) (m n : ℕ) → n ≤ m → is_lt (ordering_then o (nat_cmp m n)) ≡ is_lt o
not_earlier Less m n le = refl
not_earlier Greater m n le = refl
not_earlier Equal m n le = grind (arith, le)

placed_from : (n : ℕ) (keys : List Key) (r : KeyRow) → In r (map (λ p. (p.1, p.0)) (enumerate_from n keys)) → n ≤ r.1
placed_from n [] r i = elim i [ ]
placed_from n (k ∷ keys) r i = elim (in_first r (k, n) (map (λ p. (p.1, p.0)) (enumerate_from (n + 1) keys)) i) [
  | inl e ↦ (let s : r.1 ≡ n = ap (λ (x : KeyRow). x.1) e in omega (arith, s))
  | inr j ↦ (let l : n + 1 ≤ r.1 = placed_from (n + 1) keys r j in omega (arith, l))
]

later_rows : (n : ℕ) (keys : List Key) → AreLater row_below by_key (map (λ p. (p.1, p.0)) (enumerate_from n keys))
later_rows n [] = tt
later_rows n (k ∷ keys) = (
  λ r i. not_earlier (key_cmp r.0 k) r.1 n (let l : n + 1 ≤ r.1 = placed_from (n + 1) keys r i in omega (arith, l)),
  later_rows (n + 1) keys,
)

pub rows_by_key : (keys : List Key) → rows_of keys ≡ sorted by_key (numbered keys)
rows_by_key keys = sorted_later row_below by_key (numbered keys) (later_rows 0 keys)
