-- The entries just below a name: from each of them the search goes on behind what stands below it.
use Rattle.std.proofs.Common.{◌≡◌, ℕ, zero, suc, ◌+◌, ◌-◌, ◌<◌, ◌≤◌, Bool, true, false, inl, inr, cond, List, [], ◌∷◌}
use Rattle.std.proofs.Common.{◌++◌, length, take, drop, get_or, refl, sym, ap, subst, ◌∙◌, arith, Some, None, Ok}
use Rattle.std.proofs.lemmas.List.{get_or-map, length-map, drop_more}
use Rattle.std.specs.List.{filter}
use Rattle.x5_model.specs.Words.{ascending}
use Rattle.x5_model.specs.Members.{In, here}
use Rattle.x5_model.specs.Keys.{Key, same_key, is_prefix, is_child}
use Rattle.x5_model.specs.Entries.{Named}
use Rattle.x5_model.proofs.KeyLaws.{key_decides}
use Rattle.x5_model.proofs.Lists.{true_or_false, in_left, in_filter, of_filter}
use Rattle.x5_model.proofs.Prefixes.{prefix_decides, prefix_itself, child_decides, parent_length}
use Rattle.x5_model.proofs.Ascending.{first_below, rest_ascending, filter_ascending}
use Rattle.x5_model_tree.specs.Tree.{key_at, keys_of, named_below, entry_at}
use Rattle.x5_model_tree.proofs.Order.{named_chain}
use Rattle.x5_one.specs.Places.{IsPlace, IsStart}
use Rattle.x5_one.proofs.Searching.{in_get}
use Rattle.x5_one.proofs.Runs.{parts_of, filter_joined, none_pass, start_there}
use Rattle.x5_one.proofs.Changing.{longer_than, drop_in_order, not_same, other_key}
use Rattle.x5_one.proofs.Moving.{drop_on}

-- an entry's own place
pub own_place : (xs : List Named) (i : ℕ) (d : Named) → i < length xs
    → IsPlace (keys_of xs) (key_at (get_or xs i d)) (Ok i)
own_place xs i d l =
    let m : i < length (keys_of xs) = omega (arith, length-map xs key_at) in (
      m,
      drop_more (keys_of xs) i (key_at d) m
          ∙ ap (λ (k : Key). k ∷ drop (i + 1) (keys_of xs)) (get_or-map key_at xs i d (key_at d) l),
    )

pub own_start : (xs : List Named) (i : ℕ) (d : Named) → ascending named_below xs ≡ true → i < length xs
    → IsStart (keys_of xs) (key_at (get_or xs i d)) i
own_start xs i d h l = start_there xs (key_at (get_or xs i d)) i h (own_place xs i d l)

module _ (xs : List Named) (h : ascending named_below xs ≡ true) (i end : ℕ) (own : Named) (l : i < length xs)
    (is : own ≡ get_or xs i own) (order : i ≤ end)
    (run : take (end - i) (drop i xs) ≡ filter (λ e. is_prefix (key_at own) (key_at e)) xs) where
  own_in : In own xs
  own_in = subst (λ (e : Named). In e xs) (sym is) (in_get xs i own l)

  from_own : drop i xs ≡ own ∷ drop (i + 1) xs
  from_own = drop_more xs i own l ∙ ap (λ (e : Named). e ∷ drop (i + 1) xs) (sym is)

  -- the run has the entry itself
  pub run_goes_on : i < end
  run_goes_on = by (end - i) refl
    where
      there_is : In own (take (end - i) (drop i xs))
      there_is = subst (λ (ys : List Named). In own ys) (sym run) (in_filter (λ e. is_prefix (key_at own) (key_at e)) own
          xs own_in ((prefix_decides (key_at own) (key_at own)).1 (prefix_itself (key_at own))))

      by : (n : ℕ) → end - i ≡ n → i < end
      by zero e = elim (subst (λ (ys : List Named). In own ys) (ap (λ (k : ℕ). take k (drop i xs)) e) there_is) [ ]
      by (suc n) e = omega arith

  -- what stands behind it in its run is longer
  pub run_deeper : (depth : ℕ) → depth ≤ length (key_at own) → (e : Named) → In e (take (end - (i + 1)) (drop (i + 1) xs))
      → depth < length (key_at e)
  run_deeper depth d e j =
      let goes : i < end = run_goes_on in
      let n : end - i ≡ suc (end - (i + 1)) = omega arith in
      let more : take (end - i) (drop i xs) ≡ own ∷ take (end - (i + 1)) (drop (i + 1) xs) = (λ k. take (n k)
      (from_own k)) in
      let m : In e (take (end - i) (drop i xs)) = subst (λ (ys : List Named). In e ys) (sym more) (there_in own j) in
      let on = (prefix_decides (key_at own) (key_at e)).0 (of_filter (λ x. is_prefix (key_at own) (key_at x)) e xs
      (subst (λ (ys : List Named). In e ys) run m)).1 in
      let behind : In e (drop (i + 1) xs) = subst (λ (ys : List Named). In e ys)
      (parts_of (end - (i + 1)) (drop (i + 1) xs)) (in_left e (take (end - (i + 1)) (drop (i + 1) xs))
      (drop (end - (i + 1)) (drop (i + 1) xs)) j) in
      let less : named_below own e ≡ true = first_below named_below named_chain own e (drop (i + 1) xs)
      (subst (λ (ys : List Named). ascending named_below ys ≡ true) from_own (drop_in_order i xs h)) behind in
      let longer : length (key_at own) < length (key_at e) = longer_than (key_at own) (key_at e) on less in
      omega arith
    where
      there_in : (x : Named) {z : Named} {ys : List Named} → In z ys → In z (x ∷ ys)
      there_in x k = Rattle.x5_model.specs.Members.there k

-- behind one place alone there is nothing to pass over
pub none_between : (n m : ℕ) (xs : List Named) (e : Named) → m ≡ n → In e (take (m - n) xs) → ⊥
none_between n m xs e q j = by (m - n) (omega arith) j
  where
    by : (k : ℕ) → k ≡ 0 → In e (take k xs) → ⊥
    by zero z i = elim i [ ]
    by (suc k) z i = absurd (omega arith)

not_child : (base key : Key) → length base + 1 < length key → is_child base key ≡ false
not_child base key l = elim (true_or_false (is_child base key)) [
  | inr f ↦ f
  | inl t ↦ absurd (
      let c = (child_decides base key).0 t in
      let a = parent_length key c.0 in
      let b = ap length c.1 in
      omega (arith, a, b))
]

abbrev child_of : Key → Named → Bool
child_of base e = is_child base (key_at e)

-- what is passed over has none just below
pub step_over : (xs : List Named) (base : Key) (i next : ℕ) (own : Named) → i < length xs → own ≡ get_or xs i own
    → i < next → ((e : Named) → In e (take (next - (i + 1)) (drop (i + 1) xs)) → length base + 1 < length (key_at e))
    → (b : Bool) → is_child base (key_at own) ≡ b
    → filter (λ e. is_child base (key_at e)) (drop i xs)
    ≡ cond b (own ∷ []) [] ++ filter (λ e. is_child base (key_at e)) (drop next xs)
step_over xs base i next own l is goes deep b child =
    ap (filter (child_of base)) (drop_more xs i own l ∙ ap (λ (e : Named). e ∷ drop (i + 1) xs) (sym is))
    ∙ ap (λ (c : Bool). cond c (own ∷ filter (child_of base) (drop (i + 1) xs)) (filter (child_of base) (drop (i + 1) xs))) child
    ∙ ap (λ (ys : List Named). cond b (own ∷ ys) ys) rest
    ∙ alike b
  where
    far : (i + 1) + (next - (i + 1)) ≡ next
    far = omega arith

    rest : filter (child_of base) (drop (i + 1) xs) ≡ filter (child_of base) (drop next xs)
    rest =
        ap (filter (child_of base)) (sym (parts_of (next - (i + 1)) (drop (i + 1) xs)))
        ∙ filter_joined (child_of base) (take (next - (i + 1)) (drop (i + 1) xs)) (drop (next - (i + 1)) (drop (i + 1) xs))
        ∙ ap (λ (ys : List Named). ys ++ filter (child_of base) (drop (next - (i + 1)) (drop (i + 1) xs)))
        (none_pass (child_of base) (take (next - (i + 1)) (drop (i + 1) xs)) (λ e j. not_child base (key_at e) (deep e j)))
        ∙ ap (filter (child_of base)) (drop_on (next - (i + 1)) (i + 1) xs ∙ ap (λ (k : ℕ). drop k xs) far)

    alike : (c : Bool) → cond c (own ∷ filter (child_of base) (drop next xs)) (filter (child_of base) (drop next xs))
        ≡ cond c (own ∷ []) [] ++ filter (child_of base) (drop next xs)
    alike true = refl
    alike false = refl

-- ---- the entry itself

module _ (key : Key) where
  abbrev own : Named → Bool
  own e = same_key key (key_at e)

  same_back : (x : Named) (b : Bool) → same_key (key_at x) key ≡ b → own x ≡ b
  same_back x true e = (key_decides key (key_at x)).1 (sym ((key_decides (key_at x) key).0 e))
  same_back x false e = not_same key (key_at x) (λ q. let t : same_key (key_at x) key ≡ true =
      (key_decides (key_at x) key).1 (sym q) in absurd (let u : true ≡ false = sym t ∙ e in cc))

  pub itself_there : (xs : List Named) (e : Named) → ascending named_below xs ≡ true → Some e ≡ entry_at xs key
      → e ∷ [] ≡ filter (λ x. same_key key (key_at x)) xs
  itself_there [] e h q = cc
  itself_there (x ∷ xs) e h q = by (same_key (key_at x) key) refl q
      (λ r. itself_there xs e (rest_ascending named_below named_chain x xs h) r)
    where
      by : (b : Bool) → same_key (key_at x) key ≡ b → Some e ≡ cond b (Some x) (entry_at xs key)
          → (Some e ≡ entry_at xs key → e ∷ [] ≡ filter own xs) → e ∷ [] ≡ filter own (x ∷ xs)
      by true t r go =
          let same : e ≡ x = inside r in
          let none : filter own xs ≡ [] = none_pass own xs (λ y i. not_same key (key_at y) (λ s.
          other_key x y xs h i ((key_decides (key_at x) key).0 t ∙ s))) in
          ap (λ (y : Named). y ∷ []) same ∙ ap (λ (ys : List Named). x ∷ ys) (sym none)
          ∙ sym (ap (λ (c : Bool). cond c (x ∷ filter own xs) (filter own xs)) (same_back x true t))
        where
          inside : Some e ≡ Some x → e ≡ x
          inside s = cc
      by false f r go = go r
          ∙ sym (ap (λ (c : Bool). cond c (x ∷ filter own xs) (filter own xs)) (same_back x false f))

  pub itself_missing : (xs : List Named) → None ≡ entry_at xs key → [] ≡ filter (λ x. same_key key (key_at x)) xs
  itself_missing [] q = refl
  itself_missing (x ∷ xs) q = by (same_key (key_at x) key) refl q (λ r. itself_missing xs r)
    where
      by : (b : Bool) → same_key (key_at x) key ≡ b → None ≡ cond b (Some x) (entry_at xs key)
          → (None ≡ entry_at xs key → [] ≡ filter own xs) → [] ≡ filter own (x ∷ xs)
      by true t r go = cc
      by false f r go = go r
          ∙ sym (ap (λ (c : Bool). cond c (x ∷ filter own xs) (filter own xs)) (same_back x false f))

-- what is in the run below a name is in order, and is all that stands just below it
pub scope_in_order : (xs : List Named) (key : Key) → ascending named_below xs ≡ true
    → ascending named_below (filter (λ e. is_prefix key (key_at e)) xs) ≡ true
scope_in_order xs key h = filter_ascending named_below named_chain (λ e. is_prefix key (key_at e)) xs h
