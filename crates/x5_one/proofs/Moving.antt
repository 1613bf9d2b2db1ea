-- A modifyDN in lists of entries in order: the run at and below the entry is taken out, gets its new names, and stands where
-- its new key does; and this is what the one tree's modifyDN makes.
use Rattle.std.proofs.Common.{◌≡◌, ℕ, zero, suc, ◌+◌, ◌-◌, ◌<◌, ◌≤◌, true, false, ◌⊎◌, inl, inr}
use Rattle.std.proofs.Common.{List, [], ◌∷◌, ◌++◌, length, map, take, drop, get_or, refl, sym, ap, subst, ◌∙◌}
use Rattle.std.proofs.Common.{arith, Some, Ok, Err}
use Rattle.std.proofs.lemmas.List.{append_assoc, map-append, length-map, length-set, length-append, length-take-le}
use Rattle.std.proofs.lemmas.List.{length-drop, drop_more, drop-take}
use Rattle.std.proofs.Math.Seq.{drop-nil}
use Rattle.std.proofs.lemmas.List.MinMax.{ranks_by}
use Rattle.std.specs.Cmp.{IsStrictWeakOrder}
use Rattle.std.specs.List.{filter}
use Rattle.std.specs.Ordering.{is_lt}
use Rattle.x5_model.specs.Words.{ascending}
use Rattle.x5_model.specs.Members.{In, here, there}
use Rattle.x5_model.specs.Keys.{Key, IsPrefix, parent, same_key, is_prefix, key_below}
use Rattle.x5_model.specs.Values.{Rdn, Name, key_of, key_of_rdn, name_above}
use Rattle.x5_model.specs.Entries.{Entry, Named}
use Rattle.x5_model.proofs.KeyLaws.{key_cmp_total, key_decides}
use Rattle.x5_model.proofs.Lists.{true_or_false, in_left, in_right, in_either, of_map, in_filter, of_filter}
use Rattle.x5_model.proofs.Prefixes.{take_take, prefix_decides, prefix_itself, same_by_length, prefix_length, parent_length}
use Rattle.x5_model.proofs.Ascending.{first_below, rest_ascending, cons_ascending, in_sorted, of_sorted}
use Rattle.x5_model_tree.specs.Tree.{key_at, keys_of, named_below, sorted_entries}
use Rattle.x5_model_tree.proofs.Order.{named_chain, named_never, one_list_of_entries}
use Rattle.x5_model_updates.specs.Afterwards.{new_key}
use Rattle.x5_model_updates.proofs.Alike.{new_key_is}
use Rattle.x5_model_updates.proofs.Outcomes.{moved_entry}
use Rattle.x5_model_updates.proofs.Renaming.{moved_itself, moved_below, moved_apart, moved_key, moved_goes}
use Rattle.x5_one.specs.Places.{IsPlace, IsStart}
use Rattle.x5_one.specs.Moving.{IsNewPlace, IsTurned, respelled_entry, moved_run}
use Rattle.x5_one.proofs.KeyOrder.{prefix_not_below, between, past, behind_alike}
use Rattle.x5_one.proofs.Searching.{in_get, not_back}
use Rattle.x5_one.proofs.Runs.{key_there, start_there, parts_of, key_in_take, key_in_drop, no_entry}
use Rattle.x5_one.proofs.Changing.{joined_ascending, front_ascending, back_ascending, front_below, other_key}

-- ---- parts of lists

pub drop_on : {A : Type 0} (n m : ℕ) (xs : List A) → drop n (drop m xs) ≡ drop (m + n) xs
drop_on n zero xs = ap (λ (k : ℕ). drop k xs) (let s : n ≡ 0 + n = omega arith in s)
drop_on n (suc m) [] = drop-nil n ∙ sym (drop-nil (suc m + n))
drop_on n (suc m) (x ∷ xs) = drop_on n m xs
    ∙ ap (λ (k : ℕ). drop k (x ∷ xs)) (let s : suc (m + n) ≡ suc m + n = omega arith in s)

in_take : {A : Type 0} (n : ℕ) (xs : List A) (x : A) → In x (take n xs) → In x xs
in_take {A} n xs x i = subst (λ (ys : List A). In x ys) (parts_of n xs) (in_left x (take n xs) (drop n xs) i)

in_drop : {A : Type 0} (n : ℕ) (xs : List A) (x : A) → In x (drop n xs) → In x xs
in_drop {A} n xs x i = subst (λ (ys : List A). In x ys) (parts_of n xs) (in_right x (take n xs) (drop n xs) i)

in_take_on : {A : Type 0} (n m : ℕ) (xs : List A) (x : A) → n ≤ m → In x (take n xs) → In x (take m xs)
in_take_on {A} n m xs x l i = in_take n (take m xs) x (subst (λ (ys : List A). In x ys) (sym (take_take n m xs l)) i)

in_drop_on : {A : Type 0} (n m : ℕ) (xs : List A) (x : A) → n ≤ m → In x (drop m xs) → In x (drop n xs)
in_drop_on {A} n m xs x l i =
    let s : n + (m - n) ≡ m = omega arith in
    in_drop (m - n) (drop n xs) x (subst (λ (ys : List A). In x ys) (sym (drop_on (m - n) n xs
    ∙ ap (λ (k : ℕ). drop k xs) s)) i)

-- what stands between two places stands before the later, and from the earlier on
in_between : {A : Type 0} (n m : ℕ) (xs : List A) (x : A) → n ≤ m → In x (drop n (take m xs)) → In x (drop n xs)
in_between {A} n m xs x l i =
    let s : m ≡ n + (m - n) = omega arith in
    in_take (m - n) (drop n xs) x (subst (λ (ys : List A). In x ys) (ap (λ (k : ℕ). drop n (take k xs)) s
    ∙ drop-take n (m - n) xs) i)

between_parts : {A : Type 0} (n m : ℕ) (xs : List A) → n ≤ m → drop n (take m xs) ≡ take (m - n) (drop n xs)
between_parts n m xs l = let s : m ≡ n + (m - n) = omega arith in ap (λ (k : ℕ). drop n (take k xs)) s
    ∙ drop-take n (m - n) xs

-- ---- what is put between

weak : IsStrictWeakOrder key_below
weak = ranks_by key_cmp_total (λ (k : Key). k)

below_front : (x n y : Key) → key_below x n ≡ true → IsPrefix n y → key_below x y ≡ true
below_front x n y less p = elim (true_or_false (key_below x y)) [
  | inl t ↦ t
  | inr f ↦ absurd (let g : key_below x n ≡ false = weak.chain x y n f (prefix_not_below n y p) in cc)
]

pub put_between : (n : Key) (xs rs ys : List Named) → ascending named_below (xs ++ ys) ≡ true
    → ascending named_below rs ≡ true → ((x : Named) → In x xs → key_below (key_at x) n ≡ true)
    → ((y : Named) → In y ys → key_below (key_at y) n ≡ false) → ((y : Named) → In y ys → IsPrefix n (key_at y) → ⊥)
    → ((r : Named) → In r rs → IsPrefix n (key_at r)) → ascending named_below (xs ++ (rs ++ ys)) ≡ true
put_between n xs rs ys h hr front back off on =
    joined_ascending xs (rs ++ ys) (front_ascending xs ys h)
    (joined_ascending rs ys hr (back_ascending xs ys h) (λ r y i j. past n (key_at r) (key_at y) (on r i) (back y j)
    (off y j)))
    (λ x z i j. elim (in_either z rs ys j) [
      | inl r ↦ below_front (key_at x) n (key_at z) (front x i) (on z r)
      | inr y ↦ front_below xs ys h x z i y
    ])

-- members, wherever the run stands
moved_member : (fs bs xs ys rs : List Named) → xs ++ ys ≡ fs ++ bs → (e : Named) → In e (xs ++ (rs ++ ys))
    → In e (fs ++ (rs ++ bs))
moved_member fs bs xs ys rs same e i =
    elim (in_either e xs (rs ++ ys) i) [
      | inl a ↦ others (in_left e xs ys a)
      | inr b ↦ elim (in_either e rs ys b) [
        | inl r ↦ in_right e fs (rs ++ bs) (in_left e rs bs r)
        | inr c ↦ others (in_right e xs ys c)
      ]
    ]
  where
    others : In e (xs ++ ys) → In e (fs ++ (rs ++ bs))
    others j =
        elim (in_either e fs bs (subst (λ (zs : List Named). In e zs) same j)) [
          | inl a ↦ in_left e fs (rs ++ bs) a
          | inr b ↦ in_right e fs (rs ++ bs) (in_right e rs bs b)
        ]

same_map : (f : Named → Named) (xs : List Named) → ((x : Named) → In x xs → f x ≡ x) → map f xs ≡ xs
same_map f [] s = refl
same_map f (x ∷ xs) s = λ i. s x here i ∷ same_map f xs (λ y j. s y (there j)) i

alike_map : (f g : Named → Named) (xs : List Named) → ((x : Named) → In x xs → f x ≡ g x) → map f xs ≡ map g xs
alike_map f g [] s = refl
alike_map f g (x ∷ xs) s = λ i. s x here i ∷ alike_map f g xs (λ y j. s y (there j)) i

mapped_ascending : (f : Named → Named) (xs : List Named)
    → ((x y : Named) → In x xs → In y xs → named_below x y ≡ true → named_below (f x) (f y) ≡ true)
    → ascending named_below xs ≡ true → ascending named_below (map f xs) ≡ true
mapped_ascending f [] s h = refl
mapped_ascending f (x ∷ xs) s h =
    cons_ascending named_below named_chain (f x) (map f xs)
    (λ z i. let w = of_map f z xs i in subst (λ (y : Named). named_below (f x) y ≡ true) (sym w.2)
    (s x w.0 here (there w.1) (first_below named_below named_chain x w.0 xs h w.1)))
    (mapped_ascending f xs (λ a b i j. s a b (there i) (there j)) (rest_ascending named_below named_chain x xs h))

pub le_or_less : (a b : ℕ) → (a ≤ b) ⊎ (b < a)
le_or_less zero b = inl (omega arith)
le_or_less (suc a) zero = inr (omega arith)
le_or_less (suc a) (suc b) = elim (le_or_less a b) [ inl m ↦ inl (omega arith) | inr m ↦ inr (omega arith) ]

pub above_length : (name : Name) → length (name_above name) ≡ length name - 1
above_length name = length-take-le (length name - 1) name (omega arith)

-- a new key is as long as the old one
pub new_length : (name : Name) (rdn : Rdn) → 0 < length name → length (new_key name rdn) ≡ length (key_of name)
new_length name rdn full =
    let a : length (new_key name rdn) ≡ length (parent (key_of name) ++ key_of_rdn rdn ∷ []) =
    ap length (new_key_is name rdn) in
    let b : length (parent (key_of name) ++ key_of_rdn rdn ∷ []) ≡ length (parent (key_of name)) + 1 =
    length-append (parent (key_of name)) (key_of_rdn rdn ∷ []) in
    let c : length (key_of name) ≡ length name = length-map name key_of_rdn in
    let d : length (parent (key_of name)) + 1 ≡ length (key_of name) = parent_length (key_of name) (omega arith) in
    omega arith

abbrev pub nobody : Named
nobody = record { name = []; entry = record { attributes = [] } }

-- ---- the run that moves

module _ (es : List Named) (h : ascending named_below es ≡ true) (name : Name) (rdn : Rdn) (new : Entry) (at end : ℕ)
    (place : IsPlace (keys_of es) (key_of name) (Ok at)) (order : at ≤ end) (within : end ≤ length es)
    (is : take (end - at) (drop at es) ≡ filter (λ e. is_prefix (key_of name) (key_at e)) es)
    (full : 0 < length name) where
  abbrev key : Key
  key = key_of name

  abbrev next : Key
  next = new_key name rdn

  abbrev front : List Named
  front = take at es

  abbrev run : List Named
  run = take (end - at) (drop at es)

  abbrev back : List Named
  back = drop end es

  abbrev moves : Named → Named
  moves e = moved_entry name rdn new e

  rest_of : drop (end - at) (drop at es) ≡ back
  rest_of = let s : at + (end - at) ≡ end = omega arith in drop_on (end - at) at es ∙ ap (λ (k : ℕ). drop k es) s

  from_at : drop at es ≡ run ++ back
  from_at = sym (parts_of (end - at) (drop at es)) ∙ ap (λ (ys : List Named). run ++ ys) rest_of

  split : es ≡ front ++ (run ++ back)
  split = sym (parts_of at es) ∙ ap (λ (ys : List Named). front ++ ys) from_at

  start : IsStart (keys_of es) key at
  start = start_there es key at h place

  run_in_order : ascending named_below (run ++ back) ≡ true
  run_in_order = back_ascending front (run ++ back) (ap (ascending named_below) (sym split) ∙ h)

  front_less : (e : Named) → In e front → key_below (key_at e) key ≡ true
  front_less e i = start.1 (key_at e) (key_in_take at es e i)

  front_off : (e : Named) → In e front → IsPrefix key (key_at e) → ⊥
  front_off e i p = let f = prefix_not_below key (key_at e) p in let g = front_less e i in
      absurd (let t : true ≡ false = sym g ∙ f in cc)

  pub run_on : (e : Named) → In e run → IsPrefix key (key_at e)
  run_on e i = (prefix_decides key (key_at e)).0 (of_filter (λ x. is_prefix key (key_at x)) e es
      (subst (λ (ys : List Named). In e ys) is i)).1

  back_in : (e : Named) → In e back → In e es
  back_in e i = in_drop end es e i

  back_off : (e : Named) → In e back → IsPrefix key (key_at e) → ⊥
  back_off e i p =
      let m : In e run = subst (λ (ys : List Named). In e ys) (sym is) (in_filter (λ x. is_prefix key (key_at x)) e es
      (back_in e i) ((prefix_decides key (key_at e)).1 p)) in
      named_never e (front_below run back run_in_order e e m i)

  back_not_less : (e : Named) → In e back → key_below (key_at e) key ≡ false
  back_not_less e i = start.2 (key_at e) (key_in_drop at es e (in_drop_on at end es e order i))

  -- its first is the entry itself
  run_first : (d : Named) → (rest : List Named) × (run ≡ get_or es at d ∷ rest)
  run_first d = by (end - at) refl
    where
      own : (at < length es) × (key_at (get_or es at d) ≡ key)
      own = key_there es key at d place

      there_is : In (get_or es at d) run
      there_is = subst (λ (ys : List Named). In (get_or es at d) ys) (sym is) (in_filter (λ x. is_prefix key (key_at x))
          (get_or es at d) es (in_get es at d own.0) ((prefix_decides key (key_at (get_or es at d))).1
          (subst (λ (k : Key). IsPrefix k (key_at (get_or es at d))) own.1 (prefix_itself (key_at (get_or es at d))))))

      from : drop at es ≡ get_or es at d ∷ drop (at + 1) es
      from = drop_more es at d own.0

      by : (n : ℕ) → end - at ≡ n → (rest : List Named) × (run ≡ get_or es at d ∷ rest)
      by zero e = elim (subst (λ (ys : List Named). In (get_or es at d) ys) (ap (λ (k : ℕ). take k (drop at es)) e)
          there_is) [ ]
      by (suc n) e = (take n (drop (at + 1) es), (λ i. take (e i) (from i)))

  own_key : (d : Named) → key_at (get_or es at d) ≡ key
  own_key d = (key_there es key at d place).1

  module _ (first : Named) (f : first ≡ get_or run 0 first) where
    w : (rest : List Named) × (run ≡ get_or es at first ∷ rest)
    w = run_first first

    abbrev own : Named
    own = get_or es at first

    first_is : first ≡ own
    first_is = f ∙ ap (λ (ys : List Named). get_or ys 0 first) w.1

    in_order : ascending named_below (own ∷ w.0) ≡ true
    in_order = subst (λ (ys : List Named). ascending named_below ys ≡ true) w.1 (front_ascending run back run_in_order)

    rest_moves : (e : Named) → In e w.0 → moves e ≡ respelled_entry (length (name_above name)) rdn e
    rest_moves e i = moved_below name rdn new e
        (λ s. other_key own e w.0 in_order i (own_key first ∙ sym s))
        (run_on e (subst (λ (ys : List Named). In e ys) (sym w.1) (there i)))

    abbrev entry_moved : Named → Named
    entry_moved e = record { name = (respelled_entry (length (name_above name)) rdn e).name; entry = new }

    pub run_moved : map moves run ≡ moved_run (length (name_above name)) rdn new first run
    run_moved =
        ap (map moves) w.1
        ∙ (λ i. (moved_itself name rdn new own (own_key first) ∙ ap entry_moved (sym first_is)) i
        ∷ alike_map moves (respelled_entry (length (name_above name)) rdn) w.0 rest_moves i)
        ∙ ap (λ (ys : List Named). moved_run (length (name_above name)) rdn new first ys) (sym w.1)

  all_moved : map moves es ≡ front ++ (map moves run ++ back)
  all_moved =
      ap (map moves) split ∙ map-append moves front (run ++ back)
      ∙ (λ i. same_map moves front (λ e j. moved_apart name rdn new e (front_off e j)) i ++ map-append moves run back i)
      ∙ ap (λ (ys : List Named). front ++ (map moves run ++ ys))
      (same_map moves back (λ e j. moved_apart name rdn new e (back_off e j)))

  -- what moves keeps its order, and begins with the new key
  key_moved : (e : Named) → In e run → key_at (moves e) ≡ next ++ drop (length key) (key_at e)
  key_moved e i = moved_key name rdn new e full ∙ moved_goes key next (key_at e) (run_on e i)

  key_kept : (e : Named) → In e run → key_at e ≡ key ++ drop (length key) (key_at e)
  key_kept e i = sym (parts_of (length key) (key_at e))
      ∙ ap (λ (k : Key). k ++ drop (length key) (key_at e)) (run_on e i)

  moved_on : (r : Named) → In r (map moves run) → IsPrefix next (key_at r)
  moved_on r i =
      let v = of_map moves r run i in
      subst (λ (k : Key). IsPrefix next k) (sym (ap key_at v.2 ∙ key_moved v.0 v.1))
      (take_front next (drop (length key) (key_at v.0)))
    where
      take_front : (a b : Key) → take (length a) (a ++ b) ≡ a
      take_front [] b = refl
      take_front (x ∷ a) b = ap (λ (k : Key). x ∷ k) (take_front a b)

  pub moved_in_order : ascending named_below (map moves run) ≡ true
  moved_in_order =
      mapped_ascending moves run
      (λ x y i j t.
      (λ k. key_below (key_moved x i k) (key_moved y j k))
      ∙ ap is_lt (behind_alike next (drop (length key) (key_at x)) (drop (length key) (key_at y)))
      ∙ sym (ap is_lt (behind_alike key (drop (length key) (key_at x)) (drop (length key) (key_at y))))
      ∙ (λ k. key_below (sym (key_kept x i) k) (sym (key_kept y j) k))
      ∙ t)
      (front_ascending run back run_in_order)

  -- wherever the new key would go among the others, there the run goes
  settles : (xs ys us : List Named) → xs ++ ys ≡ front ++ back
      → ((x : Named) → In x xs → key_below (key_at x) next ≡ true)
      → ((y : Named) → In y ys → key_below (key_at y) next ≡ false)
      → ((y : Named) → In y ys → IsPrefix next (key_at y) → ⊥)
      → us ≡ sorted_entries (map moves es) → ascending named_below us ≡ true → xs ++ (map moves run ++ ys) ≡ us
  settles xs ys us same before behind off made up =
      one_list_of_entries (xs ++ (map moves run ++ ys)) us
      (put_between next xs (map moves run) ys others moved_in_order before behind off moved_on) up
      (λ e i. subst (λ (zs : List Named). In e zs) (sym made) (in_sorted named_below e (map moves es)
      (subst (λ (zs : List Named). In e zs) (sym all_moved)
      (moved_member front back xs ys (map moves run) same e i))))
      (λ e i. moved_member xs ys front back (map moves run) (sym same) e
      (subst (λ (zs : List Named). In e zs) all_moved (of_sorted named_below e (map moves es)
      (subst (λ (zs : List Named). In e zs) made i))))
    where
      others : ascending named_below (xs ++ ys) ≡ true
      others = ap (ascending named_below) same
          ∙ joined_ascending front back
          (front_ascending front (run ++ back) (ap (ascending named_below) (sym split) ∙ h))
          (back_ascending run back run_in_order)
          (λ a b i j. front_below front (run ++ back) (ap (ascending named_below) (sym split) ∙ h) a b i
          (in_right b run back j))

  pub run_head : (first : Named) × (first ≡ get_or run 0 first)
  run_head = (let w = run_first nobody in (
    get_or es at nobody,
    sym (ap (λ (ys : List Named). get_or ys 0 (get_or es at nobody)) w.1),
  ))

  pub run_count : (first : Named) → at + length (moved_run (length (name_above name)) rdn new first run) ≡ end
  run_count first =
      let a : length (moved_run (length (name_above name)) rdn new first run) ≡ length run =
      length-set (map (respelled_entry (length (name_above name)) rdn) run) 0
      (record { name = (respelled_entry (length (name_above name)) rdn first).name; entry = new })
      ∙ length-map run (respelled_entry (length (name_above name)) rdn) in
      let b : length run ≡ end - at = length-take-le (end - at) (drop at es) (omega (arith, length-drop at es)) in
      omega arith

  -- each is longer than what stands above the entry
  pub run_long : (e : Named) → In e run → length (name_above name) < length e.name
  run_long e i =
      let a : length key ≤ length (key_at e) = prefix_length key (key_at e) (run_on e i) in
      let b : length key ≡ length name = length-map name key_of_rdn in
      let c : length (key_at e) ≡ length e.name = length-map e.name key_of_rdn in
      let d : length (name_above name) ≡ length name - 1 = above_length name in
      omega arith

  pub run_filled : 0 < length run
  run_filled = (let w = run_first nobody in let l : length run ≡ length (get_or es at nobody ∷ w.0) = ap length w.1 in
      omega arith)

  module _ (to : ℕ) (free : IsPlace (keys_of es) next (Err to)) where
    before_it : (x : Named) → In x (take to es) → key_below (key_at x) next ≡ true
    before_it x i = free.1 (key_at x) (key_in_take to es x i)

    behind_it : (y : Named) → In y (drop to es) → key_below (key_at y) next ≡ false
    behind_it y i = not_back next (key_at y) (free.2 (key_at y) (key_in_drop to es y i))

    to_within : to ≤ length es
    to_within = omega (arith, free.0, length-map es key_at)

    -- no place within the run
    not_within : at < to → end ≤ to
    not_within l = by (le_or_less end to)
      where
        by : (end ≤ to) ⊎ (to < end) → end ≤ to
        by (inl m) = m
        by (inr m) = absurd (no_entry es next to free own own_in (sym same))
          where
            own : Named
            own = get_or es at nobody

            own_in : In own es
            own_in = in_get es at nobody (key_there es key at nobody place).0

            own_before : In own (take to es)
            own_before = in_take_on (suc at) to es own (omega arith) (first_in at es (key_there es key at nobody place).0)
              where
                first_in : (n : ℕ) (xs : List Named) → n < length xs → In (get_or xs n nobody) (take (suc n) xs)
                first_in n [] k = absurd (omega arith)
                first_in zero (x ∷ xs) k = here
                first_in (suc n) (x ∷ xs) k = there (first_in n xs (omega arith))

            tail : List Named
            tail = drop to (take end es)

            tail_length : 0 < length tail
            tail_length =
                let a : length tail ≡ length (take end es) - to = length-drop to (take end es) in
                let b : length (take end es) ≡ end = length-take-le end es within in
                omega arith

            other : Named
            other = get_or tail 0 nobody

            other_in : In other tail
            other_in = in_get tail 0 nobody tail_length

            other_behind : In other (drop to es)
            other_behind = in_between to end es other (omega arith) other_in

            other_run : In other run
            other_run = subst (λ (ys : List Named). In other ys) (between_parts at end es order)
                (in_drop_on at to (take end es) other (omega arith) other_in)

            own_less : key_below key next ≡ true
            own_less = ap (λ (k : Key). key_below k next) (sym (own_key nobody)) ∙ before_it own own_before

            on : IsPrefix key next
            on = between key next (key_at other) (not_back key next own_less) (behind_it other other_behind)
                (run_on other other_run)

            same : next ≡ key_at own
            same = sym (same_by_length key next next on (prefix_itself next) lengths) ∙ sym (own_key nobody)
              where
                lengths : length key ≡ length next
                lengths = sym (new_length name rdn full)

  pub place_fits : (to : ℕ) → IsNewPlace es key next at (Some to)
      → (to ≤ at) ⊎ ((end ≤ to) × (to ≤ length es))
  place_fits to (inl u) = inl (let q = u.1 in omega arith)
  place_fits to (inr free) = elim (le_or_less to at) [
    | inl l ↦ inl l
    | inr l ↦ inr (not_within to free l, to_within to free)
  ]

  -- ---- where it goes

  module _ (rs us : List Named) (moved : rs ≡ map moves run) (made : us ≡ sorted_entries (map moves es))
      (up : ascending named_below us ≡ true) where
    run_length : at + length rs ≡ end
    run_length =
        let a : length rs ≡ length run = ap length moved ∙ length-map run moves in
        let b : length run ≡ end - at = length-take-le (end - at) (drop at es) (omega (arith, length-drop at es)) in
        omega arith

    -- under its own key
    pub stays : (ts : List Named) → next ≡ key → IsTurned at at end (front ++ (rs ++ back)) ts → ts ≡ us
    stays ts same turned =
        turned front [] rs back refl (length-take-le at es (omega arith)) (omega arith) run_length
        ∙ ap (λ (zs : List Named). front ++ (zs ++ back)) moved
        ∙ settles front back us refl
        (λ x i. subst (λ (k : Key). key_below (key_at x) k ≡ true) (sym same) (front_less x i))
        (λ y i. subst (λ (k : Key). key_below (key_at y) k ≡ false) (sym same) (back_not_less y i))
        (λ y i p. back_off y i (subst (λ (k : Key). IsPrefix k (key_at y)) same p))
        made up

    module _ (to : ℕ) (free : IsPlace (keys_of es) next (Err to))
        (none : (y : Named) → In y es → IsPrefix next (key_at y) → ⊥) where
      -- it goes back
      pub goes_back : (ts : List Named) → to ≤ at → IsTurned to at end (front ++ (rs ++ back)) ts → ts ≡ us
      goes_back ts l turned =
          turned (take to es) (drop to front) rs back parts (length-take-le to es (to_within to free)) lengths run_length
          ∙ ap (λ (zs : List Named). take to es ++ (zs ++ (drop to front ++ back))) moved
          ∙ settles (take to es) (drop to front ++ back) us
          (sym (append_assoc (take to es) (drop to front) back) ∙ ap (λ (zs : List Named). zs ++ back) of_front)
          (before_it to free)
          (λ y i. behind_it to free y (later y i))
          (λ y i p. none y (in_drop to es y (later y i)) p)
          made up
        where
          of_front : take to es ++ drop to front ≡ front
          of_front = ap (λ (zs : List Named). zs ++ drop to front) (sym (take_take to at es l)) ∙ parts_of to front

          parts : front ++ (rs ++ back) ≡ take to es ++ (drop to front ++ (rs ++ back))
          parts = ap (λ (zs : List Named). zs ++ (rs ++ back)) (sym of_front)
              ∙ append_assoc (take to es) (drop to front) (rs ++ back)

          lengths : to + length (drop to front) ≡ at
          lengths =
              let a : length (drop to front) ≡ length front - to = length-drop to front in
              let b : length front ≡ at = length-take-le at es (omega arith) in
              omega arith

          later : (y : Named) → In y (drop to front ++ back) → In y (drop to es)
          later y i =
              elim (in_either y (drop to front) back i) [
                | inl a ↦ in_between to at es y l a
                | inr b ↦ in_drop_on to end es y (omega arith) b
              ]

      -- it goes on
      pub goes_on : (ts : List Named) → at < to → IsTurned at end to (front ++ (rs ++ back)) ts → ts ≡ us
      goes_on ts l turned =
          turned front rs middle (drop to es) parts (length-take-le at es (omega arith)) run_length lengths
          ∙ ap (λ (zs : List Named). front ++ (middle ++ (zs ++ drop to es))) moved
          ∙ sym (append_assoc front middle (map moves run ++ drop to es))
          ∙ settles (front ++ middle) (drop to es) us
          (append_assoc front middle (drop to es) ∙ ap (λ (zs : List Named). front ++ zs) of_back)
          (λ x i. before_it to free x (earlier x i))
          (behind_it to free)
          (λ y i p. none y (in_drop to es y i) p)
          made up
        where
          far : end ≤ to
          far = not_within to free l

          middle : List Named
          middle = drop end (take to es)

          of_back : middle ++ drop to es ≡ back
          of_back =
              let s : end + (to - end) ≡ to = omega (arith, far) in
              (λ i. between_parts end to es far i ++ drop (sym s i) es)
              ∙ ap (λ (zs : List Named). take (to - end) (drop end es) ++ zs) (sym (drop_on (to - end) end es))
              ∙ parts_of (to - end) (drop end es)

          parts : front ++ (rs ++ back) ≡ front ++ (rs ++ (middle ++ drop to es))
          parts = ap (λ (zs : List Named). front ++ (rs ++ zs)) (sym of_back)

          lengths : end + length middle ≡ to
          lengths =
              let a : length middle ≡ length (take to es) - end = length-drop end (take to es) in
              let b : length (take to es) ≡ to = length-take-le to es (to_within to free) in
              omega (arith, far)

          earlier : (x : Named) → In x (front ++ middle) → In x (take to es)
          earlier x i =
              elim (in_either x front middle i) [
                | inl a ↦ in_take_on at to es x (omega arith) a
                | inr b ↦ in_drop end (take to es) x b
              ]

pub other_name : (a b : Key) → same_key a b ≡ false → a ≡ b → ⊥
other_name a b f e = (let t : same_key a b ≡ true = (key_decides a b).1 e in absurd (let u : true ≡ false = sym t ∙ f in cc))
