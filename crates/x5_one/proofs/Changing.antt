-- One entry more, one less, one changed: lists of entries in order, by the place of a key.
use Rattle.std.proofs.Common.{◌≡◌, ℕ, zero, suc, ◌+◌, ◌<◌, ◌≤◌, Bool, true, false, not, ◌==◌, cond, ◌⊎◌, inl, inr, List, [], ◌∷◌, ◌++◌, length, take, drop, set, get_or, refl, sym, ap, subst, ◌∙◌, arith, Ok, Err}
use Rattle.std.proofs.lemmas.List.{length-map, get_or-map, take_all}
use Rattle.std.specs.List.{filter}
use Rattle.x5_model.specs.Words.{ascending}
use Rattle.x5_model.specs.Members.{In, here, there}
use Rattle.x5_model.specs.Keys.{Key, IsPrefix, same_key, is_prefix, is_below, key_below}
use Rattle.x5_model.specs.Entries.{Named}
use Rattle.x5_model.proofs.KeyLaws.{key_decides, never_below}
use Rattle.x5_model.proofs.Lists.{true_or_false, in_first, in_left, in_right, in_either, in_map, any_in, of_any}
use Rattle.x5_model.proofs.Prefixes.{prefix_decides, below_decides, prefix_length}
use Rattle.x5_model.proofs.Ascending.{rest_ascending, first_below, cons_ascending, sorted_ascending, of_sorted, in_sorted, AllApart}
use Rattle.x5_model_tree.specs.Tree.{key_at, keys_of, named_below, sorted_entries, has_below}
use Rattle.x5_model_tree.specs.Apply.{replace_at}
use Rattle.x5_model_tree.proofs.Order.{named_chain, named_never, one_list_of_entries}
use Rattle.x5_one.specs.Places.{IsPlace}
use Rattle.x5_one.proofs.KeyOrder.{prefix_not_below, between}
use Rattle.x5_one.proofs.Searching.{in_get, at_drop, rising, not_falling, not_back}
use Rattle.x5_one.proofs.Runs.{key_there, keys_ascend, start_there, parts_of, key_in_take, key_in_drop}

-- ---- lists in order

pub joined_ascending : (xs ys : List Named) → ascending named_below xs ≡ true → ascending named_below ys ≡ true → ((x y : Named) → In x xs → In y ys → named_below x y ≡ true) → ascending named_below (xs ++ ys) ≡ true
joined_ascending [] ys h k f = k
joined_ascending (x ∷ xs) ys h k f =
    cons_ascending named_below named_chain x (xs ++ ys)
    (λ z i. elim (in_either z xs ys i) [ inl a ↦ first_below named_below named_chain x z xs h a | inr b ↦ f x z here b ])
    (joined_ascending xs ys (rest_ascending named_below named_chain x xs h) k (λ a b i j. f a b (there i) j))

pub front_ascending : (xs ys : List Named) → ascending named_below (xs ++ ys) ≡ true → ascending named_below xs ≡ true
front_ascending [] ys h = refl
front_ascending (x ∷ xs) ys h =
    cons_ascending named_below named_chain x xs (λ z i. first_below named_below named_chain x z (xs ++ ys) h (in_left z xs ys i)) (front_ascending xs ys (rest_ascending named_below named_chain x (xs ++ ys) h))

pub back_ascending : (xs ys : List Named) → ascending named_below (xs ++ ys) ≡ true → ascending named_below ys ≡ true
back_ascending [] ys h = h
back_ascending (x ∷ xs) ys h = back_ascending xs ys (rest_ascending named_below named_chain x (xs ++ ys) h)

pub front_below : (xs ys : List Named) → ascending named_below (xs ++ ys) ≡ true → (x y : Named) → In x xs → In y ys → named_below x y ≡ true
front_below [] ys h x y i j = elim i [ ]
front_below (z ∷ xs) ys h x y i j =
    elim (in_first x z xs i) [
      | inl e ↦ subst (λ (w : Named). named_below w y ≡ true) (sym e) (first_below named_below named_chain z y (xs ++ ys) h (in_right y xs ys j))
      | inr k ↦ front_below xs ys (rest_ascending named_below named_chain z (xs ++ ys) h) x y k j
    ]

pub take_in_order : (n : ℕ) (xs : List Named) → ascending named_below xs ≡ true → ascending named_below (take n xs) ≡ true
take_in_order n xs h = front_ascending (take n xs) (drop n xs) (ap (ascending named_below) (parts_of n xs) ∙ h)

pub drop_in_order : (n : ℕ) (xs : List Named) → ascending named_below xs ≡ true → ascending named_below (drop n xs) ≡ true
drop_in_order n xs h = back_ascending (take n xs) (drop n xs) (ap (ascending named_below) (parts_of n xs) ∙ h)

-- a list in order with the members of another is that one sorted
pub sorted_is : (xs ys : List Named) → ascending named_below xs ≡ true → AllApart named_below ys → ((e : Named) → In e xs → In e ys) → ((e : Named) → In e ys → In e xs) → xs ≡ sorted_entries ys
sorted_is xs ys h apart f g =
    one_list_of_entries xs (sorted_entries ys) h (sorted_ascending named_below named_chain ys apart)
    (λ e i. in_sorted named_below e ys (f e i)) (λ e i. g e (of_sorted named_below e ys i))

-- ---- one entry more

pub apart_behind : (xs : List Named) (new : Named) → ascending named_below xs ≡ true → ((z : Named) → In z xs → (named_below z new ≡ true) ⊎ (named_below new z ≡ true)) → AllApart named_below (xs ++ new ∷ [])
apart_behind [] new h f = ((λ z i. elim i [ ]), tt)
apart_behind (x ∷ xs) new h f = (
  (λ z i. elim (in_either z xs (new ∷ []) i) [
    | inl a ↦ inl (first_below named_below named_chain x z xs h a)
    | inr b ↦ subst (λ (w : Named). (named_below x w ≡ true) ⊎ (named_below w x ≡ true)) (sym (only z new b)) (f x here)
  ]),
  apart_behind xs new (rest_ascending named_below named_chain x xs h) (λ z i. f z (there i)),
)
  where
    only : (z new : Named) → In z (new ∷ []) → z ≡ new
    only z new i = elim (in_first z new [] i) [ inl e ↦ e | inr j ↦ elim j [ ] ]

pub put_in : (xs : List Named) (new : Named) (i : ℕ) → ascending named_below xs ≡ true → IsPlace (keys_of xs) (key_at new) (Err i) → take i xs ++ new ∷ drop i xs ≡ sorted_entries (xs ++ new ∷ [])
put_in xs new i h w =
    sorted_is (take i xs ++ new ∷ drop i xs) (xs ++ new ∷ [])
    (joined_ascending (take i xs) (new ∷ drop i xs) (take_in_order i xs h)
    (cons_ascending named_below named_chain new (drop i xs) above (drop_in_order i xs h))
    (λ a b k l. elim (in_first b new (drop i xs) l) [
      | inl e ↦ subst (λ (z : Named). named_below a z ≡ true) (sym e) (under a k)
      | inr m ↦ named_chain a new b (under a k) (above b m)
    ]))
    (apart_behind xs new h (λ z k. elim (in_either z (take i xs) (drop i xs) (subst (λ (ys : List Named). In z ys) (sym (parts_of i xs)) k)) [
      | inl a ↦ inl (under z a)
      | inr b ↦ inr (above z b)
    ]))
    (λ e k. elim (in_either e (take i xs) (new ∷ drop i xs) k) [
      | inl a ↦ in_left e xs (new ∷ []) (whole e (in_left e (take i xs) (drop i xs) a))
      | inr b ↦ elim (in_first e new (drop i xs) b) [
        | inl s ↦ in_right e xs (new ∷ []) (subst (λ (z : Named). In z (new ∷ [])) (sym s) here)
        | inr d ↦ in_left e xs (new ∷ []) (whole e (in_right e (take i xs) (drop i xs) d))
      ]
    ])
    (λ e k. elim (in_either e xs (new ∷ []) k) [
      | inl a ↦ elim (in_either e (take i xs) (drop i xs) (subst (λ (ys : List Named). In e ys) (sym (parts_of i xs)) a)) [
        | inl t ↦ in_left e (take i xs) (new ∷ drop i xs) t
        | inr d ↦ in_right e (take i xs) (new ∷ drop i xs) (there d)
      ]
      | inr b ↦ in_right e (take i xs) (new ∷ drop i xs) (elim (in_first e new [] b) [ inl s ↦ subst (λ (z : Named). In z (new ∷ drop i xs)) (sym s) here | inr j ↦ elim j [ ] ])
    ])
  where
    under : (a : Named) → In a (take i xs) → named_below a new ≡ true
    under a k = w.1 (key_at a) (key_in_take i xs a k)

    above : (a : Named) → In a (drop i xs) → named_below new a ≡ true
    above a k = w.2 (key_at a) (key_in_drop i xs a k)

    whole : (e : Named) → In e (take i xs ++ drop i xs) → In e xs
    whole e k = subst (λ (ys : List Named). In e ys) (parts_of i xs) k

-- ---- one entry less, and one changed

pub other_key : (x z : Named) (xs : List Named) → ascending named_below (x ∷ xs) ≡ true → In z xs → (key_at x ≡ key_at z) → ⊥
other_key x z xs h i e = named_never x (subst (λ (k : Key). key_below (key_at x) k ≡ true) (sym e) (first_below named_below named_chain x z xs h i))

pub not_same : (a b : Key) → (a ≡ b → ⊥) → same_key a b ≡ false
not_same a b f = elim (true_or_false (same_key a b)) [ inl t ↦ absurd (f ((key_decides a b).0 t)) | inr p ↦ p ]

keep_all : (xs : List Named) (key : Key) → ((z : Named) → In z xs → key_at z ≡ key → ⊥) → filter (λ e. not (same_key (key_at e) key)) xs ≡ xs
keep_all [] key f = refl
keep_all (x ∷ xs) key f =
    ap (λ (b : Bool). cond (not b) (x ∷ filter (λ e. not (same_key (key_at e) key)) xs) (filter (λ e. not (same_key (key_at e) key)) xs)) (not_same (key_at x) key (f x here))
    ∙ ap (λ (ys : List Named). x ∷ ys) (keep_all xs key (λ z i. f z (there i)))

pub take_out : (xs : List Named) (key : Key) (i : ℕ) (d : Named) → ascending named_below xs ≡ true → i < length xs → key_at (get_or xs i d) ≡ key → take i xs ++ drop (suc i) xs ≡ filter (λ e. not (same_key (key_at e) key)) xs
take_out [] key i d h l e = absurd (omega arith)
take_out (x ∷ xs) key zero d h l e =
    sym (ap (λ (b : Bool). cond (not b) (x ∷ filter (λ e. not (same_key (key_at e) key)) xs) (filter (λ e. not (same_key (key_at e) key)) xs)) ((key_decides (key_at x) key).1 e)
    ∙ keep_all xs key (λ z i s. other_key x z xs h i (e ∙ sym s)))
take_out (x ∷ xs) key (suc i) d h l e =
    ap (λ (ys : List Named). x ∷ ys) (take_out xs key i d (rest_ascending named_below named_chain x xs h) (omega arith) e)
    ∙ sym (ap (λ (b : Bool). cond (not b) (x ∷ filter (λ e. not (same_key (key_at e) key)) xs) (filter (λ e. not (same_key (key_at e) key)) xs))
    (not_same (key_at x) key (λ s. other_key x (get_or xs i d) xs h (in_get xs i d (omega arith)) (s ∙ sym e))))

same_all : (xs : List Named) (key : Key) (new : Named) → ((z : Named) → In z xs → key_at z ≡ key → ⊥) → replace_at key new xs ≡ xs
same_all [] key new f = refl
same_all (x ∷ xs) key new f =
    (λ i. cond (not_same (key_at x) key (f x here) i) new x ∷ same_all xs key new (λ z j. f z (there j)) i)

pub put_over : (xs : List Named) (key : Key) (i : ℕ) (d new : Named) → ascending named_below xs ≡ true → i < length xs → key_at (get_or xs i d) ≡ key → set xs i new ≡ replace_at key new xs
put_over [] key i d new h l e = absurd (omega arith)
put_over (x ∷ xs) key zero d new h l e =
    sym (λ i. cond ((key_decides (key_at x) key).1 e i) new x ∷ same_all xs key new (λ z j s. other_key x z xs h j (e ∙ sym s)) i)
put_over (x ∷ xs) key (suc i) d new h l e =
    ap (λ (ys : List Named). x ∷ ys) (put_over xs key i d new (rest_ascending named_below named_chain x xs h) (omega arith) e)
    ∙ sym (λ j. cond (not_same (key_at x) key (λ s. other_key x (get_or xs i d) xs h (in_get xs i d (omega arith)) (s ∙ sym e)) j) new x ∷ replace_at key new xs)

pub next_is : (i : ℕ) → i + 1 ≡ suc i
next_is i = omega arith

-- ---- what stands below an entry

same_length : (a b : Key) → IsPrefix a b → length a ≡ length b → a ≡ b
same_length a b p e = sym (sym (take_all (length a) b (omega arith)) ∙ p)

pub longer_than : (a b : Key) → IsPrefix a b → key_below a b ≡ true → length a < length b
longer_than a b p less = by (length a == length b) refl
  where
    short : length a ≤ length b
    short = prefix_length a b p

    by : (t : Bool) → (length a == length b) ≡ t → length a < length b
    by true e = absurd (let n : length a ≡ length b = grind arith in never_below a (subst (λ (k : Key). key_below a k ≡ true) (sym (same_length a b p n)) less))
    by false e = (let n : (length a ≡ length b) → ⊥ = (λ (s : length a ≡ length b). let t : (length a == length b) ≡ true = grind arith in cc) in omega (arith, short, n))

-- what stands below the key stands behind it
behind_own : (xs : List Named) (key : Key) (i : ℕ) → ascending named_below xs ≡ true → IsPlace (keys_of xs) key (Ok i) → (z : Named) → In z xs → length key < length (key_at z) → IsPrefix key (key_at z)
    → (k : ℕ) × ((i + 1 ≤ k) × (k < length (keys_of xs))) × ((d : Key) → get_or (keys_of xs) k d ≡ key_at z)
behind_own xs key i h w z m l p =
    elim (in_either (key_at z) (take i (keys_of xs)) (drop i (keys_of xs)) (subst (λ (ks : List Key). In (key_at z) ks) (sym (parts_of i (keys_of xs))) (in_map key_at z xs m))) [
      | inl a ↦ absurd (let s = start_there xs key i h w in let f = prefix_not_below key (key_at z) p in let g : key_below (key_at z) key ≡ true = s.1 (key_at z) a in cc)
      | inr b ↦ elim (in_first (key_at z) key (drop (i + 1) (keys_of xs)) (subst (λ (ks : List Key). In (key_at z) ks) w.1 b)) [
        | inl e ↦ absurd (let n : length (key_at z) ≡ length key = ap length e in omega arith)
        | inr j ↦ (let v = at_drop (i + 1) (keys_of xs) (key_at z) j in (v.0, (v.1, v.2), v.3))
      ]
    ]

pub below_next : (xs : List Named) (key : Key) (i : ℕ) (next : Named) → ascending named_below xs ≡ true → IsPlace (keys_of xs) key (Ok i) → (i + 1 < length xs) × ((d : Named) → next ≡ get_or xs (i + 1) d) → is_prefix key (key_at next) ≡ has_below xs key
below_next xs key i next h w at = by (is_prefix key (key_at next)) refl
  where
    ks : ascending key_below (keys_of xs) ≡ true
    ks = sym (keys_ascend xs) ∙ h

    own : (i < length xs) × (key_at (get_or xs i next) ≡ key)
    own = key_there xs key i next w

    next_there : In next xs
    next_there = subst (λ (z : Named). In z xs) (sym (at.1 next)) (in_get xs (i + 1) next at.0)

    key_is : get_or (keys_of xs) i key ≡ key
    key_is = get_or-map key_at xs i next key own.0 ∙ own.1

    next_is_there : get_or (keys_of xs) (i + 1) key ≡ key_at next
    next_is_there = get_or-map key_at xs (i + 1) next key at.0 ∙ ap key_at (sym (at.1 next))

    above_own : key_below key (key_at next) ≡ true
    above_own = (λ j. key_below (sym key_is j) (sym next_is_there j)) ∙ rising (keys_of xs) key i (i + 1) ks (omega arith) (omega (arith, at.0, length-map xs key_at))

    by : (b : Bool) → is_prefix key (key_at next) ≡ b → b ≡ has_below xs key
    by true p =
        let on : IsPrefix key (key_at next) = (prefix_decides key (key_at next)).0 p in
        let longer : length key < length (key_at next) = longer_than key (key_at next) on above_own in
        sym (any_in (λ e. is_below key (key_at e)) next xs next_there ((below_decides key (key_at next)).1 (longer, on)))
    by false p = elim (true_or_false (has_below xs key)) [
      | inr f ↦ sym f
      | inl t ↦ absurd (
          let z = of_any (λ e. is_below key (key_at e)) xs t in
          let under = (below_decides key (key_at z.0)).0 z.2 in
          let place = behind_own xs key i h w z.0 z.1 under.0 under.1 in
          let not_less : key_below (key_at z.0) (key_at next) ≡ false = (λ j. key_below (sym (place.2 key) j) (sym next_is_there j)) ∙ not_falling (keys_of xs) key (i + 1) place.0 ks place.1.0 place.1.1 in
          let here_too : is_prefix key (key_at next) ≡ true = (prefix_decides key (key_at next)).1 (between key (key_at next) (key_at z.0) (not_back key (key_at next) above_own) not_less under.1) in
          cc)
    ]

pub below_none : (xs : List Named) (key : Key) (i : ℕ) → ascending named_below xs ≡ true → IsPlace (keys_of xs) key (Ok i) → length xs ≤ i + 1 → false ≡ has_below xs key
below_none xs key i h w l =
    elim (true_or_false (has_below xs key)) [
      | inr f ↦ sym f
      | inl t ↦ absurd (
          let z = of_any (λ e. is_below key (key_at e)) xs t in
          let under = (below_decides key (key_at z.0)).0 z.2 in
          let place = behind_own xs key i h w z.0 z.1 under.0 under.1 in
          let m = place.1.0 in
          let n = place.1.1 in
          omega (arith, length-map xs key_at))
    ]
