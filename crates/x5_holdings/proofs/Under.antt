-- What stands at a key or below it is a run of rows in order: those of lesser keys stand before it, and what stands
-- between two of it belongs to it. Where a longer key stands, none of its run has so many RDNs as are asked for.
use Rattle.std.proofs.Common.{◌≡◌, ℕ, zero, suc, ◌+◌, ◌<◌, ◌≤◌, Bool, true, false, cond, List, [], ◌∷◌, ◌++◌}
use Rattle.std.proofs.Common.{inl, inr, append_assoc, map, length, take, drop, get_or, refl, sym, ap, subst, ◌∙◌, arith}
use Rattle.std.proofs.lemmas.List.{append-nil, drop_more, get_or-drop, get_or-take, length-drop, length-map, length-take, take-map}
use Rattle.std.proofs.lemmas.List.Sorted.{sorted_far, ranks_by}
use Rattle.std.specs.List.{filter, AllWithin}
use Rattle.std.specs.List.Sorted.{IsSorted, IsPartitionedBy, IsPartitionPoint}
use Rattle.std.specs.Cmp.{tied_itself}
use Rattle.std.specs.Ordering.{is_lt, is_eq, ordering_then, ordering_reverse}
use Rattle.std.specs.declared.cmp.Ordering.{Ordering}
use Rattle.std.specs.declared.cmp.Ordering.TheVariants.{Less, Equal, Greater}
use Rattle.x5_model.specs.Keys.{Key, KeyRdn, IsPrefix, is_prefix, rdn_cmp, key_cmp, key_below}
use Rattle.x5_model.specs.Values.{Name, key_of, key_of_rdn}
use Rattle.x5_model.proofs.Decide.{nat_same_decides}
use Rattle.x5_model.proofs.KeyLaws.{rdn_cmp_total, key_ties, equal_keys, neither_below, below_chain}
use Rattle.x5_model.proofs.Lists.{true_or_false}
use Rattle.x5_model.proofs.Prefixes.{prefix_decides, prefix_itself, prefix_length, take_is_prefix, same_by_length}
use Rattle.x5_holdings.specs.Rows.{KeyRow, row_cmp}
use Rattle.x5_holdings.specs.RowOrder.{row_cmp_total}
use Rattle.x5_holdings.specs.Runs.{stands_under, is_long, long_places}
use Rattle.x5_holdings.proofs.Sought.{below_key, same_item}

-- ---- keys that begin with a key

first_same : (r s : KeyRdn) (a b : Key) → r ∷ a ≡ s ∷ b → r ≡ s
first_same r s a b e = cc

rest_same : (r s : KeyRdn) (a b : Key) → r ∷ a ≡ s ∷ b → a ≡ b
rest_same r s a b e = cc

rdns_equal : (r s : KeyRdn) → rdn_cmp r s ≡ Equal → r ≡ s
rdns_equal r s e = first_same r s [] [] (equal_keys (r ∷ []) (s ∷ []) (ap (λ (o : Ordering). ordering_then o Equal) e))

-- what begins with a key isn't below it
pub under_not_below : (a x : Key) → IsPrefix a x → key_below x a ≡ false
under_not_below [] [] h = refl
under_not_below [] (s ∷ x) h = refl
under_not_below (r ∷ a) [] h = cc
under_not_below (r ∷ a) (s ∷ x) h =
    let same : s ≡ r = first_same s r (take (length a) x) a h in
    ap (λ (t : KeyRdn). is_lt (ordering_then (rdn_cmp t r) (key_cmp x a))) same
    ∙ ap (λ (o : Ordering). is_lt (ordering_then o (key_cmp x a))) (tied_itself rdn_cmp_total r)
    ∙ under_not_below a x (rest_same s r (take (length a) x) a h)

-- what stands between a key and something that begins with it begins with it too
between : (a x z : Key) → key_below x a ≡ false → key_below z x ≡ false → IsPrefix a z → IsPrefix a x
between [] x z p q h = refl
between (r ∷ a) [] z p q h = cc
between (r ∷ a) (s ∷ x) [] p q h = cc
between (r ∷ a) (s ∷ x) (t ∷ z) p q h = by (rdn_cmp s r) refl (λ p_rest q_rest. between a x z p_rest q_rest
    (rest_same t r (take (length a) z) a h))
  where
    same : t ≡ r
    same = first_same t r (take (length a) z) a h

    by : (o : Ordering) → rdn_cmp s r ≡ o → (key_below x a ≡ false → key_below z x ≡ false → IsPrefix a x)
        → IsPrefix (r ∷ a) (s ∷ x)
    by Less e rest = absurd (let f : is_lt (ordering_then (rdn_cmp s r) (key_cmp x a))
        ≡ true = ap (λ (o : Ordering). is_lt (ordering_then o (key_cmp x a))) e in let g : true ≡ false = sym f
        ∙ p in cc)
    by Greater e rest = absurd (
        let back : rdn_cmp t s ≡ Less = ap (λ (u : KeyRdn). rdn_cmp u s) same ∙ rdn_cmp_total.antisymm r s
        ∙ ap ordering_reverse e in
        let f : is_lt (ordering_then (rdn_cmp t s) (key_cmp z x))
        ≡ true = ap (λ (o : Ordering). is_lt (ordering_then o (key_cmp z x))) back in
        let g : true ≡ false = sym f ∙ q in cc)
    by Equal e rest =
        let is : s ≡ r = rdns_equal s r e in
        let back : rdn_cmp t s ≡ Equal = (λ i. rdn_cmp (same i) (is i)) ∙ tied_itself rdn_cmp_total r in
        let p_rest : key_below x a ≡ false = sym (ap (λ (o : Ordering). is_lt (ordering_then o (key_cmp x a))) e) ∙ p in
        let q_rest : key_below z x ≡ false = sym (ap (λ (o : Ordering). is_lt (ordering_then o
        (key_cmp z x))) back) ∙ q in
        let behind : take (length a) x ≡ a = rest p_rest q_rest in
        λ i. is i ∷ behind i

-- ---- rows in order

module _ (rows : List KeyRow) (ordered : IsSorted row_cmp rows) where
  far : (i j : ℕ) (d : KeyRow) → i ≤ j → j < length rows → is_lt (row_cmp (get_or rows j d) (get_or rows i d)) ≡ false
  far i j d le lt = sorted_far (λ a c. is_lt (row_cmp a c)) (ranks_by row_cmp_total (λ (r : KeyRow). r)) rows ordered i
      j d le lt

  -- a later key isn't below an earlier one
  pub not_falling : (i j : ℕ) (d : KeyRow) → i ≤ j → j < length rows → key_below (get_or rows j d).0 (get_or rows i d).0
      ≡ false
  not_falling i j d le lt =
      elim (true_or_false (key_below (get_or rows j d).0 (get_or rows i d).0)) [
        | inl t ↦ absurd (
            let s : is_lt (row_cmp (get_or rows j d) (get_or rows i d)) ≡ true = below_key (get_or rows j d)
            (get_or rows i d) t in
            let f = far i j d le lt in
            cc)
        | inr f ↦ f
      ]

  -- where none is below the key, those at or below it come first
  pub under_first : (key : Key) → ((i : ℕ) (d : KeyRow) → i < length rows → key_below (get_or rows i d).0 key ≡ false)
      → IsPartitionedBy (stands_under key) rows
  under_first key none i j d le lt p =
      (prefix_decides key (get_or rows i d).0).1
      (between key (get_or rows i d).0 (get_or rows j d).0 (none i d (omega arith)) (not_falling i j d le lt)
      ((prefix_decides key (get_or rows j d).0).0 p))

-- what stands under a key isn't below it
pub none_under : (rows : List KeyRow) (key : Key) (s : ℕ) → IsPartitionPoint (λ (r : KeyRow). key_below r.0 key ≡ true)
    (λ (r : KeyRow). key_below r.0 key ≡ false) rows s → AllWithin (λ (r : KeyRow). stands_under key r ≡ false) rows 0 s
none_under rows key s split k d low high =
    elim (true_or_false (stands_under key (get_or rows k d))) [
      | inl t ↦ absurd (
          let f = under_not_below key (get_or rows k d).0 ((prefix_decides key (get_or rows k d).0).0 t) in
          let b = split.0 k d low high in
          cc)
      | inr f ↦ f
    ]

pub drop_ordered : (rows : List KeyRow) (n : ℕ) → IsSorted row_cmp rows → IsSorted row_cmp (drop n rows)
drop_ordered rows n ordered k d low high =
    let l : n + k + 1 < length rows = omega (arith, length-drop n rows) in
    let e : get_or (drop n rows) (k + 1) d ≡ get_or rows (n + k + 1) d = get_or-drop n rows (k + 1) d
    ∙ (let f : n + (k + 1) ≡ n + k + 1 = omega arith in ap (λ (m : ℕ). get_or rows m d) f) in
    (λ i. is_lt (row_cmp (e i) (get_or-drop n rows k d i))) ∙ ordered (n + k) d (omega arith) l

pub take_ordered : (rows : List KeyRow) (n : ℕ) → IsSorted row_cmp rows → IsSorted row_cmp (take n rows)
take_ordered rows n ordered k d low high =
    let l : (k + 1 < n) × (k + 1 < length rows) = (
      omega (arith, high, length-take n rows),
      omega (
        arith,
        high,
        length-take n rows,
      ),
    ) in
    (λ i. is_lt (row_cmp (get_or-take n rows (k + 1) d l.0 i) (get_or-take n rows k d (omega (arith, l.0)) i)))
    ∙ ordered k d low l.1

-- ---- the run that two places part from the others

module _ {A : Type 0} (test : A → Bool) where
  abbrev step : Bool → A → List A → List A
  step b x xs = cond b (x ∷ xs) xs

  from_start : (xs : List A) (c : ℕ) → IsPartitionPoint (λ x. test x ≡ true) (λ x. test x ≡ false) xs c
      → take c xs ≡ filter test xs
  from_start [] zero h = refl
  from_start [] (suc c) h = refl
  from_start (x ∷ xs) zero h =
      from_start xs zero ((λ k d low high. absurd (omega arith)), (λ k d low high. h.1 (suc k) d (omega arith) (omega arith)))
      ∙ sym (ap (λ (b : Bool). step b x (filter test xs)) (h.1 0 x (omega arith) (omega arith)))
  from_start (x ∷ xs) (suc c) h =
      ap (λ (ys : List A). x ∷ ys)
      (from_start xs c (
        (λ k d low high. h.0 (suc k) d (omega arith) (omega arith)),
        (λ k d low high. h.1 (suc k) d (omega arith) (omega arith)),
      ))
      ∙ sym (ap (λ (b : Bool). step b x (filter test xs)) (h.0 0 x (omega arith) (omega arith)))

  pub run_between : (xs : List A) (s c : ℕ) → AllWithin (λ x. test x ≡ false) xs 0 s
      → IsPartitionPoint (λ x. test x ≡ true) (λ x. test x ≡ false) (drop s xs) c → take c (drop s xs) ≡ filter test xs
  run_between xs zero c front parts = from_start xs c parts
  run_between [] (suc s) zero front parts = refl
  run_between [] (suc s) (suc c) front parts = refl
  run_between (x ∷ xs) (suc s) c front parts =
      run_between xs s c (λ k d low high. front (suc k) d (omega arith) (omega arith)) parts
      ∙ sym (ap (λ (b : Bool). step b x (filter test xs)) (front 0 x (omega arith) (omega arith)))

  -- where none of the first passes, they may be left out
  pub left_out : (xs : List A) (c : ℕ) → AllWithin (λ x. test x ≡ false) xs 0 c → c ≤ length xs
      → filter test (drop c xs) ≡ filter test xs
  left_out xs zero front le = refl
  left_out [] (suc c) front le = refl
  left_out (x ∷ xs) (suc c) front le =
      left_out xs c (λ k d low high. front (suc k) d (omega arith) (omega arith)) (omega arith)
      ∙ sym (ap (λ (b : Bool). step b x (filter test xs)) (front 0 x (omega arith) (omega arith)))

-- ---- names that begin with a name

pub begins : (rdns name part : Name) (o : Ordering) (b : Bool) → part ≡ take (length rdns) name
    → o ≡ key_cmp (key_of part) (key_of rdns) → b ≡ is_eq o → b ≡ is_prefix (key_of rdns) (key_of name)
begins rdns name part o b e f g =
    let front : key_of part ≡ take (length (key_of rdns)) (key_of name) = ap key_of e
    ∙ sym (take-map key_of_rdn (length rdns) name)
    ∙ ap (λ (n : ℕ). take n (key_of name)) (sym (length-map rdns key_of_rdn)) in
    g ∙ ap is_eq (f ∙ ap (λ (k : Key). key_cmp k (key_of rdns)) front)
    ∙ sym (key_ties (take (length (key_of rdns)) (key_of name)) (key_of rdns))

pub too_short : (rdns name : Name) → length name < length rdns → is_prefix (key_of rdns) (key_of name) ≡ false
too_short rdns name l =
    elim (true_or_false (is_prefix (key_of rdns) (key_of name))) [
      | inl t ↦ absurd (
          let p = prefix_length (key_of rdns) (key_of name) ((prefix_decides (key_of rdns) (key_of name)).0 t) in
          omega (arith, p, l, length-map rdns key_of_rdn, length-map name key_of_rdn))
      | inr f ↦ f
    ]

-- ---- where the first of the rows has more RDNs than are asked for

shorter_below : (a b : Key) → IsPrefix a b → length a < length b → key_below a b ≡ true
shorter_below a b p l =
    elim (true_or_false (key_below a b)) [
      | inl t ↦ t
      | inr f ↦ absurd (
          let e : length a ≡ length b = ap length (neither_below a b f (under_not_below a b p)) in
          omega (arith, e, l))
    ]

module _ (rows : List KeyRow) (ordered : IsSorted row_cmp rows) (count : ℕ) (d : KeyRow) (some : 0 < length rows)
    (longer : count < length (get_or rows 0 d).0) where
  abbrev first : Key
  first = (get_or rows 0 d).0

  abbrev front : Key
  front = take count first

  at_front : IsPrefix front first
  at_front = take_is_prefix count first (omega (arith, longer))

  front_length : length front ≡ count
  front_length = omega (arith, length-take count first, longer)

  front_below : key_below front first ≡ true
  front_below = shorter_below front first at_front (omega (arith, front_length, longer))

  not_before : (i : ℕ) (e : KeyRow) → i < length rows → key_below (get_or rows i e).0 first ≡ false
  not_before i e l = ap (λ (k : KeyRow). key_below (get_or rows i e).0 k.0) (same_item rows 0 d e some)
      ∙ not_falling rows ordered 0 i e (omega arith) l

  pub behind_front : (i : ℕ) (e : KeyRow) → i < length rows → key_below (get_or rows i e).0 front ≡ false
  behind_front i e l =
      elim (true_or_false (key_below (get_or rows i e).0 front)) [
        | inl t ↦ absurd (
            let s : key_below (get_or rows i e).0 first ≡ true = below_chain (get_or rows i e).0 front first t
            front_below in
            let f = not_before i e l in
            cc)
        | inr f ↦ f
      ]

  module _ (name : Name) (is : key_of name ≡ first) where
    at_name : key_of (take count name) ≡ front
    at_name = sym (take-map key_of_rdn count name) ∙ ap (take count) is

    pub behind_name : (i : ℕ) (e : KeyRow) → i < length rows → key_below (get_or rows i e).0 (key_of (take count name))
        ≡ false
    behind_name i e l = ap (key_below (get_or rows i e).0) at_name ∙ behind_front i e l

    module _ (n : ℕ) (parts : IsPartitionPoint (λ (r : KeyRow). stands_under (key_of (take count name)) r ≡ true)
        (λ (r : KeyRow). stands_under (key_of (take count name)) r ≡ false) rows n) where
      split : IsPartitionPoint (λ (r : KeyRow). stands_under front r ≡ true) (λ (r : KeyRow). stands_under front r
          ≡ false) rows n
      split = subst (λ (k : Key). IsPartitionPoint (λ (r : KeyRow). stands_under k r ≡ true)
          (λ (r : KeyRow). stands_under k r ≡ false) rows n) at_name parts

      pub some_under : 0 < n
      some_under = by n refl
        where
          by : (m : ℕ) → n ≡ m → 0 < n
          by zero e = absurd (
              let t : stands_under front (get_or rows 0 d) ≡ true = (prefix_decides front first).1 at_front in
              let f = split.1 0 d (omega (arith, e)) some in
              cc)
          by (suc m) e = omega (arith, e)

      none_long : n ≤ length rows → AllWithin (λ (r : KeyRow). is_long count r ≡ false) rows 0 n
      none_long le k e low high =
          elim (true_or_false (is_long count (get_or rows k e))) [
            | inl t ↦ absurd (
                let p : IsPrefix front (get_or rows k e).0 = (prefix_decides front (get_or rows k e).0).0
                (split.0 k e low high) in
                let m : length (get_or rows k e).0 ≡ count = (nat_same_decides (length (get_or rows k e).0) count).0 t in
                let same : front ≡ (get_or rows k e).0 = same_by_length front (get_or rows k e).0 (get_or rows k e).0 p
                (prefix_itself (get_or rows k e).0) (omega (arith, front_length, m)) in
                let b : key_below (get_or rows k e).0 first ≡ true = subst (λ (x : Key). key_below x first ≡ true) same
                front_below in
                let f = not_before k e (omega (arith, high, le)) in
                cc)
            | inr f ↦ f
          ]

      pub none_missed : n ≤ length rows → filter (is_long count) (drop n rows) ≡ filter (is_long count) rows
      none_missed le = left_out (is_long count) rows n (none_long le) le

-- ---- the places of those with so many RDNs, row by row

module _ (count : ℕ) where
  one_long : (r : KeyRow) (rs : List KeyRow) → long_places count (r ∷ rs) ≡ long_places count (r ∷ []) ++ long_places count rs
  one_long r rs = by (is_long count r)
    where
      by : (b : Bool) → map (λ (x : KeyRow). x.1) (step (is_long count) b r (filter (is_long count) rs))
          ≡ map (λ (x : KeyRow). x.1) (step (is_long count) b r []) ++ long_places count rs
      by true = refl
      by false = refl

  pub long_more : (rows : List KeyRow) (next : ℕ) (r : KeyRow) (places more : List ℕ) → next < length rows
      → r ≡ get_or rows next r → more ≡ places ++ long_places count (r ∷ [])
      → places ++ long_places count (drop next rows) ≡ long_places count rows
      → more ++ long_places count (drop (next + 1) rows) ≡ long_places count rows
  long_more rows next r places more l is e h =
      let rest : drop next rows ≡ r ∷ drop (next + 1) rows = drop_more rows next r l
      ∙ ap (λ (x : KeyRow). x ∷ drop (next + 1) rows) (sym is) in
      ap (λ (ps : List ℕ). ps ++ long_places count (drop (next + 1) rows)) e
      ∙ append_assoc places (long_places count (r ∷ [])) (long_places count (drop (next + 1) rows))
      ∙ ap (λ (ps : List ℕ). places ++ ps) (sym (one_long r (drop (next + 1) rows)))
      ∙ ap (λ (rs : List KeyRow). places ++ long_places count rs) (sym rest) ∙ h

  pub long_passed : (rows : List KeyRow) (next n : ℕ) (places : List ℕ)
      → filter (is_long count) (drop n (drop next rows)) ≡ filter (is_long count) (drop next rows)
      → places ++ long_places count (drop next rows) ≡ long_places count rows
      → places ++ long_places count (drop (next + n) rows) ≡ long_places count rows
  long_passed rows next n places e h =
      ap (λ (rs : List KeyRow). places ++ long_places count rs) (drop_drop rows next n)
      ∙ ap (λ (rs : List KeyRow). places ++ map (λ (x : KeyRow). x.1) rs) e ∙ h
    where
      nothing : (m : ℕ) → drop {A = KeyRow} m [] ≡ []
      nothing zero = refl
      nothing (suc m) = refl

      drop_drop : (xs : List KeyRow) (a b : ℕ) → drop (a + b) xs ≡ drop b (drop a xs)
      drop_drop xs zero b = ap (λ (m : ℕ). drop m xs) (let f : zero + b ≡ b = omega arith in f)
      drop_drop [] (suc a) b = nothing (suc a + b) ∙ sym (nothing b)
      drop_drop (x ∷ xs) (suc a) b = ap (λ (m : ℕ). drop m (x ∷ xs))
          (let f : suc a + b ≡ suc (a + b) = omega arith in f) ∙ drop_drop xs a b

  pub all_passed : (rows : List KeyRow) (next : ℕ) (places : List ℕ) → length rows ≤ next
      → places ++ long_places count (drop next rows) ≡ long_places count rows → places ≡ long_places count rows
  all_passed rows next places le h =
      sym (append-nil places)
      ∙ ap (λ (rs : List KeyRow). places ++ long_places count rs) (sym (nothing_left rows next le)) ∙ h
    where
      nothing_left : (xs : List KeyRow) (n : ℕ) → length xs ≤ n → drop n xs ≡ []
      nothing_left [] zero l = refl
      nothing_left [] (suc n) l = refl
      nothing_left (x ∷ xs) zero l = absurd (omega arith)
      nothing_left (x ∷ xs) (suc n) l = nothing_left xs n (omega arith)
