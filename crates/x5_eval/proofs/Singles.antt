-- No two contexts that a request may be answered from have one pin: those that are mastered have pins of their own, and so have
-- copies; and no copy that counts has the pin of a context that is mastered.
use Rattle.std.proofs.Common.{◌≡◌, ℕ, ◌+◌, ◌<◌, ◌≤◌, nat_lt, Bool, true, false, cond, not, ◌&&◌, ◌⊎◌, inl, inr, List, [], ◌∷◌, length, map, refl, sym, ap, subst, ◌∙◌, arith, Option, Some, None}
use Rattle.std.specs.List.{filter, find}
use Rattle.std.specs.Option.{is_some}
use Rattle.x5_model.specs.Words.{in_option, distinct, has}
use Rattle.x5_model.specs.Members.{In, here, there}
use Rattle.x5_model.specs.Keys.{Key, same_key}
use Rattle.x5_model.specs.Values.{key_of}
use Rattle.x5_model.specs.Requests.{Request}
use Rattle.x5_model.proofs.KeyLaws.{key_decides}
use Rattle.x5_model.proofs.Lists.{both_true, not_true, true_or_false, in_first, in_either, in_map, of_map, of_filter, not_found, has_in}
use Rattle.x5_model_run.specs.Holdings.{Held, Copy, Holdings, may_copy, masters_pin, held_at, copy_at}
use Rattle.x5_model_serve.specs.Answering.{stamp_at}
use Rattle.x5_holdings.specs.Rows.{KeyRow, numbered}
use Rattle.x5_eval.specs.Numbers.{own_pins, copy_pins, copy_number, held_number, pin_number, counts, own_place, copy_place, own_numbers, copy_numbers, served_numbers, stamp_number}
use Rattle.x5_eval.proofs.Numbering.{below_own, behind_own, copies_are, copy_held, own_are}
use Rattle.x5_eval.proofs.Reaching.{own_row, copy_row, rows_from}

-- ---- rows of pins that are each there once
keys_of_rows : (n : ℕ) (keys : List Key) → map (λ r. r.0) (rows_from n keys) ≡ keys
keys_of_rows n [] = refl
keys_of_rows n (k ∷ keys) = ap (λ (l : List Key). k ∷ l) (keys_of_rows (n + 1) keys)

rows_apart : (n : ℕ) (keys : List Key) → distinct same_key keys ≡ true → (r s : KeyRow) → In r (rows_from n keys) → In s (rows_from n keys)
    → r.0 ≡ s.0 → r.1 ≡ s.1
rows_apart n [] d r s i j e = elim i [ ]
rows_apart n (k ∷ keys) d r s i j e =
    let b = both_true (not (has same_key keys k)) (distinct same_key keys) d in
    elim (in_first r (k, n) (rows_from (n + 1) keys) i) [
      | inl p ↦ elim (in_first s (k, n) (rows_from (n + 1) keys) j) [
        | inl q ↦ ap (λ (x : KeyRow). x.1) p ∙ ap (λ (x : KeyRow). x.1) (sym q)
        | inr l ↦ absurd (again s l (sym (ap (λ (x : KeyRow). x.0) p) ∙ e) b.0)
      ]
      | inr l ↦ elim (in_first s (k, n) (rows_from (n + 1) keys) j) [
        | inl q ↦ absurd (again r l (sym (ap (λ (x : KeyRow). x.0) q) ∙ sym e) b.0)
        | inr m ↦ rows_apart (n + 1) keys b.1 r s l m e
      ]
    ]
  where
    again : (x : KeyRow) → In x (rows_from (n + 1) keys) → k ≡ x.0 → not (has same_key keys k) ≡ true → ⊥
    again x l p t = (
        let there_is : In k keys = subst (λ (z : Key). In z keys) (sym p)
        (subst (λ (zs : List Key). In x.0 zs) (keys_of_rows (n + 1) keys) (in_map (λ (r : KeyRow). r.0) x (rows_from (n + 1) keys) l)) in
        let yes : has same_key keys k ≡ true = has_in same_key key_decides k keys there_is in
        let no : has same_key keys k ≡ false = not_true (has same_key keys k) t in
        cc)

module _ (h : Holdings) (r : Request) where
  own_there : (n : ℕ) → In n (own_numbers h) → In (held_number h n) h.own
  own_there n i = subst (λ (l : List Held). In (held_number h n) l) (own_are h) (in_map (held_number h) n (own_numbers h) i)

  abbrev IsServed : ℕ → Type 0
  IsServed n = In n (served_numbers r h)

  which : (n : ℕ) → IsServed n → In n (own_numbers h) ⊎ In n (filter (λ n. counts r h (copy_number h n)) (copy_numbers h))
  which n i = in_either n (own_numbers h) (filter (λ n. counts r h (copy_number h n)) (copy_numbers h)) i

  is_copy : (n : ℕ) → In n (filter (λ n. counts r h (copy_number h n)) (copy_numbers h)) → In n (copy_numbers h)
  is_copy n i = (of_filter (λ n. counts r h (copy_number h n)) n (copy_numbers h) i).0

  alone : (n : ℕ) → In n (filter (λ n. counts r h (copy_number h n)) (copy_numbers h))
      → not (masters_pin h (key_of (copy_number h n).held.prefix)) ≡ true
  alone n j = (both_true (is_some (copy_number h n).stamp) (not (masters_pin h (key_of (copy_number h n).held.prefix)))
      (both_true (may_copy r) (is_some (copy_number h n).stamp && not (masters_pin h (key_of (copy_number h n).held.prefix)))
      (of_filter (λ n. counts r h (copy_number h n)) n (copy_numbers h) j).1).1).1

  other_pins : (m n : ℕ) → In m (own_numbers h) → In n (filter (λ n. counts r h (copy_number h n)) (copy_numbers h))
      → pin_number h m ≡ pin_number h n → ⊥
  other_pins m n i j e = by (held_at h.own (key_of (copy_number h n).held.prefix)) refl
    where
      same : pin_number h m ≡ key_of (copy_number h n).held.prefix
      same = e ∙ ap (λ (c : Held). key_of c.prefix) (copy_held h n (behind_own h n (is_copy n j)))

      by : (o : Option Held) → held_at h.own (key_of (copy_number h n).held.prefix) ≡ o → ⊥
      by None p = (
          let f : same_key (pin_number h m) (key_of (copy_number h n).held.prefix) ≡ false =
          not_found (λ (c : Held). same_key (key_of c.prefix) (key_of (copy_number h n).held.prefix)) (held_number h m) h.own p (own_there m i) in
          let t : same_key (pin_number h m) (key_of (copy_number h n).held.prefix) ≡ true =
          (key_decides (pin_number h m) (key_of (copy_number h n).held.prefix)).1 same in
          cc)
      by (Some c) p = (let t : not (is_some (held_at h.own (key_of (copy_number h n).held.prefix))) ≡ true = alone n j in
          let u : not (is_some (Some c)) ≡ true = ap (λ (o : Option Held). not (is_some o)) (sym p) ∙ t in
          cc)

  -- ---- no two of one pin
  module _ (apart : distinct same_key (own_pins h) ≡ true) (once : distinct same_key (copy_pins h) ≡ true) where
    one_own : (m n : ℕ) → pin_number h m ≡ pin_number h n
        → (x : KeyRow) × In x (numbered (own_pins h)) × (m ≡ own_place x)
        → (y : KeyRow) × In y (numbered (own_pins h)) × (n ≡ own_place y) → m ≡ n
    one_own m n e v w =
        let s : v.0.0 ≡ w.0.0 = sym (own_row h v.0 v.1) ∙ ap (pin_number h) (sym v.2) ∙ e ∙ ap (pin_number h) w.2 ∙ own_row h w.0 w.1 in
        v.2 ∙ rows_apart 0 (own_pins h) apart v.0 w.0 v.1 w.1 s ∙ sym w.2

    one_copy : (m n : ℕ) → pin_number h m ≡ pin_number h n
        → (x : KeyRow) × In x (numbered (copy_pins h)) × (m ≡ copy_place h x)
        → (y : KeyRow) × In y (numbered (copy_pins h)) × (n ≡ copy_place h y) → m ≡ n
    one_copy m n e v w =
        let s : v.0.0 ≡ w.0.0 = sym (copy_row h v.0 v.1) ∙ ap (pin_number h) (sym v.2) ∙ e ∙ ap (pin_number h) w.2 ∙ copy_row h w.0 w.1 in
        v.2 ∙ ap (λ (p : ℕ). length h.own + p) (rows_apart 0 (copy_pins h) once v.0 w.0 v.1 w.1 s) ∙ sym w.2

    pub one_number : (m n : ℕ) → IsServed m → IsServed n → pin_number h m ≡ pin_number h n → m ≡ n
    one_number m n i j e = elim (which m i) [
      | inl k ↦ elim (which n j) [
        | inl l ↦ one_own m n e (of_map own_place m (numbered (own_pins h)) k) (of_map own_place n (numbered (own_pins h)) l)
        | inr l ↦ absurd (other_pins m n k l e)
      ]
      | inr k ↦ elim (which n j) [
        | inl l ↦ absurd (other_pins n m l k (sym e))
        | inr l ↦ one_copy m n e (of_map (copy_place h) m (numbered (copy_pins h)) (is_copy m k))
            (of_map (copy_place h) n (numbered (copy_pins h)) (is_copy n l))
      ]
    ]

  -- ---- and so the definition's stamp of a context's pin is that of its number
  is_own : (n : ℕ) → n < length h.own → nat_lt n (length h.own) ≡ true
  is_own n l = grind (arith, l)

  no_own : (n : ℕ) → length h.own ≤ n → nat_lt n (length h.own) ≡ false
  no_own n l = grind (arith, l)

  abbrev stamp_by : Bool → Option Copy → Option ℕ
  stamp_by mastered copy = cond mastered None (in_option None (λ x. x.stamp) copy)

  stands_there : (p : Key) (c : Held) (cs : List Held) → In c cs → key_of c.prefix ≡ p → is_some (held_at cs p) ≡ true
  stands_there p c [] i e = elim i [ ]
  stands_there p c (d ∷ ds) i e = elim (in_first c d ds i) [
    | inl q ↦ ap (λ (b : Bool). is_some (cond b (Some d) (held_at ds p)))
        ((key_decides (key_of d.prefix) p).1 (ap (λ (x : Held). key_of x.prefix) (sym q) ∙ e))
    | inr j ↦ by (same_key (key_of d.prefix) p) (stands_there p c ds j e)
  ]
    where
      by : (b : Bool) → is_some (held_at ds p) ≡ true → is_some (cond b (Some d) (held_at ds p)) ≡ true
      by true f = refl
      by false f = f

  abbrev copy_among : List Copy → Key → Option Copy
  copy_among ks p = find (λ k. same_key (key_of k.held.prefix) p) ks

  -- of copies with pins of their own the one of a pin is found by it
  found_copy : (p : Key) (k : Copy) (ks : List Copy) → distinct same_key (map (λ k. key_of k.held.prefix) ks) ≡ true → In k ks
      → key_of k.held.prefix ≡ p → copy_among ks p ≡ Some k
  found_copy p k [] d i e = elim i [ ]
  found_copy p k (x ∷ xs) d i e =
      let both = both_true (not (has same_key (map (λ k. key_of k.held.prefix) xs) (key_of x.held.prefix))) (distinct same_key (map (λ k. key_of k.held.prefix) xs)) d in
      elim (in_first k x xs i) [
        | inl q ↦ ap (λ (b : Bool). cond b (Some x) (copy_among xs p))
            ((key_decides (key_of x.held.prefix) p).1 (ap (λ (c : Copy). key_of c.held.prefix) (sym q) ∙ e)) ∙ ap Some (sym q)
        | inr j ↦ ap (λ (b : Bool). cond b (Some x) (copy_among xs p)) (differs both.0 j) ∙ found_copy p k xs both.1 j e
      ]
    where
      differs : not (has same_key (map (λ k. key_of k.held.prefix) xs) (key_of x.held.prefix)) ≡ true → In k xs
          → same_key (key_of x.held.prefix) p ≡ false
      differs t j = elim (true_or_false (same_key (key_of x.held.prefix) p)) [
        | inr f ↦ f
        | inl s ↦ absurd (
            let there_is : In (key_of x.held.prefix) (map (λ k. key_of k.held.prefix) xs) =
            subst (λ (z : Key). In z (map (λ k. key_of k.held.prefix) xs)) (e ∙ sym ((key_decides (key_of x.held.prefix) p).0 s))
            (in_map (λ (c : Copy). key_of c.held.prefix) k xs j) in
            let yes : has same_key (map (λ k. key_of k.held.prefix) xs) (key_of x.held.prefix) ≡ true =
            has_in same_key key_decides (key_of x.held.prefix) (map (λ k. key_of k.held.prefix) xs) there_is in
            let no : has same_key (map (λ k. key_of k.held.prefix) xs) (key_of x.held.prefix) ≡ false =
            not_true (has same_key (map (λ k. key_of k.held.prefix) xs) (key_of x.held.prefix)) t in
            cc)
      ]

  copy_there : (n : ℕ) → In n (copy_numbers h) → In (copy_number h n) h.copies
  copy_there n i = subst (λ (l : List Copy). In (copy_number h n) l) (copies_are h) (in_map (copy_number h) n (copy_numbers h) i)

  own_stamp : (n : ℕ) → In n (own_numbers h) → stamp_at h (held_number h n) ≡ stamp_number h n
  own_stamp n i =
      ap (λ (b : Bool). stamp_by b (copy_at h (pin_number h n))) (stands_there (pin_number h n) (held_number h n) h.own (own_there n i) refl)
      ∙ sym (ap (λ (b : Bool). cond b None (copy_number h n).stamp) (is_own n (below_own h n i)))

  copy_pin : (n : ℕ) → In n (filter (λ n. counts r h (copy_number h n)) (copy_numbers h)) → pin_number h n ≡ key_of (copy_number h n).held.prefix
  copy_pin n i = ap (λ (c : Held). key_of c.prefix) (copy_held h n (behind_own h n (is_copy n i)))

  copy_stamp : distinct same_key (copy_pins h) ≡ true → (n : ℕ) → In n (filter (λ n. counts r h (copy_number h n)) (copy_numbers h))
      → stamp_at h (held_number h n) ≡ stamp_number h n
  copy_stamp once n i =
      ap (λ (p : Key). stamp_by (masters_pin h p) (copy_at h p)) (copy_pin n i)
      ∙ ap (λ (b : Bool). stamp_by b (copy_at h (key_of (copy_number h n).held.prefix)))
      (not_true (masters_pin h (key_of (copy_number h n).held.prefix)) (alone n i))
      ∙ ap (stamp_by false) (found_copy (key_of (copy_number h n).held.prefix) (copy_number h n) h.copies once (copy_there n (is_copy n i)) refl)
      ∙ sym (ap (λ (b : Bool). cond b None (copy_number h n).stamp) (no_own n (behind_own h n (is_copy n i))))

  pub stamp_is : distinct same_key (copy_pins h) ≡ true → (n : ℕ) → IsServed n → stamp_at h (held_number h n) ≡ stamp_number h n
  stamp_is once n i = elim (which n i) [ inl j ↦ own_stamp n j | inr j ↦ copy_stamp once n j ]
