-- Pins in order, each with the place of its context: where a key is among them, the longest on the way to a key, and
-- whether a key is above one.
use Rattle.std.proofs.Common.{◌≡◌, ℕ, zero, suc, ◌+◌, ◌-◌, ◌<◌, ◌≤◌, Bool, true, false, ◌&&◌, ◌==◌, inl, inr}
use Rattle.std.proofs.Common.{List, [], ◌∷◌, length, map, take, drop, get_or, refl, sym, ap, subst, ◌∙◌, arith}
use Rattle.std.proofs.Common.{Option, Some, None, Ok, Err}
use Rattle.std.proofs.lemmas.List.{length-map, length-take-le, get_or-map, drop_more, drop_all}
use Rattle.std.specs.List.{list_any}
use Rattle.x5_model.specs.Words.{ascending, sorted, in_option}
use Rattle.x5_model.specs.Members.{In, here, there, Once}
use Rattle.x5_model.specs.Keys.{Key, IsPrefix, same_key, is_prefix, key_below}
use Rattle.x5_model.proofs.KeyLaws.{key_decides, below_chain, never_below}
use Rattle.x5_model.proofs.Lists.{in_first, in_map, of_map, in_either, true_or_false, any_in, of_any, of_find}
use Rattle.x5_model.proofs.Lists.{not_found, once_map}
use Rattle.x5_model.proofs.Prefixes.{prefix_decides, prefix_itself}
use Rattle.x5_model.proofs.Ascending.{AllApart, of_sorted, in_sorted, sorted_ascending, keys_apart}
use Rattle.x5_model_tree.specs.Tree.{longest}
use Rattle.x5_model_tree.proofs.Longest.{longest_is}
use Rattle.x5_model_theory.proofs.Longest.{longest_some}
use Rattle.x5_one.specs.One.{Held, pin_in, context_with, context_at}
use Rattle.x5_one.specs.Places.{IsPlace}
use Rattle.x5_one.specs.Rows.{Row, row_below, row_of, rows_from, rows_of}
use Rattle.x5_one.proofs.KeyOrder.{prefix_not_below, between}
use Rattle.x5_one.proofs.Searching.{in_get, at_drop, not_falling, not_back}
use Rattle.x5_one.proofs.Runs.{parts_of}

abbrev pub pin_at : Row → Key
pin_at r = r.0

abbrev in_context : List Held → Option Key → Option Held
in_context held o = in_option None (context_with held) o

head_is : (i : ℕ) (ks : List Key) (key : Key) → IsPlace ks key (Ok i) → get_or ks i key ≡ key
head_is i ks key w = same (sym (drop_more ks i key w.0) ∙ w.1)
  where
    same : get_or ks i key ∷ drop (i + 1) ks ≡ key ∷ drop (i + 1) ks → get_or ks i key ≡ key
    same e = cc

-- ---- the rows of contexts

pub row_held : (n : ℕ) (hs : List Held) (r : Row) → In r (rows_from n hs)
    → (h : Held) × In h hs × (r.0 ≡ pin_in h) × (n ≤ r.1) × (r.1 - n < length hs) × ((d : Held)
    → get_or hs (r.1 - n) d ≡ h)
row_held n [] r i = elim i [ ]
row_held n (h ∷ hs) r i =
    elim (in_first r (row_of (n, h)) (rows_from (n + 1) hs) i) [
      | inl p ↦
          let place : r.1 ≡ n = ap (λ (x : Row). x.1) p in
          let z : r.1 - n ≡ 0 = omega arith in
          (h, here, ap (λ (x : Row). x.0) p, omega arith, omega arith, λ d. ap (λ (k : ℕ). get_or (h ∷ hs) k d) z)
      | inr j ↦
          let w = row_held (n + 1) hs r j in
          let s : r.1 - n ≡ suc (r.1 - (n + 1)) = omega (arith, w.3) in (
            w.0,
            there w.1,
            w.2,
            omega (arith, w.3),
            omega (arith, w.4, w.3),
            λ d. ap (λ (k : ℕ). get_or
                (h ∷ hs) k d) s ∙ w.5 d,
          )
    ]

pub held_row : (n : ℕ) (hs : List Held) (h : Held) → In h hs → (r : Row) × In r (rows_from n hs) × (r.0 ≡ pin_in h)
held_row n [] h i = elim i [ ]
held_row n (g ∷ hs) h i =
    elim (in_first h g hs i) [
      | inl p ↦ (row_of (n, g), here, ap pin_in (sym p))
      | inr j ↦ (let w = held_row (n + 1) hs h j in (w.0, there w.1, w.2))
    ]

rows_apart : (n : ℕ) (hs : List Held) → Once (map pin_in hs) → AllApart row_below (rows_from n hs)
rows_apart n [] once = tt
rows_apart n (h ∷ hs) once = (
  λ z i. (let w = row_held (n + 1) hs z i in
      keys_apart (pin_in h) z.0 (elim (true_or_false (same_key (pin_in h) z.0)) [
        | inl t ↦ absurd (once.0 (subst (λ (k : Key). In k (map pin_in hs)) (sym w.2
            ∙ sym ((key_decides (pin_in h) z.0).0 t)) (in_map pin_in w.0 hs w.1)))
        | inr f ↦ f
      ])),
  rows_apart (n + 1) hs once.1,
)

row_chain : (x y z : Row) → row_below x y ≡ true → row_below y z ≡ true → row_below x z ≡ true
row_chain x y z p q = below_chain x.0 y.0 z.0 p q

pins_ascend : (rs : List Row) → ascending row_below rs ≡ ascending key_below (map pin_at rs)
pins_ascend [] = refl
pins_ascend (x ∷ []) = refl
pins_ascend (x ∷ y ∷ ys) = ap (λ (b : Bool). row_below x y && b) (pins_ascend (y ∷ ys))

module _ (held : List Held) (pins : List Row) (rows : pins
    ≡ sorted row_below (rows_of held)) (once : Once (map pin_in held)) where
  pub pins_in_order : ascending key_below (map pin_at pins) ≡ true
  pins_in_order =
      sym (pins_ascend pins) ∙ ap (ascending row_below) rows
      ∙ sorted_ascending row_below row_chain (rows_of held) (rows_apart 0 held once)

  pub pin_of_held : (q : Key) → In q (map pin_in held) → In q (map pin_at pins)
  pin_of_held q i =
      let h = of_map pin_in q held i in
      let r = held_row 0 held h.0 h.1 in
      subst (λ (k : Key). In k (map pin_at pins)) (r.2 ∙ sym h.2)
      (in_map pin_at r.0 pins (subst (λ (rs : List Row). In r.0 rs) (sym rows) (in_sorted row_below r.0
      (rows_of held) r.1)))

  pub row_there : (r : Row) → In r pins → In r (rows_of held)
  row_there r i = of_sorted row_below r (rows_of held) (subst (λ (rs : List Row). In r rs) rows i)

  pub held_of_pin : (q : Key) → In q (map pin_at pins) → In q (map pin_in held)
  held_of_pin q i =
      let r = of_map pin_at q pins i in
      let w = row_held 0 held r.0 (row_there r.0 r.1) in
      subst (λ (k : Key). In k (map pin_in held)) (sym (r.2 ∙ w.2)) (in_map pin_in w.0 held w.1)

  -- no pin has a key that would go somewhere
  pub no_pin : (key : Key) (i : ℕ) → IsPlace (map pin_at pins) key (Err i) → In key (map pin_in held) → ⊥
  no_pin key i w m =
      elim (in_either key (take i (map pin_at pins)) (drop i (map pin_at pins)) (subst (λ
      (ks : List Key). In key ks) (sym (parts_of i (map pin_at pins))) (pin_of_held key m))) [
        | inl a ↦ never_below key (w.1 key a)
        | inr b ↦ never_below key (w.2 key b)
      ]

  -- ---- the longest pin on the way

  abbrev pub NoneOver : Key → ℕ → Type 0
  NoneOver key left = (q : Key) → In q (map pin_in held) → IsPrefix q key → length q ≤ left

  pub none_over_less : (key : Key) (left i : ℕ) → NoneOver key left
      → IsPlace (map pin_at pins) (take left key) (Err i) → NoneOver key (left - 1)
  none_over_less key left i f w q m p = by (length q == left) refl
    where
      less : length q ≤ left
      less = f q m p

      by : (b : Bool) → (length q == left) ≡ b → length q ≤ left - 1
      by true e = absurd (
          let n : length q ≡ left = grind arith in
          no_pin (take left key) i w (subst (λ (k : Key). In k (map pin_in held)) (sym p
          ∙ ap (λ (k : ℕ). take k key) n) m))
      by false e = (let n : (length q ≡ left)
          → ⊥ = (λ (s : length q ≡ left). let t : (length q == left) ≡ true = grind arith in cc) in
          omega (arith, less, n))

  find_held : (h : Held) (p : Key) → In h held → pin_in h ≡ p → context_with held p ≡ Some h
  find_held h p i same = by (context_with held p) refl
    where
      by : (o : Option Held) → context_with held p ≡ o → o ≡ Some h
      by None e = absurd (
          let f : same_key (pin_in h) p ≡ false = not_found (λ (g : Held). same_key (pin_in g) p) h held e i in
          let t : same_key (pin_in h) p ≡ true = (key_decides (pin_in h) p).1 same in
          cc)
      by (Some g) e =
          let w = of_find (λ (x : Held). same_key (pin_in x) p) g held e in
          ap (λ (x : Held). Some x) (once_map pin_in held g h once w.0 i ((key_decides (pin_in g) p).0 w.1 ∙ sym same))

  -- the row at a place is that of a context
  pub row_place : (at : ℕ) (r : Row) → at < length pins → r ≡ get_or pins at r → r.1 < length held
  row_place at r l is =
      let row = row_held 0 held r (row_there r (subst (λ (x : Row). In x pins) (sym is) (in_get pins at r l))) in
      omega (arith, row.4)

  pub context_found : (key : Key) (left at : ℕ) (r : Row) (h : Held) → left ≤ length key → NoneOver key left
      → IsPlace (map pin_at pins) (take left key) (Ok at)
      → r ≡ get_or pins at r → h ≡ get_or held r.1 h → Some h ≡ context_at held key
  context_found key left at r h l f w is there_h =
      let within : at < length pins = omega (arith, w.0, length-map pins pin_at) in
      let row_in : In r pins = subst (λ (x : Row). In x pins) (sym is) (in_get pins at r within) in
      let row = row_held 0 held r (row_there r row_in) in
      let same : h ≡ row.0 = there_h ∙ ap (λ (k : ℕ). get_or held k h) (let z : r.1 ≡ r.1 - 0 = omega arith in
      z) ∙ row.5 h in
      let pin : r.0 ≡ take left key = ap pin_at is ∙ sym (get_or-map pin_at pins at r (take left key) within)
      ∙ head_is at (map pin_at pins) (take left key) w in
      let on : IsPrefix (take left key) key = ap (λ (k : ℕ). take k key) (length-take-le left key l) in
      let long : longest (map pin_in held) key
      ≡ Some (take left key) = longest_is (map pin_in held) key (take left key) (
        subst (λ (k : Key). In k (map pin_in held)) pin (held_of_pin r.0 (in_map pin_at r pins row_in)),
        (on, λ q i p. let a : length q ≤ left = f q i p in omega (arith, length-take-le left key l, a)),
      ) in
      sym (ap (λ (o : Option Key). in_context held o) long ∙ find_held row.0 (take left key) row.1 (sym row.2
      ∙ pin) ∙ ap (λ (x : Held). Some x) (sym same))

  pub context_none : (key : Key) → NoneOver key 0 → ((q : Key) → In q (map pin_in held) → 0 < length q)
      → None ≡ context_at held key
  context_none key f full = by (longest (map pin_in held) key) refl
    where
      by : (o : Option Key) → longest (map pin_in held) key ≡ o → None ≡ in_context held o
      by None e = refl
      by (Some p) e = absurd (let w = longest_some (map pin_in held) key p e in
          let l : length p ≤ 0 = f p w.0 w.1 in let m : 0 < length p = full p w.0 in omega arith)

-- ---- above a pin

place_in : (ks : List Key) (key : Key) (i : ℕ) → IsPlace ks key (Ok i) → In key ks
place_in ks key i w = from_drop i ks (subst (λ (xs : List Key). In key xs) (sym w.1) here)
  where
    from_drop : (n : ℕ) (xs : List Key) → In key (drop n xs) → In key xs
    from_drop zero xs m = m
    from_drop (suc n) [] m = elim m [ ]
    from_drop (suc n) (x ∷ xs) m = there (from_drop n xs m)

module _ (pins : List Row) (order : ascending key_below (map pin_at pins) ≡ true) (key : Key) (i : ℕ) where
  pub above_itself : IsPlace (map pin_at pins) key (Ok i) → true ≡ list_any (is_prefix key) (map pin_at pins)
  above_itself w =
      sym (any_in (is_prefix key) key (map pin_at pins) (place_in (map pin_at pins) key i w)
      ((prefix_decides key key).1 (prefix_itself key)))

  -- a pin below the key stands from its place on
  stands_behind : (q : Key) → IsPlace (map pin_at pins) key (Err i) → In q (map pin_at pins) → IsPrefix key q
      → In q (drop i (map pin_at pins))
  stands_behind q w m p =
      elim (in_either q (take i (map pin_at pins)) (drop i (map pin_at pins)) (subst (λ (ks : List Key). In q ks)
      (sym (parts_of i (map pin_at pins))) m)) [
        | inl a ↦ absurd (let f = prefix_not_below key q p in let g : key_below q key ≡ true = w.1 q a in cc)
        | inr b ↦ b
      ]

  pub above_next : (r : Row) → IsPlace (map pin_at pins) key (Err i)
      → (i < length pins) × ((d : Row) → r ≡ get_or pins i d)
      → is_prefix key r.0 ≡ list_any (is_prefix key) (map pin_at pins)
  above_next r w e = by (is_prefix key r.0) refl
    where
      at : (i < length pins) × ((d : Row) → get_or pins i d ≡ r)
      at = (e.0, λ d. sym (e.1 d))

      long : i < length (map pin_at pins)
      long = omega (arith, at.0, length-map pins pin_at)

      is : get_or (map pin_at pins) i r.0 ≡ r.0
      is = get_or-map pin_at pins i r r.0 at.0 ∙ ap pin_at (at.1 r)

      there_is : In r.0 (map pin_at pins)
      there_is = in_map pin_at r pins (subst (λ (x : Row). In x pins) (at.1 r) (in_get pins i r at.0))

      first : In r.0 (drop i (map pin_at pins))
      first = subst (λ (ks : List Key). In r.0 ks) (sym (drop_more (map pin_at pins) i r.0 long
          ∙ ap (λ (k : Key). k ∷ drop (i + 1) (map pin_at pins)) is)) here

      by : (b : Bool) → is_prefix key r.0 ≡ b → b ≡ list_any (is_prefix key) (map pin_at pins)
      by true p = sym (any_in (is_prefix key) r.0 (map pin_at pins) there_is p)
      by false p = elim (true_or_false (list_any (is_prefix key) (map pin_at pins))) [
        | inr f ↦ sym f
        | inl t ↦ absurd (
            let q = of_any (is_prefix key) (map pin_at pins) t in
            let on : IsPrefix key q.0 = (prefix_decides key q.0).0 q.2 in
            let behind = at_drop i (map pin_at pins) q.0 (stands_behind q.0 w q.1 on) in
            let not_less : key_below q.0 r.0 ≡ false = (λ j. key_below (sym (behind.3 r.0) j) (sym is j))
            ∙ not_falling (map pin_at pins) r.0 i behind.0 order behind.1 behind.2 in
            let up : key_below r.0 key ≡ false = not_back key r.0 (w.2 r.0 first) in
            let here_too : is_prefix key r.0 ≡ true = (prefix_decides key r.0).1
            (between key r.0 q.0 up not_less on) in
            cc)
      ]

  pub above_none : IsPlace (map pin_at pins) key (Err i) → length pins ≤ i
      → false ≡ list_any (is_prefix key) (map pin_at pins)
  above_none w e =
      elim (true_or_false (list_any (is_prefix key) (map pin_at pins))) [
        | inr f ↦ sym f
        | inl t ↦ absurd (
            let q = of_any (is_prefix key) (map pin_at pins) t in
            let short : length (map pin_at pins) ≤ i = omega (arith, e, length-map pins pin_at) in
            elim (subst (λ (ks : List Key). In q.0 ks) (drop_all i (map pin_at pins) short)
            (stands_behind q.0 w q.1 ((prefix_decides key q.0).0 q.2))) [ ])
      ]

-- above a pin is above a context's prefix
pub above_held : (held : List Held) (pins : List Row) → pins ≡ sorted row_below (rows_of held)
    → Once (map pin_in held) → (key : Key)
    → list_any (is_prefix key) (map pin_at pins) ≡ list_any (is_prefix key) (map pin_in held)
above_held held pins rows once key = by (list_any (is_prefix key) (map pin_at pins)) refl
  where
    by : (b : Bool) → list_any (is_prefix key) (map pin_at pins) ≡ b
        → b ≡ list_any (is_prefix key) (map pin_in held)
    by true e = (let q = of_any (is_prefix key) (map pin_at pins) e in
        sym (any_in (is_prefix key) q.0 (map pin_in held) (held_of_pin held pins rows once q.0 q.1) q.2))
    by false e = elim (true_or_false (list_any (is_prefix key) (map pin_in held))) [
      | inr f ↦ sym f
      | inl t ↦ absurd (
          let q = of_any (is_prefix key) (map pin_in held) t in
          let u : list_any (is_prefix key) (map pin_at pins) ≡ true =
          any_in (is_prefix key) q.0 (map pin_at pins) (pin_of_held held pins rows once q.0 q.1) q.2 in
          cc)
    ]
