-- All to which a walk comes may be served; and where no two of these have one pin, each comes once by its pin too. So the walk by
-- numbers is the definition's.
use Rattle.std.proofs.Common.{◌≡◌, ℕ, zero, suc, Bool, true, false, cond, not, ◌==◌, ◌||◌, inl, inr, ◌⊎◌, List, [], ◌∷◌, ◌++◌, map, refl, sym, ap, subst, ◌∙◌, arith, Option, Some}
use Rattle.std.proofs.lemmas.List.{map-append}
use Rattle.x5_model.specs.Words.{distinct, has, sorted}
use Rattle.x5_model.specs.Members.{In, here, there}
use Rattle.x5_model.specs.Keys.{Key, same_key}
use Rattle.x5_model.specs.Values.{key_of}
use Rattle.x5_model.specs.Requests.{Subset}
use Rattle.x5_model.specs.References.{Chained}
use Rattle.x5_model.proofs.KeyLaws.{key_decides}
use Rattle.x5_model.proofs.Lists.{true_or_false, in_first, in_either, of_flat}
use Rattle.x5_model_run.specs.Holdings.{Held, Holdings}
use Rattle.x5_model_run.specs.Needs.{subset_of, begins_at}
use Rattle.x5_model_serve.specs.Walking.{each_once, walk}
use Rattle.x5_holdings.specs.State.{State, are_apart, are_once, holdings_view}
use Rattle.x5_eval.specs.Numbers.{held_number, own_pins, copy_pins, numbers_under, served_numbers}
use Rattle.x5_eval.specs.Visited.{place_beside, order, adds}
use Rattle.x5_eval.specs.Walks.{Begins}
use Rattle.x5_eval.specs.Parts.{AreNumbers}
use Rattle.x5_eval.proofs.Choosing.{under_served}
use Rattle.x5_eval.proofs.Descending.{once_next, same_pin}
use Rattle.x5_eval.proofs.Entering.{walk_numbers}
use Rattle.x5_eval.proofs.Numbered.{own_pins_are, copy_pins_are}
use Rattle.x5_eval.proofs.Singles.{one_number}
use Rattle.x5_eval.proofs.Visiting.{add, of_adds}

-- ---- what is so of those at which it begins, and of those below any, is so of all
module _ (next : ℕ → List ℕ) (P : ℕ → Type 0) (from : (c d : ℕ) → In d (next c) → P d) where
  of_beside : (behind : Bool) (c d : ℕ) (below : List ℕ) → In d (place_beside behind c below) → (d ≡ c) ⊎ In d below
  of_beside false c d below i = in_first d c below i
  of_beside true c d below i = elim (in_either d below (c ∷ []) i) [
    | inl j ↦ inr j
    | inr j ↦ elim (in_first d c [] j) [ inl e ↦ inl e | inr k ↦ elim k [ ] ]
  ]

  pub order_within : (behind : Bool) (n : ℕ) (level : List ℕ) → ((d : ℕ) → In d level → P d) → (d : ℕ) → In d (order next behind n level) → P d
  order_within behind zero level f d i = f d i
  order_within behind (suc n) level f d i =
      let w = of_flat (λ c. place_beside behind c (order next behind n (next c))) d level i in
      elim (of_beside behind w.0 d (order next behind n (next w.0)) w.2) [
        | inl e ↦ subst P (sym e) (f w.0 w.1)
        | inr j ↦ order_within behind n (next w.0) (λ c k. from w.0 c k) d j
      ]

-- ---- where numbers have pins of their own, each comes once by its pin
module _ (held : ℕ → Held) (P : ℕ → Type 0) (one : (m n : ℕ) → P m → P n → key_of (held m).prefix ≡ key_of (held n).prefix → m ≡ n) where
  same_number : (n : ℕ) → (n == n) ≡ true
  same_number n = grind arith

  lacks_pin : (xs : List ℕ) (c : ℕ) → ((n : ℕ) → In n xs → P n) → P c → has ◌==◌ xs c ≡ false → has same_pin (map held xs) (held c) ≡ false
  lacks_pin [] c f p e = refl
  lacks_pin (x ∷ xs) c f p e =
      ap (λ (b : Bool). b || has same_pin (map held xs) (held c)) (other (true_or_false (same_pin (held x) (held c))))
      ∙ lacks_pin xs c (λ n i. f n (there i)) p (behind (x == c) e)
    where
      behind : (b : Bool) → (b || has ◌==◌ xs c) ≡ false → has ◌==◌ xs c ≡ false
      behind true q = cc
      behind false q = q

      other : (same_pin (held x) (held c) ≡ true) ⊎ (same_pin (held x) (held c) ≡ false) → same_pin (held x) (held c) ≡ false
      other (inr t) = t
      other (inl t) = absurd (
          let is : x ≡ c = one x c (f x here) p ((key_decides (key_of (held x).prefix) (key_of (held c).prefix)).0 t) in
          let yes : (x == c) ≡ true = ap (λ (k : ℕ). x == k) (sym is) ∙ same_number x in
          let no : (true || has ◌==◌ xs c) ≡ false = ap (λ (b : Bool). b || has ◌==◌ xs c) (sym yes) ∙ e in
          cc)

  once_added : (before cs : List ℕ) → ((n : ℕ) → In n before → P n) → ((n : ℕ) → In n cs → P n)
      → each_once (map held before) ≡ map held before → each_once (map held (adds before cs)) ≡ map held (adds before cs)
  once_added before [] f g e = e
  once_added before (c ∷ cs) f g e =
      let w = by (has ◌==◌ before c) refl in
      once_added (add before c) cs w.0 (λ n i. g n (there i)) w.1
    where
      new : (n : ℕ) → In n before ⊎ In n (c ∷ []) → P n
      new n (inl i) = f n i
      new n (inr i) = elim (in_first n c [] i) [ inl q ↦ subst P (sym q) (g c here) | inr j ↦ elim j [ ] ]

      by : (b : Bool) → has ◌==◌ before c ≡ b → ((n : ℕ) → In n (cond b before (before ++ c ∷ [])) → P n)
          × (each_once (map held (cond b before (before ++ c ∷ []))) ≡ map held (cond b before (before ++ c ∷ [])))
      by true q = (f, e)
      by false q = (
        λ n i. new n (in_either n before (c ∷ []) i),
        ap each_once (map-append held before (c ∷ [])) ∙ once_next (map held before) (held c)
            ∙ (λ i. e i ++ cond (lacks_pin before c f (g c here) q i) [] (held c ∷ []))
            ∙ sym (map-append held before (c ∷ [])),
      )

  pub once_already : (cs : List ℕ) → ((n : ℕ) → In n cs → P n) → each_once (map held (adds [] cs)) ≡ map held (adds [] cs)
  once_already cs g = once_added [] cs (λ n i. elim i [ ]) g refl

-- ---- the walk
module _ (s : State) (m : Chained) (subset : Subset) (apart : are_apart s.own ≡ true) (once : are_once s.copies ≡ true)
    (is : Some subset ≡ subset_of m) (begins : List ℕ) (from : Begins m.request (holdings_view s) (begins_at (holdings_view s) m subset) begins) where
  abbrev h : Holdings
  h = holdings_view s

  abbrev IsServed : ℕ → Type 0
  IsServed n = In n (served_numbers m.request h)

  abbrev ordered : Bool → List ℕ
  ordered behind = order (numbers_under m.request h (key_of m.target) subset) behind 16 begins

  ordered_served : (behind : Bool) (n : ℕ) → In n (ordered behind) → IsServed n
  ordered_served behind n i = order_within (numbers_under m.request h (key_of m.target) subset) IsServed
      (λ c d j. under_served h m.request (key_of m.target) subset c d j) behind 16 begins (λ d j. from.served d j) n i

  alone : (a b : ℕ) → IsServed a → IsServed b → key_of (held_number h a).prefix ≡ key_of (held_number h b).prefix → a ≡ b
  alone a b i j e = one_number h m.request (ap (distinct same_key) (sym (own_pins_are s)) ∙ apart)
      (ap (distinct same_key) (sym (copy_pins_are s)) ∙ once) a b i j e

  pub came_to : (behind : Bool) (visits : List ℕ) → visits ≡ adds [] (ordered behind) → AreNumbers m.request h (walk behind h m) visits
  came_to behind visits e = record {
    views = ap (map (held_number h)) e
        ∙ sym (once_already (held_number h) IsServed alone (ordered behind) (λ n i. ordered_served behind n i))
        ∙ ap (λ (l : List ℕ). each_once (map (held_number h) l)) (sym e)
        ∙ walk_numbers h m behind subset begins visits is from.views e;
    served = λ n i. elim (of_adds [] (ordered behind) n (subst (λ (l : List ℕ). In n l) e i)) [
      | inl j ↦ elim j [ ]
      | inr j ↦ ordered_served behind n j
    ];
  }
