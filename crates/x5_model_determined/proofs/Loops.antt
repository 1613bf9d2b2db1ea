-- Loops over agents or references, of whatever kind: one after the other is asked, and what is heard of it says whether
-- the loop goes on. Where each is asked with one outcome, the loop has one, wherever it stops.
use Rattle.std.proofs.Common.{◌≡◌, ℕ, zero, suc, ◌+◌, ◌≤◌, Bool, true, false, ◌⊎◌, inl, inr, List, [], ◌∷◌, ◌++◌, length, refl, sym, ap, subst, ◌∙◌, arith, length-append}
use Rattle.x5_model_run.specs.Journal.{Journal}
use Rattle.x5_model_serve.specs.Serving.{Heard}
use Rattle.x5_model_determined.proofs.Splits.{true_false, no_snoc, snoc_same, split_snoc, compare}

-- the last one that was asked, of which that was heard on which the loop goes on
pub record Step (A S : Type 0) (next : Heard → A → S → S) (passes : Heard → Bool) (Loop : List A → S → Journal → Type 0)
    (Send : A → Heard → Journal → Journal → Type 0) (xs : List A) (state : S) (l : Journal) : Type 0 where
  pub before : List A
  pub latest : A
  pub old : S
  pub what : Heard
  pub mid : Journal
  pub items : xs ≡ before ++ latest ∷ []
  pub becomes : state ≡ next what latest old
  pub passed : passes what ≡ true
  pub loop : Loop before old mid
  pub sent : Send latest what mid l

-- one at which it stops
pub record Stop (A S : Type 0) (passes : Heard → Bool) (Loop : List A → S → Journal → Type 0)
    (Send : A → Heard → Journal → Journal → Type 0) (xs : List A) (l : Journal) : Type 0 where
  pub before : List A
  pub latest : A
  pub after : List A
  pub old : S
  pub what : Heard
  pub mid : Journal
  pub items : xs ≡ before ++ latest ∷ after
  pub stops : passes what ≡ false
  pub loop : Loop before old mid
  pub sent : Send latest what mid l

abbrev pub LoopView : (A S : Type 0) → S → (Heard → A → S → S) → (Heard → Bool) → Journal → (List A → S → Journal → Type 0)
    → (A → Heard → Journal → Journal → Type 0) → List A → S → Journal → Type 0
LoopView A S start next passes i Loop Send xs state l =
    ((xs ≡ []) × (state ≡ start) × (l ≡ i)) ⊎ Step A S next passes Loop Send xs state l

-- it has one outcome, and goes on after each that was asked
abbrev pub LoopOnce : (A S : Type 0) → (Heard → Bool) → (List A → S → Journal → Type 0)
    → (A → Heard → Journal → Journal → Type 0) → List A → S → Journal → Type 0
LoopOnce A S passes Loop Send xs state j =
    ((other : S) (l : Journal) → Loop xs other l → (other ≡ state) × (l ≡ j))
    × ((before more : List A) (x : A) (old : S) (h : Heard) (m l : Journal)
    → xs ≡ before ++ x ∷ more → Loop before old m → Send x h m l → passes h ≡ true)

-- one who is asked has one outcome
abbrev pub SendOnce : (A : Type 0) → (A → Heard → Journal → Journal → Type 0) → A → Heard → Journal → Journal → Type 0
SendOnce A Send x h m j = (g : Heard) (l : Journal) → Send x g m l → (g ≡ h) × (l ≡ j)

module _ (A S : Type 0) (start : S) (next : Heard → A → S → S) (passes : Heard → Bool) (i : Journal) (Loop : List A → S → Journal → Type 0)
    (Send : A → Heard → Journal → Journal → Type 0)
    (view : (xs : List A) (state : S) (l : Journal) → Loop xs state l → LoopView A S start next passes i Loop Send xs state l) where
  pub loop_none : LoopOnce A S passes Loop Send [] start i
  loop_none = (first, second)
    where
      first : (other : S) (l : Journal) → Loop [] other l → (other ≡ start) × (l ≡ i)
      first other l d = elim (view [] other l d) [ inl x ↦ (x.1, x.2) | inr st ↦ absurd (no_snoc st.before st.latest [] (sym st.items)) ]

      second : (before more : List A) (x : A) (old : S) (h : Heard) (m l : Journal) → [] ≡ before ++ x ∷ more → Loop before old m
          → Send x h m l → passes h ≡ true
      second before more x old h m l e d u = absurd (no_snoc before x more (sym e))

  -- the same one is asked after the same ones
  meets : (before b : List A) (x y : A) (old o : S) (h g : Heard) (m n j l : Journal) → LoopOnce A S passes Loop Send before old m
      → SendOnce A Send x h m j → b ≡ before → y ≡ x → Loop b o n → Send y g n l → (o ≡ old) × (g ≡ h) × (l ≡ j)
  meets before b x y old o h g m n j l so one e f d u =
      let p = so.0 o n (subst (λ (zs : List A). Loop zs o n) e d) in
      let q = one g l (subst (λ (k : Journal). Send x g k l) p.1 (subst (λ (z : A). Send z g n l) f u)) in
      (p.0, q.0, q.1)

  pub loop_step : (before : List A) (x : A) (old : S) (h : Heard) (m j : Journal) → LoopOnce A S passes Loop Send before old m
      → SendOnce A Send x h m j → passes h ≡ true → LoopOnce A S passes Loop Send (before ++ x ∷ []) (next h x old) j
  loop_step before x old h m j so one passed = (first, second)
    where
      first : (other : S) (l : Journal) → Loop (before ++ x ∷ []) other l → (other ≡ next h x old) × (l ≡ j)
      first other l d = elim (view (before ++ x ∷ []) other l d) [
        | inl n ↦ absurd (no_snoc before x [] n.0)
        | inr st ↦ (let c = snoc_same st.before before st.latest x (sym st.items) in
            let w = meets before st.before x st.latest old st.old h st.what m st.mid j l so one c.0 c.1 st.loop st.sent in
            (st.becomes ∙ (λ t. next (w.1 t) (c.1 t) (w.0 t)), w.2))
      ]

      second : (b more : List A) (y : A) (o : S) (g : Heard) (n l : Journal) → before ++ x ∷ [] ≡ b ++ y ∷ more → Loop b o n
          → Send y g n l → passes g ≡ true
      second b more y o g n l e d u = elim (split_snoc before b more x y e) [
        | inl c ↦ (let w = meets before b x y old o h g m n j l so one c.0 c.1 d u in ap passes w.1 ∙ passed)
        | inr r ↦ so.1 b r.0 y o g n l r.1 d u
      ]

  -- a loop has asked each of those before the last
  abbrev Asked : List A → A → Type 0
  Asked before x = (old : S) × (h : Heard) × (m : Journal) × (l : Journal) × (passes h ≡ true) × Loop before old m × Send x h m l

  asked : (n : ℕ) (xs : List A) (state : S) (l : Journal) → length xs ≤ n → Loop xs state l → (before more : List A) (x : A)
      → xs ≡ before ++ x ∷ more → Asked before x
  asked zero xs state l less d before more x e =
      let many : length xs ≡ length before + length (x ∷ more) = ap length e ∙ length-append before (x ∷ more) in
      absurd (omega (arith, less, many))
  asked (suc n) xs state l less d before more x e = elim (view xs state l d) [
    | inl none ↦ absurd (no_snoc before x more (sym e ∙ none.0))
    | inr st ↦ elim (split_snoc st.before before more st.latest x (sym st.items ∙ e)) [
      | inl c ↦ (
        st.old,
        st.what,
        st.mid,
        l,
        st.passed,
        subst (λ (zs : List A). Loop zs st.old st.mid) (sym c.0) st.loop,
        subst
            (λ (z : A). Send z st.what st.mid l) (sym c.1) st.sent,
      )
      | inr r ↦ (let many : length xs ≡ length st.before + length (st.latest ∷ []) = ap length st.items
          ∙ length-append st.before (st.latest ∷ []) in
          asked n st.before st.old st.mid (omega (arith, less, many)) st.loop before r.0 x r.1)
    ]
  ]

  -- a loop that goes through doesn't stop
  pub not_stopped : (xs : List A) (state : S) (j l : Journal) → LoopOnce A S passes Loop Send xs state j → Stop A S passes Loop Send xs l
      → ⊥
  not_stopped xs state j l so st =
      true_false (passes st.what) (so.1 st.before st.after st.latest st.old st.what st.mid l st.items st.loop st.sent) st.stops

  -- one that stops doesn't go through, and stops at one place
  module _ (xs before after : List A) (x : A) (old : S) (h : Heard) (m j : Journal) (items : xs ≡ before ++ x ∷ after)
      (so : LoopOnce A S passes Loop Send before old m) (one : SendOnce A Send x h m j) (stops : passes h ≡ false) where
    no_more : (zs rest : List A) (state : S) (l : Journal) → zs ≡ before ++ x ∷ rest → Loop zs state l → ⊥
    no_more zs rest state l e d =
        let a = asked (length zs) zs state l (omega arith) d before rest x e in
        let w = meets before before x x old a.0 h a.1 m a.2 j a.3 so one refl refl a.5 a.6 in
        true_false (passes h) (sym (ap passes w.1) ∙ a.4) stops

    pub not_through : (state : S) (l : Journal) → Loop xs state l → ⊥
    not_through state l d = no_more xs after state l items d

    pub stop_same : (l : Journal) (st : Stop A S passes Loop Send xs l) → (st.what ≡ h) × (l ≡ j)
    stop_same l st = elim (compare before after st.before st.after x st.latest (sym items ∙ st.items)) [
      | inl c ↦ (let w = meets before st.before x st.latest old st.old h st.what m st.mid j l so one c.0 c.1 st.loop st.sent in (w.1, w.2))
      | inr r ↦ elim r [
        | inl w ↦ absurd (no_more st.before w.0 st.old st.mid w.1 st.loop)
        | inr w ↦ true_false (passes st.what) (so.1 st.before w.0 st.latest st.old st.what st.mid l w.1 st.loop st.sent) st.stops
      ]
    ]
