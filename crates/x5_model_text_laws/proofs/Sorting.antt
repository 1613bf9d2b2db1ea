-- Pairs in the order of type numbers: sorting keeps them, keeps what each is, and leaves sorted pairs as they stand.
use Rattle.std.proofs.Common.{◌≡◌, ℕ, ◌+◌, ◌<◌, ◌≤◌, Bool, true, false, ◌&&◌, ◌||◌, ◌==◌, not, if◌then◌else◌, nat_lt, nat_le, suc, List, [], ◌∷◌, ◌++◌, length, refl, sym, ap, ap₂, ◌∙◌, inl, inr, append_assoc, append-nil, arith}
use Rattle.std.proofs.lemmas.Bool.{cases_Bool, and_parts, or_parts, lt-ltb, ltb-true, ltb-false, le-ltb, le-leb, leb-true, not_from_false, not-true, eqb-false, ne_eqb}
use Rattle.std.proofs.lemmas.List.Folds.{list_all-append}
use Rattle.std.specs.List.{list_all}
use Rattle.x5_model.specs.Values.{Text}
use Rattle.x5_model.specs.Normal.{ascends, ascends_from}
use Rattle.x5_model_text.specs.NameText.{has_type, inserted, sorted, sorted_onto}

abbrev pub Pairs : Type 0
Pairs = List (ℕ × Text)

abbrev chosen : Bool → ℕ × Text → ℕ × Text → Pairs → Pairs
chosen t p q r = if t then p ∷ q ∷ r else q ∷ inserted p r

-- ---- what holds of each pair, and how many there are

chosen_all : (test : ℕ × Text → Bool) (t : Bool) (p q : ℕ × Text) (r : Pairs) → test p ≡ true → list_all test (q ∷ r) ≡ true → list_all test (inserted p r) ≡ true → list_all test (chosen t p q r) ≡ true
chosen_all test true p q r one all rest = ap₂ ◌&&◌ one all
chosen_all test false p q r one all rest = ap₂ ◌&&◌ (and_parts (test q) (list_all test r) all).0 rest

inserted_all : (test : ℕ × Text → Bool) (p : ℕ × Text) (r : Pairs) → test p ≡ true → list_all test r ≡ true → list_all test (inserted p r) ≡ true
inserted_all test p [] one all = ap (λ b. b && true) one
inserted_all test p (q ∷ r) one all = chosen_all test (nat_lt p.0 q.0) p q r one all (inserted_all test p r one (and_parts (test q) (list_all test r) all).1)

onto_all : (test : ℕ × Text → Bool) (done r : Pairs) → list_all test done ≡ true → list_all test r ≡ true → list_all test (sorted_onto done r) ≡ true
onto_all test done [] before all = before
onto_all test done (p ∷ r) before all =
    let parts = and_parts (test p) (list_all test r) all in
    onto_all test (inserted p done) r (inserted_all test p done parts.0 before) parts.1

pub sorted_all : (test : ℕ × Text → Bool) (r : Pairs) → list_all test r ≡ true → list_all test (sorted r) ≡ true
sorted_all test r all = onto_all test [] r refl all

chosen_length : (t : Bool) (p q : ℕ × Text) (r : Pairs) → length (inserted p r) ≡ suc (length r) → length (chosen t p q r) ≡ suc (length (q ∷ r))
chosen_length true p q r h = refl
chosen_length false p q r h = ap suc h

inserted_length : (p : ℕ × Text) (r : Pairs) → length (inserted p r) ≡ suc (length r)
inserted_length p [] = refl
inserted_length p (q ∷ r) = chosen_length (nat_lt p.0 q.0) p q r (inserted_length p r)

onto_length : (done r : Pairs) → length (sorted_onto done r) ≡ length done + length r
onto_length done [] = omega arith
onto_length done (p ∷ r) = let e = onto_length (inserted p done) r in let f = inserted_length p done in omega (arith, e, f)

pub sorted_length : (r : Pairs) → length (sorted r) ≡ length r
sorted_length r = let e = onto_length [] r in omega (arith, e)

-- ---- the order

absent_all : (n : ℕ) (r : Pairs) → has_type n r ≡ false → list_all (λ q. not (q.0 == n)) r ≡ true
absent_all n [] h = refl
absent_all n (q ∷ r) h =
    let parts = or_parts (q.0 == n) (has_type n r) h in
    ap₂ ◌&&◌ (not_from_false (q.0 == n) parts.0) (absent_all n r parts.1)

pub inserted_ascends : (least : ℕ) (p : ℕ × Text) (r : Pairs) → least ≤ p.0 → list_all (λ q. not (q.0 == p.0)) r ≡ true → ascends_from least r ≡ true → ascends_from least (inserted p r) ≡ true
inserted_ascends least p [] low other h = ap (λ b. b && true) (le-leb least p.0 low)
inserted_ascends least p (q ∷ r) low other h =
    let here = and_parts (nat_le least q.0) (ascends_from (q.0 + 1) r) h in
    let apart = and_parts (not (q.0 == p.0)) (list_all (λ x. not (x.0 == p.0)) r) other in
    elim (cases_Bool (nat_lt p.0 q.0)) [
      | inl before ↦
          let lt : p.0 < q.0 = ltb-true p.0 q.0 before in
          ap (λ t. ascends_from least (chosen t p q r)) before
          ∙ ap₂ ◌&&◌ (le-leb least p.0 low) (ap₂ ◌&&◌ (le-leb (p.0 + 1) q.0 (omega arith)) here.1)
      | inr after ↦
          let le : q.0 ≤ p.0 = ltb-false p.0 q.0 after in
          let ne : q.0 ≡ p.0 → ⊥ = eqb-false q.0 p.0 (not-true (q.0 == p.0) apart.0) in
          ap (λ t. ascends_from least (chosen t p q r)) after
          ∙ ap₂ ◌&&◌ here.0 (inserted_ascends (q.0 + 1) p r (omega (arith, le, ne)) apart.1 here.1)
    ]

onto_more : (done r : Pairs) (p : ℕ × Text) → sorted_onto done (r ++ p ∷ []) ≡ inserted p (sorted_onto done r)
onto_more done [] p = refl
onto_more done (q ∷ r) p = onto_more (inserted q done) r p

-- a pair of a type that the pairs don't have yet
pub sorted_more : (r : Pairs) (p : ℕ × Text) → has_type p.0 r ≡ false → ascends (sorted r) ≡ true → ascends (sorted (r ++ p ∷ [])) ≡ true
sorted_more r p absent h =
    ap ascends (onto_more [] r p)
    ∙ inserted_ascends 0 p (sorted r) (omega arith) (sorted_all (λ q. not (q.0 == p.0)) r (absent_all p.0 r absent)) h

-- ---- sorted pairs stand

abbrev pub are_below : ℕ → Pairs → Bool
are_below n r = list_all (λ q. nat_lt q.0 n) r

pub below_later : (n m : ℕ) (r : Pairs) → n ≤ m → are_below n r ≡ true → are_below m r ≡ true
below_later n m [] le h = refl
below_later n m (q ∷ r) le h =
    let parts = and_parts (nat_lt q.0 n) (are_below n r) h in
    let lt : q.0 < n = ltb-true q.0 n parts.0 in
    ap₂ ◌&&◌ (lt-ltb q.0 m (omega arith)) (below_later n m r le parts.1)

inserted_last : (p : ℕ × Text) (done : Pairs) → are_below p.0 done ≡ true → inserted p done ≡ done ++ p ∷ []
inserted_last p [] h = refl
inserted_last p (q ∷ done) h =
    let parts = and_parts (nat_lt q.0 p.0) (are_below p.0 done) h in
    let lt : q.0 < p.0 = ltb-true q.0 p.0 parts.0 in
    ap (λ t. chosen t p q done) (le-ltb p.0 q.0 (omega arith)) ∙ ap (λ r. q ∷ r) (inserted_last p done parts.1)

pub below_more : (p : ℕ × Text) (least : ℕ) (done : Pairs) → are_below least done ≡ true → least ≤ p.0 → are_below (p.0 + 1) (done ++ p ∷ []) ≡ true
below_more p least done h le =
    list_all-append (λ q. nat_lt q.0 (p.0 + 1)) done (p ∷ [])
    ∙ ap₂ ◌&&◌ (below_later least (p.0 + 1) done (omega arith) h) (ap (λ b. b && true) (lt-ltb p.0 (p.0 + 1) (omega arith)))

onto_stands : (least : ℕ) (done r : Pairs) → are_below least done ≡ true → ascends_from least r ≡ true → sorted_onto done r ≡ done ++ r
onto_stands least done [] below h = sym (append-nil done)
onto_stands least done (p ∷ r) below h =
    let parts = and_parts (nat_le least p.0) (ascends_from (p.0 + 1) r) h in
    let le : least ≤ p.0 = leb-true least p.0 parts.0 in
    ap (λ d. sorted_onto d r) (inserted_last p done (below_later least p.0 done le below))
    ∙ onto_stands (p.0 + 1) (done ++ p ∷ []) r (below_more p least done below le) parts.1
    ∙ append_assoc done (p ∷ []) r

pub sorted_stands : (r : Pairs) → ascends r ≡ true → sorted r ≡ r
sorted_stands r h = onto_stands 0 [] r refl h

-- no pair below a number has it
pub below_absent : (n : ℕ) (r : Pairs) → are_below n r ≡ true → has_type n r ≡ false
below_absent n [] h = refl
below_absent n (q ∷ r) h =
    let parts = and_parts (nat_lt q.0 n) (are_below n r) h in
    let lt : q.0 < n = ltb-true q.0 n parts.0 in
    ap₂ ◌||◌ (ne_eqb q.0 n (λ e. omega (arith, e))) (below_absent n r parts.1)
