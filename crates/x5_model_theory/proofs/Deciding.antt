-- What can be decided about keys and references.
use Rattle.std.proofs.Common.{◌≡◌, ℕ, zero, suc, List, [], ◌∷◌, refl, ap, subst, ◌∙◌, ◌⊎◌, inl, inr, arith}
use Rattle.x5_model.specs.Keys.{Key, KeyPair}
use Rattle.x5_model.specs.Members.{In, here, there}
use Rattle.x5_model_theory.specs.Knowledge.{Knowledge, Pointer, IsReferred}
use Rattle.x5_model.proofs.Lists.{in_first}

abbrev pub Dec : Type 0 → Type 0
Dec A = A ⊎ (A → ⊥)

pub dec_nat : (n m : ℕ) → Dec (n ≡ m)
dec_nat zero zero = inl refl
dec_nat zero (suc m) = inr (λ e. omega arith)
dec_nat (suc n) zero = inr (λ e. omega arith)
dec_nat (suc n) (suc m) = elim (dec_nat n m) [ inl e ↦ inl (ap suc e) | inr h ↦ inr (λ e. h (omega arith)) ]

pub dec_list : {A : Type 0} → ((x y : A) → Dec (x ≡ y)) → (xs ys : List A) → Dec (xs ≡ ys)
dec_list d [] [] = inl refl
dec_list d [] (y ∷ ys) = inr (λ e. cc)
dec_list d (x ∷ xs) [] = inr (λ e. cc)
dec_list d (x ∷ xs) (y ∷ ys) =
    elim (d x y) [
      | inr h ↦ inr (λ e. h (cc))
      | inl a ↦ elim (dec_list d xs ys) [ inl b ↦ inl (cc) | inr h ↦ inr (λ e. h (cc)) ]
    ]

same_pairs : (a b : KeyPair) → a.0 ≡ b.0 → a.1 ≡ b.1 → a ≡ b
same_pairs a b x y =
    let f : ℕ → KeyPair = λ n. (n, a.1) in
    let g : List ℕ → KeyPair = λ xs. (b.0, xs) in
    ap f x ∙ ap g y

pub dec_pair : (a b : KeyPair) → Dec (a ≡ b)
dec_pair a b =
    elim (dec_nat a.0 b.0) [
      | inr h ↦ inr (λ e. h (ap (λ (p : KeyPair). p.0) e))
      | inl x ↦ elim (dec_list dec_nat a.1 b.1) [ inl y ↦ inl (same_pairs a b x y) | inr h ↦ inr (λ e. h (ap (λ (p : KeyPair). p.1) e)) ]
    ]

pub dec_key : (a b : Key) → Dec (a ≡ b)
dec_key a b = dec_list (dec_list dec_pair) a b

-- whether some member is such
pub dec_any : {A : Type 0} (P : A → Type 0) → ((x : A) → Dec (P x)) → (xs : List A) → Dec ((x : A) × In x xs × P x)
dec_any P d [] = inr (λ w. elim w.1 [ ])
dec_any P d (x ∷ xs) =
    elim (d x) [
      | inl p ↦ inl (x, here, p)
      | inr other ↦ elim (dec_any P d xs) [
        | inl w ↦ inl (w.0, there w.1, w.2)
        | inr none ↦ inr (λ w. elim (in_first w.0 x xs w.1) [ inl e ↦ other (subst P e w.2) | inr i ↦ none (w.0, i, w.2) ])
      ]
    ]

dec_both : {A B : Type 0} → Dec A → Dec B → Dec (A × B)
dec_both (inl a) (inl b) = inl (a, b)
dec_both (inl a) (inr h) = inr (λ w. h w.1)
dec_both (inr h) b = inr (λ w. h w.0)

pub dec_referred : (k : Knowledge) (agent : ℕ) (p : Key) → Dec (IsReferred k agent p)
dec_referred k agent p =
    elim (dec_any (λ (r : Pointer). (r.owner ≡ agent) × (r.pin ≡ p)) (λ r. dec_both (dec_nat r.owner agent) (dec_key r.pin p)) k.subordinate) [
      | inl w ↦ inl (w.0, w.1, w.2.0, w.2.1)
      | inr none ↦ inr (λ w. none (w.0, w.1, (w.2, w.3)))
    ]
