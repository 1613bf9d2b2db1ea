-- A later message leaves no more replies to be lost, so what is left of a budget is enough for it.
use Rattle.std.proofs.Common.{◌≡◌, ℕ, ◌+◌, ◌≤◌, ◌<◌, nat_lt, ◌==◌, Bool, true, false, inl, inr, List, [], ◌∷◌, length, refl, sym, ap, ◌∙◌, arith, if◌then◌else◌}
use Rattle.std.proofs.lemmas.Nat.{mul-le}
use Rattle.std.specs.List.{filter}
use Rattle.x5_model.specs.Words.{has}
use Rattle.x5_model.proofs.Decide.{nat_same_decides, less_decides}
use Rattle.x5_model.proofs.Lists.{either_true, or_left, or_right}
use Rattle.x5_model_run.specs.History.{Point, network_at}
use Rattle.x5_model_run.specs.Stage.{once_each}
use Rattle.x5_model_follow.specs.Followed.{budget_from}

module _ (f g : ℕ → Bool) (sub : (x : ℕ) → f x ≡ true → g x ≡ true) where
  kept : (y : ℕ) → f y ≡ true → (xs : List ℕ) → has ◌==◌ (filter g xs) y ≡ true → has ◌==◌ (filter f xs) y ≡ true
  kept y fy [] e = e
  kept y fy (x ∷ xs) e = by (g x) (f x) refl e (kept y fy xs)
    where
      by : (c b : Bool) → f x ≡ b → has ◌==◌ (if c then x ∷ filter g xs else filter g xs) y ≡ true → (has ◌==◌ (filter g xs) y ≡ true → has ◌==◌ (filter f xs) y ≡ true) → has ◌==◌ (if b then x ∷ filter f xs else filter f xs) y ≡ true
      by true true q h rest = elim (either_true (x == y) (has ◌==◌ (filter g xs) y) h) [ inl s ↦ or_left (x == y) _ s | inr m ↦ or_right (x == y) _ (rest m) ]
      by true false q h rest = elim (either_true (x == y) (has ◌==◌ (filter g xs) y) h) [
        | inl s ↦ (let same : x ≡ y = (nat_same_decides x y).0 s in let t : true ≡ false = sym fy ∙ ap f (sym same) ∙ q in cc)
        | inr m ↦ rest m
      ]
      by false true q h rest = or_right (x == y) _ (rest h)
      by false false q h rest = rest h

  fewer : (xs : List ℕ) → length (once_each (filter f xs)) ≤ length (once_each (filter g xs))
  fewer [] = omega arith
  fewer (x ∷ xs) = by (g x) (f x) refl refl (fewer xs)
    where
      more : (v : Bool) → length (once_each (filter f xs)) ≤ length (once_each (filter g xs)) → length (once_each (filter f xs)) ≤ length (if v then once_each (filter g xs) else (x ∷ once_each (filter g xs)))
      more true le = le
      more false le = omega (arith, le)

      both : (u v : Bool) → (v ≡ true → u ≡ true) → length (once_each (filter f xs)) ≤ length (once_each (filter g xs)) → length (if u then once_each (filter f xs) else (x ∷ once_each (filter f xs))) ≤ length (if v then once_each (filter g xs) else (x ∷ once_each (filter g xs)))
      both true v h le = more v le
      both false true h le = (let z : false ≡ true = h refl in cc)
      both false false h le = omega (arith, le)

      by : (c b : Bool) → g x ≡ c → f x ≡ b → length (once_each (filter f xs)) ≤ length (once_each (filter g xs)) → length (once_each (if b then x ∷ filter f xs else filter f xs)) ≤ length (once_each (if c then x ∷ filter g xs else filter g xs))
      by true true p q le = both (has ◌==◌ (filter f xs) x) (has ◌==◌ (filter g xs) x) (kept x q xs) le
      by true false p q le = more (has ◌==◌ (filter g xs) x) le
      by false true p q le = (let z : true ≡ false = sym (sub x q) ∙ p in cc)
      by false false p q le = le

pub budget_falls : (p : Point) (a b : ℕ) → a ≤ b → budget_from p b ≤ budget_from p a
budget_falls p a b le =
    let few = fewer (λ x. nat_lt b x) (λ x. nat_lt a x) (λ x h. (less_decides a x).1 (let s : b < x = (less_decides b x).0 h in omega (arith, s, le))) (network_at p).lost_replies in
    mul-le _ (1 + length (once_each (filter (λ x. nat_lt b x) (network_at p).lost_replies))) _ (1 + length (once_each (filter (λ x. nat_lt a x) (network_at p).lost_replies))) (omega arith) (omega (arith, few))
