-- The replies that are lost among a request's messages are no more than those that the network says, since each has a
-- number of its own.
use Rattle.std.proofs.Common.{◌≡◌, ℕ, zero, suc, ◌+◌, ◌*◌, ◌<◌, ◌≤◌, Bool, true, false, cond, ◌||◌, ◌==◌, nat_lt, List, [], ◌∷◌, length, refl, sym, ap, ◌∙◌, arith, if◌then◌else◌}
use Rattle.std.specs.List.{filter}
use Rattle.std.proofs.lemmas.Bool.Decides.{Decides-eqb}
use Rattle.x5_model.specs.Words.{has}
use Rattle.x5_model.proofs.Decide.{less_decides}
use Rattle.x5_model_run.specs.Chain.{Scene}
use Rattle.x5_model_run.specs.Stage.{once_each}
use Rattle.x5_model_bounds.specs.Costs.{lost_cost}

-- what is paid for those of the first n numbers after the base that pass the test
abbrev spent_by : (ℕ → Bool) → ℕ → ℕ → ℕ → ℕ
spent_by test base w zero = 0
spent_by test base w (suc n) = (if test (base + n + 1) then w else 0) + spent_by test base w n

spent_like : (f g : ℕ → Bool) (base w n : ℕ) → ((m : ℕ) → f (base + m + 1) ≡ g (base + m + 1)) → spent_by f base w n ≡ spent_by g base w n
spent_like f g base w zero e = refl
spent_like f g base w (suc n) e = let h : spent_by f base w n ≡ spent_by g base w n = spent_like f g base w n e in (λ i. (if e n i then w else 0) + h i)

either_paid : (a b : Bool) (w : ℕ) → (if a || b then w else 0) ≤ (if a then w else 0) + (if b then w else 0)
either_paid true true w = omega arith
either_paid true false w = omega arith
either_paid false true w = omega arith
either_paid false false w = omega arith

spent_either : (f g : ℕ → Bool) (base w n : ℕ) → spent_by (λ x. f x || g x) base w n ≤ spent_by f base w n + spent_by g base w n
spent_either f g base w zero = omega arith
spent_either f g base w (suc n) =
    let h : spent_by (λ x. f x || g x) base w n ≤ spent_by f base w n + spent_by g base w n = spent_either f g base w n in
    let e : (if f (base + n + 1) || g (base + n + 1) then w else 0) ≤ (if f (base + n + 1) then w else 0) + (if g (base + n + 1) then w else 0) = either_paid (f (base + n + 1)) (g (base + n + 1)) w in
    omega arith

false_is : (a b : ℕ) → (a ≡ b → ⊥) → (a == b) ≡ false
false_is a b f = go (a == b) refl
  where
    go : (x : Bool) → (a == b) ≡ x → x ≡ false
    go true e = absurd (f ((Decides-eqb a b).0 e))
    go false e = refl

none_spent : (x base w n : ℕ) → base + n < x → spent_by (λ y. x == y) base w n ≡ 0
none_spent x base w zero h = refl
none_spent x base w (suc n) h =
    let e : (x == (base + n + 1)) ≡ false = false_is x (base + n + 1) (λ e. omega arith) in
    let f : spent_by (λ y. x == y) base w n ≡ 0 = none_spent x base w n (omega arith) in
    let g : (if x == (base + n + 1) then w else 0) ≡ 0 = ap (λ (b : Bool). if b then w else 0) e in
    omega arith

once_spent : (x base w n : ℕ) → spent_by (λ y. x == y) base w n ≤ w
once_spent x base w zero = omega arith
once_spent x base w (suc n) = go (x == (base + n + 1)) refl (once_spent x base w n) (none_spent x base w n)
  where
    go : (b : Bool) → (x == (base + n + 1)) ≡ b → spent_by (λ y. x == y) base w n ≤ w → (base + n < x → spent_by (λ y. x == y) base w n ≡ 0) → (if b then w else 0) + spent_by (λ y. x == y) base w n ≤ w
    go true e h f = (let same : x ≡ base + n + 1 = (Decides-eqb x (base + n + 1)).0 e in let z : spent_by (λ y. x == y) base w n ≡ 0 = f (omega arith) in omega arith)
    go false e h f = omega arith

nothing_spent : (base w n : ℕ) → spent_by (λ y. false) base w n ≡ 0
nothing_spent base w zero = refl
nothing_spent base w (suc n) = (let h : spent_by (λ y. false) base w n ≡ 0 = nothing_spent base w n in omega arith)

again : (x y : ℕ) (ys : List ℕ) → has ◌==◌ ys x ≡ true → ((x == y) || has ◌==◌ ys y) ≡ has ◌==◌ ys y
again x y ys e = go (x == y) refl
  where
    go : (b : Bool) → (x == y) ≡ b → (b || has ◌==◌ ys y) ≡ has ◌==◌ ys y
    go true q = (let same : x ≡ y = (Decides-eqb x y).0 q in sym (ap (λ (v : ℕ). has ◌==◌ ys v) (sym same) ∙ e))
    go false q = refl

spent_within : (ys : List ℕ) (base w n : ℕ) → spent_by (λ y. has ◌==◌ ys y) base w n ≤ length (once_each ys) * w
spent_within [] base w n = (let e : spent_by (λ y. false) base w n ≡ 0 = nothing_spent base w n in omega arith)
spent_within (x ∷ ys) base w n = go (has ◌==◌ ys x) refl (spent_within ys base w n)
  where
    go : (b : Bool) → has ◌==◌ ys x ≡ b → spent_by (λ y. has ◌==◌ ys y) base w n ≤ length (once_each ys) * w
        → spent_by (λ y. (x == y) || has ◌==◌ ys y) base w n ≤ length (if b then once_each ys else (x ∷ once_each ys)) * w
    go true e h =
        let same : spent_by (λ y. (x == y) || has ◌==◌ ys y) base w n ≡ spent_by (λ y. has ◌==◌ ys y) base w n = spent_like (λ y. (x == y) || has ◌==◌ ys y) (λ y. has ◌==◌ ys y) base w n (λ m. again x (base + m + 1) ys e) in
        omega arith
    go false e h =
        let a : spent_by (λ y. (x == y) || has ◌==◌ ys y) base w n ≤ spent_by (λ y. x == y) base w n + spent_by (λ y. has ◌==◌ ys y) base w n = spent_either (λ y. x == y) (λ y. has ◌==◌ ys y) base w n in
        let b : spent_by (λ y. x == y) base w n ≤ w = once_spent x base w n in
        more (length (once_each ys)) (spent_by (λ y. has ◌==◌ ys y) base w n) (spent_by (λ y. (x == y) || has ◌==◌ ys y) base w n) (spent_by (λ y. x == y) base w n) a b h
      where
        more : (l b a c : ℕ) → a ≤ c + b → c ≤ w → b ≤ l * w → a ≤ suc l * w
        more l b a c p q r = omega arith

-- those up to the base are of no account
filtered : (xs : List ℕ) (base y : ℕ) → base < y → has ◌==◌ xs y ≡ has ◌==◌ (filter (λ x. nat_lt base x) xs) y
filtered [] base y h = refl
filtered (x ∷ xs) base y h = go (nat_lt base x) refl (filtered xs base y h)
  where
    go : (b : Bool) → nat_lt base x ≡ b → has ◌==◌ xs y ≡ has ◌==◌ (filter (λ z. nat_lt base z) xs) y
        → ((x == y) || has ◌==◌ xs y) ≡ has ◌==◌ (cond b (x ∷ filter (λ z. nat_lt base z) xs) (filter (λ z. nat_lt base z) xs)) y
    go true e f = ap (λ (v : Bool). (x == y) || v) f
    go false e f =
        let other : (x == y) ≡ false = false_is x y (λ q. (let l : nat_lt base x ≡ true = (less_decides base x).1 (omega arith) in let z : false ≡ true = sym e ∙ l in cc)) in
        ap (λ (v : Bool). v || has ◌==◌ xs y) other ∙ f

as_spent : (s : Scene) (w n : ℕ) → lost_cost s w n ≡ spent_by (λ y. has ◌==◌ s.network.lost_replies y) s.sent w n
as_spent s w zero = refl
as_spent s w (suc n) = ap (λ (v : ℕ). (if has ◌==◌ s.network.lost_replies (s.sent + n + 1) then w else 0) + v) (as_spent s w n)

pub lost_within : (s : Scene) (w n : ℕ) → lost_cost s w n ≤ length (once_each (filter (λ number. nat_lt s.sent number) s.network.lost_replies)) * w
lost_within s w n =
    let a : lost_cost s w n ≡ spent_by (λ y. has ◌==◌ s.network.lost_replies y) s.sent w n = as_spent s w n in
    let b : spent_by (λ y. has ◌==◌ s.network.lost_replies y) s.sent w n ≡ spent_by (λ y. has ◌==◌ (filter (λ x. nat_lt s.sent x) s.network.lost_replies) y) s.sent w n =
    spent_like (λ y. has ◌==◌ s.network.lost_replies y) (λ y. has ◌==◌ (filter (λ x. nat_lt s.sent x) s.network.lost_replies) y) s.sent w n (λ m. filtered s.network.lost_replies s.sent (s.sent + m + 1) (omega arith)) in
    let c : spent_by (λ y. has ◌==◌ (filter (λ x. nat_lt s.sent x) s.network.lost_replies) y) s.sent w n ≤ length (once_each (filter (λ number. nat_lt s.sent number) s.network.lost_replies)) * w =
    spent_within (filter (λ x. nat_lt s.sent x) s.network.lost_replies) s.sent w n in
    omega arith
