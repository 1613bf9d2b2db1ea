-- The members from a place on are the one there and those behind it.
use Rattle.std.proofs.Common.{◌≡◌, ℕ, zero, suc, ◌+◌, ◌-◌, ◌<◌, ◌≤◌, Bool, true, List, [], ◌∷◌, map, length, drop, get_or, sym, ap, ◌∙◌, add-one, drop-cons, arith}
use Rattle.std.specs.List.{list_all}
use Rattle.x5_model.proofs.Lists.{both_true}

pub drop_at : {A : Type 0} (members : List A) (i : ℕ) (x : A) → i < length members → x ≡ get_or members i x → drop i members ≡ x ∷ drop (i + 1) members
drop_at {A} members i x lt is = rw (add-one, drop-cons members i x) (ap (λ (y : A). y ∷ drop (suc i) members) (sym is))

pub drop_from : {A : Type 0} (members : List A) (n : ℕ) (x : A) → 0 < n → n ≤ length members → x ≡ get_or members (n - 1) x → drop (n - 1) members ≡ x ∷ drop n members
drop_from {A} members n x some le is =
    let next : n - 1 + 1 ≡ n = omega arith in
    drop_at members (n - 1) x (omega arith) is ∙ ap (λ k. x ∷ drop k members) next

same_front : {A : Type 0} (x y : A) → x ≡ y → (p : A → Bool) → p y ≡ true → p x ≡ true
same_front x y e p h = ap p e ∙ h

-- a test that all pass is passed at each place
pub all_at : {A B : Type 0} (test : B → Bool) (f : A → B) (members : List A) (i : ℕ) (x : A) → list_all test (map f members) ≡ true → i < length members → x ≡ get_or members i x → test (f x) ≡ true
all_at test f [] i x h lt is = absurd (omega arith)
all_at test f (y ∷ ys) zero x h lt is = same_front x y is (λ z. test (f z)) (both_true (test (f y)) (list_all test (map f ys)) h).0
all_at test f (y ∷ ys) (suc i) x h lt is = all_at test f ys i x (both_true (test (f y)) (list_all test (map f ys)) h).1 (omega arith) is
