-- What holds of each member.
use Rattle.std.proofs.Common.{◌≡◌, ◌↔◌, true, false, List, map, sym, subst}
use Rattle.std.specs.List.{flat_map}
use Rattle.x5_model.specs.Members.{In}
use Rattle.x5_model.proofs.Lists.{in_map, of_map, in_flat, of_flat}

pub false_true : false ≡ true → ⊥
false_true e = cc

-- what holds of each image
pub each_map : {A B : Type 0} (f : A → B) (Q : B → Type 0) (xs : List A) → (((x : A) → In x xs → Q (f x)) ↔ ((b : B) → In b (map f xs) → Q b))
each_map f Q xs = (λ h b i. (let w = of_map f b xs i in subst Q (sym w.2) (h w.0 w.1)), λ h x i. h (f x) (in_map f x xs i))

pub each_flat : {A B : Type 0} (f : A → List B) (Q : B → Type 0) (xs : List A) → (((x : A) → In x xs → (b : B) → In b (f x) → Q b) ↔ ((b : B) → In b (flat_map f xs) → Q b))
each_flat f Q xs = (λ h b i. (let w = of_flat f b xs i in h w.0 w.1 b w.2), λ h x i b j. h b (in_flat f b x xs i j))

pub both_ways : {P Q R : Type 0} → (P ↔ Q) → (Q ↔ R) → (P ↔ R)
both_ways p q = (λ x. q.0 (p.0 x), λ z. p.1 (q.1 z))

-- under a premise
pub each_iff : {A : Type 0} (P Q : A → Type 0) (xs : List A) → ((x : A) → In x xs → (P x ↔ Q x)) → (((x : A) → In x xs → P x) ↔ ((x : A) → In x xs → Q x))
each_iff P Q xs e = (λ h x i. (e x i).0 (h x i), λ h x i. (e x i).1 (h x i))
