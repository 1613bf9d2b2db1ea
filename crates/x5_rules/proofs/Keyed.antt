-- Values beside their normal forms: where the one list has a normal form, the other has its value.
use Rattle.std.proofs.Common.{◌≡◌, ◌≤◌, ◌+◌, ◌&&◌, ◌||◌, ℕ, suc, Bool, true, false, not, List, [], ◌∷◌, length, map}
use Rattle.std.proofs.Common.{insert, refl, ap, sym, ◌∙◌, arith}
use Rattle.std.specs.List.{position_or_len}
use Rattle.std.specs.declared.option.Option.{Option}
use Rattle.std.specs.declared.option.Option.TheVariants.{None, Some}
use Rattle.x5_model.specs.Words.{has, insert_sorted, same_octets, octets_below}
use Rattle.x5_model_typed.specs.Leaves.{where_so}
use Rattle.x5_rules.proofs.InOrder.{inserted_is, map_insert}

pub has_by : {A : Type 0} (f : A → List ℕ) (x : A) (ys : List A)
    → has same_octets (map f ys) (f x) ≡ has (λ a b. same_octets (f a) (f b)) ys x
has_by f x [] = refl
has_by f x (y ∷ ys) = ap (λ c. same_octets (f y) (f x) || c) (has_by f x ys)

place_step : {A : Type 0} (f : A → List ℕ) (x y : A) (ys : List A) (b : Bool) → octets_below (f y) (f x) ≡ b
    → position_or_len (λ k. not (octets_below k (f x))) (map f ys) ≡ position_or_len (λ a. not (octets_below (f a) (f x))) ys
    → position_or_len (λ k. not (octets_below k (f x))) (f y ∷ map f ys)
    ≡ position_or_len (λ a. not (octets_below (f a) (f x))) (y ∷ ys)
place_step f x y ys true e h = rw e (ap (λ (n : ℕ). 1 + n) h)
place_step f x y ys false e h = rw e refl

pub place_by : {A : Type 0} (f : A → List ℕ) (x : A) (ys : List A)
    → position_or_len (λ k. not (octets_below k (f x))) (map f ys) ≡ position_or_len (λ a. not (octets_below (f a) (f x))) ys
place_by f x [] = refl
place_by f x (y ∷ ys) = place_step f x y ys (octets_below (f y) (f x)) refl (place_by f x ys)

-- what is put at the place of its normal form is put in order
pub put_by : {A B : Type 0} (f : B → List ℕ) (g : A → B) (old new : List A) (x : A) (place : ℕ) → place ≤ length old
    → place ≡ position_or_len (λ k. not (octets_below k (f (g x)))) (map f (map g old)) → new ≡ insert old place x
    → map g new ≡ insert_sorted (λ a b. octets_below (f a) (f b)) (g x) (map g old)
put_by {A = A} f g old new x place inside is items =
    ap (λ (l : List A). map g l) items ∙ map_insert g old place x inside
    ∙ ap (λ (n : ℕ). insert (map g old) n (g x)) (is ∙ place_by f (g x) (map g old))
    ∙ sym (inserted_is (λ a b. octets_below (f a) (f b)) (g x) (map g old))

pub twice_mapped : {A B : Type 0} (f : B → List ℕ) (g : A → B) (l : List A) → length (map f (map g l)) ≡ length l
twice_mapped f g [] = refl
twice_mapped f g (y ∷ l) = ap suc (twice_mapped f g l)

once_mapped : {A B : Type 0} (g : A → B) (l : List A) → length (map g l) ≡ length l
once_mapped g [] = refl
once_mapped g (y ∷ l) = ap suc (once_mapped g l)

-- and its normal form stands where it stands
pub normals_by : {A B : Type 0} (f : B → List ℕ) (g : A → B) (old new : List A) (x : A) (place : ℕ) (before after : List (List ℕ))
    → place ≤ length old → before ≡ map f (map g old) → after ≡ insert before place (f (g x)) → new ≡ insert old place x
    → after ≡ map f (map g new)
normals_by {A = A} {B = B} f g old new x place before after inside same put items =
    put ∙ ap (λ (l : List (List ℕ)). insert l place (f (g x))) same
    ∙ sym (ap (λ (l : List A). map f (map g l)) items ∙ ap (λ (l : List B). map f l) (map_insert g old place x inside)
    ∙ map_insert f (map g old) place (g x) (omega (arith, inside, once_mapped g old)))

pub not_so : {X : Type 0} (b : Bool) (x : X) → None ≡ where_so b x → b ≡ false
not_so true x e = absurd (cc e)
not_so false x e = refl

pub is_so : {X : Type 0} (b : Bool) (x y : X) → Some y ≡ where_so b x → (b ≡ true) × (y ≡ x)
is_so true x y e = (refl, cc e)
is_so false x y e = absurd (cc e)
