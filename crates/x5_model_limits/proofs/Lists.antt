-- Where each member of a list is so, of lists that are made of lists.
use Rattle.std.proofs.Common.{◌≡◌, ℕ, zero, suc, Bool, true, false, inl, inr, List, [], ◌∷◌, ◌++◌, map, take, drop, refl, sym, subst, Option, Some, None, if◌then◌else◌}
use Rattle.std.specs.List.{filter, flat_map}
use Rattle.x5_model.specs.Words.{in_option, when, sorted}
use Rattle.x5_model.specs.Members.{In, here, there}
use Rattle.x5_model.proofs.Ascending.{of_sorted}
use Rattle.x5_model.proofs.Lists.{in_first, in_either, of_map, of_filter, of_flat}
use Rattle.x5_model_fitting.specs.Names.{Each}

pub in_beginning : {X : Type 0} (k : ℕ) (x : X) (xs : List X) → In x (take k xs) → In x xs
in_beginning zero x xs i = elim i [ ]
in_beginning (suc k) x [] i = elim i [ ]
in_beginning (suc k) x (y ∷ xs) here = here
in_beginning (suc k) x (y ∷ xs) (there i) = there (in_beginning k x xs i)

pub in_end : {X : Type 0} (k : ℕ) (x : X) (xs : List X) → In x (drop k xs) → In x xs
in_end zero x xs i = i
in_end (suc k) x [] i = elim i [ ]
in_end (suc k) x (y ∷ xs) i = there (in_end k x xs i)

module _ {X : Type 0} (P : X → Type 0) where
  pub each_none : Each P []
  each_none x i = elim i [ ]

  pub each_one : (x : X) → P x → Each P (x ∷ [])
  each_one x p y i = elim (in_first y x [] i) [ inl e ↦ subst P (sym e) p | inr j ↦ elim j [ ] ]

  pub each_both : (xs ys : List X) → Each P xs → Each P ys → Each P (xs ++ ys)
  each_both xs ys f g x i = elim (in_either x xs ys i) [ inl j ↦ f x j | inr j ↦ g x j ]

  pub each_when : (b : Bool) (x : X) → (b ≡ true → P x) → Each P (when b x)
  each_when true x p = each_one x (p refl)
  each_when false x p = each_none

  pub each_if : (b : Bool) (xs : List X) → Each P xs → Each P (if b then xs else [])
  each_if true xs f = f
  each_if false xs f = each_none

  pub each_unless : (b : Bool) (xs : List X) → Each P xs → Each P (if b then [] else xs)
  each_unless true xs f = each_none
  each_unless false xs f = f

  pub each_kept : (test : X → Bool) (xs : List X) → Each P xs → Each P (filter test xs)
  each_kept test xs f x i = f x (of_filter test x xs i).0

  pub each_sorted : (below : X → X → Bool) (xs : List X) → Each P xs → Each P (sorted below xs)
  each_sorted below xs f x i = f x (of_sorted below x xs i)

  pub each_or : {Y : Type 0} (xs : List X) (f : Y → List X) (o : Option Y) → Each P xs
      → ((y : Y) → o ≡ Some y → Each P (f y)) → Each P (in_option xs f o)
  each_or xs f None e g = e
  each_or xs f (Some y) e g = g y refl

  pub each_some : {Y : Type 0} (f : Y → List X) (o : Option Y) → ((y : Y) → o ≡ Some y → Each P (f y))
      → Each P (in_option [] f o)
  each_some f o g = each_or [] f o each_none g

  pub each_flat : {Y : Type 0} (f : Y → List X) (ys : List Y) → ((y : Y) → In y ys → Each P (f y))
      → Each P (flat_map f ys)
  each_flat f ys g x i = let w = of_flat f x ys i in g w.0 w.1 x w.2

  pub each_map : {Y : Type 0} (f : Y → X) (ys : List Y) → ((y : Y) → In y ys → P (f y)) → Each P (map f ys)
  each_map f ys g x i = let w = of_map f x ys i in subst P (sym w.2) (g w.0 w.1)
