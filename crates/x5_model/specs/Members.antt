-- Members of a list.
use Rattle.std.specs.Prelude.{List, [], ◌∷◌, ⊤}

pub data In {A : Type 0} (x : A) : List A → Type 0 where
  here : {xs : List A} → In x (x ∷ xs)
  there : {y : A} {xs : List A} → In x xs → In x (y ∷ xs)

-- each member is there once
abbrev pub Once : {A : Type 0} → List A → Type 0
Once [] = ⊤
Once (x ∷ xs) = ¬ (In x xs) × Once xs
