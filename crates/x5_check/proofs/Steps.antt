-- The steps of loops: what a loop has gathered grows by one member's part; and the first of all members' parts is the first of
-- the first part that has one.
use Rattle.std.proofs.Common.{◌≡◌, ℕ, suc, ◌+◌, ◌<◌, ◌≤◌, true, false, List, [], ◌∷◌, ◌++◌, drop, length, get_or, refl, sym, ap, ◌∙◌, add-one, drop-cons, append_assoc, Option, Some, None}
use Rattle.std.specs.List.{flat_map}
use Rattle.std.specs.Option.{is_some, option_map}
use Rattle.std.proofs.lemmas.List.{drop_all}
use Rattle.x5_model.specs.Words.{first_of}

pub drop_at : {A : Type 0} (members : List A) (i : ℕ) (x : A) → i < length members → x ≡ get_or members i x → drop i members ≡ x ∷ drop (i + 1) members
drop_at {A} members i x lt is = rw (add-one, drop-cons members i x) (ap (λ (y : A). y ∷ drop (suc i) members) (sym is))

pub append_nothing : {B : Type 0} (xs : List B) → xs ++ [] ≡ xs
append_nothing [] = refl
append_nothing {B} (x ∷ xs) = ap (λ (l : List B). x ∷ l) (append_nothing xs)

-- ---- what is gathered

module _ {A B : Type 0} (f : A → List B) (xs : List A) (i : ℕ) where
  pub grow : (old new whole : List B) (x : A) → i < length xs → x ≡ get_or xs i x → new ≡ old ++ f x → old ++ flat_map f (drop i xs) ≡ whole → new ++ flat_map f (drop (i + 1) xs) ≡ whole
  grow old new whole x lt is e h =
      let rest : List B = flat_map f (drop (i + 1) xs) in
      ap (λ (l : List B). l ++ rest) e ∙ append_assoc old (f x) rest ∙ ap (λ (l : List B). old ++ l) (sym (ap (flat_map f) (drop_at xs i x lt is))) ∙ h

  pub grown : (new whole : List B) → length xs ≤ i → new ++ flat_map f (drop i xs) ≡ whole → new ≡ whole
  grown new whole le h = sym (append_nothing new) ∙ (ap (λ (l : List A). new ++ flat_map f l) (sym (drop_all i xs le)) ∙ h)

-- ---- what comes first

pub first_nothing : {X : Type 0} (xs : List X) → first_of xs ≡ None → xs ≡ []
first_nothing [] e = refl
first_nothing (x ∷ xs) e = cc

pub first_later : {X : Type 0} (xs ys : List X) → first_of xs ≡ None → first_of (xs ++ ys) ≡ first_of ys
first_later [] ys e = refl
first_later (x ∷ xs) ys e = cc

pub first_now : {X : Type 0} (xs ys : List X) (b : X) → first_of xs ≡ Some b → first_of (xs ++ ys) ≡ Some b
first_now [] ys b e = cc
first_now (x ∷ xs) ys b e = e

pub nothing_told : {T X : Type 0} (view : T → X) (told : Option T) (xs : List X) → option_map view told ≡ first_of xs → is_some told ≡ false → first_of xs ≡ None
nothing_told view None xs e h = sym e
nothing_told view (Some t) xs e h = cc

pub something_told : {T X : Type 0} (view : T → X) (told : Option T) (xs ys : List X) → option_map view told ≡ first_of xs → is_some told ≡ true → first_of (xs ++ ys) ≡ option_map view told
something_told view None xs ys e h = cc
something_told view (Some t) xs ys e h = first_now xs ys (view t) (sym e)

module _ {A T X : Type 0} (view : T → X) (f : A → List X) (xs : List A) (i : ℕ) (whole : Option X) (h : first_of (flat_map f (drop i xs)) ≡ whole) where
  module _ (told : Option T) (x : A) (lt : i < length xs) (is : x ≡ get_or xs i x) (e : option_map view told ≡ first_of (f x)) where
    here : first_of (f x ++ flat_map f (drop (i + 1) xs)) ≡ whole
    here = sym (ap (λ (l : List A). first_of (flat_map f l)) (drop_at xs i x lt is)) ∙ h

    -- nothing is told of this member
    pub pass : is_some told ≡ false → first_of (flat_map f (drop (i + 1) xs)) ≡ whole
    pass none = sym (first_later (f x) (flat_map f (drop (i + 1) xs)) (nothing_told view told (f x) e none)) ∙ here

    -- something is told of it
    pub stop : is_some told ≡ true → option_map view told ≡ whole
    stop some = sym (something_told view told (f x) (flat_map f (drop (i + 1) xs)) e some) ∙ here

  -- nothing was told
  pub ended : length xs ≤ i → None ≡ whole
  ended le = sym (ap (λ (l : List A). first_of (flat_map f l)) (drop_all i xs le)) ∙ h
