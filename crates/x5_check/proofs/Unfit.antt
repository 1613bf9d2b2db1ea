-- The steps of a loop that looks for a member that stood there before, or isn't fit.
use Rattle.std.proofs.Common.{◌≡◌, ℕ, ◌+◌, ◌<◌, ◌≤◌, Bool, true, false, not, ◌||◌, List, [], ◌∷◌, ◌++◌, map, take, drop, length, get_or, reverse, sym, ap, ◌∙◌, Option, None}
use Rattle.std.specs.List.{list_any}
use Rattle.std.specs.Option.{is_some, option_map}
use Rattle.std.proofs.lemmas.List.{drop_all, take_more, reverse-append, map-append}
use Rattle.std.proofs.lemmas.List.Sorted.{list_any-IsPermutation, IsPermutation-reverse}
use Rattle.x5_model.specs.Words.{has, first_of, when, unfit}
use Rattle.x5_check.specs.Parts.{unfit_at, seen}
use Rattle.x5_check.proofs.Steps.{drop_at, first_later, nothing_told, something_told}
use Rattle.x5_check.proofs.Tables.{any_map, has_any}

module _ {A K T X : Type 0} (same : K → K → Bool) (key : A → K) (fit : A → Bool) (told : A → X) (view : T → X) (xs : List A) (i : ℕ) where
  has_seen : (k : K) → has same (seen key xs i) k ≡ list_any (λ y. same (key y) k) (take i xs)
  has_seen k =
      has_any same (seen key xs i) k
      ∙ sym (list_any-IsPermutation (λ (z : K). same z k) (map key (take i xs)) (seen key xs i) (IsPermutation-reverse (map key (take i xs))))
      ∙ any_map (λ (z : K). same z k) key (take i xs)

  seen_more : (x : A) → i < length xs → x ≡ get_or xs i x → key x ∷ seen key xs i ≡ seen key xs (i + 1)
  seen_more x lt is =
      sym (ap (λ (l : List A). reverse (map key l)) (more ∙ ap (λ (y : A). take i xs ++ y ∷ []) (sym is)) ∙ ap (λ (l : List K). reverse l) (map-append key (take i xs) (x ∷ [])) ∙ reverse-append (map key (take i xs)) (key x ∷ []))
    where
      more : take (i + 1) xs ≡ take i xs ++ get_or xs i x ∷ []
      more = take_more xs i x lt

  opened : (x : A) → i < length xs → x ≡ get_or xs i x → unfit same key fit told (seen key xs i) (drop i xs) ≡ unfit_at same key fit told xs i x ++ unfit same key fit told (seen key xs (i + 1)) (drop (i + 1) xs)
  opened x lt is =
      ap (λ (l : List A). unfit same key fit told (seen key xs i) l) (drop_at xs i x lt is)
      ∙ (λ j. when (has_seen (key x) j || not (fit x)) (told x) ++ unfit same key fit told (seen_more x lt is j) (drop (i + 1) xs))

  module _ (whole : Option X) (h : first_of (unfit same key fit told (seen key xs i) (drop i xs)) ≡ whole) where
    module _ (found : Option T) (x : A) (lt : i < length xs) (is : x ≡ get_or xs i x) (e : option_map view found ≡ first_of (unfit_at same key fit told xs i x)) where
      here : first_of (unfit_at same key fit told xs i x ++ unfit same key fit told (seen key xs (i + 1)) (drop (i + 1) xs)) ≡ whole
      here = sym (ap (λ (l : List X). first_of l) (opened x lt is)) ∙ h

      pub pass_unfit : is_some found ≡ false → first_of (unfit same key fit told (seen key xs (i + 1)) (drop (i + 1) xs)) ≡ whole
      pass_unfit none =
          sym (first_later (unfit_at same key fit told xs i x) (unfit same key fit told (seen key xs (i + 1)) (drop (i + 1) xs)) (nothing_told view found (unfit_at same key fit told xs i x) e none)) ∙ here

      pub stop_unfit : is_some found ≡ true → option_map view found ≡ whole
      stop_unfit some =
          sym (something_told view found (unfit_at same key fit told xs i x) (unfit same key fit told (seen key xs (i + 1)) (drop (i + 1) xs)) e some) ∙ here

    pub ended_unfit : length xs ≤ i → None ≡ whole
    ended_unfit le = sym (ap (λ (l : List A). first_of (unfit same key fit told (seen key xs i) l)) (drop_all i xs le)) ∙ h
