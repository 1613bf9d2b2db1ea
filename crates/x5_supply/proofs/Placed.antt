-- What stands at the place that a table gives is the one context, or copy, of the prefix: no two have one prefix.
use Rattle.std.proofs.Common.{◌≡◌, ◌<◌, ℕ, zero, suc, Bool, true, List, [], ◌∷◌, length, map, refl, sym, ap, subst, ◌∙◌, Option, Some, None, Bor}
use Rattle.std.specs.Prelude.{slice_get, slice_index_or}
use Rattle.std.specs.List.{find}
use Rattle.std.specs.Option.{option_map}
use Rattle.std.specs.Slice.{IsItemAt}
use Rattle.x5_model.specs.Words.{distinct}
use Rattle.x5_model.specs.Members.{In, here, there}
use Rattle.x5_model.specs.Keys.{Key, same_key}
use Rattle.x5_model.proofs.KeyLaws.{key_decides}
use Rattle.x5_model.proofs.Lists.{of_find, once_map}
use Rattle.x5_model.proofs.Decide.{once_decides}
use Rattle.x5_holdings.specs.Known.{IsPlaceOf}
use Rattle.x5_holdings.proofs.Finding.{find_map}
use Rattle.x5_holdings.proofs.Holding.{got, item_got}

in_got : {A : Type 0} (xs : List A) (n : ℕ) (x : A) → slice_get xs n ≡ Some x → In x xs
in_got {A} [] n x e = cc
in_got {A} (y ∷ xs) zero x e = subst (λ (z : A). In x (z ∷ xs)) (inside (sym e)) here
  where
    inside : Some x ≡ Some y → x ≡ y
    inside q = cc
in_got {A} (y ∷ xs) (suc n) x e = there (in_got xs n x e)

module _ {A B : Type 0} (view : A → B) (of : B → Key) (pin : Key) (xs : List A) where
  abbrev test : B → Bool
  test y = same_key (of y) pin

  pub none_at : IsPlaceOf view xs (find (λ y. same_key (of y) pin) (map view xs)) None
      → find (λ x. same_key (of (view x)) pin) xs ≡ None
  none_at h = by (find (λ x. same_key (of (view x)) pin) xs) (sym (find_map view test xs) ∙ h)
    where
      by : (o : Option A) → option_map view o ≡ None → o ≡ None
      by None e = refl
      by (Some x) e = cc

  module _ (apart : distinct same_key (map (λ x. of (view x)) xs) ≡ true) (n : ℕ)
      (h : IsPlaceOf view xs (find (λ y. same_key (of y) pin) (map view xs)) (Some n)) where
    same_seen : option_map view (find (λ x. same_key (of (view x)) pin) xs) ≡ option_map view (slice_get xs n)
    same_seen = sym (find_map view test xs) ∙ h.0

    one : (x y : A) → In x xs → In y xs → view x ≡ view y → x ≡ y
    one x y i j e =
        once_map (λ (z : A). of (view z)) xs x y
        ((once_decides same_key key_decides (map (λ (z : A). of (view z)) xs)).0 apart) i j (ap of e)

    pub found_at : find (λ x. same_key (of (view x)) pin) xs ≡ slice_get xs n
    found_at = by (find (λ x. same_key (of (view x)) pin) xs) (slice_get xs n) refl refl same_seen
      where
        by : (o q : Option A) → find (λ x. same_key (of (view x)) pin) xs ≡ o → slice_get xs n ≡ q
            → option_map view o ≡ option_map view q → o ≡ q
        by None None e f g = refl
        by None (Some y) e f g = cc
        by (Some x) None e f g = cc
        by (Some x) (Some y) e f g =
            ap Some (one x y (of_find (λ (z : A). same_key (of (view z)) pin) x xs e).0 (in_got xs n y f) (inside g))
          where
            inside : Some (view x) ≡ Some (view y) → view x ≡ view y
            inside q = cc

    pub got_at : (r : Option (Bor A)) → IsItemAt xs n r
        → option_map (λ (x : Bor A). x.now) r ≡ find (λ x. same_key (of (view x)) pin) xs
    got_at r i = item_got xs n r i ∙ sym found_at

-- what is indexed is what is got
pub one_there : {A : Type 0} (xs : List A) (n : ℕ) (x y : A) → n < length xs → x ≡ slice_index_or xs n x
    → slice_get xs n ≡ Some y → x ≡ y
one_there xs n x y lt is e = inside (sym (got xs n x lt is) ∙ e)
  where
    inside : Some x ≡ Some y → x ≡ y
    inside q = cc
