-- What the first place of a key in a list says of the list: what stands there is what is found by the key, as the
-- definitions
-- see it.
use Rattle.std.proofs.Common.{◌≡◌, ℕ, zero, suc, ◌<◌, Bool, true, false, if◌then◌else◌, List, [], ◌∷◌, ◌++◌, map}
use Rattle.std.proofs.Common.{Option, Some, None, refl, sym, ap, ◌∙◌, arith}
use Rattle.std.proofs.lemmas.List.{map-append}
use Rattle.std.specs.Prelude.{slice_get}
use Rattle.std.specs.List.{find, filter, flat_map}
use Rattle.std.specs.Option.{is_some, option_map}
use Rattle.x5_model.specs.Keys.{Key, same_key}
use Rattle.x5_model_tree.specs.World as world
use Rattle.x5_model_run.specs.Holdings as model
use Rattle.x5_ops.specs.KnowledgeViews.{specific_view}
use Rattle.x5_holdings.specs.Rows.{places_in, IsFirstPlace}
use Rattle.x5_holdings.specs.Known.{IsPlaceOf}
use Rattle.x5_holdings.specs.State.{Kept, CopyKept, held_view, copy_view, brought_references}
use Rattle.x5_holdings.specs.Spots.{joined}

-- ---- by the first place

module _ {A B : Type 0} (view : A → B) (of : B → Key) (key : Key) where
  pub at_first : (xs : List A) (found : Option ℕ) → IsFirstPlace (places_in (map (λ x. of (view x)) xs)) key found →
      IsPlaceOf view xs (find (λ y. same_key (of y) key) (map view xs)) found
  at_first xs None h = none xs h
    where
      none : (xs : List A) → ((n : ℕ) → places_in (map (λ x. of (view x)) xs) key n ≡ false) → find
          (λ y. same_key (of y) key) (map view xs) ≡ None
      none [] h = refl
      none (x ∷ xs) h = ap (λ (b : Bool). if b then Some (view x) else find (λ y. same_key (of y) key) (map view xs))
          (h 0) ∙ none xs (λ n. h (suc n))
  at_first xs (Some n) h = some xs n h.0 h.1
    where
      some : (xs : List A) (n : ℕ) → places_in (map (λ x. of (view x)) xs) key n ≡ true →
          ((m : ℕ) → m < n → places_in (map (λ x. of (view x)) xs) key m ≡ false)
          → (find (λ y. same_key (of y) key) (map view xs) ≡ option_map view (slice_get xs n)) ×
          (is_some (slice_get xs n) ≡ true)
      some [] n t f = cc
      some (x ∷ xs) zero t f = (
        ap
            (λ (b : Bool). if b then Some (view x) else find (λ y. same_key (of y) key) (map view xs)) t,
        refl,
      )
      some (x ∷ xs) (suc n) t f =
          let w = some xs n t (λ m l. f (suc m) (omega arith)) in (
            ap (λ (b : Bool). if b then Some (view x) else find (λ y. same_key (of y) key) (map view xs))
                (f 0 (omega arith)) ∙ w.0,
            w.1,
          )

-- ---- find over lists that are joined or seen otherwise

module _ {A : Type 0} (test : A → Bool) where
  abbrev step : Bool → A → List A → Option A
  step b x xs = if b then Some x else find test xs

  pub find_left : (xs ys : List A) (x : A) → find test xs ≡ Some x → find test (xs ++ ys) ≡ Some x
  find_left [] ys x e = cc
  find_left (y ∷ xs) ys x e = by (test y) refl (find_left xs ys x)
    where
      by : (b : Bool) → test y ≡ b → (find test xs ≡ Some x → find test (xs ++ ys) ≡ Some x) → find test
          ((y ∷ xs) ++ ys) ≡ Some x
      by true t rest = ap (λ (b : Bool). step b y (xs ++ ys)) t ∙ (sym (ap (λ (b : Bool). step b y xs) t) ∙ e)
      by false t rest = ap (λ (b : Bool). step b y (xs ++ ys)) t ∙ rest (sym (ap (λ (b : Bool). step b y xs) t) ∙ e)

  pub find_right : (xs ys : List A) → find test xs ≡ None → find test (xs ++ ys) ≡ find test ys
  find_right [] ys e = refl
  find_right (y ∷ xs) ys e = by (test y) refl (find_right xs ys)
    where
      by : (b : Bool) → test y ≡ b → (find test xs ≡ None → find test (xs ++ ys) ≡ find test ys) → find test
          ((y ∷ xs) ++ ys) ≡ find test ys
      by true t rest = absurd (let s : Some y ≡ None = sym (ap (λ (b : Bool). step b y xs) t) ∙ e in cc)
      by false t rest = ap (λ (b : Bool). step b y (xs ++ ys)) t ∙ rest (sym (ap (λ (b : Bool). step b y xs) t) ∙ e)

pub find_map : {A B : Type 0} (view : A → B) (test : B → Bool) (xs : List A) → find test (map view xs) ≡ option_map
    view (find (λ x. test (view x)) xs)
find_map view test [] = refl
find_map {A} {B} view test (x ∷ xs) = by (test (view x)) refl (find_map view test xs)
  where
    by : (b : Bool) → test (view x) ≡ b → find test (map view xs) ≡ option_map view (find (λ x. test (view x)) xs) →
        find test (map view (x ∷ xs)) ≡ option_map view (find (λ x. test (view x)) (x ∷ xs))
    by true t rest =
        ap (λ (b : Bool). if b then Some (view x) else find test (map view xs)) t ∙ sym
        (ap (λ (b : Bool). option_map view (if b then Some x else find (λ x. test (view x)) xs)) t)
    by false t rest =
        ap (λ (b : Bool). if b then Some (view x) else find test (map view xs)) t ∙
        (rest ∙ sym (ap (λ (b : Bool). option_map view (if b then Some x else find (λ x. test (view x)) xs)) t))

-- ---- the subordinate references of contexts and copies

pub own_references : (own : List Kept) → flat_map (λ (c : model.Held). c.subordinate) (map held_view own) ≡ map
    specific_view (joined (map (λ (c : Kept). c.subordinate) own))
own_references [] = refl
own_references (c ∷ own) =
    ap (λ (l : List world.Specific). map specific_view c.subordinate ++ l) (own_references own)
    ∙ sym (map-append specific_view c.subordinate (joined (map (λ (k : Kept). k.subordinate) own)))

abbrev below_refreshed : List CopyKept → List world.Specific
below_refreshed copies =
    flat_map (λ (c : model.Held). c.subordinate)
    (map (λ (c : model.Copy). c.held) (filter (λ (c : model.Copy). is_some c.stamp) (map copy_view copies)))

pub copied_references : (copies : List CopyKept) → flat_map (λ (c : model.Held). c.subordinate)
    (map (λ (c : model.Copy). c.held) (filter (λ (c : model.Copy). is_some c.stamp) (map copy_view copies))) ≡ map
    specific_view (joined (map (λ (c : CopyKept). brought_references c.refreshed) copies))
copied_references [] = refl
copied_references (c ∷ copies) = by c.refreshed (copied_references copies)
  where
    by : (o : Option (Kept × ℕ)) → below_refreshed copies ≡ map specific_view
        (joined (map (λ (c : CopyKept). brought_references c.refreshed) copies))
        → below_refreshed (record { prefix = c.prefix; supplier = c.supplier; refreshed = o } ∷ copies) ≡ map
        specific_view (brought_references o ++ joined
        (map (λ (c : CopyKept). brought_references c.refreshed) copies))
    by None rest = rest
    by (Some s) rest =
        ap (λ (l : List world.Specific). map specific_view s.0.subordinate ++ l) rest
        ∙ sym (map-append specific_view s.0.subordinate
        (joined (map (λ (c : CopyKept). brought_references c.refreshed) copies)))
