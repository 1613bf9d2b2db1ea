-- What an agent gathers on its walk, over consistent knowledge: the references that it needs, each once; and what its
-- contexts show one after the other, of which nothing is dropped, is what is shown of all their entries as one tree,
-- since entries are apart by keys and a sorted list is determined by its members.
use Rattle.std.proofs.Common.{◌≡◌, Bool, true, false, cond, not, ◌||◌, inl, inr, List, [], ◌∷◌, ◌++◌, map, refl, sym, ap, subst, ◌∙◌}
use Rattle.std.specs.List.{list_any, filter, flat_map}
use Rattle.x5_model.specs.Words.{sorted}
use Rattle.x5_model.specs.Members.{In, here, there}
use Rattle.x5_model.specs.Entries.{Named}
use Rattle.x5_model.specs.References.{Reference}
use Rattle.x5_model.proofs.Lists.{both_true, and_true, not_true, true_or_false, or_left, or_right, in_first, in_right, of_map, in_filter, of_filter, any_in, of_any}
use Rattle.x5_model.proofs.Ascending.{AllApart, of_sorted, in_sorted, sorted_ascending, one_list}
use Rattle.x5_model_tree.specs.World.{World}
use Rattle.x5_model_run.specs.Journal.{Line}
use Rattle.x5_model_run.specs.Holdings.{Held}
use Rattle.x5_model_run.specs.History.{Point, holdings_at}
use Rattle.x5_model_run.specs.Covers.{meet, are_apart}
use Rattle.x5_model_run.specs.Needs.{part_needs}
use Rattle.x5_model_parts.specs.Parts.{BeginsHere, rest_needs}
use Rattle.x5_model_parts.proofs.Joining.{spots_are_once}
use Rattle.x5_model_serve.specs.Walked.{Shuffled, none, one}
use Rattle.x5_model_serve.specs.Answering.{taken_before, walked_needs, rest_of_parts, first_each}
use Rattle.x5_model_serve.proofs.Shuffling.{of_shuffled, in_shuffled, widen}
use Rattle.x5_model_serve.proofs.Walks.{of_rest, needs_shuffled}
use Rattle.x5_model_joins.proofs.Joined.{map_same, filter_same, filter_all, map_joined, sorted_map, picked_ascending}
use Rattle.x5_model_joins.proofs.Contexts.{meet_back}

-- ---- the references
pub of_the_rest : (p : Point) (l : Line) (r : Reference) → In r (rest_of_parts (holdings_at p l.receiver) l.message)
    → In r (rest_needs p l)
of_the_rest p l r i = of_rest (holdings_at p l.receiver) l.message r i

pub in_the_rest : (p : Point) (l : Line) → BeginsHere p l → (r : Reference) → In r (rest_needs p l)
    → In r (rest_of_parts (holdings_at p l.receiver) l.message)
in_the_rest p l b r i =
    in_sorted taken_before r (walked_needs (holdings_at p l.receiver) l.message)
    (in_shuffled (walked_needs (holdings_at p l.receiver) l.message) (part_needs (holdings_at p l.receiver) l.message) r
    (needs_shuffled (holdings_at p l.receiver) l.message (spots_are_once p l b)) i)

module _ (w : World) where
  none_meets : (x : Reference) (xs : List Reference) → ((y : Reference) → In y xs → meet w x y ≡ true → ⊥)
      → not (list_any (meet w x) xs) ≡ true
  none_meets x xs g = elim (true_or_false (list_any (meet w x) xs)) [
    | inl p ↦ (let y = of_any (meet w x) xs p in absurd (g y.0 y.1 y.2))
    | inr p ↦ ap not p
  ]

  never_meets : (x : Reference) (xs : List Reference) → not (list_any (meet w x) xs) ≡ true → (y : Reference)
      → In y xs → meet w x y ≡ true → ⊥
  never_meets x xs h y i m =
      (let a : list_any (meet w x) xs ≡ true = any_in (meet w x) y xs i m in let c : list_any
      (meet w x) xs ≡ false = not_true (list_any (meet w x) xs) h in cc)

  apart_split : (x : Reference) (ys zs : List Reference) → are_apart w (ys ++ x ∷ zs) ≡ true
      → (not (list_any (meet w x) (ys ++ zs)) ≡ true) × (are_apart w (ys ++ zs) ≡ true)
  apart_split x [] zs h = both_true (not (list_any (meet w x) zs)) (are_apart w zs) h
  apart_split x (y ∷ ys) zs h =
      let b = both_true (not (list_any (meet w y) (ys ++ x ∷ zs))) (are_apart w (ys ++ x ∷ zs)) h in
      let rest = apart_split x ys zs b.1 in (
        none_meets x (y ∷ ys ++ zs) (λ v i m. elim (in_first v y (ys ++ zs) i) [
          | inl e ↦ never_meets y (ys ++ x ∷ zs) b.0 x (in_right x ys (x ∷ zs) here)
              (meet_back w x y (subst (λ (z : Reference). meet w x z ≡ true) e m))
          | inr j ↦ never_meets x (ys ++ zs) rest.0 v j m
        ]),
        and_true (not (list_any (meet w y) (ys ++ zs))) (are_apart w (ys ++ zs))
            (none_meets y (ys ++ zs) (λ v i m. never_meets y (ys ++ x ∷ zs) b.0 v (widen x v ys zs i) m)) rest.1,
      )

  pub shuffled_apart : (us vs : List Reference) → Shuffled us vs → are_apart w vs ≡ true → are_apart w us ≡ true
  shuffled_apart _ _ none h = refl
  shuffled_apart _ _ (one {x} {xs} ys zs s) h =
      let b = apart_split x ys zs h in
      and_true (not (list_any (meet w x) xs)) (are_apart w xs)
      (none_meets x xs (λ v i m. never_meets x (ys ++ zs) b.0 v (of_shuffled xs (ys ++ zs) v s i) m))
      (shuffled_apart xs (ys ++ zs) s b.1)

pub walked_apart : (w : World) (p : Point) (l : Line) (b : BeginsHere p l) → are_apart w (rest_needs p l) ≡ true
    → are_apart w (walked_needs (holdings_at p l.receiver) l.message) ≡ true
walked_apart w p l b h =
    shuffled_apart w (walked_needs (holdings_at p l.receiver) l.message) (rest_needs p l)
    (needs_shuffled (holdings_at p l.receiver) l.message (spots_are_once p l b)) h

-- ---- what contexts show, one after the other
filter_joined : {E : Type 0} (t : E → Bool) (xs ys : List E) → filter t (xs ++ ys) ≡ filter t xs ++ filter t ys
filter_joined t [] ys = refl
filter_joined t (x ∷ xs) ys = by (t x) (filter_joined t xs ys)
  where
    by : (b : Bool) → filter t (xs ++ ys) ≡ filter t xs ++ filter t ys
        → cond b (x ∷ filter t (xs ++ ys)) (filter t (xs ++ ys)) ≡ cond b (x ∷ filter t xs) (filter t xs) ++ filter t ys
    by true e = ap (λ zs. x ∷ zs) e
    by false e = e

pub flat_shown : {X : Type 0} (f : Held → Named → X) (g : Named → X) (u t : Named → Bool) (cs : List Held)
    → ((e : Named) → u e ≡ t e) → ((c : Held) → In c cs → (e : Named) → In e c.entries → f c e ≡ g e)
    → flat_map (λ c. map (f c) (filter u c.entries)) cs ≡ map g (filter t (flat_map (λ c. c.entries) cs))
flat_shown f g u t [] same h = refl
flat_shown f g u t (c ∷ cs) same h =
    (λ i. (ap (map (f c)) (filter_same u t c.entries (λ z j. same z))
    ∙ map_same (f c) g (filter t c.entries) (λ e j. h c here e (of_filter t e c.entries j).0)) i
    ++ flat_shown f g u t cs same (λ d j. h d (there j)) i)
    ∙ sym (ap (map g) (filter_joined t c.entries (flat_map (λ d. d.entries) cs))
    ∙ map_joined g (filter t c.entries) (filter t (flat_map (λ d. d.entries) cs)))

pub first_all : {X : Type 0} (below : X → X → Bool) (xs : List X) → AllApart below xs → first_each below xs ≡ xs
first_all below [] a = refl
first_all below (x ∷ xs) a =
    ap (λ ys. x ∷ filter (λ y. below x y || below y x) ys) (first_all below xs a.1)
    ∙ ap (λ ys. x ∷ ys) (filter_all (λ y. below x y || below y x) xs (λ z i. elim (a.0 z i) [
      | inl p ↦ or_left (below x z) (below z x) p
      | inr p ↦ or_right (below x z) (below z x) p
    ]))

module _ {E X : Type 0} (low : E → E → Bool) (below : X → X → Bool)
    (chain : (x y z : E) → low x y ≡ true → low y z ≡ true → low x z ≡ true) (never : (x : E) → low x x ≡ true → ⊥)
    (g : E → X) (t : E → Bool) (order : (d e : E) → t d ≡ true → t e ≡ true → below (g d) (g e) ≡ low d e) where
  chosen_apart : (es : List E) → AllApart low es → AllApart low (filter t es)
  chosen_apart [] a = tt
  chosen_apart (x ∷ xs) a = by (t x) (chosen_apart xs a.1)
    where
      by : (b : Bool) → AllApart low (filter t xs) → AllApart low (cond b (x ∷ filter t xs) (filter t xs))
      by true rest = ((λ z i. a.0 z (of_filter t z xs i).0), rest)
      by false rest = rest

  map_apart : (es : List E) → ((e : E) → In e es → t e ≡ true) → AllApart low es → AllApart below (map g es)
  map_apart [] f a = tt
  map_apart (x ∷ xs) f a = (
    λ z i. (let e = of_map g z xs i in elim (a.0 e.0 e.1) [
      | inl p ↦ inl (ap (below (g x)) e.2 ∙ order x e.0 (f x here) (f e.0 (there e.1)) ∙ p)
      | inr p ↦ inr (ap (λ y. below y (g x)) e.2 ∙ order e.0 x (f e.0 (there e.1)) (f x here) ∙ p)
    ]),
    map_apart xs (λ e i. f e (there i)) a.1,
  )

  sorted_chosen : (es : List E) → AllApart low es → sorted low (filter t es) ≡ filter t (sorted low es)
  sorted_chosen es a =
      one_list low chain never (sorted low (filter t es)) (filter t (sorted low es))
      (sorted_ascending low chain (filter t es) (chosen_apart es a))
      (picked_ascending low below chain never t es a) to from
    where
      to : (z : E) → In z (sorted low (filter t es)) → In z (filter t (sorted low es))
      to z i = (let w = of_filter t z es (of_sorted low z (filter t es) i) in in_filter t z (sorted low es)
          (in_sorted low z es w.0) w.1)

      from : (z : E) → In z (filter t (sorted low es)) → In z (sorted low (filter t es))
      from z i = (let w = of_filter t z (sorted low es) i in in_sorted low z (filter t es)
          (in_filter t z es (of_sorted low z es w.0) w.1))

  -- nothing of it is dropped
  pub shown_sorted : (es : List E) → AllApart low es → sorted below (first_each below (map g (filter t es))) ≡ map g
      (filter t (sorted low es))
  shown_sorted es a =
      ap (sorted below) (first_all below (map g (filter t es))
      (map_apart (filter t es) (λ e i. (of_filter t e es i).1) (chosen_apart es a)))
      ∙ sorted_map low below g (filter t es) (λ d e i j. order d e (of_filter t d es i).1 (of_filter t e es j).1)
      ∙ ap (map g) (sorted_chosen es a)
