-- The references for the rest below all contexts: what each adds, one behind the other, put in order.
use Rattle.std.proofs.Common.{◌≡◌, ℕ, ◌+◌, ◌<◌, ◌≤◌, List, [], ◌++◌, length, map, drop, get_or, refl, sym, ap, subst, ◌∙◌, append_assoc, append-nil, Some}
use Rattle.std.specs.List.{filter, flat_map}
use Rattle.std.specs.List.Sorted.{ties}
use Rattle.x5_model.specs.Words.{sorted}
use Rattle.x5_model.specs.Members.{In}
use Rattle.x5_model.specs.Requests.{Subset}
use Rattle.x5_model.specs.References.{Reference, Chained}
use Rattle.x5_model.proofs.Lists.{in_left, in_right}
use Rattle.x5_model_run.specs.Holdings.{Held, Holdings}
use Rattle.x5_model_run.specs.Needs.{subset_of}
use Rattle.x5_model_serve.specs.Walking.{left}
use Rattle.x5_model_serve.specs.Answering.{taken_before, walked_needs, rest_of_parts}
use Rattle.x5_ops.proofs.Dropping.{drop_at}
use Rattle.x5_eval.specs.Rest.{AreAlike, AreKnown, root_needs, context_needs, unnamed}
use Rattle.x5_eval.proofs.Adding.{map_twice, none_left}
use Rattle.x5_eval.proofs.Classes.{alike_sorted, alike_joined}
use Rattle.x5_eval.proofs.Resting.{unnamed_needs, walked_are, in_rest}
use Rattle.x5_eval.proofs.Taking.{taken_weak}

pub left_known : (n : ℕ) (rs ts : List Reference) → AreKnown n (rs ++ ts) → AreKnown n rs
left_known n rs ts k r i = k r (in_left r rs ts i)

pub right_known : (n : ℕ) (rs ts : List Reference) → AreKnown n (rs ++ ts) → AreKnown n ts
right_known n rs ts k r i = k r (in_right r rs ts i)

-- two pieces, one added behind the other
pub alike_twice : (before mid new rs ts : List Reference) → AreAlike mid (before ++ rs) → AreAlike new (mid ++ ts)
    → AreAlike new (before ++ (rs ++ ts))
alike_twice before mid new rs ts f g q =
    g q
    ∙ alike_joined taken_before taken_weak mid (before ++ rs) ts ts f (λ z. refl) q
    ∙ ap (filter (ties taken_before q)) (append_assoc before rs ts)

module _ {X : Type 0} (f : Held → List Reference) (view : X → Held) (xs : List X) (i : ℕ) where
  abbrev left_of : ℕ → List Reference
  left_of n = flat_map f (map view (drop n xs))

  next_is : (x : X) → i < length xs → x ≡ get_or xs i x → left_of i ≡ f (view x) ++ left_of (i + 1)
  next_is x l is = ap (λ (r : List X). flat_map f (map view r)) (drop_at xs i x l is)

  pub next_known : (n : ℕ) (x : X) → i < length xs → x ≡ get_or xs i x → AreKnown n (left_of i) → AreKnown n (f (view x))
  next_known n x l is k =
      left_known n (f (view x)) (left_of (i + 1)) (subst (λ (r : List Reference). AreKnown n r) (next_is x l is) k)

  pub others_known : (n : ℕ) (x : X) → i < length xs → x ≡ get_or xs i x → AreKnown n (left_of i) → AreKnown n (left_of (i + 1))
  others_known n x l is k =
      right_known n (f (view x)) (left_of (i + 1)) (subst (λ (r : List Reference). AreKnown n r) (next_is x l is) k)

  pub alike_next : (x : X) → i < length xs → x ≡ get_or xs i x → (acc new all : List Reference)
      → AreAlike (acc ++ left_of i) all → AreAlike new (acc ++ f (view x)) → AreAlike (new ++ left_of (i + 1)) all
  alike_next x l is acc new all so g q =
      alike_joined taken_before taken_weak new (acc ++ f (view x)) (left_of (i + 1)) (left_of (i + 1)) g (λ z. refl) q
      ∙ ap (filter (ties taken_before q)) (append_assoc acc (f (view x)) (left_of (i + 1)) ∙ ap (λ (r : List Reference). acc ++ r) (sym (next_is x l is)))
      ∙ so q

  pub alike_all : (acc all : List Reference) → length xs ≤ i → AreAlike (acc ++ left_of i) all → AreAlike acc all
  alike_all acc all l so q =
      ap (filter (ties taken_before q)) (sym (append-nil acc) ∙ ap (λ (r : List X). acc ++ flat_map f (map view r)) (sym (none_left xs i l)))
      ∙ so q

module _ (h : Holdings) (m : Chained) (subset : Subset) (is : Some subset ≡ subset_of m) where
  abbrev asked : Held → List Reference
  asked c = context_needs h m subset c

  whole : {X : Type 0} (view : X → Held) (xs : List X) → map (λ x. unnamed (view x)) xs ≡ map unnamed (left h m)
      → root_needs h m subset ++ flat_map asked (map view xs) ≡ walked_needs h m
  whole view xs e =
      ap (λ (r : List Reference). root_needs h m subset ++ r) (
      sym (unnamed_needs h m subset (map view xs))
      ∙ ap (flat_map asked) (map_twice view unnamed xs ∙ e)
      ∙ unnamed_needs h m subset (left h m))
      ∙ sym (walked_are h m subset is)

  pub root_known : (n : ℕ) → AreKnown n (rest_of_parts h m) → AreKnown n (root_needs h m subset)
  root_known n k r i =
      k r (in_rest h m r (subst (λ (l : List Reference). In r l) (sym (walked_are h m subset is))
      (in_left r (root_needs h m subset) (flat_map asked (left h m)) i)))

  pub contexts_known : {X : Type 0} (view : X → Held) (xs : List X) → map (λ x. unnamed (view x)) xs ≡ map unnamed (left h m)
      → (n : ℕ) → AreKnown n (rest_of_parts h m) → AreKnown n (flat_map asked (map view xs))
  contexts_known view xs e n k r i =
      k r (in_rest h m r (subst (λ (l : List Reference). In r l) (whole view xs e)
      (in_right r (root_needs h m subset) (flat_map asked (map view xs)) i)))

  -- all of them, in the order in which they are asked
  pub rest_is : {X : Type 0} (view : X → Held) (xs : List X) → map (λ x. unnamed (view x)) xs ≡ map unnamed (left h m)
      → (first second : List Reference) → AreAlike first ([] ++ root_needs h m subset) → AreAlike second (first ++ flat_map asked (map view xs))
      → sorted taken_before second ≡ rest_of_parts h m
  rest_is view xs e first second f g =
      alike_sorted taken_before taken_weak second (walked_needs h m)
      (λ q. alike_twice [] first second (root_needs h m subset) (flat_map asked (map view xs)) f g q
      ∙ ap (filter (ties taken_before q)) (whole view xs e))
