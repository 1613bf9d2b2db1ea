-- What answers stand for: a join of the code's members stands for the join of what they stand for.
use Rattle.std.proofs.Common.{◌≡◌, ℕ, Bool, true, false, cond, not, ◌&&◌, ◌||◌, List, [], ◌∷◌, ◌++◌, map, take, length, nat_lt, refl, sym, ap, ◌∙◌, Some}
use Rattle.std.proofs.lemmas.List.{map-append, length-map, take-map}
use Rattle.std.specs.List.{filter, list_any}
use Rattle.x5_model.specs.Words.{insert_sorted, sorted}
use Rattle.x5_model.specs.Answers as model
use Rattle.x5_model.specs.Values.{key_of}
use Rattle.x5_model_serve.specs.Answering.{before_sub, before_info, joined, merged, limited_answer}
use Rattle.x5_ops.specs.AnswerViews.{sub_view, info_view, source_view, outcome_view, answer_view}
use Rattle.x5_ops.specs.ReferenceViews.{reference_view}
use Rattle.x5_ops.specs.declared.references.Reference.{Reference}
use Rattle.x5_ops.specs.declared.answers.Source.{Source}
use Rattle.x5_ops.specs.declared.answers.Outcome.{Outcome}
use Rattle.x5_ops.specs.declared.answers.EntryInfo.{EntryInfo}
use Rattle.x5_ops.specs.declared.answers.Sub.{Sub}
use Rattle.x5_ops.specs.declared.answers.Answer.TheVariants as answers
use Rattle.x5_merge.specs.Order.{below_by}

module _ {A X : Type 0} (below : X → X → Bool) (h : A → X) where
  abbrev low : A → A → Bool
  low a b = below (h a) (h b)

  insert_map : (x : A) (ys : List A) → map h (insert_sorted low x ys) ≡ insert_sorted below (h x) (map h ys)
  insert_map x [] = refl
  insert_map x (y ∷ ys) = by (low y x) (insert_map x ys)
    where
      by : (b : Bool) → map h (insert_sorted low x ys) ≡ insert_sorted below (h x) (map h ys) → map h (cond b (y ∷ insert_sorted low x ys) (x ∷ y ∷ ys)) ≡ cond b (h y ∷ insert_sorted below (h x) (map h ys)) (h x ∷ h y ∷ map h ys)
      by true e = ap (λ (zs : List X). h y ∷ zs) e
      by false e = refl

  sorted_map : (xs : List A) → map h (sorted low xs) ≡ sorted below (map h xs)
  sorted_map [] = refl
  sorted_map (x ∷ xs) = insert_map x (sorted low xs) ∙ ap (insert_sorted below (h x)) (sorted_map xs)

  any_map : (y : A) (xs : List A) → list_any (λ x. not (low x y) && not (low y x)) xs ≡ list_any (λ x. not (below x (h y)) && not (below (h y) x)) (map h xs)
  any_map y [] = refl
  any_map y (x ∷ xs) = ap (λ (b : Bool). (not (low x y) && not (low y x)) || b) (any_map y xs)

  filter_map : (xs ys : List A) → map h (filter (λ y. not (list_any (λ x. not (low x y) && not (low y x)) xs)) ys)
      ≡ filter (λ y. not (list_any (λ x. not (below x y) && not (below y x)) (map h xs))) (map h ys)
  filter_map xs [] = refl
  filter_map xs (y ∷ ys) = by (list_any (λ x. not (low x y) && not (low y x)) xs) (filter_map xs ys)
      ∙ ap (λ (b : Bool). cond (not b) (h y ∷ rest) rest) (any_map y xs)
    where
      rest : List X
      rest = filter (λ z. not (list_any (λ x. not (below x z) && not (below z x)) (map h xs))) (map h ys)

      by : (b : Bool) → map h (filter (λ z. not (list_any (λ x. not (low x z) && not (low z x)) xs)) ys) ≡ rest
          → map h (cond (not b) (y ∷ filter (λ z. not (list_any (λ x. not (low x z) && not (low z x)) xs)) ys) (filter (λ z. not (list_any (λ x. not (low x z) && not (low z x)) xs)) ys)) ≡ cond (not b) (h y ∷ rest) rest
      by true e = e
      by false e = ap (λ (zs : List X). h y ∷ zs) e

  pub joined_map : (xs ys : List A) → map h (joined low xs ys) ≡ joined below (map h xs) (map h ys)
  joined_map xs ys =
      sorted_map (xs ++ filter (λ y. not (list_any (λ x. not (low x y) && not (low y x)) xs)) ys)
      ∙ ap (sorted below) (map-append h xs (filter (λ y. not (list_any (λ x. not (low x y) && not (low y x)) xs)) ys) ∙ ap (λ (zs : List X). map h xs ++ zs) (filter_map xs ys))

both_views : (names : List (List ℕ)) (o p : Outcome) (q : Outcome) → q ≡ record { limited = o.limited || p.limited; unexplored = o.unexplored ++ p.unexplored }
    → outcome_view names q ≡ record { limited = o.limited || p.limited; unexplored = map (reference_view names) o.unexplored ++ map (reference_view names) p.unexplored }
both_views names o p q e =
    ap (outcome_view names) e
    ∙ (λ i. record { limited = o.limited || p.limited; unexplored = map-append (reference_view names) o.unexplored p.unexplored i })

pub lists_merged : (xs ys zs : List Sub) (s t u : List Source) (o p q : Outcome) → zs ≡ joined (below_by (λ (a : Sub). key_of (a.rdn ∷ []))) xs ys → u ≡ s ++ t
    → q ≡ record { limited = o.limited || p.limited; unexplored = o.unexplored ++ p.unexplored }
    → (names : List (List ℕ)) → answer_view names (answers.Listed zs u q) ≡ merged (answer_view names (answers.Listed xs s o)) (answer_view names (answers.Listed ys t p))
lists_merged xs ys zs s t u o p q e f g names =
    λ i. model.Listed ((ap (map sub_view) e ∙ joined_map before_sub sub_view xs ys) i) ((ap (map (source_view names)) f ∙ map-append (source_view names) s t) i) (both_views names o p q g i)

pub finds_merged : (xs ys zs : List EntryInfo) (s t u : List Source) (o p q : Outcome) → zs ≡ joined (below_by (λ (a : EntryInfo). key_of a.name)) xs ys → u ≡ s ++ t
    → q ≡ record { limited = o.limited || p.limited; unexplored = o.unexplored ++ p.unexplored }
    → (names : List (List ℕ)) → answer_view names (answers.Found zs u q) ≡ merged (answer_view names (answers.Found xs s o)) (answer_view names (answers.Found ys t p))
finds_merged xs ys zs s t u o p q e f g names =
    λ i. model.Found ((ap (map info_view) e ∙ joined_map before_info info_view xs ys) i) ((ap (map (source_view names)) f ∙ map-append (source_view names) s t) i) (both_views names o p q g i)

limited_outcome : (names : List (List ℕ)) (o q : Outcome) (n len long : ℕ) → q ≡ record { limited = o.limited || nat_lt n len; unexplored = o.unexplored } → len ≡ long
    → outcome_view names q ≡ record { limited = o.limited || nat_lt n long; unexplored = map (reference_view names) o.unexplored }
limited_outcome names o q n len long e l =
    ap (outcome_view names) e ∙ (λ i. record { limited = o.limited || nat_lt n (l i); unexplored = map (reference_view names) o.unexplored })

-- the first members stand for the first of what all stand for
pub list_limited : (xs ts : List Sub) (s : List Source) (o q : Outcome) (n len : ℕ) → len ≡ length xs → ts ≡ take n xs → q ≡ record { limited = o.limited || nat_lt n len; unexplored = o.unexplored }
    → (names : List (List ℕ)) → answer_view names (answers.Listed ts s q) ≡ limited_answer (Some n) (answer_view names (answers.Listed xs s o))
list_limited xs ts s o q n len l t e names =
    λ i. model.Listed ((ap (map sub_view) t ∙ sym (take-map sub_view n xs)) i) (map (source_view names) s) (limited_outcome names o q n len (length (map sub_view xs)) e (l ∙ sym (length-map xs sub_view)) i)

pub find_limited : (xs ts : List EntryInfo) (s : List Source) (o q : Outcome) (n len : ℕ) → len ≡ length xs → ts ≡ take n xs → q ≡ record { limited = o.limited || nat_lt n len; unexplored = o.unexplored }
    → (names : List (List ℕ)) → answer_view names (answers.Found ts s q) ≡ limited_answer (Some n) (answer_view names (answers.Found xs s o))
find_limited xs ts s o q n len l t e names =
    λ i. model.Found ((ap (map info_view) t ∙ sym (take-map info_view n xs)) i) (map (source_view names) s) (limited_outcome names o q n len (length (map info_view xs)) e (l ∙ sym (length-map xs info_view)) i)
