-- The parts of one kind, merged by halves, are merged in their order.
use Rattle.std.proofs.Common.{◌≡◌, ℕ, Bool, true, false, ◌&&◌, ◌||◌, ◌⊎◌, inl, inr, List, [], ◌∷◌, ◌++◌, map, refl, sym, ap, subst, ◌∙◌, Result, Ok, Err}
use Rattle.std.specs.Result.{IfOk}
use Rattle.std.proofs.lemmas.List.{map-append}
use Rattle.std.specs.List.{list_all}
use Rattle.x5_model.specs.Answers as model
use Rattle.x5_model.proofs.Lists.{both_true, and_true, either_true, or_left, or_right}
use Rattle.x5_model_serve.specs.Answering.{merged}
use Rattle.x5_ops.specs.AnswerViews.{answer_view}
use Rattle.x5_ops.specs.declared.answers.Answer.{Answer}
use Rattle.x5_ops.specs.declared.answers.Answer.TheVariants.{Entry, Match, Listed, Found, Changed}
use Rattle.x5_merge.specs.Merging.{is_list, is_find, are_alike, IsMerge, IsMergeOf}
use Rattle.x5_merge.proofs.Merges.{listed, found, list_halves, find_halves}

list_view : (names : List (List ℕ)) (a : Answer) → listed (answer_view names a) ≡ is_list a
list_view names (Listed subs sources outcome) = refl
list_view names (Entry entry source) = refl
list_view names (Match matched copy source) = refl
list_view names (Found entries sources outcome) = refl
list_view names Changed = refl

find_view : (names : List (List ℕ)) (a : Answer) → found (answer_view names a) ≡ is_find a
find_view names (Listed subs sources outcome) = refl
find_view names (Entry entry source) = refl
find_view names (Match matched copy source) = refl
find_view names (Found entries sources outcome) = refl
find_view names Changed = refl

all_map : {A B : Type 0} (f : A → B) (t : B → Bool) (u : A → Bool) → ((a : A) → t (f a) ≡ u a) → (xs : List A) → list_all t (map f xs) ≡ list_all u xs
all_map f t u e [] = refl
all_map f t u e (x ∷ xs) = λ i. e x i && all_map f t u e xs i

both_all : {A : Type 0} (t : A → Bool) (xs ys : List A) → list_all t (xs ++ ys) ≡ true → (list_all t xs ≡ true) × (list_all t ys ≡ true)
both_all t [] ys e = (refl, e)
both_all t (x ∷ xs) ys e =
    let w = both_true (t x) (list_all t (xs ++ ys)) e in
    let v = both_all t xs ys w.1 in
    (and_true (t x) (list_all t xs) w.0 v.0, v.1)

module _ (xs ys : List Answer) (alike : are_alike (xs ++ ys) ≡ true) where
  which : (list_all is_list (xs ++ ys) ≡ true) ⊎ (list_all is_find (xs ++ ys) ≡ true)
  which = either_true (list_all is_list (xs ++ ys)) (list_all is_find (xs ++ ys)) alike

  pub front_alike : are_alike xs ≡ true
  front_alike = elim which [
    | inl e ↦ or_left (list_all is_list xs) (list_all is_find xs) (both_all is_list xs ys e).0
    | inr e ↦ or_right (list_all is_list xs) (list_all is_find xs) (both_all is_find xs ys e).0
  ]

  pub back_alike : are_alike ys ≡ true
  back_alike = elim which [
    | inl e ↦ or_left (list_all is_list ys) (list_all is_find ys) (both_all is_list xs ys e).1
    | inr e ↦ or_right (list_all is_list ys) (list_all is_find ys) (both_all is_find xs ys e).1
  ]

  module _ (a b : Answer) (m : IsMergeOf xs a) (n : IsMergeOf ys b) where
    pub merges_alike : are_alike (a ∷ b ∷ []) ≡ true
    merges_alike = elim which [
      | inl e ↦ (let w = both_all is_list xs ys e in or_left (list_all is_list (a ∷ b ∷ [])) (list_all is_find (a ∷ b ∷ [])) (and_true (is_list a) (is_list b && true) (m.list w.0) (and_true (is_list b) true (n.list w.1) refl)))
      | inr e ↦ (let w = both_all is_find xs ys e in or_right (list_all is_list (a ∷ b ∷ [])) (list_all is_find (a ∷ b ∷ [])) (and_true (is_find a) (is_find b && true) (m.find w.0) (and_true (is_find b) true (n.find w.1) refl)))
    ]

    pub halves : (whole : Answer) → ((names : List (List ℕ)) → answer_view names whole ≡ merged (answer_view names a) (answer_view names b)) → (is_list whole ≡ is_list a) × (is_find whole ≡ is_find a) → IsMergeOf (xs ++ ys) whole
    halves whole e kind = record {
      merge = λ names. subst (λ (parts : List model.Answer). IsMerge parts (answer_view names whole)) (sym (map-append (answer_view names) xs ys))
          (subst (λ (c : model.Answer). IsMerge (map (answer_view names) xs ++ map (answer_view names) ys) c) (sym (e names)) (joins names));
      list = λ f. kind.0 ∙ m.list (both_all is_list xs ys f).0;
      find = λ f. kind.1 ∙ m.find (both_all is_find xs ys f).0;
    }
      where
        joins : (names : List (List ℕ)) → IsMerge (map (answer_view names) xs ++ map (answer_view names) ys) (merged (answer_view names a) (answer_view names b))
        joins names = elim which [
          | inl f ↦ (let w = both_all is_list xs ys f in
              list_halves (map (answer_view names) xs) (map (answer_view names) ys) (answer_view names a) (answer_view names b)
              (all_map (answer_view names) listed is_list (list_view names) xs ∙ w.0) (all_map (answer_view names) listed is_list (list_view names) ys ∙ w.1) (m.merge names) (n.merge names))
          | inr f ↦ (let w = both_all is_find xs ys f in
              find_halves (map (answer_view names) xs) (map (answer_view names) ys) (answer_view names a) (answer_view names b)
              (all_map (answer_view names) found is_find (find_view names) xs ∙ w.0) (all_map (answer_view names) found is_find (find_view names) ys ∙ w.1) (m.merge names) (n.merge names))
        ]

pub if_halves : {E : Type 0} (xs ys parts : List Answer) (a b : Answer) (r : Result Answer E) → xs ++ ys ≡ parts → are_alike parts ≡ true → IsMergeOf xs a → IsMergeOf ys b
    → IfOk r (λ w. (names : List (List ℕ)) → answer_view names w ≡ merged (answer_view names a) (answer_view names b))
    → IfOk r (λ w. (is_list w ≡ is_list a) × (is_find w ≡ is_find a)) → IfOk r (λ w. IsMergeOf parts w)
if_halves xs ys parts a b (Ok w) all alike m n e k =
    subst (λ (ps : List Answer). IsMergeOf ps w) all (halves xs ys (subst (λ (ps : List Answer). are_alike ps ≡ true) (sym all) alike) a b m n w e k)
if_halves xs ys parts a b (Err x) all alike m n e k = tt

-- one answer is its own merge
pub alone : (a : Answer) → IsMergeOf (a ∷ []) a
alone a = record {
  merge = λ names. refl;
  list = λ e. (both_true (is_list a) true e).0;
  find = λ e. (both_true (is_find a) true e).0;
}
