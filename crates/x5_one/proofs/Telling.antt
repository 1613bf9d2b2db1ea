-- What lists and searches tell: those found in the run below the base, and of these as many as the size limit leaves.
use Rattle.std.proofs.Common.{◌≡◌, ℕ, ◌<◌, ◌≤◌, Bool, true, false, ◌&&◌, cond, nat_lt, inl, inr, List, [], ◌∷◌, length}
use Rattle.std.proofs.Common.{map, take, refl, sym, ap, ◌∙◌, arith, Option, None, Some}
use Rattle.std.proofs.lemmas.List.{take_all, take-map}
use Rattle.std.specs.List.{filter}
use Rattle.x5_model.specs.Keys.{Key, is_prefix, is_child}
use Rattle.x5_model.specs.Values.{Name, key_of}
use Rattle.x5_model.specs.Entries.{Named}
use Rattle.x5_model.specs.Filters.{Filter}
use Rattle.x5_model.specs.Requests.{Subset, Selection}
use Rattle.x5_model.specs.Answers.{EntryInfo, Sub, Source, Answered, Listed, Found}
use Rattle.x5_model.proofs.Lists.{both_true, true_or_false}
use Rattle.x5_model.proofs.Decide.{less_decides}
use Rattle.x5_model_tree.specs.Tree.{key_at, is_there_or_root}
use Rattle.x5_model_tree.specs.Ask.{limited, is_cut, just_below, searched, sub_of, info_of, absent}
use Rattle.x5_model_tree.specs.Ask.{limited_list, limited_found}
use Rattle.x5_one.specs.Replies.{reply_of}
use Rattle.x5_one.specs.Scopes.{left_of, tree_with, list_told, search_told}
use Rattle.x5_one.proofs.Runs.{filter_within}

-- ---- size limits

take_either : {A : Type 0} (b : Bool) (n most : ℕ) (xs : List A) → nat_lt n most ≡ b → length xs ≡ n
    → take (cond b n most) xs ≡ take most xs
take_either true n most xs e l =
    let m : n < most = (less_decides n most).0 e in
    take_all n xs (omega arith) ∙ sym (take_all most xs (omega arith))
take_either false n most xs e l = refl

pub limit_leaves : {A B : Type 0} (f : A → B) (size : Option ℕ) (xs : List A)
    → map f (take (left_of size (length xs)) xs) ≡ limited size (map f xs)
limit_leaves f None xs = ap (map f) (take_all (length xs) xs (omega arith))
limit_leaves f (Some most) xs = ap (map f) (take_either (nat_lt (length xs) most) (length xs) most xs refl refl)
    ∙ sym (take-map f most xs)

cut_either : (b : Bool) (n most : ℕ) → nat_lt n most ≡ b → nat_lt (cond b n most) n ≡ nat_lt most n
cut_either true n most e =
    let m : n < most = (less_decides n most).0 e in
    not_less n n (omega arith) ∙ sym (not_less most n (omega arith))
  where
    not_less : (a b : ℕ) → b ≤ a → nat_lt a b ≡ false
    not_less a b l = elim (true_or_false (nat_lt a b)) [
      | inl t ↦ absurd (let s : a < b =
          (less_decides a b).0 t in omega arith)
      | inr f ↦ f
    ]
cut_either false n most e = refl

pub limit_cuts : {A : Type 0} (size : Option ℕ) (xs : List A)
    → nat_lt (left_of size (length xs)) (length xs) ≡ is_cut size xs
limit_cuts None xs = elim (true_or_false (nat_lt (length xs) (length xs))) [
  | inl t ↦ absurd
      (let s : length xs < length xs = (less_decides (length xs) (length xs)).0 t in omega arith)
  | inr f ↦ f
]
limit_cuts (Some most) xs = cut_either (nat_lt (length xs) most) (length xs) most refl

-- ---- scopes

child_under : (base key : Key) → is_child base key ≡ true → is_prefix base key ≡ true
child_under base key t = (both_true _ (is_prefix base key) t).1

pub below_in_run : (entries : List Named) (key : Key)
    → filter (λ e. is_child key (key_at e)) (filter (λ e. is_prefix key (key_at e)) entries)
    ≡ filter (λ e. is_child key (key_at e)) entries
below_in_run entries key = filter_within (λ e. is_prefix key (key_at e)) (λ e. is_child key (key_at e))
    (λ e t. child_under key (key_at e) t) entries

-- the members that pass two tests, one after the other
pub both_filters : (f g : Named → Bool) (xs : List Named) → filter g (filter f xs) ≡ filter (λ x. f x && g x) xs
both_filters f g [] = refl
both_filters f g (x ∷ xs) = by (f x) refl (both_filters f g xs)
  where
    by : (b : Bool) → f x ≡ b → filter g (filter f xs) ≡ filter (λ y. f y && g y) xs
        → filter g (cond b (x ∷ filter f xs) (filter f xs)) ≡ cond (b && g x) (x ∷ filter (λ y. f y && g y) xs)
        (filter (λ y. f y && g y) xs)
    by true q e = ap (λ (ys : List Named). cond (g x) (x ∷ ys) ys) e
    by false q e = e

-- ---- replies

pub list_replied : (source : Source) (entries : List Named) (object : Name) (size : Option ℕ) (found : List Named)
    (subs : List Sub) (cut : Bool) → is_there_or_root entries (key_of object) ≡ true
    → found ≡ just_below (tree_with entries) object
    → subs ≡ map (sub_of (λ key. false)) (take (left_of size (length found)) found)
    → cut ≡ nat_lt (left_of size (length found)) (length found)
    → Answered (Listed subs [] (record { limited = cut; unexplored = [] }))
    ≡ reply_of source (list_told entries object size)
list_replied source entries object size found subs cut there is told marked =
    let all : subs ≡ limited size (map (sub_of (λ key. false)) (just_below (tree_with entries) object)) = told
    ∙ limit_leaves (sub_of (λ key. false)) size found
    ∙ ap (λ (xs : List Named). limited size (map (sub_of (λ key. false)) xs)) is in
    let marks : cut ≡ is_cut size (just_below (tree_with entries) object) = marked ∙ limit_cuts size found
    ∙ ap (is_cut size) is in
    (λ i. Answered (Listed (all i) [] (record { limited = marks i; unexplored = [] })))
    ∙ sym (ap (λ (b : Bool). reply_of source (cond b (limited_list (λ key. false) size (just_below
    (tree_with entries) object)) (absent (tree_with entries) object))) there)

pub search_replied : (source : Source) (entries : List Named) (base : Name) (subset : Subset) (f : Filter)
    (selection : Selection) (size : Option ℕ) (found : List Named) (infos : List EntryInfo) (cut : Bool)
    → is_there_or_root entries (key_of base) ≡ true → found ≡ searched (tree_with entries) base subset f
    → infos ≡ map (info_of (λ key. false) selection) (take (left_of size (length found)) found)
    → cut ≡ nat_lt (left_of size (length found)) (length found)
    → Answered (Found infos [] (record { limited = cut; unexplored = [] }))
    ≡ reply_of source (search_told entries base subset f selection size)
search_replied source entries base subset f selection size found infos cut there is told marked =
    let all : infos ≡ limited size (map (info_of (λ key. false) selection) (searched
    (tree_with entries) base subset f)) = told ∙ limit_leaves (info_of (λ key. false) selection) size found
    ∙ ap (λ (xs : List Named). limited size (map (info_of (λ key. false) selection) xs)) is in
    let marks : cut ≡ is_cut size (searched (tree_with entries) base subset f) = marked ∙ limit_cuts size found
    ∙ ap (is_cut size) is in
    (λ i. Answered (Found (all i) [] (record { limited = marks i; unexplored = [] })))
    ∙ sym (ap (λ (b : Bool). reply_of source (cond b (limited_found (λ key. false) size selection (searched
    (tree_with entries) base subset f)) (absent (tree_with entries) base))) there)
