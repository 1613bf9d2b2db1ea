-- What is grown over some entries is grown over others with the same members; entries are told by their members and order.
use Rattle.std.proofs.Common.{◌≡◌, Bool, true, not, ◌&&◌, ◌↔◌, inl, inr, List, [], ◌∷◌, refl, sym, ap, subst, ◌∙◌}
use Rattle.std.specs.List.{list_any, filter}
use Rattle.x5_model.specs.Members.{In, here, there}
use Rattle.x5_model.specs.Words.{ascending, distinct}
use Rattle.x5_model.specs.Keys.{Key, same_key, parent}
use Rattle.x5_model.specs.Values.{key_of, name_above}
use Rattle.x5_model.specs.Entries.{Named}
use Rattle.x5_model.proofs.Lists.{both_true, and_true, true_or_false, in_first, any_in, of_any}
use Rattle.x5_model_tree.specs.World.{Specific}
use Rattle.x5_model_tree.specs.Tree.{key_at, keys_of, named_below, is_there, sorted_entries}
use Rattle.x5_model_tree.specs.Described.{same_spelling, is_grown}
use Rattle.x5_model_tree.proofs.Order.{one_list_of_entries, union_in_order, in_union}
use Rattle.x5_model_run.specs.History.{references_below}

module _ {A : Type 0} (test : A → Bool) where
  any_more : (xs ys : List A) → ((x : A) → In x xs → In x ys) → list_any test xs ≡ true → list_any test ys ≡ true
  any_more xs ys p e = (let w = of_any test xs e in any_in test w.0 ys (p w.0 w.1) w.2)

  pub any_alike : (xs ys : List A) → ((x : A) → In x xs → In x ys) → ((x : A) → In x ys → In x xs)
      → list_any test xs ≡ list_any test ys
  any_alike xs ys p q =
      elim (true_or_false (list_any test xs)) [
        | inl e ↦ e ∙ sym (any_more xs ys p e)
        | inr e ↦ elim (true_or_false (list_any test ys)) [
          | inl f ↦ (let g = any_more ys xs q f in cc)
          | inr f ↦ e ∙ sym f
        ]
      ]

more_alike : (x : Named) (xs ys : List Named) → ((e : Named) → In e xs → In e ys) → (e : Named) → In e (x ∷ xs) → In e (x ∷ ys)
more_alike x xs ys p e i = elim (in_first e x xs i) [
  | inl q ↦ subst (λ (z : Named). In e (z ∷ ys)) q here
  | inr j ↦ there (p e j)
]

pub grown_alike : (xs ys es : List Named) → ((e : Named) → In e xs → In e ys) → ((e : Named) → In e ys → In e xs)
    → is_grown xs es ≡ true → is_grown ys es ≡ true
grown_alike xs ys [] p q h = refl
grown_alike xs ys (e ∷ more) p q h =
    let above : Named → Bool = (λ (f : Named). same_spelling f.name (name_above e.name)) in
    let w = both_true (list_any above xs) (not (is_there xs (key_at e)) && is_grown (e ∷ xs) more) h in
    let v = both_true (not (is_there xs (key_at e))) (is_grown (e ∷ xs) more) w.1 in
    and_true (list_any above ys) (not (is_there ys (key_at e)) && is_grown (e ∷ ys) more)
    (sym (any_alike above xs ys p q) ∙ w.0)
    (and_true (not (is_there ys (key_at e))) (is_grown (e ∷ ys) more)
    (ap not (sym (any_alike (λ (f : Named). same_key (key_at f) (key_at e)) xs ys p q)) ∙ v.0)
    (grown_alike (e ∷ xs) (e ∷ ys) more (more_alike e xs ys p) (more_alike e ys xs q) v.1))

-- the first, and the rest behind it
pub grown_first : (xs : List Named) (e : Named) (more : List Named) → is_grown xs (e ∷ more) ≡ true
    → (is_grown xs (e ∷ []) ≡ true) × (is_grown (e ∷ xs) more ≡ true)
grown_first xs e more h =
    let above : Named → Bool = (λ (f : Named). same_spelling f.name (name_above e.name)) in
    let w = both_true (list_any above xs) (not (is_there xs (key_at e)) && is_grown (e ∷ xs) more) h in
    let v = both_true (not (is_there xs (key_at e))) (is_grown (e ∷ xs) more) w.1 in (
      and_true (list_any above xs) (not (is_there xs (key_at e)) && true) w.0
          (and_true (not (is_there xs (key_at e))) true v.0 refl),
      v.1,
    )

-- entries in order, with these members
pub in_order_of : (xs es : List Named) → ascending named_below xs ≡ true → distinct same_key (keys_of es) ≡ true
    → ((e : Named) → In e xs ↔ In e es) → xs ≡ sorted_entries es
in_order_of xs es order once members =
    one_list_of_entries xs (sorted_entries es) order (union_in_order es once)
    (λ e i. (in_union e es).0 ((members e).0 i)) (λ e i. (members e).1 ((in_union e es).1 i))

pub there_sorted : (es : List Named) (key : Key) → is_there (sorted_entries es) key ≡ is_there es key
there_sorted es key =
    any_alike (λ (e : Named). same_key (key_at e) key) (sorted_entries es) es (λ e i. (in_union e es).1 i) (λ e i. (in_union e es).0 i)

filter_alike : {A : Type 0} (f g : A → Bool) (xs : List A) → ((x : A) → f x ≡ g x) → filter f xs ≡ filter g xs
filter_alike {A} f g xs h = ap (λ (t : A → Bool). filter t xs) (λ i x. h x i)

pub below_sorted : (es : List Named) (ks : List Specific) → references_below (sorted_entries es) ks ≡ references_below es ks
below_sorted es ks =
    filter_alike (λ (k : Specific). is_there (sorted_entries es) (parent (key_of k.pin)))
    (λ (k : Specific). is_there es (parent (key_of k.pin))) ks (λ k. there_sorted es (parent (key_of k.pin)))
