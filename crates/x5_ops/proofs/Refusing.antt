-- The first of the refusals that members give one after another.
use Rattle.std.proofs.Common.{◌≡◌, ℕ, ◌+◌, ◌-◌, ◌<◌, Bool, true, false, ◌||◌, List, [], ◌∷◌, ◌++◌, map, length, drop, take, get_or, slice_get, refl, sym, ap, ◌∙◌, Option, Some, None, is_some, arith}
use Rattle.std.proofs.lemmas.Grind.{common_steps}
use Rattle.std.specs.Option.{option_map}
use Rattle.std.specs.List.{list_any}
use Rattle.x5_model.specs.Words.{first_of, when}
use Rattle.x5_model.specs.Values.{TypeRef, Name, last_rdn}
use Rattle.x5_model.specs.Answers.{DirError}
use Rattle.x5_model.specs.Statics as model
use Rattle.x5_syntax.specs.TypeView.{type_view}
use Rattle.x5_ops.specs.RequestViews.{attribute_view}
use Rattle.x5_ops.specs.declared.requests.Attribute.{Attribute}
use Rattle.x5_ops.proofs.Dropping.{drop_at}
use Rattle.x5_ops.proofs.Refusals.{first_none, first_some}
use Rattle.x5_ops.proofs.Repeats.{kinds_before, one_more_kind, has_earlier}

module _ {A R D : Type 0} (view : R → D) (of_all : List A → List D) (of_one : A → List D) (next : (x : A) (xs : List A) → of_all (x ∷ xs) ≡ of_one x ++ of_all xs) where
  here : (members : List A) (i : ℕ) (x : A) → i < length members → x ≡ get_or members i x → of_all (drop i members) ≡ of_one x ++ of_all (drop (i + 1) members)
  here members i x lt is = ap of_all (drop_at members i x lt is) ∙ next x (drop (i + 1) members)

  -- a member is refused
  pub refuse_stop : (members : List A) (i : ℕ) (x : A) (o : Option R) (whole : Option D) → i < length members → x ≡ get_or members i x → is_some o ≡ true → option_map view o ≡ first_of (of_one x) → first_of (of_all (drop i members)) ≡ whole → option_map view o ≡ whole
  refuse_stop members i x None whole lt is s e h = cc
  refuse_stop members i x (Some r) whole lt is s e h =
      sym (first_some (view r) (of_one x) (of_all (drop (i + 1) members)) (sym e))
      ∙ ap first_of (sym (here members i x lt is))
      ∙ h

  -- a member isn't
  pub refuse_step : (members : List A) (i : ℕ) (x : A) (o : Option R) (whole : Option D) → i < length members → x ≡ get_or members i x → is_some o ≡ false → option_map view o ≡ first_of (of_one x) → first_of (of_all (drop i members)) ≡ whole → first_of (of_all (drop (i + 1) members)) ≡ whole
  refuse_step members i x None whole lt is s e h =
      sym (first_none (of_one x) (of_all (drop (i + 1) members)) (sym e))
      ∙ ap first_of (sym (here members i x lt is))
      ∙ h
  refuse_step members i x (Some r) whole lt is s e h = cc

pub none_of : {R D : Type 0} (view : R → D) (o : Option R) (w : Option D) → is_some o ≡ false → option_map view o ≡ w → w ≡ None
none_of view None w s e = sym e
none_of view (Some r) w s e = cc

-- ---- repeated attributes

module _ (given : List Attribute) (i : ℕ) (a : Attribute) (whole : Option DirError) (lt : i < length given) (is : a ≡ get_or given i a)
    (h : first_of (model.attribute_repeats (kinds_before (take i given) []) (map attribute_view (drop i given))) ≡ whole) where
  split : (b : Bool) → b ≡ (model.has_equal_values (attribute_view a) || list_any (λ c. model.same_type (type_view c.kind) (type_view a.kind)) (take i given)) → first_of (when b (model.repeated (attribute_view a)) ++ model.attribute_repeats (type_view a.kind ∷ kinds_before (take i given) []) (map attribute_view (drop (i + 1) given))) ≡ whole
  split b e =
      ap (λ (t : Bool). first_of (when t (model.repeated (attribute_view a)) ++ model.attribute_repeats (type_view a.kind ∷ kinds_before (take i given) []) (map attribute_view (drop (i + 1) given)))) (e ∙ ap (λ (t : Bool). model.has_equal_values (attribute_view a) || t) (sym (has_earlier (take i given) (type_view a.kind))))
      ∙ ap (λ (l : List Attribute). first_of (model.attribute_repeats (kinds_before (take i given) []) (map attribute_view l))) (sym (drop_at given i a lt is))
      ∙ h

  pub repeats_stop : (b : Bool) → b ≡ true → b ≡ (model.has_equal_values (attribute_view a) || list_any (λ c. model.same_type (type_view c.kind) (type_view a.kind)) (take i given)) → Some (model.repeated (attribute_view a)) ≡ whole
  repeats_stop true t e = split true e
  repeats_stop false t e = cc

  pub repeats_step : (b : Bool) → b ≡ false → b ≡ (model.has_equal_values (attribute_view a) || list_any (λ c. model.same_type (type_view c.kind) (type_view a.kind)) (take i given)) → first_of (model.attribute_repeats (kinds_before (take (i + 1) given) []) (map attribute_view (drop (i + 1) given))) ≡ whole
  repeats_step true t e = cc
  repeats_step false t e =
      ap (λ (k : List TypeRef). first_of (model.attribute_repeats k (map attribute_view (drop (i + 1) given)))) (ap (λ (l : List Attribute). kinds_before l []) (take_at given i a lt is) ∙ one_more_kind (take i given) a [])
      ∙ split false e
    where
      take_at : (given : List Attribute) (i : ℕ) (a : Attribute) → i < length given → a ≡ get_or given i a → take (i + 1) given ≡ take i given ++ a ∷ []
      take_at given i a lt is = grind (arith, common_steps)

-- ---- the last RDN

pub none_by_place : (n : Name) → slice_get n (length n - 1) ≡ None → last_rdn n ≡ []
none_by_place [] e = refl
none_by_place (x ∷ []) e = cc
none_by_place (x ∷ y ∷ more) e = none_by_place (y ∷ more) (grind (arith, e))
