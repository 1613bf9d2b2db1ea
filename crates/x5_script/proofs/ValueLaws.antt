-- A value of a type among attributes: it joins the attribute at the type's place, or stands at the end where there is none.
use Rattle.std.proofs.Common.{◌≡◌, ℕ, zero, suc, ◌+◌, ◌<◌, ◌≤◌, Bool, true, false, if◌then◌else◌, List, [], ◌∷◌, ◌++◌, map, length, get_or, slice_set, Option, None, Some, refl, sym, ◌∙◌, ap, inl, inr, arith}
use Rattle.std.proofs.lemmas.Bool.{cases_lt, lt-ltb}
use Rattle.std.proofs.lemmas.List.{map-append}
use Rattle.std.proofs.lemmas.List.Quantifiers.{position-Some}
use Rattle.std.specs.List.{position, position_or_len}
use Rattle.std.specs.Option.{option_map}
use Rattle.x5_model.specs.Values as model
use Rattle.x5_model.specs.Assertions.{offered}
use Rattle.x5_model.specs.Requests as ask
use Rattle.x5_model.specs.Statics.{same_type}
use Rattle.x5_model_script.specs.Lines.{one_more, with_value}
use Rattle.x5_model_script.specs.Texts.{attribute_of}
use Rattle.x5_ops.specs.RequestViews.{attribute_view}
use Rattle.x5_ops.specs.declared.requests.Attribute.{Attribute}
use Rattle.x5_syntax.specs.TypeView.{type_view}
use Rattle.x5_syntax.specs.ValueView.{value_view}
use Rattle.x5_syntax.specs.declared.kinds.TypeRef.{TypeRef}
use Rattle.x5_syntax.specs.declared.values.Value.{Value}

abbrev has_kind : model.TypeRef → Attribute → Bool
has_kind kind a = same_type (type_view a.kind) kind

abbrev chosen : model.TypeRef → model.Value → Attribute → List Attribute → List ask.Attribute → Bool
    → List ask.Attribute
chosen kind v a others more b = if b then one_more v (attribute_view a) ∷ map attribute_view others else attribute_view a ∷ more

there : (kind : model.TypeRef) (v : model.Value) (new d : Attribute) (xs : List Attribute) (i : ℕ) → i < length xs
    → has_kind kind (get_or xs i d) ≡ true → ((k : ℕ) → k < i → has_kind kind (get_or xs k d) ≡ false)
    → attribute_view new ≡ one_more v (attribute_view (get_or xs i d))
    → with_value kind v (map attribute_view xs) ≡ map attribute_view (slice_set xs i new)
there kind v new d [] i h found before e = absurd (omega arith)
there kind v new d (x ∷ xs) zero h found before e =
    ap (chosen kind v x xs (with_value kind v (map attribute_view xs))) found ∙ ap (λ a. a ∷ map attribute_view xs) (sym e)
there kind v new d (x ∷ xs) (suc i) h found before e =
    ap (chosen kind v x xs (with_value kind v (map attribute_view xs))) (before 0 (omega arith))
    ∙ ap (λ more. attribute_view x ∷ more) (there kind v new d xs i (omega arith) found (λ k l. before (suc k) (omega arith)) e)

pub at_place : (kind : model.TypeRef) (v : model.Value) (new a : Attribute) (xs : List Attribute) (i : ℕ)
    → Some i ≡ position (has_kind kind) xs → a ≡ get_or xs i a → attribute_view new ≡ one_more v (attribute_view a)
    → map attribute_view (slice_set xs i new) ≡ with_value kind v (map attribute_view xs)
at_place kind v new a xs i h is e =
    let facts = position-Some (has_kind kind) xs i a (sym h) in
    sym (there kind v new a xs i facts.0 facts.1 facts.2 (e ∙ ap (λ (x : Attribute). one_more v (attribute_view x)) is))

absent : {X : Type 0} (p : X → Bool) (xs : List X) → None ≡ position p xs → length xs ≤ position_or_len p xs
absent p xs h = elim (cases_lt (position_or_len p xs) (length xs)) [
  | inl low ↦ (let e : None ≡ Some (position_or_len p xs) = h ∙ ap (λ b. if b then Some (position_or_len p xs) else None) (lt-ltb _ _ low) in absurd (cc))
  | inr high ↦ high
]

nowhere : (kind : model.TypeRef) (v : model.Value) (new : ask.Attribute) (xs : List Attribute)
    → length xs ≤ position_or_len (has_kind kind) xs → new ≡ record { kind = kind; values = offered kind v ∷ [] }
    → with_value kind v (map attribute_view xs) ≡ map attribute_view xs ++ new ∷ []
nowhere kind v new [] h e = ap (λ a. a ∷ []) (sym e)
nowhere kind v new (x ∷ xs) h e = by (has_kind kind x) refl h (λ l. nowhere kind v new xs l e)
  where
    by : (b : Bool) → has_kind kind x ≡ b → length (x ∷ xs) ≤ position_or_len (has_kind kind) (x ∷ xs)
        → (length xs ≤ position_or_len (has_kind kind) xs → with_value kind v (map attribute_view xs) ≡ map attribute_view xs ++ new ∷ [])
        → with_value kind v (map attribute_view (x ∷ xs)) ≡ map attribute_view (x ∷ xs) ++ new ∷ []
    by true q far rest = let at : position_or_len (has_kind kind) (x ∷ xs) ≡ 0 = rw q refl in absurd (omega (arith, at, far))
    by false q far rest =
        let at : position_or_len (has_kind kind) (x ∷ xs) ≡ 1 + position_or_len (has_kind kind) xs = rw q refl in
        ap (chosen kind v x xs (with_value kind v (map attribute_view xs))) q ∙ ap (λ more. attribute_view x ∷ more) (rest (omega (arith, at, far)))

pub at_end : (kind : model.TypeRef) (v : model.Value) (new : Attribute) (xs : List Attribute)
    → None ≡ position (has_kind kind) xs → attribute_view new ≡ record { kind = kind; values = offered kind v ∷ [] }
    → map attribute_view (xs ++ new ∷ []) ≡ with_value kind v (map attribute_view xs)
at_end kind v new xs h e = map-append attribute_view xs (new ∷ []) ∙ sym (nowhere kind v (attribute_view new) xs (absent (has_kind kind) xs h) e)

-- an attribute with one value more, and one with a value of its own

abbrev shown : TypeRef → List Value → List model.Offered
shown kind values = map (λ v. offered (type_view kind) (value_view v)) values

pub joined : (kind : TypeRef) (value : Value) (before after : List Value) → after ≡ before ++ value ∷ []
    → attribute_view (record { kind = kind; values = after }) ≡ one_more (value_view value) (attribute_view (record { kind = kind; values = before }))
joined kind value before after h =
    ap (λ (vs : List model.Offered). let a : ask.Attribute = record { kind = type_view kind; values = vs } in a)
    (ap (shown kind) h ∙ map-append (λ v. offered (type_view kind) (value_view v)) before (value ∷ []))

pub alone : (kind : TypeRef) (value : Value) (before after : List Value) → before ≡ [] → after ≡ before ++ value ∷ []
    → attribute_view (record { kind = kind; values = after }) ≡ record { kind = type_view kind; values = offered (type_view kind) (value_view value) ∷ [] }
alone kind value before after none h =
    ap (λ (vs : List model.Offered). let a : ask.Attribute = record { kind = type_view kind; values = vs } in a)
    (ap (shown kind) (h ∙ ap (λ vs. vs ++ value ∷ []) none))

-- the attribute of values that were read

offered_each : (kind : model.TypeRef) (values : List Value)
    → map (λ v. offered kind (value_view v)) values ≡ map (offered kind) (map value_view values)
offered_each kind [] = refl
offered_each kind (v ∷ values) = ap (λ more. offered kind (value_view v) ∷ more) (offered_each kind values)

pub attribute_made : (kind : TypeRef) (read made : List Value) (found : Option (List model.Value)) → made ≡ read
    → Some (map value_view read) ≡ found
    → Some (attribute_view (record { kind = kind; values = made })) ≡ option_map (attribute_of (type_view kind)) found
attribute_made kind read made found same h =
    ap (λ (vs : List model.Offered). let a : ask.Attribute = record { kind = type_view kind; values = vs } in Some a)
    (ap (shown kind) same ∙ offered_each (type_view kind) read)
    ∙ ap (option_map (attribute_of (type_view kind))) h
