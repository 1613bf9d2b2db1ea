-- Values and attributes that are offered, one after another.
use Rattle.std.proofs.Common.{◌≡◌, ℕ, ◌+◌, ◌-◌, ◌<◌, ◌≤◌, Bool, true, false, not, List, [], ◌∷◌, map, length, drop, get_or, refl, sym, ap, ◌∙◌, Option, Some, None, Ok, Err}
use Rattle.std.specs.List.{filter_map}
use Rattle.x5_model.specs.Words.{insert_sorted, sorted}
use Rattle.x5_model.specs.Values as values
use Rattle.x5_model.specs.Assertions.{offered, normal_for}
use Rattle.x5_model.specs.Entries.{Entry}
use Rattle.x5_model.specs.Answers.{DirError}
use Rattle.x5_model.specs.Attributes.{value_below, stored_value, stored_values, entry_with, entry_of, with_offered}
use Rattle.x5_model.specs.Statics.{has_equal_values}
use Rattle.x5_model.specs.Changes.{ChangedEntry, each_value}
use Rattle.x5_syntax.specs.TypeView.{type_view}
use Rattle.x5_syntax.specs.ValueView.{value_view}
use Rattle.x5_syntax.specs.declared.kinds.TypeRef.{TypeRef}
use Rattle.x5_syntax.specs.declared.kinds.TypeRef.TheVariants as types
use Rattle.x5_syntax.specs.declared.values.Value.{Value}
use Rattle.x5_ops.specs.declared.requests.Attribute.{Attribute}
use Rattle.x5_ops.specs.declared.changes.Stop.{Stop}
use Rattle.x5_ops.specs.declared.changes.Stop.TheVariants as stops
use Rattle.x5_ops.specs.RefusalView.{given_values, refusal_view}
use Rattle.x5_ops.specs.ChangeView.{IsStopped}
use Rattle.x5_ops.specs.RequestViews.{attribute_view}
use Rattle.x5_ops.proofs.Dropping.{drop_at, drop_from}
use Rattle.x5_ops.proofs.Changing.{then_ok, then_err, each_first}

abbrev kept : Value → Option (List ℕ) → List values.Offered → List values.StoredValue
kept v n more = sorted value_below (filter_map stored_value (record { value = value_view v; normal = n } ∷ more))

-- one value more, which has a normal form, or has none
pub stored_one : (kind : ℕ) (vs : List Value) (n : ℕ) (v : Value) (m : List ℕ) → 0 < n → n ≤ length vs → v ≡ get_or vs (n - 1) v → Some m ≡ normal_for (values.Known kind) (value_view v) → stored_values (given_values (values.Known kind) (drop (n - 1) vs)) ≡ insert_sorted value_below (record { value = value_view v; normal = m }) (stored_values (given_values (values.Known kind) (drop n vs)))
stored_one kind vs n v m some le is e =
    ap (λ (l : List Value). stored_values (given_values (values.Known kind) l)) (drop_from vs n v some le is)
    ∙ ap (λ (o : Option (List ℕ)). kept v o (given_values (values.Known kind) (drop n vs))) (sym e)

pub stored_none : (kind : ℕ) (vs : List Value) (n : ℕ) (v : Value) → 0 < n → n ≤ length vs → v ≡ get_or vs (n - 1) v → None ≡ normal_for (values.Known kind) (value_view v) → stored_values (given_values (values.Known kind) (drop (n - 1) vs)) ≡ stored_values (given_values (values.Known kind) (drop n vs))
stored_none kind vs n v some le is e =
    ap (λ (l : List Value). stored_values (given_values (values.Known kind) l)) (drop_from vs n v some le is)
    ∙ ap (λ (o : Option (List ℕ)). kept v o (given_values (values.Known kind) (drop n vs))) (sym e)

pub twice_not : (b : Bool) → not (not b) ≡ true → b ≡ true
twice_not true e = refl
twice_not false e = e

-- an attribute's values as those of its type
pub apart_of : (a : Attribute) (k : ℕ) (vs : List Value) → a.kind ≡ types.Known k → vs ≡ a.values → not (has_equal_values (attribute_view a)) ≡ true → not (has_equal_values (record { kind = values.Known k; values = given_values (values.Known k) vs })) ≡ true
apart_of a k vs e f h =
    ap (λ (v : List Value). not (has_equal_values (record { kind = values.Known k; values = given_values (values.Known k) v }))) f
    ∙ ap (λ (t : TypeRef). not (has_equal_values (record { kind = type_view t; values = given_values (type_view t) a.values }))) (sym e)
    ∙ h

pub entry_one : (given : List Attribute) (n : ℕ) (a : Attribute) (k : ℕ) (vs : List Value) (e : Entry) → 0 < n → n ≤ length given → a ≡ get_or given (n - 1) a → a.kind ≡ types.Known k → vs ≡ a.values → e ≡ entry_of (map attribute_view (drop n given)) → entry_with k (stored_values (given_values (values.Known k) vs)) e ≡ entry_of (map attribute_view (drop (n - 1) given))
entry_one given n a k vs e some le is p q r =
    ap (λ (v : List Value). entry_with k (stored_values (given_values (values.Known k) v)) e) q
    ∙ ap (λ (x : Entry). entry_with k (stored_values (given_values (values.Known k) a.values)) x) r
    ∙ ap (λ (t : TypeRef). with_offered (type_view t) (given_values (type_view t) a.values) (entry_of (map attribute_view (drop n given)))) (sym p)
    ∙ ap (λ (l : List Attribute). entry_of (map attribute_view l)) (sym (drop_from given n a some le is))

module _ (f : values.StoredValue → Entry → ChangedEntry) (type : values.TypeRef) where
  -- one value was changed
  pub each_step : (vs : List Value) (i : ℕ) (v : Value) (e g : Entry) (whole : ChangedEntry) → i < length vs → v ≡ get_or vs i v → each_value f (given_values type (v ∷ [])) e ≡ Ok g → each_value f (given_values type (drop i vs)) e ≡ whole → each_value f (given_values type (drop (i + 1) vs)) g ≡ whole
  each_step vs i v e g whole lt is p h =
      sym (then_ok (each_value f (given_values type (v ∷ [])) e) (each_value f (given_values type (drop (i + 1) vs))) g p)
      ∙ sym (each_first f (offered type (value_view v)) (given_values type (drop (i + 1) vs)) e)
      ∙ ap (λ (l : List Value). each_value f (given_values type l) e) (sym (drop_at vs i v lt is))
      ∙ h

  refused_here : (vs : List Value) (i : ℕ) (v : Value) (e : Entry) (x : DirError) (whole : ChangedEntry) → i < length vs → v ≡ get_or vs i v → each_value f (given_values type (v ∷ [])) e ≡ Err x → each_value f (given_values type (drop i vs)) e ≡ whole → whole ≡ Err x
  refused_here vs i v e x whole lt is p h =
      sym h
      ∙ ap (λ (l : List Value). each_value f (given_values type l) e) (drop_at vs i v lt is)
      ∙ each_first f (offered type (value_view v)) (given_values type (drop (i + 1) vs)) e
      ∙ then_err (each_value f (given_values type (v ∷ [])) e) (each_value f (given_values type (drop (i + 1) vs))) x p

  -- one value was refused
  pub each_stop : (s : Stop) (vs : List Value) (i : ℕ) (v : Value) (e : Entry) (whole : ChangedEntry) → i < length vs → v ≡ get_or vs i v → IsStopped s (each_value f (given_values type (v ∷ [])) e) → each_value f (given_values type (drop i vs)) e ≡ whole → IsStopped s whole
  each_stop (stops.Refused r) vs i v e whole lt is p h = refused_here vs i v e (refusal_view r) whole lt is p h
  each_stop stops.NoMemory vs i v e whole lt is p h = tt
