-- The place of a name among names is that of an agent of that name.
use Rattle.std.proofs.Common.{◌≡◌, ℕ, Bool, true, false, cond, nat_lt, List, [], length, refl, sym, ap, ◌∙◌}
use Rattle.std.proofs.lemmas.List.Folds.{find_at}
use Rattle.std.specs.Cmp.Lexicographic.{bytes_decides}
use Rattle.std.specs.List.{find, position, position_or_len, slice_get}
use Rattle.std.specs.Option.{is_some}
use Rattle.std.specs.declared.option.Option.{Option}
use Rattle.std.specs.declared.option.Option.TheVariants.{None, Some}
use Rattle.x5_model.specs.Words.{in_option, same_octets}
use Rattle.x5_model.proofs.Lists.{of_any, of_find, not_found}
use Rattle.x5_know.specs.Names.{has_name}
use Rattle.x5_types.proofs.Agents.{is_named}
use Rattle.x5_dispber.specs.ShadowViews.{agent_name}

pub never_lost : (names : List (List ℕ)) (t : List ℕ) → has_name names t ≡ true → position (λ n. same_octets n t) names ≡ None → ⊥
never_lost names t has none =
    let no : is_some (position (λ n. same_octets n t) names) ≡ false = ap (λ (o : Option ℕ). is_some o) none in
    cc (no, is_named t names, has)

module _ (names : List (List ℕ)) (t : List ℕ) (has : has_name names t ≡ true) where
  named : List ℕ → Bool
  named n = same_octets n t

  by : (o : Option (List ℕ)) → find named names ≡ o → in_option [] (λ n. n) o ≡ t
  unfolding named
  by (Some n) f = (bytes_decides n t).0 (of_find (λ n. same_octets n t) n names f).1
  by None f =
      let w = of_any (same_octets t) names has in
      let same : t ≡ w.0 = (bytes_decides t w.0).0 w.2 in
      let no : same_octets w.0 t ≡ false = not_found (λ n. same_octets n t) w.0 names f w.1 in
      let yes : same_octets w.0 t ≡ true = (bytes_decides w.0 t).1 (sym same) in
      absurd (cc (no, yes))

  place : (b : Bool) (i : ℕ) → cond b (Some (position_or_len named names)) None ≡ Some i → position_or_len named names ≡ i
  place true i h = cc
  place false i h = absurd (cc h)

  pub is_found : (i : ℕ) → position (λ n. same_octets n t) names ≡ Some i → agent_name names i ≡ t
  unfolding named
  is_found i e =
      let at : position_or_len named names ≡ i = place (nat_lt (position_or_len named names) (length names)) i e in
      let got : find named names ≡ slice_get names i = find_at named names ∙ ap (slice_get names) at in
      ap (in_option [] (λ n. n)) (sym got) ∙ by (find named names) refl
