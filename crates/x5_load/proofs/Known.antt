-- A name has a place among the agents' names exactly where one of them is it; and the fault of a name that none of
-- them is.
use Rattle.std.proofs.Common.{◌≡◌, ℕ, suc, ◌+◌, Bool, true, false, not, cond, ◌||◌, nat_lt, List, [], ◌∷◌, length, refl, ap, ◌∙◌, arith, Some, None, Err}
use Rattle.std.specs.Cmp.Lexicographic.{nat_list_eq_equiv}
use Rattle.std.specs.List.{list_any, position, position_or_len}
use Rattle.std.specs.Option.{is_some}
use Rattle.x5_know.specs.Names.{has_name}
use Rattle.x5_load.specs.Views.{IsMissed}
use Rattle.x5_model.specs.Values.{Text}
use Rattle.x5_model.specs.Words.{same_octets}
use Rattle.x5_model_tree.specs.World.{World}
use Rattle.x5_model_world.specs.Reading as model
use Rattle.x5_world_members.specs.Views.{Fails}
use Rattle.x5_world_members.specs.declared.fault.LoadFault.{LoadFault}
use Rattle.x5_world_members.specs.declared.fault.LoadFault.TheVariants.{NotJson, BadShape, BadName, OverLimit, RepeatedAgent, UnknownAgent, NoMemory}

below_more : (n l : ℕ) → nat_lt n l ≡ true → nat_lt (1 + n) (suc l) ≡ true
below_more n l h = grind arith

not_below_more : (n l : ℕ) → nat_lt n l ≡ false → nat_lt (1 + n) (suc l) ≡ false
not_below_more n l h = grind arith

first_below : (l : ℕ) → nat_lt 0 (suc l) ≡ true
first_below l = grind arith

none_below_more : (l : ℕ) → nat_lt 0 (suc l) ≡ true
none_below_more l = grind arith

within_more : (n l : ℕ) (b rest : Bool) → nat_lt n l ≡ rest → nat_lt (cond (not b) (1 + n) 0) (suc l) ≡ (b || rest)
within_more n l true true e = first_below l
within_more n l true false e = first_below l
within_more n l false true e = below_more n l e
within_more n l false false e = not_below_more n l e

found_within : (p : Text → Bool) (xs : List Text) → nat_lt (position_or_len p xs) (length xs) ≡ list_any p xs
found_within p [] = refl
found_within p (x ∷ xs) = within_more (position_or_len p xs) (length xs) (p x) (list_any p xs) (found_within p xs)

some_if : (b : Bool) (i : ℕ) → is_some (cond b (Some i) None) ≡ b
some_if true i = refl
some_if false i = refl

turned : (names : List Text) (t : Text) → list_any (λ n. same_octets n t) names ≡ has_name names t
turned [] t = refl
turned (n ∷ ns) t =
    ap (λ (b : Bool). b || list_any (λ m. same_octets m t) ns) (nat_list_eq_equiv.symm n t)
    ∙ ap (λ (b : Bool). same_octets t n || b) (turned ns t)

pub known_place : (names : List Text) (t : Text) → is_some (position (λ n. same_octets n t) names) ≡ has_name names t
known_place names t =
    some_if (nat_lt (position_or_len (λ n. same_octets n t) names) (length names))
    (position_or_len (λ n. same_octets n t) names)
    ∙ found_within (λ n. same_octets n t) names
    ∙ turned names t

pub missed : (fault : LoadFault) (path : Text)
    → Fails {X = World} fault (Err (model.UnknownAgent path)) → IsMissed fault (Some path)
missed NotJson path h = absurd h
missed (BadShape p) path h = absurd (cc)
missed (BadName p) path h = absurd (cc)
missed (OverLimit p most) path h = absurd (cc)
missed (RepeatedAgent p) path h = absurd (cc)
missed (UnknownAgent p) path h = cc
missed NoMemory path h = tt
