-- The names that a request within the limits of messages leads agents to have 16 RDNs at most: so has the name that it
-- has itself, and a new RDN takes the place of one.
use Rattle.std.proofs.Common.{◌≡◌, ◌-◌, ◌≤◌, Bool, true, false, if◌then◌else◌, List, [], ◌∷◌, ◌++◌, length}
use Rattle.std.proofs.Common.{Option, None, Some, refl, subst, arith, length-append}
use Rattle.std.proofs.lemmas.List.{length-take-le}
use Rattle.x5_model.specs.Requests.{Body, Attribute, Read, Compare, ListBelow, Search}
use Rattle.x5_model.specs.Requests.{AddEntry, RemoveEntry, ModifyEntry, ModifyDn}
use Rattle.x5_model.specs.Values.{Rdn, Name, name_above}
use Rattle.x5_model_fitting.specs.Requests.{BodyWithin}
use Rattle.x5_model_run.specs.Journal.{same_name}
use Rattle.x5_model_run.specs.Needs.{target_of, new_name}
use Rattle.x5_world.specs.State.{HasShortNames}

no_name : (o : Option Name) → o ≡ None → (name : Name) → o ≡ Some name → length name ≤ 16
no_name o none name some = cc

-- no entry is given a name
target_alone : (b : Body) → new_name b ≡ None → length (target_of b) ≤ 16 → HasShortNames b
target_alone b none le = record { target = le; new_name = no_name (new_name b) none }

above_few : (n : Name) → length (name_above n) ≡ length n - 1
above_few n = length-take-le (length n - 1) n (omega arith)

-- an entry that is added has its whole name
added : (n : Name) (all : List Attribute) → length n ≤ 16 → HasShortNames (AddEntry n all)
added n all le = record {
  target = let t = above_few n in omega (arith, le, t);
  new_name = λ name e. (let s : n ≡ name = cc in subst (λ (x : Name). length x ≤ 16) s le);
}

-- one that is renamed has a new last RDN
renamed_few : (n : Name) (rdn : Rdn) → length n ≤ 16 → length (name_above n ++ rdn ∷ []) ≤ 16
renamed_few n rdn le =
    let e = length-append (name_above n) (rdn ∷ []) in
    let t = above_few n in
    omega (arith, le, e, t)

unless_same : (b : Bool) (n name : Name) → length n ≤ 16 → (if b then None else Some n) ≡ Some name → length name ≤ 16
unless_same true n name le e = cc
unless_same false n name le e = let s : n ≡ name = cc in subst (λ (x : Name). length x ≤ 16) s le

moved : (n : Name) (rdn : Rdn) (drops : Bool) → length n ≤ 16 → HasShortNames (ModifyDn n rdn drops)
moved n rdn drops le = record {
  target = le;
  new_name = λ name e.
      unless_same (same_name (name_above n ++ rdn ∷ []) n) (name_above n ++ rdn ∷ []) name (renamed_few n rdn le) e;
}

pub short_names : (b : Body) → BodyWithin b → HasShortNames b
short_names (Read n selection) h = target_alone (Read n selection) refl h.0.few
short_names (Compare n assertion) h = target_alone (Compare n assertion) refl h.0.few
short_names (ListBelow n) h = target_alone (ListBelow n) refl h.few
short_names (Search n subset filter selection) h = target_alone (Search n subset filter selection) refl h.0.few
short_names (AddEntry n all) h = added n all h.0.few
short_names (RemoveEntry n) h = target_alone (RemoveEntry n) refl h.few
short_names (ModifyEntry n changes) h = target_alone (ModifyEntry n changes) refl h.0.few
short_names (ModifyDn n rdn drops) h = moved n rdn drops h.0.few
