-- The new name of an update is another than its target's, and a probe asks for it: by cases of the update.
use Rattle.std.proofs.Common.{◌≡◌, ◌≤◌, ◌<◌, ◌-◌, Bool, true, false, List, [], ◌∷◌, ◌++◌, length, refl, sym, ap, subst, ◌∙◌, arith, Some, None, length-take, if◌then◌else◌}
use Rattle.x5_model.specs.Members.{In, here}
use Rattle.x5_model.specs.Keys.{Key}
use Rattle.x5_model.specs.Values.{Name, key_of, name_above}
use Rattle.x5_model.specs.Requests.{Body, Read, Compare, ListBelow, Search, AddEntry, RemoveEntry, ModifyEntry, ModifyDn}
use Rattle.x5_model.specs.References.{Reference}
use Rattle.x5_model.proofs.KeyLaws.{key_decides}
use Rattle.x5_model_run.specs.Holdings.{Holdings}
use Rattle.x5_model_run.specs.Needs.{target_of, new_name, due_probes}
use Rattle.x5_model_run.specs.History.{Point, holdings_at}
use Rattle.x5_model_run.specs.Chain.{Scene}
use Rattle.x5_model_theory.proofs.Stages.{key_length}
use Rattle.x5_model_updates.proofs.Judges.{probes_new_name}
use Rattle.x5_model_updates.proofs.Probes.{Probe, probe_is}
use Rattle.x5_model_serve.specs.Serving.{Hand, holds_now}
use Rattle.x5_model_serve.specs.Claims.{Setting, AtMaster}
use Rattle.x5_model_verdicts.proofs.At.{holds_is}
use Rattle.x5_model_run.specs.Journal.{Journal, same_name}

-- ---- a new name isn't the target

above_apart : (name : Name) → key_of name ≡ key_of (name_above name) → 0 < length (key_of name) → ⊥
above_apart name e full =
    let a : length (key_of name) ≡ length name = key_length name in
    let b : length (key_of (name_above name)) ≡ length (name_above name) = key_length (name_above name) in
    let c : length (name_above name) ≤ length name - 1 = omega (arith, length-take (length name - 1) name) in
    let d : length (key_of name) ≡ length (key_of (name_above name)) = ap length e in
    omega arith

pub name_inside : (a b : Name) → Some a ≡ Some b → a ≡ b
name_inside a b e = cc

pub new_apart : (body : Body) (name : Name) → new_name body ≡ Some name → 0 < length (key_of (target_of body)) → key_of name ≡ key_of (target_of body) → ⊥
new_apart (Read n selection) name q full e = cc
new_apart (Compare n assertion) name q full e = cc
new_apart (ListBelow n) name q full e = cc
new_apart (Search base subset f selection) name q full e = cc
new_apart (RemoveEntry n) name q full e = cc
new_apart (ModifyEntry n changes) name q full e = cc
new_apart (AddEntry n list) name q full e =
    let same : n ≡ name = name_inside n name q in
    let f : key_of n ≡ key_of (name_above n) = ap key_of same ∙ e in
    above_apart n f (subst (λ (x : Key). 0 < length x) (sym f) full)
new_apart (ModifyDn n rdn drops) name q full e = by (same_name (name_above n ++ rdn ∷ []) n) refl q
  where
    by : (b : Bool) → same_name (name_above n ++ rdn ∷ []) n ≡ b → (if b then None else Some (name_above n ++ rdn ∷ [])) ≡ Some name → ⊥
    by true s h = cc
    by false s h =
        let same : name_above n ++ rdn ∷ [] ≡ name = name_inside (name_above n ++ rdn ∷ []) name h in
        let t : same_name (name_above n ++ rdn ∷ []) n ≡ true = (key_decides (key_of (name_above n ++ rdn ∷ [])) (key_of n)).1 (ap key_of same ∙ e) in
        cc

-- ---- what a probe asks for

module _ (p : Point) (s : Scene) (k : Hand) (i : Journal) (set : Setting p s) (at : AtMaster p s k i) (r : Reference) (due : due_probes (holds_now s i k) k.message ≡ r ∷ []) where
  pub due_in : In r (due_probes (holdings_at p k.receiver) k.message)
  due_in = subst (λ (rs : List Reference). In r rs) (sym (ap (λ (y : Holdings). due_probes y k.message) (sym (holds_is p s k i set at)) ∙ due)) here

  pub probe : Probe (holdings_at p k.receiver) k.message r
  probe = probe_is (holdings_at p k.receiver) k.message r due_in

  pub new_is : (name : Name) × (new_name k.message.request.body ≡ Some name) × (key_of r.target ≡ key_of name) × (length r.target ≡ length name)
  new_is = probes_new_name p k.receiver k.message r due_in
