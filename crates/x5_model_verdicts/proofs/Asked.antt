-- A line by the reference of a probe asks for the new name, and reads it.
use Rattle.std.proofs.Common.{◌≡◌, ◌<◌, ℕ, Bool, true, false, not, inl, inr, List, [], ◌∷◌, length, sym, ap, subst, ◌∙◌, Option, Some}
use Rattle.x5_model.specs.Keys.{Key}
use Rattle.x5_model.specs.Values.{Name, key_of}
use Rattle.x5_model.specs.References.{Progress, Reference, Chained}
use Rattle.x5_model.proofs.KeyLaws.{key_decides}
use Rattle.x5_model.proofs.Lists.{and_true, true_or_false}
use Rattle.x5_model_tree.specs.Ask.{is_update}
use Rattle.x5_model_run.specs.Journal.{Journal, same_name, is_done}
use Rattle.x5_model_run.specs.Needs.{target_of, new_name, due_probes}
use Rattle.x5_model_run.specs.History.{Point}
use Rattle.x5_model_run.specs.Chain.{Scene, IsCarried, probe_request, is_probe, is_user, asks_part}
use Rattle.x5_model_serve.specs.Serving.{Hand, line_for, holds_now}
use Rattle.x5_model_serve.specs.Claims.{Setting, AtMaster}
use Rattle.x5_model_verdicts.proofs.At.{form, fit_key}
use Rattle.x5_model_verdicts.proofs.Refused.{target_filled}
use Rattle.x5_model_verdicts.proofs.NewName.{probe, new_is, new_apart}

module _ (p : Point) (s : Scene) (k : Hand) (i : Journal) (set : Setting p s) (at : AtMaster p s k i) (r : Reference) (due : due_probes (holds_now s i k) k.message ≡ r ∷ []) (sender : Option ℕ) (n : Chained) (agents : List ℕ)
    (carried : IsCarried sender (line_for k) (record r { agents = agents }) n) where
  pub new : (name : Name) × (new_name k.message.request.body ≡ Some name) × (key_of r.target ≡ key_of name) × (length r.target ≡ length name)
  new = new_is p s k i set at r due

  pub same_target : key_of r.target ≡ key_of n.target
  same_target = (key_decides (key_of r.target) (key_of n.target)).0 carried.target_is

  is_one : is_probe k.message.request.body n.target ≡ true
  is_one =
      and_true (is_update k.message.request.body) _ at.update
      (elim (true_or_false (same_name (target_of k.message.request.body) n.target)) [
        | inr f ↦ ap not f
        | inl t ↦ absurd (new_apart k.message.request.body new.0 new.1 (subst (λ (x : Key). 0 < length x) (fit_key k.message at.arrives.fit) (target_filled p s k i set at))
            (sym new.2 ∙ same_target ∙ sym ((key_decides (key_of (target_of k.message.request.body)) (key_of n.target)).0 t)))
      ])

  pub asks : n.request ≡ probe_request n.target
  asks =
      carried.request_is
      ∙ ap (λ (b : Bool). form k.message.request (is_user sender) n.target (record r { agents = agents }) b (asks_part (record r { agents = agents }))) is_one

  pub goes_on : is_done n.progress ≡ false
  goes_on = ap (λ (x : Progress). is_done x) (carried.progress_is ∙ ap (λ (x : Reference). x.progress) (probe p s k i set at r due).is)
