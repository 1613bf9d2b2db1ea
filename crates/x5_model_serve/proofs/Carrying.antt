-- Where a name goes on, the agent resolves it, whatever it accepted before: by cases of the definitions.
use Rattle.std.proofs.Common.{◌≡◌, ℕ, Bool, true, false, not, ◌||◌, refl, sym}
use Rattle.x5_model.specs.Values.{key_of}
use Rattle.x5_model.specs.Requests.{Body, Read, Compare, ListBelow, Search, AddEntry, RemoveEntry, ModifyEntry, ModifyDn}
use Rattle.x5_model.specs.References.{Progress, Start, Next, Done, Chained}
use Rattle.x5_model.proofs.Lists.{both_true}
use Rattle.x5_model_tree.specs.Ask.{is_update}
use Rattle.x5_model_run.specs.Journal.{Journal, same_name, is_done}
use Rattle.x5_model_run.specs.Holdings.{Holdings, holds_within}
use Rattle.x5_model_run.specs.Needs.{target_of, resolves}
use Rattle.x5_model_run.specs.Chain.{Scene}
use Rattle.x5_model_run.specs.Placed.{is_query_below}
use Rattle.x5_model_serve.specs.Finding.{Found, Stuck, find}
use Rattle.x5_model_serve.specs.Serving.{Hand, Arrives, holds_now, found_at}

-- where a name isn't completed and the agent isn't stuck, it resolves the name
goes_on : (h : Holdings) (m : Chained) (x : Found) → find h m ≡ x → (x ≡ Stuck → ⊥) → is_done m.progress ≡ false → resolves h m ≡ true
goes_on h m x e free going = by m.progress refl
  where
    at_next : (k : ℕ) → m.progress ≡ Next k → (b : Bool) → holds_within h (key_of m.target) k ≡ b → resolves h m ≡ true
    at_next k q true w = rw (q, w) refl
    at_next k q false w = let f : Stuck ≡ x = rw (q, w) at e in absurd (free (sym f))

    by : (y : Progress) → m.progress ≡ y → resolves h m ≡ true
    by Start q = rw q refl
    by (Next k) q = at_next k q (holds_within h (key_of m.target) k) refl
    by Done q = let f : true ≡ false = rw q at going in cc

-- an update isn't asked with a completed name
early_update : (b : Body) (done : Bool) → is_update b ≡ true → (not done || is_query_below b) ≡ true → done ≡ false
early_update b false e f = refl
early_update (Read name selection) true e f = cc
early_update (Compare name assertion) true e f = cc
early_update (ListBelow name) true e f = cc
early_update (Search base subset g selection) true e f = cc
early_update (AddEntry name attributes) true e f = cc
early_update (RemoveEntry name) true e f = cc
early_update (ModifyEntry name changes) true e f = cc
early_update (ModifyDn name rdn drops) true e f = cc

-- so an update that arrives and finds something is resolved here
pub resolving : (s : Scene) (k : Hand) (j : Journal) (x : Found) → Arrives s k j → is_update k.message.request.body ≡ true → found_at s j k ≡ x → (x ≡ Stuck → ⊥) → resolves (holds_now s j k) k.message ≡ true
resolving s k j x a up e free =
    goes_on (holds_now s j k) k.message x e free
    (early_update k.message.request.body (is_done k.message.progress) up (both_true (same_name (target_of k.message.request.body) k.message.target) _ a.fit).1)
