-- What suppliers know to be taken, after a refresh: the newest one counts where it was acknowledged.
use Rattle.std.proofs.Common.{◌≡◌, ℕ, ◌==◌, ◌&&◌, Bool, true, false, cond, if◌then◌else◌, ◌++◌, map, refl, sym, ap, ◌∙◌, Option, Some}
use Rattle.std.specs.Prelude.{slice_set}
use Rattle.std.specs.List.{find}
use Rattle.x5_model.specs.Words.{when}
use Rattle.x5_model.proofs.Decide.{nat_same_decides, once_decides}
use Rattle.x5_model_tree.specs.World.{Agreement}
use Rattle.x5_model_run.specs.History.{Refreshed, refreshes_of, stamp_of, acked}
use Rattle.x5_model_refreshed.specs.Refreshed.{after_refresh}
use Rattle.x5_model_refreshed.specs.Acknowledging.{StampIsAcked, AckedAtPlace}
use Rattle.x5_model_refreshed.proofs.Finding.{changed_at}

pub stamp_is_acked : StampIsAcked
stamp_is_acked p f sent number = by (f.agreement == number)
  where
    newest : (b : Bool) (o : Option Refreshed) → stamp_of (cond b (Some f) o) ≡ (if b then Some f.stamp else stamp_of o)
    newest true o = refl
    newest false o = refl

    by : (b : Bool) → stamp_of (find (λ (x : Refreshed). x.acknowledged) (when b f ++ refreshes_of p.past number))
        ≡ (if b && f.acknowledged then Some f.stamp else stamp_of (find (λ (x : Refreshed). x.acknowledged) (refreshes_of p.past number)))
    by true = newest f.acknowledged (find (λ (x : Refreshed). x.acknowledged) (refreshes_of p.past number))
    by false = refl

pub acked_at_place : AckedAtPlace
acked_at_place p f sent place g led at e heard =
    changed_at (λ (h : Agreement). acked p h.number) (λ (h : Agreement). acked (after_refresh p f sent) h.number) (λ (h : Agreement). h.number)
    p.described.agreements place g
    ((once_decides ◌==◌ nat_same_decides (map (λ (h : Agreement). h.number) p.described.agreements)).0 led.described.numbers_apart)
    at (λ h i d. stamp_is_acked p f sent h.number ∙ ap (acked_if h.number) (other h d))
    ∙ ap (slice_set (map (λ (h : Agreement). acked p h.number) p.described.agreements) place)
    (stamp_is_acked p f sent g.number ∙ ap (acked_if g.number) (mine heard))
  where
    acked_if : ℕ → Bool → Option ℕ
    acked_if number b = if b then Some f.stamp else acked p number

    no_number : (b c : Bool) → (b ≡ true → ⊥) → (b && c) ≡ false
    no_number true c n = absurd (n refl)
    no_number false c n = refl

    other : (h : Agreement) → (h.number ≡ g.number → ⊥) → ((f.agreement == h.number) && f.acknowledged) ≡ false
    other h d = no_number (f.agreement == h.number) f.acknowledged (λ q. d (sym ((nat_same_decides f.agreement h.number).0 q) ∙ sym e))

    mine : f.acknowledged ≡ true → ((f.agreement == g.number) && f.acknowledged) ≡ true
    mine a = (λ i. ((nat_same_decides f.agreement g.number).1 (sym e) i) && a i)
