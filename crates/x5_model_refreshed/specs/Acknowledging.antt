-- What suppliers know of refreshes to be taken (X.525, section 9), and what else the next line finds after one.
use Rattle.std.specs.Prelude.{◌≡◌, ℕ, ◌+◌, ◌==◌, ◌&&◌, true, false, if◌then◌else◌, map, slice_get, slice_set}
use Rattle.std.specs.declared.option.Option.TheVariants.{Some}
use Rattle.x5_model_tree.specs.World.{Agreement}
use Rattle.x5_model_run.specs.History.{Refreshed, Point, acked, knowledge_at, network_at, sent_before, tree_at}
use Rattle.x5_model_refreshed.specs.Refreshed.{after_refresh}
use Rattle.x5_model_refreshed.specs.Replaying.{IsLed}

-- 1. The stamp is the last one that is acknowledged by the agreement, where this refresh was.
abbrev pub StampIsAcked : Type 0
StampIsAcked =
    (p : Point) (f : Refreshed) (sent number : ℕ)
    → acked (after_refresh p f sent) number
    ≡ (if (f.agreement == number) && f.acknowledged then Some f.stamp else acked p number)

-- 2. So among those of all agreements the one at this agreement's place changes, or none does.
abbrev pub AckedAtPlace : Type 0
AckedAtPlace =
    (p : Point) (f : Refreshed) (sent place : ℕ) (g : Agreement) → IsLed p
    → slice_get p.described.agreements place ≡ Some g → g.number ≡ f.agreement → f.acknowledged ≡ true
    → map (λ h. acked (after_refresh p f sent) h.number) p.described.agreements
    ≡ slice_set (map (λ h. acked p h.number) p.described.agreements) place (Some f.stamp)

abbrev pub NoneAcked : Type 0
NoneAcked =
    (p : Point) (f : Refreshed) (sent : ℕ) → f.acknowledged ≡ false
    → map (λ h. acked (after_refresh p f sent) h.number) p.described.agreements
    ≡ map (λ h. acked p h.number) p.described.agreements

-- 3. The network, the tree and knowledge are as they were; so many messages more were sent.
pub record IsElseAsBefore (p : Point) (f : Refreshed) (sent : ℕ) : Type 0 where
  pub knowledge : knowledge_at (after_refresh p f sent) ≡ knowledge_at p
  pub network : network_at (after_refresh p f sent) ≡ network_at p
  pub tree : tree_at (after_refresh p f sent) ≡ tree_at p
  pub messages : sent_before (after_refresh p f sent).past ≡ sent + sent_before p.past

abbrev pub ElseAsBefore : Type 0
ElseAsBefore = (p : Point) (f : Refreshed) (sent : ℕ) → IsElseAsBefore p f sent
