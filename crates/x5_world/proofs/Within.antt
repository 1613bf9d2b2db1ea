-- What lines accept is within the limits of messages, where what they ask for is: so it is behind one line more.
use Rattle.std.proofs.Common.{ℕ, List, [], ◌∷◌, reverse}
use Rattle.x5_model.specs.Members.{In, here, there}
use Rattle.x5_model.specs.Requests.{Request}
use Rattle.x5_model_run.specs.History.{Acceptance, Deed, Did, Point, Nothing, Outs, Loses, Accepts, Refreshes, Splits, Unsplits}
use Rattle.x5_model_run.specs.Journal.{Journal}
use Rattle.x5_model_run.specs.Run.{accepted_by}
use Rattle.x5_model_settled.proofs.Settled.{accepted_deed}
use Rattle.x5_model_refreshed.specs.Growing.{IsQuiet}
use Rattle.x5_model_fitting.specs.Requests.{RequestWithin}
use Rattle.x5_model_limits.specs.Described.{BoundedDeed, BoundedPast}
use Rattle.x5_model_limits.proofs.Lists.{each_map}
use Rattle.x5_world.specs.State.{IsWithin, after}

-- ---- what a line accepts

pub quiet_bounded : (d : Deed) → IsQuiet d → BoundedDeed d
quiet_bounded Nothing q = tt
quiet_bounded (Outs o) q = tt
quiet_bounded (Loses reply k) q = tt
quiet_bounded (Accepts accepted) q = absurd q
quiet_bounded (Refreshes f) q = absurd q
quiet_bounded (Splits name a) q = absurd q
quiet_bounded (Unsplits name) q = absurd q

-- an update that is within the limits, by whomever it is accepted
deed_bounded : (r : Request) (accepted : List ℕ) → RequestWithin r → BoundedDeed (accepted_deed r accepted)
deed_bounded r [] h = tt
deed_bounded r (a ∷ more) h =
    each_map (λ (x : Acceptance). RequestWithin x.request) (λ x. record { agent = x; request = r }) (a ∷ more)
    (λ x i. h)

pub accepted_bounded : (r : Request) (j : Journal) → RequestWithin r → BoundedDeed (accepted_by r j)
accepted_bounded r j h = deed_bounded r (reverse j.accepted) h

-- ---- the line after

pub one_more_within : (p : Point) (d : Did) → BoundedDeed d.deed → IsWithin p → IsWithin (after d p)
one_more_within p d h w = record {
  texts = w.texts;
  references = w.references;
  accepted = λ x i. more p.past d h w.accepted x i;
}
  where
    more : (past : List Did) (d : Did) → BoundedDeed d.deed → BoundedPast past → BoundedPast (d ∷ past)
    more past d h b x here = h
    more past d h b x (there i) = b x i
