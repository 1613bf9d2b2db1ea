-- What agents hold at the beginning, and as long as nothing changes it.
use Rattle.std.specs.Prelude.{◌≡◌, ℕ, Bool, true, false, IsTrue, List, []}
use Rattle.std.specs.List.{list_all}
use Rattle.x5_model.specs.Words.{is_empty}
use Rattle.x5_model_tree.specs.World.{World}
use Rattle.x5_model_tree.specs.Described.{IsDescribed}
use Rattle.x5_model_tree.specs.Consistent.{IsConsistent}
use Rattle.x5_model_run.specs.History.{Deed, Nothing, Outs, Loses, Accepts, Refreshes, Splits, Unsplits, Did, Point}
use Rattle.x5_model_run.specs.History.{holdings_at}
use Rattle.x5_model_held.specs.Beginning.{holdings_described}

abbrev pub HeldAsDescribed : Type 0
HeldAsDescribed =
    (w : World) (me : ℕ) → IsDescribed w → IsConsistent w
    → holdings_described w me ≡ holdings_at (record { described = w; past = [] }) me

-- nothing is accepted, refreshed or moved
abbrev pub is_still : Deed → Bool
is_still Nothing = true
is_still (Outs o) = true
is_still (Loses reply k) = true
is_still (Accepts accepted) = is_empty accepted
is_still (Refreshes f) = false
is_still (Splits name a) = false
is_still (Unsplits name) = false

abbrev pub are_still : List Did → Bool
are_still past = list_all (λ d. is_still d.deed) past

abbrev pub HeldWhileStill : Type 0
HeldWhileStill =
    (p : Point) (me : ℕ) → IsTrue (are_still p.past)
    → holdings_at p me ≡ holdings_at (record { described = p.described; past = [] }) me
