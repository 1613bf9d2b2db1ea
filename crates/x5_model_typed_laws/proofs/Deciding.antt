-- Reading by type comes to a value exactly where there is one, and else to a breach.
use Rattle.std.proofs.Common.{◌≡◌, List, refl, ◌⊎◌, inl, inr}
use Rattle.std.specs.declared.result.Result.{Result}
use Rattle.std.specs.declared.result.Result.TheVariants.{Ok, Err}
use Rattle.x5_model_typed.specs.Trees.{Tree}
use Rattle.x5_model_typed.specs.Nodes.{Node}
use Rattle.x5_model_typed.specs.Forms.{Alternative, Layout}
use Rattle.x5_model_octets.specs.Breaches.{Breach}
use Rattle.x5_model_typed.specs.Judged.{judged}
use Rattle.x5_model_typed.specs.Typed.{IsOf}
use Rattle.x5_model_typed.proofs.Soundness.{judged_is}
use Rattle.x5_model_typed_laws.specs.Complete.{IsJudged, JudgedDecides}
use Rattle.x5_model_typed_laws.proofs.Complete.{judged_so}

pub is_judged : IsJudged
is_judged layout types t n h = judged_so layout types t n h

by : (layout : Layout) (types : List Alternative) (t : Tree) (r : Result Node Breach) → judged layout types t ≡ r
    → ((n : Node) × (judged layout types t ≡ Ok n) × IsOf layout types t n) ⊎ ((b : Breach) × (judged layout types t ≡ Err b) × ((n : Node) → ¬ (IsOf layout types t n)))
by layout types t (Ok n) e = inl (n, e, judged_is layout t types n e)
by layout types t (Err b) e =
    inr (b, e, λ n h. let k : judged layout types t ≡ Ok n = judged_so layout types t n h in cc)

pub judged_decides : JudgedDecides
judged_decides layout types t = by layout types t (judged layout types t) refl
