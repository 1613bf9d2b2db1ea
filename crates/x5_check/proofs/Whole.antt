-- What the first breach says of the world: there is none exactly where its knowledge is consistent, and it's the first of the first
-- condition that fails.
use Rattle.std.proofs.Common.{◌≡◌, ◌↔◌, Option, Some, None, refl, sym, ◌∙◌}
use Rattle.std.specs.Option.{IsNone, IfSome}
use Rattle.std.specs.Result.{IfOk}
use Rattle.std.specs.declared.result.Result.{Result}
use Rattle.std.specs.declared.result.Result.TheVariants.{Ok, Err}
use Rattle.x5_model_tree.specs.World.{World}
use Rattle.x5_model_tree.specs.Consistent.{IsConsistent, breaches, first_breach}
use Rattle.x5_model_tree.specs.Breaking.{IsFirstBreach}
use Rattle.x5_model_tree.proofs.FirstBreach.{first_is, none_is_consistent, consistent_has_none}
use Rattle.x5_check.specs.declared.inconsistency.Inconsistency.{Inconsistency}
use Rattle.x5_check.specs.Views.{Tells, IsFirst, breach_view}

no_breach_where : (w : World) (told : Option Inconsistency) → IsFirst told (breaches w) → IsNone told ↔ IsConsistent w
no_breach_where w None h = (λ e. none_is_consistent w (sym h), λ c. refl)
no_breach_where w (Some b) h =
    (λ e. cc, λ c. let n : first_breach w ≡ None = consistent_has_none w c in let s : Some (breach_view b) ≡ None = h ∙ n in cc)

first_where : (w : World) (told : Option Inconsistency) → IsFirst told (breaches w) → IfSome told (λ b. IsFirstBreach w (breach_view b))
first_where w None h = tt
first_where w (Some b) h = first_is w (breach_view b) (sym h)

pub consistent_where_none : {E : Type 0} (w : World) (r : Result (Option Inconsistency) E) → Tells r (breaches w) → IfOk r (λ told. IsNone told ↔ IsConsistent w)
consistent_where_none w (Ok told) h = no_breach_where w told h
consistent_where_none w (Err e) h = tt

pub first_where_some : {E : Type 0} (w : World) (r : Result (Option Inconsistency) E) → Tells r (breaches w) → IfOk r (λ told. IfSome told (λ b. IsFirstBreach w (breach_view b)))
first_where_some w (Ok told) h = first_where w told h
first_where_some w (Err e) h = tt
