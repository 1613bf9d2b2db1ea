-- What is read as it was asked or replied is just that; and it is within the limits of messages.
use Rattle.std.proofs.Common.{◌≡◌, ℕ, Bool, true, false, List, [], ◌∷◌, map, refl, sym, ap}
use Rattle.std.specs.declared.option.Option.{Option}
use Rattle.std.specs.declared.option.Option.TheVariants.{None, Some}
use Rattle.x5_know.specs.Moments.{Start}
use Rattle.x5_model.specs.Members.{In, here, there}
use Rattle.x5_model_run.specs.Refresh.{ShadowOperation, RequestShadowUpdate, UpdateShadow, CoordinateShadowUpdate}
use Rattle.x5_model_fitting.specs.Replies.{ProblemWithin}
use Rattle.x5_model_fitting.specs.Requests.{CountWithin, IfThere}
use Rattle.x5_model_messages.specs.Shadows as shadows
use Rattle.x5_model_shadowed.specs.Within.{MomentWithin, RefreshWithin, ShadowWithin, operations}
use Rattle.x5_ops.specs.declared.knowledge.Step.{Step}
use Rattle.x5_types.specs.FormView.{world}
use Rattle.x5_dispber.specs.ShadowViews.{told_step}
use Rattle.x5_refresh.specs.declared.brought.Brought.{Brought}
use Rattle.x5_refresh.specs.declared.brought.Brought.TheVariants.{Total, Steps}
use Rattle.x5_shadow_wire.specs.Carried.{asked_of, asking, bringing, code_of, problem_of, replying}
use Rattle.x5_shadow_wire.specs.declared.asked.Asked.{Asked}
use Rattle.x5_shadow_wire.specs.declared.replied.Problem.{Problem}
use Rattle.x5_shadow_wire.proofs.Shadowed.{moment_within}

-- ---- there is no other answer

pub some_is : {A : Type 0} {x y : A} → Some x ≡ Some y → x ≡ y
some_is e = cc

pub none_some : {A : Type 0} {x : A} → None ≡ Some x → ⊥
none_some e = cc

-- ---- what is said

pub asked_back : (push : Bool) (a : Asked) → asked_of (asking push a) ≡ Some a
asked_back true a = refl
asked_back false a = refl

pub problem_back : (o : ShadowOperation) (p : Option Problem) → problem_of (replying o p) ≡ Some p
problem_back o None = refl
problem_back o (Some p) = refl

-- ---- within the limits

module _ (start : Start) (names : List (List ℕ)) where
  moments_within : (m : Option ℕ) → IfThere CountWithin m → IfThere (MomentWithin (world start names)) m
  moments_within None h = tt
  moments_within (Some m) h = moment_within start names m h

  pub asking_within : (push : Bool) (a : Asked) → CountWithin a.agreement → IfThere CountWithin a.last
      → ShadowWithin (world start names) (asking push a)
  asking_within true a n m = (n, moments_within a.last m)
  asking_within false a n m = (n, moments_within a.last m)

  coded : (o : ShadowOperation) → In (code_of o) operations
  coded RequestShadowUpdate = here
  coded UpdateShadow = there here
  coded CoordinateShadowUpdate = there (there here)

  pub replying_within : (o : ShadowOperation) (p : Option Problem) → IfThere (λ x. ProblemWithin 11 x.number) p
      → IfThere (λ x. IfThere CountWithin x.held) p → IfThere (λ x. IfThere CountWithin x.given) p
      → ShadowWithin (world start names) (replying o p)
  replying_within o None n h g = coded o
  replying_within o (Some p) n h g = (n, moments_within p.held h, moments_within p.given g)

  pub updating_within : (agreement stamp : ℕ) (r : shadows.Refresh) → CountWithin agreement → CountWithin stamp
      → RefreshWithin (world start names) r → ShadowWithin (world start names) (shadows.Update agreement stamp r)
  updating_within agreement stamp r n m h = (n, moment_within start names stamp m, h)

-- ---- what an update sends

abbrev pub agreement_in : shadows.Shadow → ℕ
agreement_in (shadows.Update agreement stamp refresh) = agreement
agreement_in other = 0

abbrev pub stamp_in : shadows.Shadow → ℕ
stamp_in (shadows.Update agreement stamp refresh) = stamp
stamp_in other = 0

abbrev pub refresh_in : shadows.Shadow → shadows.Refresh
refresh_in (shadows.Update agreement stamp refresh) = refresh
refresh_in other = shadows.Nothing

abbrev pub is_update : shadows.Shadow → Bool
is_update (shadows.Update agreement stamp refresh) = true
is_update other = false

pub differ : true ≡ false → ⊥
differ e = cc

abbrev has_steps : shadows.Refresh → Bool
has_steps (shadows.Steps []) = false
has_steps other = true

-- no message of changes has none
pub steps_bring : (names : List (List ℕ)) (given : List Step) (sent : Brought)
    → shadows.Steps (map told_step given) ≡ bringing names sent → bringing names (Steps given) ≡ bringing names sent
steps_bring names [] sent e = absurd (none_sent sent e)
  where
    none_sent : (b : Brought) → shadows.Steps [] ≡ bringing names b → ⊥
    none_sent (Total c) q = differ (sym (ap has_steps q))
    none_sent (Steps []) q = differ (sym (ap has_steps q))
    none_sent (Steps (s ∷ more)) q = differ (sym (ap has_steps q))
steps_bring names (s ∷ more) sent e = e
