-- What the code sends by refreshes, as messages of shadowing tell it (X.525, sections 9 to 12). To which context a
-- reference belongs isn't told: it goes with the context.
use Rattle.std.specs.Prelude.{◌≡◌, ℕ, Bool, true, false, List, [], ◌∷◌, map}
use Rattle.std.specs.declared.option.Option.{Option}
use Rattle.std.specs.declared.option.Option.TheVariants.{None, Some}
use Rattle.x5_model.specs.Values.{Text}
use Rattle.x5_model_run.specs.Refresh.{ShadowOperation, RequestShadowUpdate, UpdateShadow, CoordinateShadowUpdate}
use Rattle.x5_model_messages.specs.Shadows as shadows
use Rattle.x5_ops.specs.KnowledgeViews.{specific_view, nssr_view}
use Rattle.x5_ops.specs.declared.knowledge.Content.{Content}
use Rattle.x5_dispber.specs.ShadowViews.{told_known, told_other, told_step}
use Rattle.x5_refresh.specs.declared.brought.Brought.{Brought}
use Rattle.x5_refresh.specs.declared.brought.Brought.TheVariants.{Total, Steps}
use Rattle.x5_shadow_wire.specs.declared.asked.Asked.{Asked}
use Rattle.x5_shadow_wire.specs.declared.replied.Problem.{Problem}
use Rattle.x5_shadow_wire.specs.declared.updates.Update.{Update}

-- ---- what is told

-- in a push the supplier tells the consumer of a refresh, in a pull the consumer asks for it
abbrev pub asking : Bool → Asked → shadows.Shadow
asking true a = shadows.Coordinate a.agreement a.last a.total
asking false a = shadows.Request a.agreement a.last a.total

-- what such a message says; others say nothing of the kind
abbrev pub asked_of : shadows.Shadow → Option Asked
asked_of (shadows.Request agreement last total) =
    Some (record { agreement = agreement; last = last; total = total })
asked_of (shadows.Coordinate agreement last total) =
    Some (record { agreement = agreement; last = last; total = total })
asked_of other = None

-- the codes of the operations (X.519, section 7: DISP)
abbrev pub code_of : ShadowOperation → ℕ
code_of RequestShadowUpdate = 1
code_of UpdateShadow = 2
code_of CoordinateShadowUpdate = 3

-- the result of an operation, or its problem
abbrev pub replying : ShadowOperation → Option Problem → shadows.Shadow
replying operation None = shadows.Done (code_of operation)
replying operation (Some p) = shadows.Failed p.number p.held p.given

abbrev pub problem_of : shadows.Shadow → Option (Option Problem)
problem_of (shadows.Done operation) = Some None
problem_of (shadows.Failed problem held given) =
    Some (Some (record { number = problem; held = held; given = given }))
problem_of other = None

-- the whole content of a context, or the changes since a moment: nothing where nothing changed
abbrev pub bringing : List Text → Brought → shadows.Refresh
bringing names (Total c) =
    shadows.Total c.entries (map (told_known names) c.specific) (map (told_other names) c.nssr)
bringing names (Steps []) = shadows.Nothing
bringing names (Steps (s ∷ more)) = shadows.Steps (map told_step (s ∷ more))

-- ---- what is read is what was sent

-- the same entries, and the same references as definitions have them
pub record AreSame (a b : Content) : Type 0 where
  pub entries : a.entries ≡ b.entries
  pub references : map specific_view a.specific ≡ map specific_view b.specific
  pub nssrs : map nssr_view a.nssr ≡ map nssr_view b.nssr

abbrev pub IsSame : Brought → Brought → Type 0
IsSame (Total a) (Total b) = AreSame a b
IsSame (Steps a) (Steps b) = a ≡ b
IsSame a b = ⊥

-- an update by that agreement, with that stamp, which tells as much
abbrev pub IsUpdate : List Text → ℕ → ℕ → Brought → Option Update → Type 0
IsUpdate names agreement stamp sent (Some u) =
    (u.agreement ≡ agreement) × (u.stamp ≡ stamp) × (bringing names u.brought ≡ bringing names sent)
IsUpdate names agreement stamp sent None = ⊥
