-- What the code's messages of shadowing tell: as messages carry them, agents by their names.
use Rattle.std.specs.Prelude.{ℕ, List, [], map, slice_get}
use Rattle.x5_model.specs.Values.{Text}
use Rattle.x5_model.specs.Words.{in_option}
use Rattle.x5_model_messages.specs.Shadows as shadows
use Rattle.x5_ops.specs.declared.knowledge.Specific.{Specific}
use Rattle.x5_ops.specs.declared.knowledge.Nssr.{Nssr}
use Rattle.x5_ops.specs.declared.knowledge.Step.{Step}
use Rattle.x5_ops.specs.declared.knowledge.Step.TheVariants as steps
use Rattle.x5_dispber.specs.declared.shadow.Refresh.{Refresh}
use Rattle.x5_dispber.specs.declared.shadow.Refresh.TheVariants as refresh
use Rattle.x5_dispber.specs.declared.shadow.Shadow.{Shadow}
use Rattle.x5_dispber.specs.declared.shadow.Shadow.TheVariants as shadow

-- the name of an agent by its place; none where there is no such agent
abbrev pub agent_name : List Text → ℕ → Text
agent_name names a = in_option [] (λ n. n) (slice_get names a)

abbrev pub told_known : List Text → Specific → shadows.Known
told_known names k = record {
  pin = k.pin;
  master = agent_name names k.access.master;
  shadows = map (agent_name names) k.access.shadows;
}

abbrev pub told_other : List Text → Nssr → shadows.NonSpecific
told_other names n = record { at = n.at; agents = map (agent_name names) n.agents }

abbrev pub told_step : Step → shadows.Step
told_step (steps.Add e) = shadows.Add e
told_step (steps.Remove n) = shadows.Remove n
told_step (steps.Modify e) = shadows.Modify e
told_step (steps.Rename n e) = shadows.Rename n e

abbrev pub told_refresh : List Text → Refresh → shadows.Refresh
told_refresh names refresh.Nothing = shadows.Nothing
told_refresh names (refresh.Total c) =
    shadows.Total c.entries (map (told_known names) c.specific) (map (told_other names) c.nssr)
told_refresh names (refresh.Steps steps) = shadows.Steps (map told_step steps)

abbrev pub told_shadow : List Text → Shadow → shadows.Shadow
told_shadow names (shadow.Request agreement last total) = shadows.Request agreement last total
told_shadow names (shadow.Coordinate agreement last total) = shadows.Coordinate agreement last total
told_shadow names (shadow.Update agreement stamp refresh) = shadows.Update agreement stamp (told_refresh names refresh)
told_shadow names (shadow.Done operation) = shadows.Done operation
told_shadow names (shadow.Failed problem held given) = shadows.Failed problem held given
