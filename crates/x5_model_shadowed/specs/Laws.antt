-- What is within the limits can be written: as a value of the type of messages of shadowing it fits, and it's as it is
-- spelled, so it is read back as what it was.
use Rattle.std.specs.Prelude.{ℕ}
use Rattle.x5_model_typed.specs.Named as named
use Rattle.x5_model_typed.specs.Layouts.{Surroundings, layout}
use Rattle.x5_model_typed_laws.specs.Fits.{Fits}
use Rattle.x5_model_messages.specs.Shadows.{Shadow, shadow_node}
use Rattle.x5_model_messages.specs.ShadowLaws.{IsShadow}
use Rattle.x5_model_fitting.specs.Requests.{CountWithin}
use Rattle.x5_model_shadowed.specs.Within.{ShadowWithin}

abbrev pub ShadowFits : Type 0
ShadowFits = (w : Surroundings) (id : ℕ) (m : Shadow) → CountWithin id → ShadowWithin w m
    → Fits (layout w) (layout w named.DispMessage) (shadow_node id m)

abbrev pub ShadowIsSpelled : Type 0
ShadowIsSpelled = (w : Surroundings) (m : Shadow) → ShadowWithin w m → IsShadow m
