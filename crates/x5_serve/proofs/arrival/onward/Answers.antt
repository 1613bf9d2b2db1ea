-- An agent that may not chain refers to who may have the name.
use Rattle.std.proofs.Common.{◌∙◌}
use Rattle.x5_model_serve.specs.Serving.{refers}
use Rattle.x5_ops.specs.ReferenceViews.{reference_view}
use Rattle.x5_serve.proofs.arrival.onward.Goals as goal

pub returns-then-idle : goal.returns-then-idle
returns-then-idle c = λ s most names j k idle arrives found.
    refers (reference_view names c.args.reference) arrives found (idle ∙ c.if-idle.true)
