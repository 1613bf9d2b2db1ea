-- The steps of an incremental refresh as the definitions see them (X.525, section 11.3: update shadow).
use Rattle.std.specs.Prelude.{List, map}
use Rattle.x5_model_refreshed.specs.Steps.{Step, Add, Remove, Modify, Rename}
use Rattle.x5_ops.specs.declared.knowledge.Step.{Step as CodeStep}
use Rattle.x5_ops.specs.declared.knowledge.Step.TheVariants as steps

abbrev pub step_view : CodeStep → Step
step_view (steps.Add e) = Add e
step_view (steps.Remove name) = Remove name
step_view (steps.Modify e) = Modify e
step_view (steps.Rename name e) = Rename name e

abbrev pub steps_view : List CodeStep → List Step
steps_view given = map step_view given
