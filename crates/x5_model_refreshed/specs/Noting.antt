-- An accepted update, noted as a step, replays as the update (X.525, section 9: what has changed since a refresh).
use Rattle.std.specs.Prelude.{◌≡◌, ◌≢◌, true}
use Rattle.std.specs.declared.option.Option.TheVariants.{Some}
use Rattle.std.specs.declared.result.Result.TheVariants.{Ok}
use Rattle.x5_model.specs.Members.{In}
use Rattle.x5_model.specs.Keys.{Key}
use Rattle.x5_model.specs.Values.{key_of}
use Rattle.x5_model.specs.Requests.{Request}
use Rattle.x5_model_tree.specs.Tree.{Tree, belongs, part}
use Rattle.x5_model_tree.specs.Ask.{is_update}
use Rattle.x5_model_tree.specs.Apply.{apply}
use Rattle.x5_model_run.specs.Needs.{target_of}
use Rattle.x5_model_theory.specs.Knowledge.{Knowledge}
use Rattle.x5_model_theory.specs.Coherent.{Coherent}
use Rattle.x5_model_updates.specs.Standing.{IsTreeOf}
use Rattle.x5_model_refreshed.specs.Steps.{Step, replayed, step_of}

-- In the context of its target, the step that the master notes makes of the entries what the update makes of them; and
-- the other contexts have what they had.
pub record IsStep (t u : Tree) (r : Request) (pin : Key) : Type 0 where
  pub step : Step
  pub noted : step_of (part t pin) r.body ≡ Some step
  pub makes : part u pin ≡ replayed step (part t pin)
  pub others : (other : Key) → In other t.pins → other ≢ pin → part u other ≡ part t other

abbrev pub StepIsUpdate : Type 0
StepIsUpdate =
    (k : Knowledge) (t u : Tree) (r : Request) (pin : Key) → Coherent k → IsTreeOf k t → is_update r.body ≡ true
    → apply t r ≡ Ok u → belongs t.pins pin (key_of (target_of r.body)) ≡ true → IsStep t u r pin
