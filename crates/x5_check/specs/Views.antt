-- What is told of a breach.
use Rattle.std.specs.Prelude.{◌≡◌, List, Result}
use Rattle.std.specs.declared.option.Option.{Option}
use Rattle.std.specs.Option.{option_map}
use Rattle.std.specs.Result.{IfOk}
use Rattle.x5_model.specs.Words.{first_of}
use Rattle.x5_model_tree.specs.Consistent as model
use Rattle.x5_check.specs.declared.inconsistency.Shown.{Shown}
use Rattle.x5_check.specs.declared.inconsistency.Shown.TheVariants.{Agent, Name, Agreement}
use Rattle.x5_check.specs.declared.inconsistency.Inconsistency.{Inconsistency}

abbrev pub shown_view : Shown → model.Printed
shown_view (Agent a) = model.AgentPrinted a
shown_view (Name n) = model.NamePrinted n
shown_view (Agreement g) = model.AgreementPrinted g

abbrev pub breach_view : Inconsistency → model.Inconsistency
breach_view b = record { condition = b.condition; first = shown_view b.first; second = shown_view b.second }

-- the first of the breaches, or none where there is none
abbrev pub IsFirst : Option Inconsistency → List model.Inconsistency → Type 0
IsFirst told breaches = option_map breach_view told ≡ first_of breaches

abbrev pub Tells : {E : Type 0} → Result (Option Inconsistency) E → List model.Inconsistency → Type 0
Tells result breaches = IfOk result (λ told. IsFirst told breaches)
