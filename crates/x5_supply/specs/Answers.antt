-- What a call answers: what the definition tells, or its problem. Want of memory may come in place of any answer.
use Rattle.std.specs.Prelude.{◌≡◌, ℕ, ⊤}
use Rattle.std.specs.declared.result.Result.{Result}
use Rattle.std.specs.declared.result.Result.TheVariants.{Ok, Err}
use Rattle.x5_supply.specs.declared.fault.SupplyFault.{SupplyFault}
use Rattle.x5_supply.specs.declared.fault.SupplyFault.TheVariants.{Shadow, NoMemory}

abbrev pub Answers : {A : Type 0} → Result A ℕ → Result A SupplyFault → Type 0
Answers told (Ok answer) = told ≡ Ok answer
Answers told (Err (Shadow problem)) = told ≡ Err problem
Answers told (Err NoMemory) = ⊤
