-- A fault that is that of one reading is that of another which has the first one's fault.
use Rattle.std.proofs.Common.{◌≡◌, Result, Err}
use Rattle.x5_model_script.specs.Words as words
use Rattle.x5_script.specs.Views.{IsFault}
use Rattle.x5_script.specs.declared.command.ScriptFault.{ScriptFault}
use Rattle.x5_script.specs.declared.command.ScriptFault.TheVariants.{BadWord, BadName, BadFilter, BadHex, LineTooLong, NoMemory}

pub fault_along : {X Y : Type 0} (fault : ScriptFault) (r : Result X words.Fault) (s : Result Y words.Fault)
    → ((e : words.Fault) → r ≡ Err e → s ≡ Err e) → IsFault fault r → IsFault fault s
fault_along (BadWord column) r s f h = f (words.BadWord column) h
fault_along (BadName column) r s f h = f (words.BadName column) h
fault_along (BadFilter column) r s f h = f (words.BadFilter column) h
fault_along (BadHex column) r s f h = f (words.BadHex column) h
fault_along LineTooLong r s f h = f words.Long h
fault_along NoMemory r s f h = tt
