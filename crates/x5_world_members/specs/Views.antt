-- What a reader's answer says of the part of the file that it reads.
use Rattle.std.specs.Prelude.{◌≡◌, Result, Ok, Err}
use Rattle.x5_model_world.specs.Reading as model
use Rattle.x5_model_world.specs.Reading.{Read, Breach}
use Rattle.x5_world_members.specs.declared.fault.LoadFault.{LoadFault}
use Rattle.x5_world_members.specs.declared.fault.LoadFault.TheVariants.{NotJson, BadShape, BadName, OverLimit}
use Rattle.x5_world_members.specs.declared.fault.LoadFault.TheVariants.{RepeatedAgent, UnknownAgent, NoMemory}

-- a part has this fault; memory may have run out
abbrev pub Fails : {X : Type 0} → LoadFault → Read X → Type 0
Fails NotJson found = ⊥
Fails (BadShape path) found = found ≡ Err (model.BadShape path)
Fails (BadName path) found = found ≡ Err (model.BadName path)
Fails (OverLimit path most) found = found ≡ Err (model.OverLimit path most)
Fails (RepeatedAgent path) found = found ≡ Err (model.RepeatedAgent path)
Fails (UnknownAgent path) found = found ≡ Err (model.UnknownAgent path)
Fails NoMemory found = Unit {0}

-- what a function returned, seen by `view`, is what is read of the part
abbrev pub ReadsPart : {X Y : Type 0} → (X → Y) → Result X LoadFault → Read Y → Type 0
ReadsPart view (Ok x) found = found ≡ Ok (view x)
ReadsPart view (Err fault) found = Fails fault found
