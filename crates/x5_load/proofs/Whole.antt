-- What is read of the value that a file's octets are is what the file describes.
use Rattle.std.proofs.Common.{ℕ, List, Result, Ok, Err}
use Rattle.serde_json.specs.Data.{Data}
use Rattle.x5_know.specs.declared.described.Described.{Described}
use Rattle.x5_load.specs.Views.{file_view, Loads}
use Rattle.x5_model_world.specs.WorldFile.{file_of, IsJson}
use Rattle.x5_world_members.specs.Views.{ReadsPart}
use Rattle.x5_world_members.specs.declared.fault.LoadFault.{LoadFault}
use Rattle.x5_world_members.specs.declared.fault.LoadFault.TheVariants.{NotJson, BadShape, BadName, OverLimit, RepeatedAgent, UnknownAgent, NoMemory}

pub loads_by : (octets : List ℕ) (v : Data) (r : Result Described LoadFault)
    → IsJson octets v → ReadsPart file_view r (file_of v) → Loads r octets
loads_by octets v (Ok d) j h = record { value = v; is_json = j; is_found = h }
loads_by octets v (Err NotJson) j h = absurd h
loads_by octets v (Err (BadShape path)) j h = record { value = v; is_json = j; is_found = h }
loads_by octets v (Err (BadName path)) j h = record { value = v; is_json = j; is_found = h }
loads_by octets v (Err (OverLimit path most)) j h = record { value = v; is_json = j; is_found = h }
loads_by octets v (Err (RepeatedAgent path)) j h = record { value = v; is_json = j; is_found = h }
loads_by octets v (Err (UnknownAgent path)) j h = record { value = v; is_json = j; is_found = h }
loads_by octets v (Err NoMemory) j h = tt
