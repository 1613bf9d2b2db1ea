-- What the loader's answer says of the file.
use Rattle.std.specs.Prelude.{◌≡◌, ℕ, List, map, Option, None, Some, Result, Ok, Err}
use Rattle.x5_know.specs.WorldView.{described_agent_view, world_view}
use Rattle.x5_know.specs.declared.described.Described.{Described}
use Rattle.x5_model.specs.Values.{Text}
use Rattle.x5_model_world.specs.Reading as model
use Rattle.x5_model_world.specs.WorldFile.{File, Describes, IsNoJson}
use Rattle.x5_world_members.specs.declared.fault.LoadFault.{LoadFault}
use Rattle.x5_world_members.specs.declared.fault.LoadFault.TheVariants.{NotJson, BadShape, BadName, OverLimit}
use Rattle.x5_world_members.specs.declared.fault.LoadFault.TheVariants.{RepeatedAgent, UnknownAgent, NoMemory}

-- the world that is described, with its start
abbrev pub file_view : Described → File
file_view d = record { start = d.start; world = world_view d }

-- The file describes this world, or is no JSON, or has this breach first; memory may have run out.
abbrev pub Loads : Result Described LoadFault → List ℕ → Type 0
Loads (Ok d) octets = Describes octets (Ok (file_view d))
Loads (Err NotJson) octets = IsNoJson octets
Loads (Err (BadShape path)) octets = Describes octets (Err (model.BadShape path))
Loads (Err (BadName path)) octets = Describes octets (Err (model.BadName path))
Loads (Err (OverLimit path most)) octets = Describes octets (Err (model.OverLimit path most))
Loads (Err (RepeatedAgent path)) octets = Describes octets (Err (model.RepeatedAgent path))
Loads (Err (UnknownAgent path)) octets = Describes octets (Err (model.UnknownAgent path))
Loads (Err NoMemory) octets = Unit {0}

-- the names that are told are those of the world's agents, in their order
abbrev pub IsNamed : Described → Type 0
IsNamed d = d.names ≡ map (λ a. a.name) (map described_agent_view d.agents)

-- ---- for private clauses: the first name in a part of the file that is no agent's

abbrev pub IsMissed : LoadFault → Option Text → Type 0
IsMissed NotJson unknown = ⊥
IsMissed (BadShape path) unknown = ⊥
IsMissed (BadName path) unknown = ⊥
IsMissed (OverLimit path most) unknown = ⊥
IsMissed (RepeatedAgent path) unknown = ⊥
IsMissed (UnknownAgent path) unknown = unknown ≡ Some path
IsMissed NoMemory unknown = Unit {0}

abbrev pub Misses : {X : Type 0} → Result X LoadFault → Option Text → Type 0
Misses (Ok u) unknown = unknown ≡ None
Misses (Err fault) unknown = IsMissed fault unknown
