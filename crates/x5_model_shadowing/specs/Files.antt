-- The names at which non-specific subordinate references stand (X.501, section 22: knowledge) are UTF-8 in a world that
-- a file describes, since reading takes no others.
use Rattle.std.specs.Prelude.{◌≡◌, Bool, true, Ok}
use Rattle.std.specs.List.{list_all}
use Rattle.serde_json.specs.Data.{Data}
use Rattle.x5_model_tree.specs.World.{Context, Agent, World}
use Rattle.x5_model_world.specs.WorldFile.{File, file_of}
use Rattle.x5_model_limits.specs.Described.{name_is_utf8}

abbrev pub context_nssrs_are_utf8 : Context → Bool
context_nssrs_are_utf8 c = list_all (λ n. name_is_utf8 n.at) c.nssrs

abbrev pub agent_nssrs_are_utf8 : Agent → Bool
agent_nssrs_are_utf8 a = list_all context_nssrs_are_utf8 a.contexts

abbrev pub nssrs_are_utf8 : World → Bool
nssrs_are_utf8 w = list_all agent_nssrs_are_utf8 w.agents

abbrev pub FilesHaveUtf8 : Type 0
FilesHaveUtf8 = (d : Data) (f : File) → file_of d ≡ Ok f → nssrs_are_utf8 f.world ≡ true
