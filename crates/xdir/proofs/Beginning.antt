-- What a world file that is read gives: a described world, with few agents, whose texts are UTF-8.
use Rattle.std.proofs.Common.{◌≡◌, ℕ, ◌≤◌, true, nat_le, length, map, Ok, arith, List}
use Rattle.std.proofs.lemmas.Bool.{leb-true}
use Rattle.std.proofs.lemmas.List.{length-map}
use Rattle.x5_know.specs.WorldView.{described_agent_view, world_view}
use Rattle.x5_know.specs.declared.described.Described.{Described}
use Rattle.x5_load.specs.Views.{file_view}
use Rattle.x5_model.proofs.Lists.{both_true}
use Rattle.x5_model_limits.specs.Described.{world_is_utf8}
use Rattle.x5_model_loaded.proofs.Worlds.{file_described}
use Rattle.x5_model_tree.specs.Described.{IsDescribed}
use Rattle.x5_model_tree.specs.World.{World}
use Rattle.x5_model_shadowing.specs.Files.{nssrs_are_utf8}
use Rattle.x5_model_shadowing.proofs.Files.{files_have_utf8}
use Rattle.x5_model_within.proofs.Files.{files_are_utf8}
use Rattle.x5_model_world.specs.WorldFile.{Describes}

few_agents : (w : World) → IsDescribed w → length w.agents ≤ 64
few_agents w d = leb-true (length w.agents) 64 (both_true (nat_le (length w.agents) 64) _ d.limits).0

pub loaded : (d : Described) (octets : List ℕ) → Describes octets (Ok (file_view d)) → IsDescribed (world_view d)
loaded d octets h = file_described h.value (file_view d) h.is_found

pub in_utf8 : (d : Described) (octets : List ℕ) → Describes octets (Ok (file_view d))
    → world_is_utf8 (world_view d) ≡ true
in_utf8 d octets h = files_are_utf8 h.value (file_view d) h.is_found

pub references_in_utf8 : (d : Described) (octets : List ℕ) → Describes octets (Ok (file_view d))
    → nssrs_are_utf8 (world_view d) ≡ true
references_in_utf8 d octets h = files_have_utf8 h.value (file_view d) h.is_found

pub few_loaded : (d : Described) → IsDescribed (world_view d) → length d.agents ≤ 64
few_loaded d h =
    let few = few_agents (world_view d) h in
    let same : length (map described_agent_view d.agents) ≡ length d.agents = length-map d.agents described_agent_view in
    omega (arith, few, same)
