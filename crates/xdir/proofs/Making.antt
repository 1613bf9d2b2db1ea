-- The files that are made of a number hold its texts under their names.
use Rattle.std.proofs.Common.{◌≡◌, ℕ, List, Some, refl, sym, ap}
use Rattle.x5_gen.specs.Script.{script_text}
use Rattle.x5_gen.specs.World.{world_text}
use Rattle.x5_port.specs.Outside.{IsContent}
use Rattle.xdir.specs.Generated.{made_files, script_name, world_name}

pub world_made : (number : ℕ) (octets : List ℕ) → octets ≡ world_text number → IsContent (Some (made_files number)) world_name octets
world_made number octets e = sym (ap (λ (text : List ℕ). Some text) e)

pub script_made : (number : ℕ) → IsContent (Some (made_files number)) script_name (script_text number)
script_made number = refl
