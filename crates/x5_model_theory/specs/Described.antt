-- The knowledge of a described world, by keys, and what every description meets (docs/FORMATS.md, the world file).
use Rattle.std.specs.Prelude.{ℕ, List, map}
use Rattle.std.specs.List.{flat_map}
use Rattle.x5_model.specs.Values.{key_of}
use Rattle.x5_model_tree.specs.World.{Specific, Nssr, Agent, Agreement, World}
use Rattle.x5_model_tree.specs.Tree.{keys_of}
use Rattle.x5_model_tree.specs.Masters.{Mastered, pin_of, numbered, mastered, superior_of}
use Rattle.x5_model_theory.specs.Knowledge.{Spot, Area, Pointer, Supply, Knowledge}

abbrev pub spot_of : Nssr → Spot
spot_of n = record { at = key_of n.at; agents = n.agents }

abbrev pub area_of : Mastered → Area
area_of m = record {
  master = m.master;
  prefix = pin_of m;
  entries = keys_of m.context.entries;
  nssrs = map spot_of m.context.nssrs;
}

abbrev pub pointer_of : ℕ → Specific → Pointer
pointer_of owner r = record { owner = owner; pin = key_of r.pin; master = r.access.master; shadows = r.access.shadows }

abbrev pub supply_of : Agreement → Supply
supply_of g = record { supplier = g.supplier; consumer = g.consumer; prefix = key_of g.context }

abbrev pub pointers_of : (Agent → List Specific) → World → List Pointer
pointers_of refs w = flat_map (λ a. map (pointer_of a.0) (refs a.1)) (numbered w)

abbrev pub knowledge_of : World → Knowledge
knowledge_of w = record {
  agents = map (λ a. a.0) (numbered w);
  superior = superior_of w;
  areas = map area_of (mastered w);
  subordinate = pointers_of (λ a. a.subordinate) w;
  cross = pointers_of (λ a. a.cross) w;
  supplies = map supply_of w.agreements;
}
