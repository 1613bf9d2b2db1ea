-- Contexts and references by the places of their agents.
use Rattle.std.proofs.Common.{◌↔◌, ℕ, List, map}
use Rattle.x5_model.specs.Members.{In}
use Rattle.x5_model.proofs.Lists.{in_map, in_flat}
use Rattle.x5_model_tree.specs.World.{Specific, Context, Agent, World}
use Rattle.x5_model_tree.specs.Masters.{Mastered, numbered, mastered}
use Rattle.x5_model_theory.specs.Knowledge.{Pointer}
use Rattle.x5_model_theory.specs.Described.{area_of, pointer_of, pointers_of}
use Rattle.x5_model_theory.proofs.Tests.{each_map, each_flat, each_iff, both_ways}

abbrev pub at_agent : ℕ → Context → Mastered
at_agent place c = record { master = place; context = c }

-- and of each reference of each agent
pub each_pointer : (w : World) (refs : Agent → List Specific) (Q : Pointer → Type 0)
    → (((a : ℕ × Agent) → In a (numbered w) → (r : Specific) → In r (refs a.1) → Q (pointer_of a.0 r)) ↔ ((r : Pointer) → In r (pointers_of refs w) → Q r))
each_pointer w refs Q =
    both_ways
    (each_iff (λ (a : ℕ × Agent). (r : Specific) → In r (refs a.1) → Q (pointer_of a.0 r)) (λ a. (p : Pointer) → In p (map (pointer_of a.0) (refs a.1)) → Q p) (numbered w)
    (λ a i. each_map (pointer_of a.0) Q (refs a.1)))
    (each_flat (λ (a : ℕ × Agent). map (pointer_of a.0) (refs a.1)) Q (numbered w))

pub own_area : (w : World) (place : ℕ) (a : Agent) (c : Context) → In (place, a) (numbered w) → In c a.contexts → In (area_of (at_agent place c)) (map area_of (mastered w))
own_area w place a c i j =
    in_map area_of (at_agent place c) (mastered w) (in_flat (λ (a : ℕ × Agent). map (at_agent a.0) a.1.contexts) (at_agent place c) (place, a) (numbered w) i (in_map (at_agent place) c a.contexts j))

pub pointer_in : (w : World) (refs : Agent → List Specific) (o : ℕ) (a : Agent) (r : Specific) → In (o, a) (numbered w) → In r (refs a) → In (pointer_of o r) (pointers_of refs w)
pointer_in w refs o a r i j = in_flat (λ (x : ℕ × Agent). map (pointer_of x.0) (refs x.1)) (pointer_of o r) (o, a) (numbered w) i (in_map (pointer_of o) r (refs a) j)
