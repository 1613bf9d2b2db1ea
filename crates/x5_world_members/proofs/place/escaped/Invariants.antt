-- The text so far is the characters taken so far from the member's name, each as it is escaped in a path.
use Rattle.std.proofs.Common.{◌≡◌, string_bytes, flat_map}
use Rattle.x5_model_world.specs.Reading.{escaped_char}
use Rattle.x5_world_members.proofs.place.escaped.Given as goal

abbrev pub invariant-loop-c : goal.invariant-loop-c
invariant-loop-c l = string_bytes l.text ≡ flat_map escaped_char l.yielded
