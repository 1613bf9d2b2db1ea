-- A key is one of those so far, or of an entry that is left, where it is an entry's.
use Rattle.std.proofs.Common.{◌≡◌, ◌||◌, drop}
use Rattle.std.specs.List.{list_any}
use Rattle.x5_model.specs.Keys.{Key, same_key}
use Rattle.x5_model_tree.specs.Tree.{is_there}
use Rattle.x5_agents.proofs.references.keys_of.Given as goal

abbrev pub invariant-loop-named : goal.invariant-loop-named
invariant-loop-named l =
    (key : Key) → (list_any (same_key key) l.keys.keys || is_there (drop l.named-index l.entries) key)
    ≡ is_there l.entries key
