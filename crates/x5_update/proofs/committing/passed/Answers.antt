-- The master's ground passes it, so it isn't refused.
use Rattle.std.proofs.Common.{◌≡◌, [], List, Err, Ok}
use Rattle.x5_model.specs.Answers.{DirError}
use Rattle.x5_model.specs.Entries.{Named}
use Rattle.x5_model_tree.specs.Apply.{UpdatedEntries}
use Rattle.x5_update.proofs.committing.passed.Goals as goal

never : (o : UpdatedEntries) (x : DirError) (made : List Named) → o ≡ Ok made → o ≡ Err x → ⊥
never o x made p q = cc

pub unreachable-requires : goal.unreachable-requires
unreachable-requires c =
    let stopped = rw c.in-Err-Refused.field-0-is at c.in-Err-Refused.ensures in
    never _ _ c.requires.passed.0 c.requires.passed.1 (stopped [])
