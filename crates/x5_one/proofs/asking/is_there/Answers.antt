-- The root is there, and a name is exactly where an entry has it.
use Rattle.std.proofs.Common.{◌||◌, Bool, sym, ap, ◌∙◌}
use Rattle.std.specs.Option.{is_some}
use Rattle.x5_model.specs.Keys.{Key}
use Rattle.x5_model.specs.Values.{key_of}
use Rattle.x5_model_tree.specs.Tree.{entry_at, is_there}
use Rattle.x5_one.proofs.Runs.{there_by_entry}
use Rattle.x5_one.proofs.Lowest.{copied_some}
use Rattle.x5_one.proofs.asking.is_there.Goals as goal

pub returns-else-is_root : goal.returns-else-is_root
returns-else-is_root c =
    c.is_some.ensures
    ∙ sym (copied_some c.entry_of.result)
    ∙ ap is_some c.entry_of.ensures
    ∙ ap (λ (k : Key). is_some (entry_at c.args.entries.now k)) c.key.ensures
    ∙ sym (there_by_entry c.args.entries.now (key_of c.args.name.now))
    ∙ ap (λ (b : Bool). b || is_there c.args.entries.now (key_of c.args.name.now)) c.if-is_root.ensures
