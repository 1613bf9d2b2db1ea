-- Some context has the entry.
use Rattle.std.proofs.Common.{sym, ◌∙◌}
use Rattle.x5_model.specs.Keys.{same_key}
use Rattle.x5_model.specs.Entries.{Named}
use Rattle.x5_model_tree.specs.Tree.{key_at, is_there}
use Rattle.x5_model_tree.specs.Masters.{Mastered, mastered}
use Rattle.x5_check.proofs.Places.{place_of_next, place_any}
use Rattle.x5_check.proofs.Tables.{any_flat}
use Rattle.x5_check.proofs.missing_parent.is_entry.Goals as goal

pub returns : goal.returns
returns c =
    c.is_some.ensures
    ∙ place_any (λ (m : Mastered). is_there m.context.entries c.args.key.now) (mastered c.args.known.now) c.next_with_entry.result (place_of_next (λ (m : Mastered). is_there m.context.entries c.args.key.now) (mastered c.args.known.now) c.next_with_entry.result c.next_with_entry.ensures)
    ∙ sym (any_flat (λ (e : Named). same_key (key_at e) c.args.key.now) (λ (m : Mastered). m.context.entries) (mastered c.args.known.now))
