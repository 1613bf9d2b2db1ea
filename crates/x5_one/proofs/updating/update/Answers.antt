-- The static refusals have left what an addEntry asks for, and the tree's soundness the rest.
use Rattle.std.proofs.Common.{map, sym, ap, subst, ◌∙◌}
use Rattle.x5_model.specs.Requests.{Body}
use Rattle.x5_model.specs.Statics.{fault_of}
use Rattle.x5_model_tree.specs.Apply.{update}
use Rattle.x5_ops.specs.RequestViews.{attribute_view, body_view}
use Rattle.x5_one.specs.Making.{ground, IsMade}
use Rattle.x5_one.proofs.Outcomes.{sound_pins}
use Rattle.x5_one.proofs.Passed.{added_apart}
use Rattle.x5_one.proofs.updating.update.Goals as goal

pub add-requires-clause-apart : goal.add-requires-clause-apart
add-requires-clause-apart c = added_apart c.in-Add.object (map attribute_view c.in-Add.attributes)
    (ap fault_of (sym (ap body_view c.in-Add.is)) ∙ c.requires.passed)

pub returns-in-Add : goal.returns-in-Add
returns-in-Add c known s above =
    subst (λ (b : Body). IsMade c.add.result (update (ground c.args.entries.now.items known) b) c.args.entries.now.items
    c.add.new.entries.items) (sym (ap body_view c.in-Add.is))
    (c.add.ensures known (sound_pins c.args.entries.now.items known s))
