-- A reference below an entry is one more, and another is left out.
use Rattle.std.proofs.Common.{◌≡◌, Bool, List, sym, ap, ◌∙◌}
use Rattle.x5_model.specs.Entries.{Named}
use Rattle.x5_model.specs.Keys.{parent}
use Rattle.x5_model.specs.Values.{key_of}
use Rattle.x5_model_tree.specs.World as model
use Rattle.x5_model_tree.specs.Tree.{is_there}
use Rattle.x5_ops.specs.KnowledgeViews.{specific_view}
use Rattle.x5_agents.proofs.Kept.{one_kept, one_left}
use Rattle.x5_agents.proofs.references.references_of.Goals as goal
use Rattle.x5_agents.proofs.references.references_of.Goals.{then-branch+in_ok-in_context+in_ok-push, else-branch}

pub loop-known-preserved : goal.loop-known-preserved
loop-known-preserved c =
    let above = parent (key_of c.known-item.result.pin) in
    let is : is_there c.args.context.now.entries above ≡ c.in_ok-is_below.field-0 =
    ap (λ (es : List Named). is_there es above) (sym c.as_slice.ensures)
    ∙ sym (c.in_ok-keys.ensures above) ∙ sym c.in_ok-is_below.ensures in
    let below : model.Specific → Bool = (λ (k : model.Specific). is_there c.args.context.now.entries (parent (key_of k.pin))) in
    elim c.if-branch.branch [
      | then-branch+in_ok-in_context+in_ok-push w ↦
          one_kept specific_view below c.args.specific.now c.loop-known.below c.if-branch.below c.loop-known.known-index
          c.known-item.result w.in_ok-in_context.field-0 c.loop-known-test.true c.known-item.is
          (is ∙ w.if-branch.true) w.in_ok-in_context.ensures (w.below-is ∙ w.in_ok-push.ensures.ok) c.loop-known.invariant
      | else-branch w ↦
          one_left specific_view below c.args.specific.now c.loop-known.below c.if-branch.below c.loop-known.known-index
          c.known-item.result c.loop-known-test.true c.known-item.is (is ∙ w.if-branch.false) w.below-is
          c.loop-known.invariant
    ]
