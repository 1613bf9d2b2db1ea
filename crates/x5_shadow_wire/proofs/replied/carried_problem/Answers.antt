-- A result or a problem is within the limits, and what is read of it is just that.
use Rattle.std.proofs.Common.{sym, ap, subst, ◌∙◌}
use Rattle.x5_model_shadowed.specs.Within.{ShadowWithin}
use Rattle.x5_ops.specs.RefreshViews.{operation_view}
use Rattle.x5_types.specs.FormView.{world}
use Rattle.x5_shadow_wire.specs.Carried.{problem_of}
use Rattle.x5_shadow_wire.proofs.Telling.{none_some, problem_back, replying_within, some_is}
use Rattle.x5_shadow_wire.proofs.replied.carried_problem.Goals as goal

pub carried_alone-requires : goal.carried_alone-requires
carried_alone-requires c =
    let names = c.args.names.now in
    subst (ShadowWithin (world c.args.start.now names)) (sym (c.reply-message.ensures names))
    (replying_within c.args.start.now names (operation_view c.args.operation) c.args.problem c.requires c.counted.ensures.held
    c.counted.ensures.given)

pub returns : goal.returns
returns c =
    let names = c.args.names.now in
    some_is (sym c.in-Some.is ∙ c.problem_in-told.ensures names
    ∙ ap problem_of (c.in_ok-taken.ensures ∙ c.reply-message.ensures names)
    ∙ problem_back (operation_view c.args.operation) c.args.problem)

pub unreachable-requires : goal.unreachable-requires
unreachable-requires c =
    let names = c.args.names.now in
    none_some (sym c.in-None.is ∙ c.problem_in-told.ensures names
    ∙ ap problem_of (c.in_ok-taken.ensures ∙ c.reply-message.ensures names)
    ∙ problem_back (operation_view c.args.operation) c.args.problem)
