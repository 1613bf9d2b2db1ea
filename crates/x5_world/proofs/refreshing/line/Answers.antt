-- The line has what the message has, with the names of its two agents, which the operation tells.
use Rattle.std.proofs.Common.{rules, ◌≡◌, length, ap, ◌∙◌}
use Rattle.std.proofs.lemmas.Option.{slice_get_within}
use Rattle.x5_model.proofs.Decide.{less_decides}
use Rattle.x5_model.proofs.Lists.{and_true}
use Rattle.x5_ops.specs.AgentNames.{agent_of}
use Rattle.x5_ops.specs.JournalViews.{fate_view}
use Rattle.x5_ops.specs.RefreshViews.{operation_view}
use Rattle.x5_access.proofs.Names.{own_place}
use Rattle.x5_world.specs.Answered.{is_agent}
use Rattle.x5_world.proofs.Journals.{named_is}
use Rattle.x5_world.proofs.Printing.{parties, printed_so}
use Rattle.x5_world.proofs.refreshing.line.Goals.{in-RequestShadowUpdate, in-UpdateShadow, in-CoordinateShadowUpdate}
use Rattle.x5_world.proofs.refreshing.line.Goals as goal

pub returns-clause-view : goal.returns-clause-view
returns-clause-view c =
    let sides : c.match-operation.from ≡ parties (operation_view c.args.operation) c.args.agreement.now =
    elim c.match-operation.branch [
      | in-RequestShadowUpdate w ↦ search rules
      | in-UpdateShadow w ↦ search rules
      | in-CoordinateShadowUpdate w ↦ search rules
    ] in
    printed_so c.args.names.now c.args.agreement.now (operation_view c.args.operation) (fate_view c.args.fate)
    c.agreement.inside.id c.match-operation.from c.in_ok-clone.field-0 c.in_ok-clone-2.field-0
    (ap (agent_of c.args.names.now) c.in_ok-clone.ensures.cases
    ∙ own_place c.args.names.now c.match-operation.from.0 c.name.result.now c.requires.apart c.name.ensures)
    (ap (agent_of c.args.names.now) c.in_ok-clone-2.ensures.cases
    ∙ own_place c.args.names.now c.match-operation.from.1 c.name-2.result.now c.requires.apart c.name-2.ensures)
    sides (ap (λ g. g.number) c.agreement.view_is)

pub returns-clause-named : goal.returns-clause-named
returns-clause-named c =
    and_true (is_agent c.args.names.now c.in_ok-clone.field-0) (is_agent c.args.names.now c.in_ok-clone-2.field-0)
    (ap (is_agent c.args.names.now) c.in_ok-clone.ensures.cases
    ∙ named_is c.args.names.now _ c.name.result.now c.requires.apart c.name.ensures
    ((less_decides _ (length c.args.names.now)).1 (slice_get_within c.args.names.now _ c.name.result.now c.name.ensures)))
    (ap (is_agent c.args.names.now) c.in_ok-clone-2.ensures.cases
    ∙ named_is c.args.names.now _ c.name-2.result.now c.requires.apart c.name-2.ensures
    ((less_decides _ (length c.args.names.now)).1 (slice_get_within c.args.names.now _ c.name-2.result.now c.name-2.ensures)))
