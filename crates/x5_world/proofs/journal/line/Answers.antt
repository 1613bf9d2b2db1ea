-- The line has what the message has, with the names of its two agents.
use Rattle.std.proofs.Common.{◌≡◌, true, [], ◌∷◌, sym, ap, ◌∙◌}
use Rattle.std.proofs.lemmas.List.{length-map}
use Rattle.x5_model.specs.Words.{in_option}
use Rattle.x5_model.proofs.Lists.{and_true}
use Rattle.x5_ops.specs.AgentNames.{agent_of}
use Rattle.x5_ops.specs.ReferenceViews.{progress_view, item_view}
use Rattle.x5_ops.specs.JournalViews.{fate_view}
use Rattle.x5_access.proofs.Names.{own_place}
use Rattle.x5_world.specs.Answered.{is_agent}
use Rattle.x5_world.proofs.Journals.{named_is, receiver_there}
use Rattle.x5_world.proofs.journal.line.Goals as goal

pub returns-clause-printed : goal.returns-clause-printed
returns-clause-printed c =
    let receiver : agent_of c.args.names.now c.in_ok-clone.field-0 ≡ c.args.sent.now.to =
    ap (agent_of c.args.names.now) c.in_ok-clone.ensures.cases
    ∙ own_place c.args.names.now c.args.sent.now.to c.name.result.now c.requires.apart c.name.ensures in
    let depth = c.len.ensures ∙ sym (length-map c.args.sent.now.message.trace (item_view c.args.names.now)) in
    λ i. record {
      sender = c.in_ok-sender.ensures.view i;
      receiver = receiver i;
      operation = c.operation.ensures i;
      progress = progress_view c.args.sent.now.message.progress;
      depth = depth i;
      target = c.in_ok-clone-2.ensures.cases i;
      fate = fate_view c.args.sent.now.fate;
    } ∷ []

pub returns-clause-named : goal.returns-clause-named
returns-clause-named c =
    and_true (in_option true (is_agent c.args.names.now) c.in_ok-sender.field-0)
    (is_agent c.args.names.now c.in_ok-clone.field-0) c.in_ok-sender.ensures.named
    (ap (is_agent c.args.names.now) c.in_ok-clone.ensures.cases
    ∙ named_is c.args.names.now c.args.sent.now.to c.name.result.now c.requires.apart c.name.ensures
    (receiver_there c.args.names.now c.args.sent.now c.requires.counted))
