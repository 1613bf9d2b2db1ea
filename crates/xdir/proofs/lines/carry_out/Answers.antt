-- What a line asks for is done as a command of a run, by cases on its kind: an outage, a loss, a request, a refresh or
-- octets that are handed to an agent.
use Rattle.std.proofs.Common.{ℕ, List, length, Some, refl, sym, subst}
use Rattle.x5_model_run.specs.Run.{Changes, Drops, Updates}
use Rattle.x5_model_script.specs.Lines.{Delivers}
use Rattle.x5_ops.specs.JournalViews.{outage_view}
use Rattle.x5_ops.specs.RequestViews.{request_view}
use Rattle.x5_script.specs.Views.{command_view}
use Rattle.x5_script.specs.declared.command.Command.{Command as Line}
use Rattle.x5_script.specs.declared.command.Command.TheVariants.{Ask}
use Rattle.xdir.specs.Blocks.{IsDone}
use Rattle.xdir.specs.Taken.{IsTaken}
use Rattle.xdir.proofs.Courses.{changed_course, lost_course, done_as, done_asking}
use Rattle.xdir.proofs.ShortNames.{short_names}
use Rattle.xdir.proofs.lines.carry_out.Goals as goal

pub returns-in_ok-change-in-Outage-clause-carried : goal.returns-in_ok-change-in-Outage-clause-carried
returns-in_ok-change-in-Outage-clause-carried c = λ p stands told.
    subst (λ (line : Line). IsDone p (command_view line) c.change.new.self (Some c.changed.result)) (sym c.in-Outage.is)
    (done_as p (Changes (outage_view c.in-Outage.outage)) refl c.change.new.self (Some c.changed.result)
    (changed_course p (outage_view c.in-Outage.outage) c.change.new.self c.changed.result c.changed.ensures
    (c.in_ok-change-in-Outage.ensures.stands p stands)))

pub returns-in_ok-lose-in-Lose-clause-carried : goal.returns-in_ok-lose-in-Lose-clause-carried
returns-in_ok-lose-in-Lose-clause-carried c = λ p stands told.
    subst (λ (line : Line). IsDone p (command_view line) c.lose.new.self (Some c.changed-in-Lose.result)) (sym c.in-Lose.is)
    (done_as p (Drops c.in-Lose.reply c.in-Lose.k) refl c.lose.new.self (Some c.changed-in-Lose.result)
    (lost_course p c.in-Lose.reply c.in-Lose.k c.lose.new.self c.changed-in-Lose.result c.changed-in-Lose.ensures
    (c.in_ok-lose-in-Lose.ensures.stands p stands)))

pub returns-in_ok-ask-in-Ask-clause-carried : goal.returns-in_ok-ask-in-Ask-clause-carried
returns-in_ok-ask-in-Ask-clause-carried c = λ p stands told.
    let taken : IsTaken (length c.args.network.now.names) (Ask c.in-Ask.to c.in-Ask.request) =
    subst (IsTaken (length c.args.network.now.names)) c.in-Ask.is c.requires.taken in
    subst (λ (line : Line). IsDone p (command_view line) c.ask.new.network (Some c.in_ok-ask-in-Ask.field-0)) (sym c.in-Ask.is)
    (done_asking p c.in-Ask.to (request_view c.in-Ask.request) c.args.network.now c.ask.new.network (Some c.in_ok-ask-in-Ask.field-0) stands
    taken.0 (short_names (request_view c.in-Ask.request).body taken.1.body) (c.in_ok-ask-in-Ask.ensures.course p stands))

pub returns-in_ok-refresh-in-Refresh-clause-carried : goal.returns-in_ok-refresh-in-Refresh-clause-carried
returns-in_ok-refresh-in-Refresh-clause-carried c = λ p stands told.
    subst (λ (line : Line). IsDone p (command_view line) c.refresh.new.network (Some c.in_ok-refresh-in-Refresh.field-0)) (sym c.in-Refresh.is)
    (done_as p (Updates c.in-Refresh.id c.in-Refresh.push c.in-Refresh.total) refl c.refresh.new.network (Some c.in_ok-refresh-in-Refresh.field-0)
    (c.in_ok-refresh-in-Refresh.ensures.course p stands told))

pub returns-in_ok-deliver-in-Deliver-clause-carried : goal.returns-in_ok-deliver-in-Deliver-clause-carried
returns-in_ok-deliver-in-Deliver-clause-carried c = λ p stands told.
    subst (λ (line : Line). IsDone p (command_view line) c.deliver.new.network (Some c.in_ok-deliver-in-Deliver.field-0)) (sym c.in-Deliver.is)
    (subst (λ (octets : List ℕ). IsDone p (Delivers c.in-Deliver.dsp c.in-Deliver.to octets) c.deliver.new.network (Some c.in_ok-deliver-in-Deliver.field-0))
    c.as_slice.ensures (c.in_ok-deliver-in-Deliver.ensures.course p stands))
