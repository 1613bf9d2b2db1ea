-- Octets that are handed to an agent are answered as the message that they spell, or rejected for their breach, with an
-- empty journal: by cases on what the network tells.
use Rattle.std.proofs.Common.{length, Some, sym, subst}
use Rattle.x5_model_script.specs.Lines.{Delivers}
use Rattle.x5_ops.specs.JournalViews.{protocol_view}
use Rattle.x5_ops.specs.declared.journal.Journal.{Journal}
use Rattle.x5_report.specs.declared.report.LineOutcome.TheVariants.{Rejected}
use Rattle.x5_world.specs.Delivered.{IsDeliveredAt, NamesAgentsIn}
use Rattle.xdir.specs.Blocks.{IsDone}
use Rattle.xdir.proofs.Courses.{handed_course, rejected_course}
use Rattle.xdir.proofs.lines.deliver.Goals as goal

pub returns-in-Answered-clause-course : goal.returns-in-Answered-clause-course
returns-in-Answered-clause-course c = λ p stands.
    let old = c.args.network.now in
    let new = c.deliver.new.self in
    handed_course old new p c.args.dsp c.args.to c.args.octets.now stands c.requires.there c.in-Answered.reply c.in-Answered.messages
    (subst (IsDeliveredAt old new p (protocol_view c.args.dsp) c.args.to c.args.octets.now) c.in-Answered.is (c.in_ok-told.ensures.delivered p stands))
    (subst (NamesAgentsIn old.names) c.in-Answered.is c.in_ok-told.ensures.named)

pub returns-in-Rejected-clause-course : goal.returns-in-Rejected-clause-course
returns-in-Rejected-clause-course c = λ p stands.
    let old = c.args.network.now in
    let new = c.deliver.new.self in
    subst (λ (j : Journal). IsDone p (Delivers c.args.dsp c.args.to c.args.octets.now) new (Some (record {
      journal = j;
      outcome = Rejected c.args.dsp c.in-Rejected.to (length c.args.octets.now) c.in-Rejected.fate c.in-Rejected.breach;
    }))) (λ i. record { lines = sym c.new.ensures i; accepted = sym c.new-in-Rejected.ensures i })
    (rejected_course old new p c.args.dsp c.args.to c.args.octets.now stands c.requires.there c.in-Rejected.to c.in-Rejected.fate c.in-Rejected.breach
    (subst (IsDeliveredAt old new p (protocol_view c.args.dsp) c.args.to c.args.octets.now) c.in-Rejected.is (c.in_ok-told.ensures.delivered p stands))
    (subst (NamesAgentsIn old.names) c.in-Rejected.is c.in_ok-told.ensures.named))
