-- The totals count the blocks of all commands, by induction over them; each command finds room, agents with the names
-- at first, and a network that is sound where knowledge is consistent.
use Rattle.std.proofs.Common.{◌∙◌, ℕ, List, length, map, take, refl, sym, subst, arith}
use Rattle.std.proofs.lemmas.List.{take_all}
use Rattle.x5_model_script.specs.Lines.{Asked}
use Rattle.x5_report.specs.Counted.{totals_view}
use Rattle.x5_script.specs.Views.{command_view}
use Rattle.x5_script.specs.declared.command.Command.{Command as Line}
use Rattle.xdir.specs.Counted.{IsCounted}
use Rattle.xdir.specs.Taken.{IsTaken, point}
use Rattle.xdir.proofs.Counts.{none_counted, counted_more}
use Rattle.xdir.proofs.Mapped.{first_more}
use Rattle.xdir.proofs.SoFar.{taken_at}
use Rattle.xdir.proofs.Sound.{is_sound}
use Rattle.xdir.proofs.summed.totals_of.Goals as goal

pub loop-command-init : goal.loop-command-init
loop-command-init c = record {
  counted = λ f stands told. none_counted f c.args.network.now (totals_view c.new-totals.result) stands c.new-totals.ensures;
  names = refl;
  room = c.requires.room;
}

pub count_command-requires-clause-taken : goal.count_command-requires-clause-taken
count_command-requires-clause-taken c =
    subst (λ (names : List (List ℕ)). IsTaken (length names) c.command-item.result) (sym c.loop-command.invariant.names)
    (taken_at (length c.args.network.now.names) c.args.commands.now c.loop-command.command-index c.command-item.result c.loop-command-test.true c.command-item.is c.requires.taken)

pub count_command-requires-clause-room : goal.count_command-requires-clause-room
count_command-requires-clause-room c =
    let few = c.requires.few in
    let within = c.loop-command-test.true in
    (c.loop-command.command-index, (c.loop-command.invariant.room, omega (arith, few, within)))

pub count_command-requires-clause-sound : goal.count_command-requires-clause-sound
count_command-requires-clause-sound c =
    let begun = c.requires.begun in
    let far = c.loop-command.invariant.counted begun.0 begun.1.0 begun.1.1 in
    is_sound begun.0.world c.args.is_consistent begun.1.1 far.past c.loop-command.network far.stands

pub loop-command-preserved : goal.loop-command-preserved
loop-command-preserved c =
    let lines = c.args.commands.now in
    let i = c.loop-command.command-index in
    let line = c.command-item.result in
    let within = c.loop-command-test.true in
    let net = c.loop-command.network in
    let later = c.count_command.new.network in
    let old = totals_view c.loop-command.totals in
    let new = totals_view c.count_command.new.totals in
    record {
      counted = λ f stands told.
          let far : IsCounted f (map command_view (take i lines)) net old = c.loop-command.invariant.counted f stands told in
          subst (λ (asked : List Asked). IsCounted f asked later new) (sym (first_more command_view lines i line within c.command-item.is))
          (counted_more f (map command_view (take i lines)) net later old new far (command_view line)
          (λ past s. c.in_ok-count_command.ensures.adds (point f.world past) s told));
      names = c.in_ok-count_command.ensures.names ∙ c.loop-command.invariant.names;
      room = c.in_ok-count_command.ensures.room_after i c.loop-command.invariant.room;
    }

pub returns : goal.returns
returns c = λ f stands told.
    subst (λ (lines : List Line). IsCounted f (map command_view lines) c.loop-command.network (totals_view c.loop-command.totals))
    (take_all c.loop-command.command-index c.args.commands.now c.loop-command-test.false) (c.loop-command.invariant.counted f stands told)
