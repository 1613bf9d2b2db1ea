-- The output of a run, by induction over its commands: the line on knowledge, then a block for each; where writing
-- fails or memory runs out at a command, what is written is a first part of it.
use Rattle.std.proofs.Common.{◌+◌, ◌∙◌, List, ℕ, length, map, take, drop, refl, sym, subst, inl, arith}
use Rattle.std.proofs.lemmas.List.{take_all}
use Rattle.x5_know.specs.WorldView.{world_view}
use Rattle.x5_load.specs.Views.{file_view}
use Rattle.x5_model_script.specs.Lines.{Asked}
use Rattle.x5_script.specs.Views.{command_view}
use Rattle.x5_script.specs.declared.command.Command.{Command as Line}
use Rattle.xdir.specs.declared.top.Status.TheVariants.{Done}
use Rattle.xdir.specs.Taken.{IsTaken}
use Rattle.xdir.proofs.Mapped.{first_more, around, so_many}
use Rattle.xdir.proofs.SoFar.{IsSoFar, WritesNext, none_asked, no_output, so_far_more, writes_stopped}
use Rattle.xdir.proofs.SoFar.{writes_all, prints_next, taken_at}
use Rattle.xdir.proofs.Sound.{is_sound}
use Rattle.xdir.proofs.run.print_run.Goals as goal

pub returns-in-Err-clause-writes : goal.returns-in-Err-clause-writes
returns-in-Err-clause-writes g c =
    let f = file_view c.args.described.now in (
      c.in-Err.ensures.failed,
      record {
        text = c.as_bytes.result.now;
        is = inl (no_output f (map command_view c.args.commands.now) c.args.network.now c.as_bytes.result.now c.requires.begun.stands (c.as_bytes.ensures.value ∙ c.requires.knowledge));
        part = c.in-Err.ensures.taken;
      },
    )

pub loop-place-init : goal.loop-place-init
loop-place-init g c = record {
  so_far = none_asked (file_view c.args.described.now) c.args.network.now c.as_bytes.result.now (g.K.Sink.octets c.args.out.now) (g.K.Sink.octets c.put_all.new.sink) c.requires.begun.stands (c.as_bytes.ensures.value ∙ c.requires.knowledge) c.in-Ok.ensures.all;
  names = refl;
  room = c.requires.begun.room;
  rising = c.put_all.ensures.rising;
}

pub print_command-requires-clause-taken : goal.print_command-requires-clause-taken
print_command-requires-clause-taken g c =
    let i = c.loop-place.place in
    let x = c.index-commands-place.result in
    subst (λ (names : List (List ℕ)). IsTaken (length names) x) (sym c.loop-place.invariant.names)
    (taken_at (length c.args.network.now.names) c.args.commands.now i x c.loop-place-test.true c.index-commands-place.is c.requires.taken)

pub print_command-requires-clause-sound : goal.print_command-requires-clause-sound
print_command-requires-clause-sound g c =
    let far = c.loop-place.invariant.so_far.is_text in
    is_sound (world_view c.args.described.now) c.args.told.now.is_consistent c.requires.consistent far.past c.loop-place.network far.stands

pub returns-in_default : goal.returns-in_default
returns-in_default g c =
    let xs = c.args.commands.now in
    let i = c.loop-place.place in
    let x = c.index-commands-place.result in
    let is = c.index-commands-place.is in
    let within = c.loop-place-test.true in
    let f = file_view c.args.described.now in
    let net = c.loop-place.network in
    let later = c.print_command.new.network in
    let old = g.K.Sink.octets c.args.out.now in
    let mid = g.K.Sink.octets c.loop-place.out in
    let new = g.K.Sink.octets c.print_command.new.out in
    let before = g.K.Sink.fault_count c.loop-place.out in
    let after = g.K.Sink.fault_count c.print_command.new.out in
    let far = c.loop-place.invariant.so_far in
    record {
      prints = prints_next c.print_command.result f (command_view x) (map command_view (take i xs)) (i + 1) net later old mid new before after far (λ past stands. c.print_command.ensures.block past stands c.requires.consistent);
      writes = writes_stopped f (map command_view xs) (map command_view (take i xs)) (command_view x) (map command_view (drop (i + 1) xs)) (around command_view xs i x within is)
          c.print_command.result net later old mid new (g.K.Sink.fault_count c.args.out.now) before after c.in_default.not-Done c.loop-place.invariant.rising far
          (subst (λ (n : ℕ). WritesNext c.print_command.result f (n + 1) (command_view x) net later mid new before after) (sym (so_many command_view xs i x within is)) (λ past stands. c.print_command.ensures.block past stands c.requires.consistent));
    }

pub loop-place-preserved : goal.loop-place-preserved
loop-place-preserved g c =
    let xs = c.args.commands.now in
    let i = c.loop-place.place in
    let x = c.index-commands-place.result in
    let is = c.index-commands-place.is in
    let within = c.loop-place-test.true in
    let f = file_view c.args.described.now in
    let net = c.loop-place.network in
    let later = c.print_command.new.network in
    let old = g.K.Sink.octets c.args.out.now in
    let mid = g.K.Sink.octets c.loop-place.out in
    let new = g.K.Sink.octets c.print_command.new.out in
    let before = g.K.Sink.fault_count c.loop-place.out in
    let after = g.K.Sink.fault_count c.print_command.new.out in
    let far = c.loop-place.invariant.so_far in
    record {
      so_far = subst (λ (asked : List Asked). IsSoFar f asked later old new) (sym (first_more command_view xs i x within is))
          (so_far_more f (map command_view (take i xs)) (command_view x) net later old mid new before after far
          (subst (λ (n : ℕ). WritesNext Done f (n + 1) (command_view x) net later mid new before after) (sym (so_many command_view xs i x within is)) (λ past stands. c.in-Done.ensures.block past stands c.requires.consistent)));
      names = c.in-Done.ensures.names refl ∙ c.loop-place.invariant.names;
      room = c.in-Done.ensures.room_after refl;
      rising = omega arith;
    }

pub returns-clause-writes : goal.returns-clause-writes
returns-clause-writes g c =
    writes_all (file_view c.args.described.now) (map command_view c.args.commands.now) c.loop-place.network (g.K.Sink.octets c.args.out.now) (g.K.Sink.octets c.loop-place.out)
    (subst (λ (commands : List Line). IsSoFar (file_view c.args.described.now) (map command_view commands) c.loop-place.network (g.K.Sink.octets c.args.out.now) (g.K.Sink.octets c.loop-place.out)) (take_all c.loop-place.place c.args.commands.now (omega arith)) c.loop-place.invariant.so_far)
