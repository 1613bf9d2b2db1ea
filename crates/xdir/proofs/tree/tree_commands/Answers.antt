-- Where knowledge isn't consistent the line that says so was written, or a first part of it.
use Rattle.std.proofs.Common.{◌≡◌, false, map, inl, inr, sym, subst, ◌∙◌, arith}
use Rattle.x5_know.specs.WorldView.{world_view}
use Rattle.x5_load.specs.Views.{file_view}
use Rattle.x5_script.specs.Views.{command_view}
use Rattle.xdir.specs.Tree.{IsNoTree, TellsLines}
use Rattle.xdir.specs.declared.top.Status.{Status}
use Rattle.xdir.proofs.Sound.{is_unsound}
use Rattle.xdir.proofs.tree.tree_commands.Goals as goal
use Rattle.xdir.proofs.tree.tree_commands.Goals.{in-Ok-put_all, in-Err-put_all}

pub returns-then-not-told-clause-writes : goal.returns-then-not-told-clause-writes
returns-then-not-told-clause-writes g c =
    let f = file_view c.args.world.now in
    let asked = map command_view c.args.commands.now in
    let unsure : c.in-Ok.told.is_consistent ≡ false = grind (arith, c.if-not-told.true) in
    let none : IsNoTree f asked c.as_bytes.result.now = record {
      inconsistent = is_unsound (world_view c.args.world.now) c.in-Ok.told.is_consistent unsure c.in-Ok.ensures.consistent;
      is_line = c.as_bytes.ensures.value ∙ c.in-Ok.ensures.line;
    } in
    elim c.match-put_all.branch [
      | in-Ok-put_all w ↦
          subst (λ (s : Status). TellsLines s f asked (g.K.Sink.octets c.args.out.now) (g.K.Sink.octets c.put_all.new.sink)
          (g.K.Sink.fault_count c.args.out.now) (g.K.Sink.fault_count c.put_all.new.sink)) (sym w.result-is)
          (record { text = c.as_bytes.result.now; is = none; whole = w.in-Ok-put_all.ensures.all })
      | in-Err-put_all w ↦
          subst (λ (s : Status). TellsLines s f asked (g.K.Sink.octets c.args.out.now) (g.K.Sink.octets c.put_all.new.sink)
          (g.K.Sink.fault_count c.args.out.now) (g.K.Sink.fault_count c.put_all.new.sink)) (sym w.result-is) (
            w.in-Err-put_all.ensures.failed,
            record { text = c.as_bytes.result.now; is = inr (inl none); part = w.in-Err-put_all.ensures.taken },
          )
    ]
