-- A line's block comes behind those of the lines before it; what could be written of it is a first part of the output.
use Rattle.std.proofs.Common.{◌≤◌, ◌+◌, ℕ, List, map, take, drop, sym, subst, ◌∙◌, arith}
use Rattle.x5_load.specs.Views.{file_view}
use Rattle.x5_model_script.specs.Lines.{Asked}
use Rattle.x5_one.specs.One.{tree_in}
use Rattle.x5_script.specs.Views.{command_view}
use Rattle.xdir.specs.Tree.{plain_command}
use Rattle.xdir.proofs.Mapped.{first_more, around, so_many}
use Rattle.xdir.proofs.Trees.{IsPrinted, begun, breaks_begun, one_more, breaks, stops, numbered}
use Rattle.xdir.proofs.tree.print_tree.Goals as goal

pub returns-in-Err-put_all-clause-writes : goal.returns-in-Err-put_all-clause-writes
returns-in-Err-put_all-clause-writes g c =
    let xs = c.args.commands.now in
    let i = c.loop-place.place in
    let x = c.index-commands-place.result in
    let is = c.index-commands-place.is in
    let within = c.loop-place-test.true in
    let first : List Asked = map command_view (take i xs) in
    let block : List ℕ = c.as_bytes-in-Ok-line_block.result.now in
    breaks (file_view c.args.world.now) c.requires.consistent first (command_view x) (tree_in c.loop-place.tree)
    (g.K.Sink.octets c.args.out.now) (g.K.Sink.octets c.loop-place.out) c.loop-place.invariant.printed block
    (numbered first i (so_many command_view xs i x within is) (tree_in c.loop-place.tree) (plain_command (command_view x)) block
    (λ names. c.as_bytes-in-Ok-line_block.ensures.value ∙ c.as_str.ensures ∙ c.in-Ok-line_block.ensures.text names))
    (map command_view xs) (map command_view (drop (i + 1) xs)) (g.K.Sink.octets c.put_all-in-Ok-line_block.new.sink)
    (g.K.Sink.fault_count c.args.out.now) (g.K.Sink.fault_count c.loop-place.out)
    (g.K.Sink.fault_count c.put_all-in-Ok-line_block.new.sink) (around command_view xs i x within is)
    c.loop-place.invariant.rising c.in-Err-put_all.ensures.failed c.in-Err-put_all.ensures.taken

pub returns-in-Err-line_block-clause-writes : goal.returns-in-Err-line_block-clause-writes
returns-in-Err-line_block-clause-writes g c =
    let xs = c.args.commands.now in
    let i = c.loop-place.place in
    let x = c.index-commands-place.result in
    stops (file_view c.args.world.now) c.requires.consistent (map command_view xs) (map command_view (take i xs))
    (command_view x) (map command_view (drop (i + 1) xs)) (tree_in c.loop-place.tree) (g.K.Sink.octets c.args.out.now)
    (g.K.Sink.octets c.loop-place.out) (g.K.Sink.fault_count c.args.out.now) (g.K.Sink.fault_count c.loop-place.out)
    (around command_view xs i x c.loop-place-test.true c.index-commands-place.is) c.loop-place.invariant.printed

pub loop-place-preserved : goal.loop-place-preserved
loop-place-preserved g c =
    let xs = c.args.commands.now in
    let i = c.loop-place.place in
    let x = c.index-commands-place.result in
    let is = c.index-commands-place.is in
    let within = c.loop-place-test.true in
    let first : List Asked = map command_view (take i xs) in
    let block : List ℕ = c.as_bytes-in-Ok-line_block.result.now in
    record {
      printed = subst (λ (asked : List Asked). IsPrinted (file_view c.args.world.now) asked (tree_in c.line_block.new.tree)
          (g.K.Sink.octets c.args.out.now) (g.K.Sink.octets c.put_all-in-Ok-line_block.new.sink))
          (sym (first_more command_view xs i x within is))
          (one_more (file_view c.args.world.now) c.requires.consistent first (command_view x) (tree_in c.loop-place.tree)
          (g.K.Sink.octets c.args.out.now) (g.K.Sink.octets c.loop-place.out) c.loop-place.invariant.printed block
          (numbered first i (so_many command_view xs i x within is) (tree_in c.loop-place.tree) (plain_command (command_view x)) block
          (λ names. c.as_bytes-in-Ok-line_block.ensures.value ∙ c.as_str.ensures ∙ c.in-Ok-line_block.ensures.text names))
          (tree_in c.line_block.new.tree) (g.K.Sink.octets c.put_all-in-Ok-line_block.new.sink)
          c.in-Ok-line_block.ensures.tree c.in-Ok-put_all.ensures.all);
      rising =
          let far : g.K.Sink.fault_count c.args.out.now ≤ g.K.Sink.fault_count c.loop-place.out = c.loop-place.invariant.rising in
          let more : g.K.Sink.fault_count c.loop-place.out ≤ g.K.Sink.fault_count c.put_all-in-Ok-line_block.new.sink =
          c.put_all-in-Ok-line_block.ensures.rising in
          omega arith;
    }

pub returns-in-Err-clause-writes : goal.returns-in-Err-clause-writes
returns-in-Err-clause-writes g c =
    breaks_begun (file_view c.args.world.now) c.requires.consistent (map command_view c.args.commands.now) c.as_bytes.result.now
    (g.K.Sink.octets c.args.out.now) (g.K.Sink.octets c.put_all.new.sink) (g.K.Sink.fault_count c.args.out.now)
    (g.K.Sink.fault_count c.put_all.new.sink) c.as_bytes.ensures.value c.in-Err.ensures.failed c.in-Err.ensures.taken

pub loop-place-init : goal.loop-place-init
loop-place-init g c = record {
  printed = begun (file_view c.args.world.now) c.requires.consistent c.as_bytes.result.now (tree_in c.args.tree)
      (g.K.Sink.octets c.args.out.now) (g.K.Sink.octets c.put_all.new.sink) c.as_bytes.ensures.value c.requires.tree c.in-Ok.ensures.all;
  rising = c.put_all.ensures.rising;
}
