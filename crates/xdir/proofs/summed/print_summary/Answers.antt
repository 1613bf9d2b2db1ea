-- The text of the summary, made from the network before the first line, is the one that the script's lines ask for, and
-- it's written whole, or in part where the sink fails.
use Rattle.std.proofs.Common.{map, inl, sym, subst}
use Rattle.x5_load.specs.Views.{file_view}
use Rattle.xdir.specs.Summed.{IsAskedSummary}
use Rattle.x5_script.specs.Views.{command_view}
use Rattle.xdir.proofs.summed.print_summary.Goals as goal

pub returns-in-Ok-put_all-clause-sums : goal.returns-in-Ok-put_all-clause-sums
returns-in-Ok-put_all-clause-sums g c =
    let f = file_view c.args.described.now in
    record {
      text = c.as_bytes.result.now;
      is = subst (IsAskedSummary f (map command_view c.args.commands.now)) (sym c.as_bytes.ensures.value)
          (c.in-Ok.ensures f c.requires.begun.stands c.requires.knowledge c.requires.consistent);
      whole = c.in-Ok-put_all.ensures.all;
    }

pub returns-in-Ok-clause-sums : goal.returns-in-Ok-clause-sums
returns-in-Ok-clause-sums g c =
    let f = file_view c.args.described.now in (
      c.in-Err-put_all.ensures.failed,
      record {
        text = c.as_bytes.result.now;
        is = inl (subst (IsAskedSummary f (map command_view c.args.commands.now)) (sym c.as_bytes.ensures.value)
            (c.in-Ok.ensures f c.requires.begun.stands c.requires.knowledge c.requires.consistent));
        part = c.in-Err-put_all.ensures.taken;
      },
    )

pub summary_of-requires-clause-begun : goal.summary_of-requires-clause-begun
summary_of-requires-clause-begun g c = (file_view c.args.described.now, (c.requires.begun.stands, c.requires.consistent))
