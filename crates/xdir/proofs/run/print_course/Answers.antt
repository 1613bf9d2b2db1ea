-- The text that is made of what came of a command is the text of its block, and it's written whole, or in part where
-- the sink fails.
use Rattle.std.proofs.Common.{◌+◌, ◌∙◌}
use Rattle.x5_load.specs.Views.{file_view}
use Rattle.xdir.proofs.Courses.{is_text_at}
use Rattle.xdir.proofs.run.print_course.Goals as goal

pub returns-in-Ok-put_all-clause-line : goal.returns-in-Ok-put_all-clause-line
returns-in-Ok-put_all-clause-line g c =
    let f = file_view c.args.described.now in
    record {
      text = c.as_bytes.result.now;
      is = is_text_at f (c.args.before + 1) c.args.course.now c.in-Ok.text c.as_bytes.result.now (c.as_bytes.ensures.value ∙ c.as_str.ensures) (c.in-Ok.ensures.in_world f.world);
      whole = c.in-Ok-put_all.ensures.all;
    }

pub returns-in-Ok-clause-line : goal.returns-in-Ok-clause-line
returns-in-Ok-clause-line g c =
    let f = file_view c.args.described.now in (
      c.in-Err-put_all.ensures.failed,
      record {
        text = c.as_bytes.result.now;
        is = is_text_at f (c.args.before + 1) c.args.course.now c.in-Ok.text c.as_bytes.result.now (c.as_bytes.ensures.value ∙ c.as_str.ensures) (c.in-Ok.ensures.in_world f.world);
        part = c.in-Err-put_all.ensures.taken;
      },
    )
