-- The first phase and the last have the same octets always.
use Rattle.std.proofs.Common.{sym, subst}
use Rattle.std.specs.declared.result.Result.TheVariants.{Ok}
use Rattle.x5_model_messages.specs.Replies.{progress_node}
use Rattle.x5_model_typed.specs.Named as named
use Rattle.x5_ops.specs.ReferenceViews.{progress_view}
use Rattle.x5_ops.specs.declared.references.Progress.{Progress}
use Rattle.x5_direct_writer.specs.PutsOf.{PutsOf}
use Rattle.x5_dspber.proofs.TraceWritten.{done_put, start_put}
use Rattle.x5_dspber.proofs.write_trace.put_progress.Goals as goal

pub returns-in_ok-put_all-in-NotStarted : goal.returns-in_ok-put_all-in-NotStarted
returns-in_ok-put_all-in-NotStarted c =
    subst (λ (p : Progress). PutsOf {Y = Unit {0}} named.Progress (progress_node (progress_view p)) c.args.out.now c.put_all.new.self (Ok tt))
    (sym c.in-NotStarted.is) (start_put c.args.out.now c.put_all.new.self c.in_ok-put_all-in-NotStarted.ensures)

pub returns-in-Proceeding : goal.returns-in-Proceeding
returns-in-Proceeding c =
    subst (λ (p : Progress). PutsOf named.Progress (progress_node (progress_view p)) c.args.out.now c.put_proceeding.new.out c.put_proceeding.result)
    (sym c.in-Proceeding.is) c.put_proceeding.ensures

pub returns-in_ok-put_all-in-Completed : goal.returns-in_ok-put_all-in-Completed
returns-in_ok-put_all-in-Completed c =
    subst (λ (p : Progress). PutsOf {Y = Unit {0}} named.Progress (progress_node (progress_view p)) c.args.out.now c.put_all-in-Completed.new.self (Ok tt))
    (sym c.in-Completed.is) (done_put c.args.out.now c.put_all-in-Completed.new.self c.in_ok-put_all-in-Completed.ensures)
