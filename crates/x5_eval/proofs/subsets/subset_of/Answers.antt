-- A list's subset hangs on how the message came.
use Rattle.std.proofs.Common.{Bool, if◌then◌else◌, Some, sym, ap, ◌∙◌}
use Rattle.x5_model.specs.Requests.{Base, OneLevel}
use Rattle.x5_model_run.specs.Needs.{by_pin, subset_in}
use Rattle.x5_ops.specs.ReferenceViews.{chained_view}
use Rattle.x5_ops.specs.RequestViews.{body_view}
use Rattle.x5_ops.specs.declared.requests.Body.{Body}
use Rattle.x5_eval.proofs.subsets.subset_of.Goals as goal

pub returns-in-List : goal.returns-in-List
returns-in-List c names =
    c.list_subset.ensures ∙ ap (λ (b : Bool). if b then Some Base else Some OneLevel) (c.is_by_pin.ensures names)
    ∙ sym (ap (λ (b : Body). subset_in (by_pin (chained_view names c.args.message.now)) (body_view b)) c.in-List.is)
