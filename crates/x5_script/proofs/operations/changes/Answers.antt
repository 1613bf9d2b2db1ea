-- A word at fault ends it; a change more leaves the words behind it.
use Rattle.std.proofs.Common.{[], ◌∷◌, map, sym, ◌∙◌, ap}
use Rattle.std.proofs.lemmas.List.{map-append}
use Rattle.std.proofs.lemmas.Result.{err_from_is_err_and}
use Rattle.x5_model_script.specs.Lines as lines
use Rattle.x5_model_script.specs.Texts.{change_in}
use Rattle.x5_model_script.specs.Words.{BadWord}
use Rattle.x5_model_script.proofs.GatherLaws.{gather_step, gather_fault, one_behind, below}
use Rattle.x5_ops.specs.RequestViews.{change_view}
use Rattle.x5_script.specs.Views.{left_view}
use Rattle.x5_script.proofs.FaultLaws.{fault_along}
use Rattle.x5_script.proofs.operations.changes.Goals as goal

pub returns-in_err-change : goal.returns-in_err-change
returns-in_err-change c =
    let p = err_from_is_err_and c.from_residual-in_err-change.result c.from_residual-in_err-change.ensures.1 in
    rw (p.1, p.2) (fault_along _ (lines.reading change_in BadWord (left_view c.words.words)) (lines.changes (change_view c.args.first) (left_view c.args.words.now))
    (λ e h. gather_fault change_in lines.with_change (change_view c.args.first ∷ []) (left_view c.args.words.now) (map change_view c.words.changes) (left_view c.words.words) e (sym c.words-test.true ∙ c.has_more.ensures) c.words.invariant.same h)
    c.in_err-change.ensures)

pub words-smaller : goal.words-smaller
words-smaller c = below _ _ (one_behind change_in (left_view c.words.words) (left_view c.next_change.new.words) (change_view c.in_ok-change.change) c.in_ok-change.ensures).0

pub words-preserved : goal.words-preserved
words-preserved c = record {
  same = gather_step change_in lines.with_change (change_view c.args.first ∷ []) (left_view c.args.words.now) (map change_view c.words.changes) (map change_view c.push-in-words.new.self)
      (left_view c.words.words) (left_view c.next_change.new.words) (change_view c.in_ok-change.change) c.in_ok-change.ensures
      (ap (map change_view) c.in_ok-push-2.ensures.ok ∙ map-append change_view c.words.changes (c.in_ok-change.change ∷ [])) c.words.invariant.same;
  end = (one_behind change_in (left_view c.words.words) (left_view c.next_change.new.words) (change_view c.in_ok-change.change) c.in_ok-change.ensures).1 ∙ c.words.invariant.end;
}
