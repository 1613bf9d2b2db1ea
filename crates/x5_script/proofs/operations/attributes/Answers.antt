-- A word at fault ends it; a pair more leaves the words behind it.
use Rattle.std.proofs.Common.{[], map, sym, ◌∙◌}
use Rattle.std.proofs.lemmas.Result.{err_from_is_err_and}
use Rattle.x5_model_script.specs.Lines as lines
use Rattle.x5_model_script.specs.Texts.{pair_in}
use Rattle.x5_model_script.specs.Words.{BadWord}
use Rattle.x5_model_script.proofs.GatherLaws.{gather_step, gather_fault, one_behind, below}
use Rattle.x5_ops.specs.RequestViews.{attribute_view}
use Rattle.x5_syntax.specs.TypeView.{type_view}
use Rattle.x5_syntax.specs.ValueView.{value_view}
use Rattle.x5_script.specs.Views.{left_view}
use Rattle.x5_script.proofs.FaultLaws.{fault_along}
use Rattle.x5_script.proofs.operations.attributes.Goals as goal

pub returns-in_err-kind : goal.returns-in_err-kind
returns-in_err-kind c =
    let p = err_from_is_err_and c.from_residual.result c.from_residual.ensures.1 in
    rw (p.1, p.2) (fault_along _ (lines.reading pair_in BadWord (left_view c.words.words)) (lines.attributes (left_view c.args.words.now))
    (λ e h. gather_fault pair_in lines.with_pair [] (left_view c.args.words.now) (map attribute_view c.words.attributes.items) (left_view c.words.words) e (sym c.words-test.true ∙ c.has_more.ensures) c.words.invariant.same h)
    c.in_err-kind.ensures)

pub words-smaller : goal.words-smaller
words-smaller c =
    below _ _ (one_behind pair_in (left_view c.words.words) (left_view c.next_pair.new.words) (type_view c.in_ok-kind.kind, value_view c.in_ok-kind.value) c.in_ok-kind.ensures).0

pub words-preserved : goal.words-preserved
words-preserved c = record {
  same = gather_step pair_in lines.with_pair [] (left_view c.args.words.now) (map attribute_view c.words.attributes.items) (map attribute_view c.put_value.new.attributes.items)
      (left_view c.words.words) (left_view c.next_pair.new.words) (type_view c.in_ok-kind.kind, value_view c.in_ok-kind.value) c.in_ok-kind.ensures c.in_ok-put_value.ensures c.words.invariant.same;
  end = (one_behind pair_in (left_view c.words.words) (left_view c.next_pair.new.words) (type_view c.in_ok-kind.kind, value_view c.in_ok-kind.value) c.in_ok-kind.ensures).1 ∙ c.words.invariant.end;
}
