-- One row more is indexed, until none is left.
use Rattle.std.proofs.Common.{◌+◌, List, ◌∷◌, drop, sym, ap, ◌∙◌}
use Rattle.std.proofs.lemmas.List.{at_drop_more, at_drop_all}
use Rattle.x5_check.specs.Rows.{KeyRow, Numbers, numbers_of}
use Rattle.x5_check.specs.Indexed.{either, first_numbers, indexed}
use Rattle.x5_check.proofs.Indexes.{one_more, no_more}
use Rattle.x5_check.proofs.index.Index.of.Goals as goal

pub loop-row-preserved : goal.loop-row-preserved
loop-row-preserved c =
    let so_far : Numbers = indexed c.loop-row.indexing.firsts c.loop-row.indexing.more.items in
    let rest : List KeyRow = drop (c.loop-row.row-index + 1) c.args.rows.now in
    ap (λ (n : Numbers). either n (numbers_of rest)) c.in_ok-add.ensures
    ∙ one_more so_far c.row-item.result rest
    ∙ ap (λ (r : KeyRow). either so_far (numbers_of (r ∷ rest))) c.row-item.is
    ∙ sym (at_drop_more (λ (l : List KeyRow). either so_far (numbers_of l)) c.args.rows.now c.loop-row.row-index
    c.row-item.result c.loop-row-test.true)
    ∙ c.loop-row.invariant

pub returns-in-Ok : goal.returns-in-Ok
returns-in-Ok c =
    let so_far : Numbers = indexed c.loop-row.indexing.firsts c.loop-row.indexing.more.items in
    ap (λ (n : Numbers). either (first_numbers c.loop-row.indexing.firsts) n) c.in-Ok.ensures
    ∙ sym (no_more so_far)
    ∙ sym (at_drop_all (λ (l : List KeyRow). either so_far (numbers_of l)) c.args.rows.now c.loop-row.row-index
    c.loop-row-test.false)
    ∙ c.loop-row.invariant
