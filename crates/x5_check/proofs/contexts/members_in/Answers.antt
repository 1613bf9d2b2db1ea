-- The rows of all its NSSRs.
use Rattle.std.proofs.Common.{◌≡◌, ◌≤◌, length, [], List, map, ap, sym, ◌∙◌, subst, ◌++◌, drop}
use Rattle.std.specs.List.{flat_map}
use Rattle.std.specs.Result.{IfOk}
use Rattle.std.proofs.lemmas.List.{drop_all}
use Rattle.x5_ops.specs.KnowledgeViews.{nssr_view, context_view}
use Rattle.x5_ops.specs.declared.knowledge.Nssr.{Nssr}
use Rattle.x5_check.specs.Rows.{KeyRow, Numbers, numbers_of}
use Rattle.x5_check.specs.Numbers.{member_rows}
use Rattle.x5_check.proofs.Steps.{append_nothing}
use Rattle.x5_check.proofs.Tables.{members_by_entry}
use Rattle.x5_check.proofs.contexts.members_in.Goals as goal

pub returns : goal.returns
returns c =
    let none : drop c.loop-nssr.nssr-index c.args.context.now.nssr ≡ [] =
    drop_all c.loop-nssr.nssr-index c.args.context.now.nssr (subst (λ (xs : List Nssr). length xs ≤ c.loop-nssr.nssr-index) c.as_slice-nssr-items.ensures c.loop-nssr-test.false) in
    let all : c.loop-nssr.rows.items ≡ flat_map member_rows (map nssr_view c.args.context.now.nssr) =
    sym (append_nothing c.loop-nssr.rows.items) ∙ (ap (λ (xs : List Nssr). c.loop-nssr.rows.items ++ flat_map member_rows (map nssr_view xs)) (sym none) ∙ c.loop-nssr.invariant) in
    subst (λ (f : Numbers). IfOk c.sorted.result (λ table. numbers_of table ≡ f)) (ap (λ (rows : List KeyRow). numbers_of rows) all ∙ members_by_entry (context_view c.args.context.now)) c.sorted.ensures
