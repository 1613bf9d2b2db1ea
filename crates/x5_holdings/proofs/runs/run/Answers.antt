-- What is below the name stands before the run, and behind it nothing stands under the name.
use Rattle.std.proofs.Common.{◌≡◌, ◌-◌, true, false, length, take, drop, List, ap, subst, ◌∙◌}
use Rattle.std.proofs.lemmas.List.{take_rest}
use Rattle.std.specs.List.Sorted.{IsPartitionPoint}
use Rattle.x5_model.specs.Values.{key_of}
use Rattle.x5_holdings.specs.Rows.{KeyRow}
use Rattle.x5_holdings.specs.Runs.{stands_under}
use Rattle.x5_holdings.proofs.Under.{drop_ordered, none_under, run_between, take_ordered}
use Rattle.x5_holdings.proofs.runs.run.Goals as goal

pub returns-clause-members : goal.returns-clause-members
returns-clause-members c =
    let start = c.count_below.result in
    let rest : take (length c.args.rows.now - start) (drop start c.args.rows.now) ≡ drop start c.args.rows.now =
    take_rest c.args.rows.now start in
    ap (take c.count_under-count.result) rest
    ∙ run_between (stands_under (key_of c.args.rdns.now)) c.args.rows.now start c.count_under-count.result
    (none_under c.args.rows.now (key_of c.args.rdns.now) start c.count_below.ensures.parts)
    (subst (λ (ys : List KeyRow). IsPartitionPoint (λ (r : KeyRow). stands_under (key_of c.args.rdns.now) r ≡ true)
    (λ (r : KeyRow). stands_under (key_of c.args.rdns.now) r ≡ false) ys c.count_under-count.result) rest
    c.count_under-count.ensures.parts)

pub returns-clause-ordered : goal.returns-clause-ordered
returns-clause-ordered c =
    let start = c.count_below.result in
    take_ordered (take (length c.args.rows.now - start) (drop start c.args.rows.now)) c.count_under-count.result
    (take_ordered (drop start c.args.rows.now) (length c.args.rows.now - start)
    (drop_ordered c.args.rows.now start c.requires))
