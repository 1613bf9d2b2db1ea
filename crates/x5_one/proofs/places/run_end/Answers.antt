-- From the start on, those that begin with the key come first.
use Rattle.std.proofs.Common.{◌≡◌, ◌+◌, ◌-◌, ℕ, true, false, List, length, take, drop, rules, of_calls, sym, ap, subst, arith, ◌∙◌}
use Rattle.std.proofs.lemmas.Fn.{always_returns_same}
use Rattle.std.proofs.lemmas.List.{take_rest}
use Rattle.std.specs.List.Sorted.{IsPartitionedBy, IsPartitionPoint}
use Rattle.x5_model.specs.Entries.{Named}
use Rattle.x5_model.specs.Keys.{is_prefix}
use Rattle.x5_model_tree.specs.Tree.{key_at}
use Rattle.x5_one.proofs.Runs.{rest_partitioned, run_is}
use Rattle.x5_one.proofs.places.run_end.Goals as goal

pub returns-clause-run : goal.returns-clause-run
returns-clause-run c =
    let rest : take (length c.args.entries.now - c.args.start) (drop c.args.start c.args.entries.now)
    ≡ drop c.args.start c.args.entries.now = take_rest c.args.entries.now c.args.start in
    let count : c.args.start + c.partition_point.result - c.args.start ≡ c.partition_point.result = omega arith in
    ap (λ (n : ℕ). take n (drop c.args.start c.args.entries.now)) count
    ∙ run_is c.args.entries.now c.args.key.now c.args.start c.requires.order c.requires.begins
    c.partition_point.result
    (subst (λ (ys : List Named). IsPartitionPoint (λ e. is_prefix c.args.key.now (key_at e)
    ≡ true) (λ e. is_prefix c.args.key.now (key_at e) ≡ false) ys c.partition_point.result) rest
    (c.partition_point.ensures.partitioned (λ e. is_prefix c.args.key.now (key_at e))
    (always_returns_same _ _ _ (λ a r f k. search (rules, of_calls)))
    (subst (λ (ys : List Named). IsPartitionedBy (λ e. is_prefix c.args.key.now (key_at e)) ys) (sym rest)
    (rest_partitioned c.args.entries.now c.args.key.now c.args.start c.requires.order c.requires.begins))))
