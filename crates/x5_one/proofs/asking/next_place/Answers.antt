-- The run of a longer name has what stands below it, which is longer still.
use Rattle.std.proofs.Common.{◌≡◌, ◌+◌, ◌≤◌, length, drop, refl, sym, ap, subst, ◌∙◌, arith}
use Rattle.std.specs.List.{filter}
use Rattle.x5_model.specs.Keys.{Key, is_prefix}
use Rattle.x5_model_tree.specs.Tree.{key_at, keys_of}
use Rattle.x5_one.specs.Places.{IsStart}
use Rattle.x5_one.proofs.Scopes.{own_start, run_goes_on, run_deeper, none_between}
use Rattle.x5_one.proofs.asking.next_place.Goals as goal

pub run_end-requires-clause-begins : goal.run_end-requires-clause-begins
run_end-requires-clause-begins c =
    subst (λ (k : Key). IsStart (keys_of c.args.scope.now) k c.args.at)
    (sym (c.key-key.ensures ∙ ap key_at (c.named.view_is ∙ c.index-scope-at.is)))
    (own_start c.args.scope.now c.args.at c.index-scope-at.result c.requires.order c.requires.there)

pub returns-then-len-above-clause-deeper : goal.returns-then-len-above-clause-deeper
returns-then-len-above-clause-deeper c e i = absurd (none_between (c.args.at + 1) (c.args.at + 1) (drop (c.args.at + 1)
    c.args.scope.now) e refl i)

pub returns-clause-behind : goal.returns-clause-behind
returns-clause-behind c =
    run_goes_on c.args.scope.now c.requires.order c.args.at c.run_end.result c.index-scope-at.result c.requires.there
    c.index-scope-at.is c.run_end.ensures.behind
    (c.run_end.ensures.run ∙ ap (λ (k : Key). filter (λ e. is_prefix k (key_at e)) c.args.scope.now)
    (c.key-key.ensures ∙ ap key_at c.named.view_is))

pub returns-clause-deeper : goal.returns-clause-deeper
returns-clause-deeper c e i =
    let long : length c.key-key.result.now ≡ length (key_at c.index-scope-at.result) =
    ap length (c.key-key.ensures ∙ ap key_at c.named.view_is) in
    let deep : c.args.above + 1 ≤ length (key_at c.index-scope-at.result) = (let l = c.if-len-above.false in let m =
    c.len.ensures in omega arith) in
    run_deeper c.args.scope.now c.requires.order c.args.at c.run_end.result c.index-scope-at.result c.requires.there
    c.index-scope-at.is c.run_end.ensures.behind
    (c.run_end.ensures.run ∙ ap (λ (k : Key). filter (λ e. is_prefix k (key_at e)) c.args.scope.now)
    (c.key-key.ensures ∙ ap key_at c.named.view_is)) (c.args.above + 1) deep e i
