-- Behind each that is looked at, what is passed over has none just below.
use Rattle.std.proofs.Common.{◌≡◌, ◌+◌, ◌<◌, ◌++◌, ℕ, List, [], ◌∷◌, cond, length, drop, sym, ap, subst, ◌∙◌}
use Rattle.std.proofs.lemmas.List.{append_assoc}
use Rattle.std.specs.List.{filter}
use Rattle.x5_model.specs.Entries.{Named}
use Rattle.x5_model.specs.Keys.{is_child}
use Rattle.x5_model_tree.specs.Tree.{key_at}
use Rattle.x5_one.specs.Scopes.{found_in}
use Rattle.x5_one.proofs.Scopes.{step_over}
use Rattle.x5_one.proofs.asking.just_below.Goals as goal

pub loop-place-preserved : goal.loop-place-preserved
loop-place-preserved c =
    let child : is_child c.args.key.now (key_at c.index-scope-place.result) ≡ c.is_in_subset-is_child.result =
    sym (c.is_in_subset-is_child.ensures ∙ ap (is_child c.args.key.now) (c.key.ensures ∙ ap key_at c.named.view_is)) in
    let step = step_over c.args.scope.now c.args.key.now c.loop-place.place c.next_place-place.result
    c.index-scope-place.result c.loop-place-test.true c.index-scope-place.is c.next_place-place.ensures.behind
    (λ e i. subst (λ (n : ℕ). n + 1 < length (key_at e)) c.len.ensures (c.next_place-place.ensures.deeper e i))
    c.is_in_subset-is_child.result child in (
      c.next_place-place.ensures.within,
      ap (λ (es : List Named). es ++ filter (λ e. is_child c.args.key.now (key_at e)) (drop c.next_place-place.result
          c.args.scope.now)) c.in_ok-push_if.ensures
          ∙ append_assoc (found_in c.loop-place.found.items) (cond c.is_in_subset-is_child.result
          (c.index-scope-place.result ∷ []) []) (filter (λ e. is_child c.args.key.now (key_at e))
          (drop c.next_place-place.result c.args.scope.now))
          ∙ ap (λ (es : List Named). found_in c.loop-place.found.items ++ es) (sym step)
          ∙ c.loop-place.invariant.1,
    )
