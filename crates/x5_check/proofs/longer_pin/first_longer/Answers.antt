-- One length more.
use Rattle.std.proofs.Common.{ℕ, ◌<◌, ◌≤◌, ◌+◌, length, Option, sym, ap, subst, ◌∙◌}
use Rattle.x5_model.specs.Keys.{Key}
use Rattle.x5_model.specs.Values.{key_of}
use Rattle.x5_model_tree.specs.Masters.{mastered}
use Rattle.x5_check.specs.Rows.{IsNext}
use Rattle.x5_check.specs.Numbers.{prefix_places}
use Rattle.x5_check.specs.Parts.{IsPlace, is_longer_within}
use Rattle.x5_check.proofs.Longer.{longer_more}
use Rattle.x5_check.proofs.longer_pin.first_longer.Goals as goal

pub loop-count-preserved : goal.loop-count-preserved
loop-count-preserved c =
    subst (λ (o : Option ℕ). IsPlace (is_longer_within (c.loop-count.count + 1) c.args.context.now c.args.entry.now) (mastered c.args.known.now) o) (sym c.earlier_of-found.ensures)
    (longer_more (mastered c.args.known.now) c.args.context.now c.args.entry.now c.loop-count.count c.key-key.result.now c.loop-count.found c.next_with_prefix.result
    (c.key-key.ensures ∙ (λ i. key_of (c.entry.view_is i).name))
    (subst (λ (n : ℕ). n ≤ c.loop-count.count) (c.len-count.ensures ∙ ap (λ (k : Key). length k) c.pin.ensures) c.loop-count.auto.count)
    (subst (λ (n : ℕ). c.loop-count.count < n) c.len-count-end.ensures c.loop-count-test.true)
    c.loop-count.invariant
    (subst (λ (k : Key). IsNext (prefix_places (mastered c.args.known.now)) k 0 c.next_with_prefix.result) c.in_ok-prefix.ensures c.next_with_prefix.ensures))
