-- By the table of what agents master, where the pin isn't of one RDN at a first-level agent.
use Rattle.std.proofs.Common.{◌<◌, ◌-◌, ℕ, length, take, sym, ap, ◌∙◌, arith}
use Rattle.x5_model_tree.specs.Masters.{mastered}
use Rattle.x5_check.specs.Numbers.{owners_in}
use Rattle.x5_check.proofs.ByAgent.{root_is_no_child, child_of_entry}
use Rattle.x5_check.proofs.false_reference.is_child_of_own.Goals as goal

pub returns-then-count-eq0 : goal.returns-then-count-eq0
returns-then-count-eq0 c = root_is_no_child c.args.agent.now.1 c.args.pin.now (sym c.len-count.ensures ∙ c.if-count-eq0.true)

pub returns : goal.returns
returns c =
    let some : 0 < length c.args.pin.now = (let e = c.len-count.ensures in let f = c.if-count-eq0.false in omega (arith, e, f)) in
    child_of_entry c.args.known.now c.args.agent.now.0 c.args.agent.now.1 c.args.pin.now c.owns.result some c.requires (sym c.is_at_top.ensures ∙ c.if-is_at_top.false)
    (c.owns.ensures ∙ (λ i. owners_in (mastered c.args.known.now) ((c.in_ok-above.ensures ∙ ap (λ (n : ℕ). take (n - 1) c.args.pin.now) c.len-count.ensures) i) (c.id.ensures i)))
