-- From one context that has the entry to the next.
use Rattle.std.proofs.Common.{◌<◌, List, length, sym, subst, ◌∙◌, arith}
use Rattle.x5_model_tree.specs.Masters.{Mastered, mastered}
use Rattle.x5_model_tree.specs.Tree.{is_there}
use Rattle.x5_check.proofs.Owning.{found, passed, nobody, is_within}
use Rattle.x5_check.proofs.known.Known.owns.Goals as goal

pub prove-unreachable-requires : goal.prove-unreachable-requires
prove-unreachable-requires c =
    let lt = is_within (λ (m : Mastered). is_there m.context.entries c.args.entry.now) (mastered c.args.self.now) c.in-Some.place c.in-Some.ensures.0 in
    let here : c.in-Some.place < length c.held-count.result.now =
    subst (λ (ms : List Mastered). c.in-Some.place < length ms) (sym c.held-count.ensures) lt in
    omega (arith, here, c.if-prove.true)

pub returns-then-is_master : goal.returns-then-is_master
returns-then-is_master c =
    found (mastered c.args.self.now) c.args.entry.now c.args.agent c.in-Some.place c.in-Some.ensures.0
    (sym c.is_master.ensures ∙ c.if-is_master.true)

pub loop-place-smaller : goal.loop-place-smaller
loop-place-smaller c =
    let lt = is_within (λ (m : Mastered). is_there m.context.entries c.args.entry.now) (mastered c.args.self.now) c.in-Some.place c.in-Some.ensures.0 in
    let le = c.in-Some.ensures.1 in
    omega (arith, lt, le)

pub loop-place-preserved : goal.loop-place-preserved
loop-place-preserved c =
    sym (passed (mastered c.args.self.now) c.args.entry.now c.args.agent c.loop-place.from c.in-Some.place c.in-Some.ensures
    (sym c.is_master.ensures ∙ c.if-is_master.false))
    ∙ c.loop-place.invariant

pub returns : goal.returns
returns c =
    sym (nobody (mastered c.args.self.now) c.args.entry.now c.args.agent c.loop-place.from c.in_default.ensures)
    ∙ c.loop-place.invariant
