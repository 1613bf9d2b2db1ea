-- From one context that has the entry above the pin to the next.
use Rattle.std.proofs.Common.{◌≡◌, ◌<◌, List, length, get_or, subst, sym, ap, ◌∙◌, arith}
use Rattle.x5_model.specs.Words.{first_of}
use Rattle.x5_model_tree.specs.Consistent.{Inconsistency}
use Rattle.x5_model_tree.specs.Masters.{Mastered, mastered}
use Rattle.x5_check.specs.Parts.{unknown_part}
use Rattle.x5_check.specs.Views.{breach_view}
use Rattle.x5_check.proofs.Below.{no_holder, next_holder, holder_there, holder_has}
use Rattle.x5_check.proofs.ByAgent.{unknown_together}
use Rattle.x5_check.proofs.Steps.{pass, stop}
use Rattle.x5_check.proofs.unknown_below.unknown_below_of.Goals as goal

pub loop-place-init : goal.loop-place-init
loop-place-init c = ap (λ (l : List Inconsistency). first_of l) (unknown_together c.args.known.now c.args.below.now)

pub prove-unreachable-requires : goal.prove-unreachable-requires
prove-unreachable-requires c =
    let lt = holder_there c.args.known.now c.args.below.now c.above.result.now c.above.ensures c.loop-place.from c.in-Some.place c.in-Some.ensures in
    let here : c.in-Some.place < length c.held-held.result.now = subst (λ (xs : List Mastered). c.in-Some.place < length xs) (sym c.held-held.ensures) lt in
    omega (arith, here, c.if-prove.true)

pub unknown_below_in-requires : goal.unknown_below_in-requires
unknown_below_in-requires c =
    holder_has c.args.known.now c.args.below.now c.above.result.now c.above.ensures c.loop-place.from c.in-Some.place c.in-Some.ensures c.index-held-place.result (subst (λ (xs : List Mastered). c.index-held-place.result ≡ get_or xs c.in-Some.place c.index-held-place.result) c.held-held.ensures c.index-held-place.is)

pub loop-place-preserved : goal.loop-place-preserved
loop-place-preserved c =
    let lt = holder_there c.args.known.now c.args.below.now c.above.result.now c.above.ensures c.loop-place.from c.in-Some.place c.in-Some.ensures in
    pass breach_view (unknown_part c.args.known.now c.args.below.now) (mastered c.args.known.now) c.in-Some.place _ (sym (ap (λ (l : List Inconsistency). first_of l) (next_holder c.args.known.now c.args.below.now c.above.result.now c.above.ensures c.loop-place.from c.in-Some.place c.in-Some.ensures)) ∙ c.loop-place.invariant) c.in_ok-told.told c.index-held-place.result lt (subst (λ (xs : List Mastered). c.index-held-place.result ≡ get_or xs c.in-Some.place c.index-held-place.result) c.held-held.ensures c.index-held-place.is) c.in_ok-told.ensures (sym c.is_some.ensures ∙ c.if-is_some.false)

pub returns-then-is_some : goal.returns-then-is_some
returns-then-is_some c =
    let lt = holder_there c.args.known.now c.args.below.now c.above.result.now c.above.ensures c.loop-place.from c.in-Some.place c.in-Some.ensures in
    stop breach_view (unknown_part c.args.known.now c.args.below.now) (mastered c.args.known.now) c.in-Some.place _ (sym (ap (λ (l : List Inconsistency). first_of l) (next_holder c.args.known.now c.args.below.now c.above.result.now c.above.ensures c.loop-place.from c.in-Some.place c.in-Some.ensures)) ∙ c.loop-place.invariant) c.in_ok-told.told c.index-held-place.result lt (subst (λ (xs : List Mastered). c.index-held-place.result ≡ get_or xs c.in-Some.place c.index-held-place.result) c.held-held.ensures c.index-held-place.is) c.in_ok-told.ensures (sym c.is_some.ensures ∙ c.if-is_some.true)

pub loop-place-smaller : goal.loop-place-smaller
loop-place-smaller c =
    let lt = holder_there c.args.known.now c.args.below.now c.above.result.now c.above.ensures c.loop-place.from c.in-Some.place c.in-Some.ensures in
    let here : c.in-Some.place < length c.held-held.result.now = subst (λ (xs : List Mastered). c.in-Some.place < length xs) (sym c.held-held.ensures) lt in
    let le = c.in-Some.ensures.1 in
    omega (arith, here, le)

pub returns : goal.returns
returns c =
    sym (ap (λ (l : List Inconsistency). first_of l) (no_holder c.args.known.now c.args.below.now c.above.result.now c.above.ensures c.loop-place.from c.in_default.ensures)) ∙ c.loop-place.invariant
