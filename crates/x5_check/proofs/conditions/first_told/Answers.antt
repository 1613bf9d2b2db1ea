-- Nothing is told of the conditions before.
use Rattle.std.proofs.Common.{◌≡◌, Option, sym, subst, ◌∙◌, ◌++◌, []}
use Rattle.std.specs.Option.{option_map}
use Rattle.std.specs.Result.{IfOk}
use Rattle.x5_model_tree.specs.Consistent as model
use Rattle.x5_check.specs.Views.{breach_view}
use Rattle.x5_check.proofs.Steps.{first_later, nothing_told, something_told}
use Rattle.x5_check.proofs.conditions.first_told.Goals as goal

pub returns-then-is_some : goal.returns-then-is_some
returns-then-is_some c =
    sym (something_told breach_view c.in_ok-repeated.repeated (model.breaches_1 c.args.known.now) ((model.breaches_2 c.args.known.now) ++ ((model.breaches_3 c.args.known.now) ++ ((model.breaches_4 c.args.known.now) ++ ((model.breaches_5 c.args.known.now) ++ ((model.breaches_6 c.args.known.now) ++ ((model.breaches_7 c.args.known.now) ++ ((model.breaches_8 c.args.known.now) ++ ((model.breaches_9 c.args.known.now) ++ ((model.breaches_10 c.args.known.now) ++ []))))))))) c.in_ok-repeated.ensures (sym c.is_some.ensures ∙ c.if-is_some.true))

pub returns-then-is_some-2 : goal.returns-then-is_some-2
returns-then-is_some-2 c =
    sym (first_later (model.breaches_1 c.args.known.now) ((model.breaches_2 c.args.known.now) ++ ((model.breaches_3 c.args.known.now) ++ ((model.breaches_4 c.args.known.now) ++ ((model.breaches_5 c.args.known.now) ++ ((model.breaches_6 c.args.known.now) ++ ((model.breaches_7 c.args.known.now) ++ ((model.breaches_8 c.args.known.now) ++ ((model.breaches_9 c.args.known.now) ++ ((model.breaches_10 c.args.known.now) ++ []))))))))) (nothing_told breach_view c.in_ok-repeated.repeated (model.breaches_1 c.args.known.now) c.in_ok-repeated.ensures (sym c.is_some.ensures ∙ c.if-is_some.false))
    ∙ something_told breach_view c.in_ok-orphan.orphan (model.breaches_2 c.args.known.now) ((model.breaches_3 c.args.known.now) ++ ((model.breaches_4 c.args.known.now) ++ ((model.breaches_5 c.args.known.now) ++ ((model.breaches_6 c.args.known.now) ++ ((model.breaches_7 c.args.known.now) ++ ((model.breaches_8 c.args.known.now) ++ ((model.breaches_9 c.args.known.now) ++ ((model.breaches_10 c.args.known.now) ++ [])))))))) c.in_ok-orphan.ensures (sym c.is_some-2.ensures ∙ c.if-is_some-2.true))

pub returns-then-is_some-3 : goal.returns-then-is_some-3
returns-then-is_some-3 c =
    sym (first_later (model.breaches_1 c.args.known.now) ((model.breaches_2 c.args.known.now) ++ ((model.breaches_3 c.args.known.now) ++ ((model.breaches_4 c.args.known.now) ++ ((model.breaches_5 c.args.known.now) ++ ((model.breaches_6 c.args.known.now) ++ ((model.breaches_7 c.args.known.now) ++ ((model.breaches_8 c.args.known.now) ++ ((model.breaches_9 c.args.known.now) ++ ((model.breaches_10 c.args.known.now) ++ []))))))))) (nothing_told breach_view c.in_ok-repeated.repeated (model.breaches_1 c.args.known.now) c.in_ok-repeated.ensures (sym c.is_some.ensures ∙ c.if-is_some.false))
    ∙ first_later (model.breaches_2 c.args.known.now) ((model.breaches_3 c.args.known.now) ++ ((model.breaches_4 c.args.known.now) ++ ((model.breaches_5 c.args.known.now) ++ ((model.breaches_6 c.args.known.now) ++ ((model.breaches_7 c.args.known.now) ++ ((model.breaches_8 c.args.known.now) ++ ((model.breaches_9 c.args.known.now) ++ ((model.breaches_10 c.args.known.now) ++ [])))))))) (nothing_told breach_view c.in_ok-orphan.orphan (model.breaches_2 c.args.known.now) c.in_ok-orphan.ensures (sym c.is_some-2.ensures ∙ c.if-is_some-2.false))
    ∙ something_told breach_view c.in_ok-longer.longer (model.breaches_3 c.args.known.now) ((model.breaches_4 c.args.known.now) ++ ((model.breaches_5 c.args.known.now) ++ ((model.breaches_6 c.args.known.now) ++ ((model.breaches_7 c.args.known.now) ++ ((model.breaches_8 c.args.known.now) ++ ((model.breaches_9 c.args.known.now) ++ ((model.breaches_10 c.args.known.now) ++ []))))))) c.in_ok-longer.ensures (sym c.is_some-3.ensures ∙ c.if-is_some-3.true))

pub returns-then-is_some-4 : goal.returns-then-is_some-4
returns-then-is_some-4 c =
    sym (first_later (model.breaches_1 c.args.known.now) ((model.breaches_2 c.args.known.now) ++ ((model.breaches_3 c.args.known.now) ++ ((model.breaches_4 c.args.known.now) ++ ((model.breaches_5 c.args.known.now) ++ ((model.breaches_6 c.args.known.now) ++ ((model.breaches_7 c.args.known.now) ++ ((model.breaches_8 c.args.known.now) ++ ((model.breaches_9 c.args.known.now) ++ ((model.breaches_10 c.args.known.now) ++ []))))))))) (nothing_told breach_view c.in_ok-repeated.repeated (model.breaches_1 c.args.known.now) c.in_ok-repeated.ensures (sym c.is_some.ensures ∙ c.if-is_some.false))
    ∙ first_later (model.breaches_2 c.args.known.now) ((model.breaches_3 c.args.known.now) ++ ((model.breaches_4 c.args.known.now) ++ ((model.breaches_5 c.args.known.now) ++ ((model.breaches_6 c.args.known.now) ++ ((model.breaches_7 c.args.known.now) ++ ((model.breaches_8 c.args.known.now) ++ ((model.breaches_9 c.args.known.now) ++ ((model.breaches_10 c.args.known.now) ++ [])))))))) (nothing_told breach_view c.in_ok-orphan.orphan (model.breaches_2 c.args.known.now) c.in_ok-orphan.ensures (sym c.is_some-2.ensures ∙ c.if-is_some-2.false))
    ∙ first_later (model.breaches_3 c.args.known.now) ((model.breaches_4 c.args.known.now) ++ ((model.breaches_5 c.args.known.now) ++ ((model.breaches_6 c.args.known.now) ++ ((model.breaches_7 c.args.known.now) ++ ((model.breaches_8 c.args.known.now) ++ ((model.breaches_9 c.args.known.now) ++ ((model.breaches_10 c.args.known.now) ++ []))))))) (nothing_told breach_view c.in_ok-longer.longer (model.breaches_3 c.args.known.now) c.in_ok-longer.ensures (sym c.is_some-3.ensures ∙ c.if-is_some-3.false))
    ∙ something_told breach_view c.in_ok-reference.reference (model.breaches_4 c.args.known.now) ((model.breaches_5 c.args.known.now) ++ ((model.breaches_6 c.args.known.now) ++ ((model.breaches_7 c.args.known.now) ++ ((model.breaches_8 c.args.known.now) ++ ((model.breaches_9 c.args.known.now) ++ ((model.breaches_10 c.args.known.now) ++ [])))))) c.in_ok-reference.ensures (sym c.is_some-4.ensures ∙ c.if-is_some-4.true))

pub returns-then-is_some-5 : goal.returns-then-is_some-5
returns-then-is_some-5 c =
    sym (first_later (model.breaches_1 c.args.known.now) ((model.breaches_2 c.args.known.now) ++ ((model.breaches_3 c.args.known.now) ++ ((model.breaches_4 c.args.known.now) ++ ((model.breaches_5 c.args.known.now) ++ ((model.breaches_6 c.args.known.now) ++ ((model.breaches_7 c.args.known.now) ++ ((model.breaches_8 c.args.known.now) ++ ((model.breaches_9 c.args.known.now) ++ ((model.breaches_10 c.args.known.now) ++ []))))))))) (nothing_told breach_view c.in_ok-repeated.repeated (model.breaches_1 c.args.known.now) c.in_ok-repeated.ensures (sym c.is_some.ensures ∙ c.if-is_some.false))
    ∙ first_later (model.breaches_2 c.args.known.now) ((model.breaches_3 c.args.known.now) ++ ((model.breaches_4 c.args.known.now) ++ ((model.breaches_5 c.args.known.now) ++ ((model.breaches_6 c.args.known.now) ++ ((model.breaches_7 c.args.known.now) ++ ((model.breaches_8 c.args.known.now) ++ ((model.breaches_9 c.args.known.now) ++ ((model.breaches_10 c.args.known.now) ++ [])))))))) (nothing_told breach_view c.in_ok-orphan.orphan (model.breaches_2 c.args.known.now) c.in_ok-orphan.ensures (sym c.is_some-2.ensures ∙ c.if-is_some-2.false))
    ∙ first_later (model.breaches_3 c.args.known.now) ((model.breaches_4 c.args.known.now) ++ ((model.breaches_5 c.args.known.now) ++ ((model.breaches_6 c.args.known.now) ++ ((model.breaches_7 c.args.known.now) ++ ((model.breaches_8 c.args.known.now) ++ ((model.breaches_9 c.args.known.now) ++ ((model.breaches_10 c.args.known.now) ++ []))))))) (nothing_told breach_view c.in_ok-longer.longer (model.breaches_3 c.args.known.now) c.in_ok-longer.ensures (sym c.is_some-3.ensures ∙ c.if-is_some-3.false))
    ∙ first_later (model.breaches_4 c.args.known.now) ((model.breaches_5 c.args.known.now) ++ ((model.breaches_6 c.args.known.now) ++ ((model.breaches_7 c.args.known.now) ++ ((model.breaches_8 c.args.known.now) ++ ((model.breaches_9 c.args.known.now) ++ ((model.breaches_10 c.args.known.now) ++ [])))))) (nothing_told breach_view c.in_ok-reference.reference (model.breaches_4 c.args.known.now) c.in_ok-reference.ensures (sym c.is_some-4.ensures ∙ c.if-is_some-4.false))
    ∙ something_told breach_view c.in_ok-shadow.shadow (model.breaches_5 c.args.known.now) ((model.breaches_6 c.args.known.now) ++ ((model.breaches_7 c.args.known.now) ++ ((model.breaches_8 c.args.known.now) ++ ((model.breaches_9 c.args.known.now) ++ ((model.breaches_10 c.args.known.now) ++ []))))) c.in_ok-shadow.ensures (sym c.is_some-5.ensures ∙ c.if-is_some-5.true))

pub returns : goal.returns
returns c =
    subst (λ (o : Option model.Inconsistency). IfOk c.later_told.result (λ told. option_map breach_view told ≡ o)) (sym (first_later (model.breaches_1 c.args.known.now) ((model.breaches_2 c.args.known.now) ++ ((model.breaches_3 c.args.known.now) ++ ((model.breaches_4 c.args.known.now) ++ ((model.breaches_5 c.args.known.now) ++ ((model.breaches_6 c.args.known.now) ++ ((model.breaches_7 c.args.known.now) ++ ((model.breaches_8 c.args.known.now) ++ ((model.breaches_9 c.args.known.now) ++ ((model.breaches_10 c.args.known.now) ++ []))))))))) (nothing_told breach_view c.in_ok-repeated.repeated (model.breaches_1 c.args.known.now) c.in_ok-repeated.ensures (sym c.is_some.ensures ∙ c.if-is_some.false))
    ∙ first_later (model.breaches_2 c.args.known.now) ((model.breaches_3 c.args.known.now) ++ ((model.breaches_4 c.args.known.now) ++ ((model.breaches_5 c.args.known.now) ++ ((model.breaches_6 c.args.known.now) ++ ((model.breaches_7 c.args.known.now) ++ ((model.breaches_8 c.args.known.now) ++ ((model.breaches_9 c.args.known.now) ++ ((model.breaches_10 c.args.known.now) ++ [])))))))) (nothing_told breach_view c.in_ok-orphan.orphan (model.breaches_2 c.args.known.now) c.in_ok-orphan.ensures (sym c.is_some-2.ensures ∙ c.if-is_some-2.false))
    ∙ first_later (model.breaches_3 c.args.known.now) ((model.breaches_4 c.args.known.now) ++ ((model.breaches_5 c.args.known.now) ++ ((model.breaches_6 c.args.known.now) ++ ((model.breaches_7 c.args.known.now) ++ ((model.breaches_8 c.args.known.now) ++ ((model.breaches_9 c.args.known.now) ++ ((model.breaches_10 c.args.known.now) ++ []))))))) (nothing_told breach_view c.in_ok-longer.longer (model.breaches_3 c.args.known.now) c.in_ok-longer.ensures (sym c.is_some-3.ensures ∙ c.if-is_some-3.false))
    ∙ first_later (model.breaches_4 c.args.known.now) ((model.breaches_5 c.args.known.now) ++ ((model.breaches_6 c.args.known.now) ++ ((model.breaches_7 c.args.known.now) ++ ((model.breaches_8 c.args.known.now) ++ ((model.breaches_9 c.args.known.now) ++ ((model.breaches_10 c.args.known.now) ++ [])))))) (nothing_told breach_view c.in_ok-reference.reference (model.breaches_4 c.args.known.now) c.in_ok-reference.ensures (sym c.is_some-4.ensures ∙ c.if-is_some-4.false))
    ∙ first_later (model.breaches_5 c.args.known.now) ((model.breaches_6 c.args.known.now) ++ ((model.breaches_7 c.args.known.now) ++ ((model.breaches_8 c.args.known.now) ++ ((model.breaches_9 c.args.known.now) ++ ((model.breaches_10 c.args.known.now) ++ []))))) (nothing_told breach_view c.in_ok-shadow.shadow (model.breaches_5 c.args.known.now) c.in_ok-shadow.ensures (sym c.is_some-5.ensures ∙ c.if-is_some-5.false)))) c.later_told.ensures
