-- The first component that has the tag is awaited, where those before it may be missing.
use Rattle.std.proofs.Common.{◌≡◌, ◌+◌, Bool, true, false, List, drop, sym, ap, ◌∙◌, arith}
use Rattle.std.proofs.lemmas.List.{drop_all}
use Rattle.std.specs.declared.result.Result.{Result}
use Rattle.std.specs.declared.result.Result.TheVariants.{Ok, Err}
use Rattle.x5_model_typed.specs.Forms as forms
use Rattle.x5_model_octets.specs.Breaches as octet_breaches
use Rattle.x5_model_typed.specs.Judged as judged
use Rattle.x5_model_typed.specs.Layouts.{layout}
use Rattle.x5_types.specs.FormView.{component_view}
use Rattle.x5_typed.specs.StateView.{left_view}
use Rattle.x5_typed.proofs.Awaiting.{component_is, sequence_found, sequence_ends, sequence_goes_on}
use Rattle.x5_typed.proofs.slots.sequence_awaits.Goals as goal

pub returns-then-is_some-clause-awaits : goal.returns-then-is_some-clause-awaits
returns-then-is_some-clause-awaits c = λ w.
    let cv = component_view c.component-component.result in
    let rest = drop (c.loop-i.i + 1) (left_view c.args.left.now) in
    let here = component_is w c.args.class c.args.tag cv c.choices-choices.result c.by_tag.result true
    (c.choices-choices.ensures w) (c.by_tag.ensures w) (sym c.is_some.ensures ∙ c.if-is_some.true) in
    sym (c.loop-i.invariant w)
    ∙ ap (judged.sequence_awaits (layout w) c.args.at c.args.class c.args.tag c.loop-i.i) c.component-component.ensures
    ∙ sequence_found (layout w) c.args.at c.args.class c.args.tag c.loop-i.i cv rest here
    ∙ ap (λ (types : List forms.Alternative). let r : Result judged.Awaited octet_breaches.Breach = Ok (record { types = types; step = judged.InPlace c.loop-i.i }) in r)
    (sym (c.choices-choices.ensures w))

pub returns-then-not-may_be_missing-clause-awaits : goal.returns-then-not-may_be_missing-clause-awaits
returns-then-not-may_be_missing-clause-awaits c = λ w.
    let cv = component_view c.component-component.result in
    let rest = drop (c.loop-i.i + 1) (left_view c.args.left.now) in
    let here = component_is w c.args.class c.args.tag cv c.choices-choices.result c.by_tag.result false
    (c.choices-choices.ensures w) (c.by_tag.ensures w) (sym c.is_some.ensures ∙ c.if-is_some.false) in
    sym (c.loop-i.invariant w)
    ∙ ap (judged.sequence_awaits (layout w) c.args.at c.args.class c.args.tag c.loop-i.i) c.component-component.ensures
    ∙ sequence_ends (layout w) c.args.at c.args.class c.args.tag c.loop-i.i cv rest here
    (sym c.may_be_missing.ensures ∙ c.if-not-may_be_missing.true)
    ∙ ap (λ (b : octet_breaches.Breach). let r : Result judged.Awaited octet_breaches.Breach = Err b in r) (sym c.wrong_tag.ensures)

pub loop-i-preserved : goal.loop-i-preserved
loop-i-preserved c = λ w.
    let cv = component_view c.component-component.result in
    let rest = drop (c.loop-i.i + 1) (left_view c.args.left.now) in
    let here = component_is w c.args.class c.args.tag cv c.choices-choices.result c.by_tag.result false
    (c.choices-choices.ensures w) (c.by_tag.ensures w) (sym c.is_some.ensures ∙ c.if-is_some.false) in
    sym (ap (judged.sequence_awaits (layout w) c.args.at c.args.class c.args.tag c.loop-i.i) c.component-component.ensures
    ∙ sequence_goes_on (layout w) c.args.at c.args.class c.args.tag c.loop-i.i cv rest here
    (sym c.may_be_missing.ensures ∙ c.if-not-may_be_missing.false))
    ∙ c.loop-i.invariant w

pub returns-clause-awaits : goal.returns-clause-awaits
returns-clause-awaits c = λ w.
    sym (c.loop-i.invariant w)
    ∙ ap (judged.sequence_awaits (layout w) c.args.at c.args.class c.args.tag c.loop-i.i)
    (drop_all c.loop-i.i (left_view c.args.left.now) (omega (arith, c.loop-i-test.false, c.len-i-end.ensures)))
    ∙ ap (λ (b : octet_breaches.Breach). let r : Result judged.Awaited octet_breaches.Breach = Err b in r) (sym c.wrong_tag-2.ensures)
