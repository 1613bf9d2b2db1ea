-- By what is known on the way.
use Rattle.std.proofs.Common.{sym, ap, ◌∙◌}
use Rattle.x5_model.specs.Values.{Name, key_of}
use Rattle.x5_model_run.specs.Holdings.{known_pin}
use Rattle.x5_ops.specs.RequestViews.{request_view, subset_view}
use Rattle.x5_holdings.specs.State.{holdings_view}
use Rattle.x5_eval.proofs.Begun.{begin_those, name_at_pin, name_at_root, name_nowhere, none_begin}
use Rattle.x5_eval.proofs.Telling.{ok_by}
use Rattle.x5_eval.proofs.beginning.by_name.Goals as goal

pub returns-then-not-resolves : goal.returns-then-not-resolves
returns-then-not-resolves c = λ names.
    let h = holdings_view c.args.state.now in
    none_begin (request_view c.args.message.now.request) h _ _
    (name_nowhere h names c.args.message.now (subset_view c.args.subset) (sym (c.resolves.ensures names) ∙ c.if-not-resolves.true))
    c.new.ensures.items

pub returns-in-None : goal.returns-in-None
returns-in-None c =
    let h = holdings_view c.args.state.now in
    let r = request_view c.args.message.now.request in
    let subset = subset_view c.args.subset in
    let near = ap (λ (n : Name). known_pin r h (key_of n)) (sym c.rdns.ensures) in
    ok_by _ _ (λ all e names.
    begin_those r h _ _ all.items
    (name_at_root h names c.args.message.now subset (sym (c.resolves.ensures names) ∙ c.if-not-resolves.false) (near ∙ c.in-None.ensures)) (e names))
    c.at_root.result c.at_root.ensures

pub returns-in-Some : goal.returns-in-Some
returns-in-Some c =
    let h = holdings_view c.args.state.now in
    let r = request_view c.args.message.now.request in
    let subset = subset_view c.args.subset in
    let near = ap (λ (n : Name). known_pin r h (key_of n)) (sym c.rdns.ensures) in
    let known = c.in-Some.ensures in
    ok_by _ _ (λ all e names.
    begin_those r h _ _ all.items
    (name_at_pin h names c.args.message.now subset (key_of c.name_of.result.now) known.key (sym (c.resolves.ensures names) ∙ c.if-not-resolves.false)
    (near ∙ known.longest) (c.name_of.ensures r known.key known.first)) (e names))
    c.with_target.result c.with_target.ensures
