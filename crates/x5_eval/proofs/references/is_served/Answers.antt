-- One that is mastered, or else the copy.
use Rattle.std.proofs.Common.{Bor, List, ap, sym, ◌∙◌}
use Rattle.std.specs.List.{slice_get}
use Rattle.std.specs.Option.{is_some}
use Rattle.x5_model.specs.Values.{Name, key_of}
use Rattle.x5_model_run.specs.Holdings.{copy_at, held_at, served}
use Rattle.x5_ops.specs.RequestViews.{request_view}
use Rattle.x5_holdings.specs.State.{Kept, CopyKept, holdings_view}
use Rattle.x5_eval.proofs.Answered.{copy_is, got_at, none_is, own_is, some_mapped, some_within}
use Rattle.x5_eval.proofs.references.is_served.Goals as goal

pub returns-then-is_some : goal.returns-then-is_some
returns-then-is_some c =
    sym (ap (λ (n : Name). is_some (held_at (served (request_view c.args.request.now) (holdings_view c.args.state.now)) (key_of n))) (sym c.rdns.ensures)
    ∙ own_is c.args.state.now (request_view c.args.request.now) (key_of c.rdns.result.now) c.own_at.result c.own_at.ensures (sym c.is_some.ensures ∙ c.if-is_some.true))

pub bounds-copies-place : goal.bounds-copies-place
bounds-copies-place c =
    let t = c.in-Some.ensures in
    some_within c.copies.result.now c.in-Some.place (ap (λ (l : List CopyKept). is_some (slice_get l c.in-Some.place)) c.copies.ensures.copies ∙ t.1)

pub returns-in-Some : goal.returns-in-Some
returns-in-Some c =
    let t = c.in-Some.ensures in
    let k = c.index-copies-place.result in
    let within = some_within c.copies.result.now c.in-Some.place (ap (λ (l : List CopyKept). is_some (slice_get l c.in-Some.place)) c.copies.ensures.copies ∙ t.1) in
    c.is_some-in-Some.ensures
    ∙ some_mapped (λ (held : Bor Kept). held.now) c.usable.result
    ∙ ap is_some c.usable.ensures
    ∙ copy_is c.args.state.now (request_view c.args.request.now) (key_of c.rdns.result.now) c.own_at.result c.own_at.ensures (sym c.is_some.ensures ∙ c.if-is_some.false)
    c.copies.ensures.once c.in-Some.place k
    (ap (λ (n : Name). copy_at (holdings_view c.args.state.now) (key_of n)) (c.rdns.ensures ∙ sym c.rdns-2.ensures) ∙ t.0)
    (ap (λ (l : List CopyKept). slice_get l c.in-Some.place) (sym c.copies.ensures.copies) ∙ got_at c.copies.result.now c.in-Some.place k within c.index-copies-place.is)
    ∙ ap (λ (n : Name). is_some (held_at (served (request_view c.args.request.now) (holdings_view c.args.state.now)) (key_of n))) c.rdns.ensures

pub returns-in-None : goal.returns-in-None
returns-in-None c =
    let t = c.in-None.ensures in
    sym (ap (λ (n : Name). is_some (held_at (served (request_view c.args.request.now) (holdings_view c.args.state.now)) (key_of n))) (sym c.rdns.ensures)
    ∙ none_is c.args.state.now (request_view c.args.request.now) (key_of c.rdns.result.now) c.own_at.result c.own_at.ensures (sym c.is_some.ensures ∙ c.if-is_some.false)
    (ap (λ (n : Name). copy_at (holdings_view c.args.state.now) (key_of n)) (c.rdns.ensures ∙ sym c.rdns-2.ensures) ∙ t))
