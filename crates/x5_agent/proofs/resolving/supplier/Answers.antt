-- The copy's prefix is on the way to the target, and its supplier an agent of the network.
use Rattle.std.proofs.Common.{◌≡◌, ◌≤◌, List, [], ◌∷◌, map, length, get_or, Some, refl, sym, ap, ◌∙◌, arith}
use Rattle.std.specs.List.{slice_get}
use Rattle.std.proofs.lemmas.Result.{IfOk-weaker}
use Rattle.x5_model.specs.References.{Supplier}
use Rattle.x5_model_run.specs.Needs.{proceeding}
use Rattle.x5_model_serve.specs.Finding as finding
use Rattle.x5_ops.specs.ReferenceViews.{access_view, chained_view, reference_view}
use Rattle.x5_ops.specs.declared.references.Reference.{Reference}
use Rattle.x5_holdings.specs.State.{CopyKept, holdings_view}
use Rattle.x5_access.proofs.Points.{first_known}
use Rattle.x5_agent.proofs.Replying.{same_some, held_there, proceeding_known, as_spelled}
use Rattle.x5_agent.proofs.resolving.supplier.Goals as goal

pub overflow_cast-progress : goal.overflow_cast-progress
overflow_cast-progress c =
    let x = c.index-copies-copy.result in
    let k = c.requires.found.kept in
    let held : slice_get c.args.state.now.copies c.args.copy ≡ Some x = held_there c.args.state.now.copies c.args.copy
    k x c.requires.found.held
    (c.index-copies-copy.is ∙ ap (λ (l : List CopyKept). get_or l c.args.copy x) c.copies.ensures.copies) in
    let same : k ≡ x = same_some k x (sym c.requires.found.held ∙ held) in
    let long : length k.prefix ≡ c.len.result =
    ap (λ (y : CopyKept). length y.prefix) same ∙ ap length (sym c.prefix-prefix.ensures.prefix) ∙ sym c.len.ensures in
    let near : length k.prefix ≤ 255 = c.requires.near.onward (proceeding (length k.prefix) k.prefix
    c.args.message.now.target Supplier (k.supplier ∷ [])) (length k.prefix) c.requires.found.found refl in
    omega (arith, long, near)

pub one-requires-clause-there : goal.one-requires-clause-there
one-requires-clause-there c =
    let x = c.index-copies-copy.result in
    let k = c.requires.found.kept in
    let held : slice_get c.args.state.now.copies c.args.copy ≡ Some x = held_there c.args.state.now.copies c.args.copy
    k x c.requires.found.held
    (c.index-copies-copy.is ∙ ap (λ (l : List CopyKept). get_or l c.args.copy x) c.copies.ensures.copies) in
    let same : k ≡ x = same_some k x (sym c.requires.found.held ∙ held) in
    let is : k.supplier ≡ c.supplier.result = ap (λ (y : CopyKept). y.supplier) same ∙ sym c.supplier.ensures in
    let l = first_known (length c.args.names.now) k.supplier [] (proceeding_known (holdings_view c.args.state.now)
    (chained_view c.args.names.now c.args.message.now) (length k.prefix) k.prefix Supplier (k.supplier ∷ [])
    c.requires.found.found (length c.args.names.now) c.requires.known) in
    omega (arith, is, l)

pub returns : goal.returns
returns c =
    let x = c.index-copies-copy.result in
    let k = c.requires.found.kept in
    let held : slice_get c.args.state.now.copies c.args.copy ≡ Some x = held_there c.args.state.now.copies c.args.copy
    k x c.requires.found.held
    (c.index-copies-copy.is ∙ ap (λ (l : List CopyKept). get_or l c.args.copy x) c.copies.ensures.copies) in
    let same : k ≡ x = same_some k x (sym c.requires.found.held ∙ held) in
    let spelled : k.prefix ≡ c.prefix-prefix.result.now =
    ap (λ (y : CopyKept). y.prefix) same ∙ sym c.prefix-prefix.ensures.prefix in
    let long : length k.prefix ≡ c.len.result = ap length spelled ∙ sym c.len.ensures in
    let is : k.supplier ≡ c.supplier.result = ap (λ (y : CopyKept). y.supplier) same ∙ sym c.supplier.ensures in
    IfOk-weaker c.reference.result _
    (λ (r : Reference). finding.find (holdings_view c.args.state.now) (chained_view c.args.names.now
    c.args.message.now) ≡ finding.Onward (reference_view c.args.names.now r))
    (λ r p. as_spelled (holdings_view c.args.state.now) (chained_view c.args.names.now c.args.message.now) (length
    k.prefix) k.prefix Supplier (k.supplier ∷ []) c.requires.found.found c.len.result c.prefix-prefix.result.now
    (map (access_view c.args.names.now) c.in_ok-agents.agents) long spelled
    ((λ i. is i ∷ []) ∙ sym c.in_ok-agents.ensures) ∙ ap finding.Onward (sym (p c.args.names.now)))
    c.reference.ensures
