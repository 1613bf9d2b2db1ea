-- The copy where it may be used and has the name, and else its supplier.
use Rattle.std.proofs.Common.{◌≡◌, ◌≤◌, List, [], length, get_or, Some, None, Bor, sym, subst, ap, ◌∙◌, arith}
use Rattle.std.specs.Option.{option_map}
use Rattle.x5_model.specs.Values.{key_of}
use Rattle.x5_model_serve.specs.Finding as finding
use Rattle.x5_ops.specs.ReferenceViews.{chained_view}
use Rattle.x5_dse.specs.Linked.{Nodes, id_of, node_at}
use Rattle.x5_holdings.specs.declared.held.Held.{Held}
use Rattle.x5_holdings.specs.State.{CopyKept}
use Rattle.x5_holdings.proofs.Holding.{got}
use Rattle.x5_find.proofs.Places.{copy_within, copy_near}
use Rattle.x5_find.proofs.Ends.{copy_here, copy_lacks, copy_unusable, no_node, by_supplier}
use Rattle.x5_find.proofs.steps.in_copy.Goals.{in-Some+in_default-find, in_default}
use Rattle.x5_find.proofs.steps.in_copy.Goals as goal

pub returns-in-Some-find : goal.returns-in-Some-find
returns-in-Some-find c = λ names.
    copy_here c.args.state.now (chained_view names c.args.message.now) c.args.copy c.index-copies-copy.result
    (c.requires.resolved names) c.requires.pin
    (got c.args.state.now.copies c.args.copy c.index-copies-copy.result
    (copy_within c.args.state.now (chained_view [] c.args.message.now) c.args.copy c.requires.pin)
    (c.index-copies-copy.is ∙ ap (λ (l : List CopyKept). get_or l c.args.copy c.index-copies-copy.result)
    c.copies.ensures.copies)) c.in-Some.held.now c.in-Some-find.node c.in-Some.ensures
    (subst (λ (n : Nodes). option_map id_of (node_at n.nodes (key_of c.args.message.now.target)) ≡ Some
    c.in-Some-find.node) c.tree.ensures.nodes (sym c.in-Some-find.ensures))

pub overflow_cast-result : goal.overflow_cast-result
overflow_cast-result c =
    let l : length c.index-copies-copy.result.prefix ≤ 255 = copy_near c.args.state.now
    (chained_view [] c.args.message.now) c.args.copy c.requires.pin c.index-copies-copy.result
    (got c.args.state.now.copies c.args.copy c.index-copies-copy.result
    (copy_within c.args.state.now (chained_view [] c.args.message.now) c.args.copy c.requires.pin)
    (c.index-copies-copy.is ∙ ap (λ (l : List CopyKept). get_or l c.args.copy c.index-copies-copy.result)
    c.copies.ensures.copies)) c.requires.near in
    let p : length c.prefix.result.now ≡ length c.index-copies-copy.result.prefix = ap length c.prefix.ensures.prefix in
    omega (arith, c.len.ensures, l, p)

pub returns : goal.returns
returns c = λ names.
    elim c.match-usable.branch [
      | in-Some+in_default-find w ↦ copy_lacks c.args.state.now (chained_view names c.args.message.now) c.args.copy
          c.index-copies-copy.result (c.requires.resolved names) c.requires.pin
          (got c.args.state.now.copies c.args.copy c.index-copies-copy.result
          (copy_within c.args.state.now (chained_view [] c.args.message.now) c.args.copy c.requires.pin)
          (c.index-copies-copy.is ∙ ap (λ (l : List CopyKept). get_or l c.args.copy c.index-copies-copy.result)
          c.copies.ensures.copies)) w.in-Some.held.now w.in-Some.ensures
          (subst (λ (n : Nodes). node_at n.nodes (key_of c.args.message.now.target) ≡ None) w.tree.ensures.nodes
          (no_node (node_at w.tree.result.now.nodes (key_of c.args.message.now.target))
          (sym w.in_default-find.is ∙ w.find.ensures)))
          ∙ ap finding.Onward (by_supplier c.index-copies-copy.result c.args.message.now.target c.len.result
          c.prefix-2.result c.supplier.result (c.len.ensures ∙ ap length c.prefix.ensures.prefix)
          c.prefix-2.ensures.prefix c.supplier.ensures)
      | in_default w ↦ copy_unusable c.args.state.now (chained_view names c.args.message.now) c.args.copy
          c.index-copies-copy.result (c.requires.resolved names) c.requires.pin
          (got c.args.state.now.copies c.args.copy c.index-copies-copy.result
          (copy_within c.args.state.now (chained_view [] c.args.message.now) c.args.copy c.requires.pin)
          (c.index-copies-copy.is ∙ ap (λ (l : List CopyKept). get_or l c.args.copy c.index-copies-copy.result)
          c.copies.ensures.copies)) c.copies.ensures.once
          (sym (ap (option_map (λ (k : Bor Held). k.now)) w.in_default.is) ∙ c.usable.ensures)
          ∙ ap finding.Onward (by_supplier c.index-copies-copy.result c.args.message.now.target c.len.result
          c.prefix-2.result c.supplier.result (c.len.ensures ∙ ap length c.prefix.ensures.prefix)
          c.prefix-2.ensures.prefix c.supplier.ensures)
    ]
