-- The lowest node on the way is that of the lowest entry: it's the name itself, or its NSSR leads on, or nothing does.
use Rattle.std.proofs.Common.{◌≡◌, ℕ, true, not, ◌==◌, List, [], take, get_or, Some, Bor, sym, subst, ap, ◌∙◌}
use Rattle.std.specs.List.{list_any}
use Rattle.std.specs.Option.{option_map}
use Rattle.x5_model.specs.Keys.{is_prefix}
use Rattle.x5_model.specs.Values.{key_of}
use Rattle.x5_ops.specs.declared.knowledge.Nssr.{Nssr}
use Rattle.x5_ops.specs.KnowledgeViews.{nssr_view}
use Rattle.x5_ops.specs.ReferenceViews.{chained_view}
use Rattle.x5_dse.specs.Linked.{Nodes, prefix_of, node_with, length_in, IsLowest, IsLinked}
use Rattle.x5_holdings.specs.State.{Kept}
use Rattle.x5_holdings.proofs.Holding.{got}
use Rattle.x5_find.proofs.Places.{own_within, own_on_way}
use Rattle.x5_find.proofs.Ends.{IsEnd, here_found, wide_found, alone_found, nowhere_found}
use Rattle.x5_find.proofs.steps.in_own.Goals.{in_default-via-in-Some+else-has_other, in_default-via-in_default}
use Rattle.x5_find.proofs.steps.in_own.Goals as goal

pub way-length-requires : goal.way-length-requires
way-length-requires c =
    subst (λ (n : Nodes). is_prefix (prefix_of n.nodes) (key_of c.args.message.now.target) ≡ true)
    (sym c.tree.ensures.nodes)
    (own_on_way c.args.state.now (chained_view [] c.args.message.now) c.args.own c.requires.pin c.index-own-own.result
    (got c.args.state.now.own c.args.own c.index-own-own.result
    (own_within c.args.state.now (chained_view [] c.args.message.now) c.args.own c.requires.pin)
    (c.index-own-own.is ∙ ap (λ (l : List Kept). get_or l c.args.own c.index-own-own.result) c.own.ensures.own))
    c.tree.ensures.kept)

pub returns-then-length-len : goal.returns-then-length-len
returns-then-length-len c = λ names.
    let end : IsEnd c.args.state.now (chained_view names c.args.message.now) c.args.own c.index-own-own.result
    c.way-length.result.0 c.way-length.result.1 = record {
      resolved = c.requires.resolved names;
      pin = c.requires.pin;
      held = (got c.args.state.now.own c.args.own c.index-own-own.result
          (own_within c.args.state.now (chained_view [] c.args.message.now) c.args.own c.requires.pin)
          (c.index-own-own.is ∙ ap (λ (l : List Kept). get_or l c.args.own c.index-own-own.result) c.own.ensures.own));
      kept_well = c.tree.ensures.kept;
      low = subst (λ (n : Nodes). IsLowest n.nodes (key_of c.args.message.now.target) c.way-length.result.0)
          c.tree.ensures.nodes c.way-length.ensures.lowest;
      long = subst (λ (n : Nodes). option_map length_in (node_with n.nodes c.way-length.result.0) ≡ Some
          c.way-length.result.1) c.tree.ensures.nodes c.way-length.ensures.long;
      linked = subst (λ (n : Nodes). IsLinked n.nodes) c.tree.ensures.nodes c.way-length.ensures.linked;
    } in
    here_found c.args.state.now (chained_view names c.args.message.now) c.args.own c.index-own-own.result
    c.way-length.result.0 c.way-length.result.1 end (c.if-length-len.true ∙ c.len.ensures)

pub returns-in-Some : goal.returns-in-Some
returns-in-Some c = λ names.
    let end : IsEnd c.args.state.now (chained_view names c.args.message.now) c.args.own c.index-own-own.result
    c.way-length.result.0 c.way-length.result.1 = record {
      resolved = c.requires.resolved names;
      pin = c.requires.pin;
      held = (got c.args.state.now.own c.args.own c.index-own-own.result
          (own_within c.args.state.now (chained_view [] c.args.message.now) c.args.own c.requires.pin)
          (c.index-own-own.is ∙ ap (λ (l : List Kept). get_or l c.args.own c.index-own-own.result) c.own.ensures.own));
      kept_well = c.tree.ensures.kept;
      low = subst (λ (n : Nodes). IsLowest n.nodes (key_of c.args.message.now.target) c.way-length.result.0)
          c.tree.ensures.nodes c.way-length.ensures.lowest;
      long = subst (λ (n : Nodes). option_map length_in (node_with n.nodes c.way-length.result.0) ≡ Some
          c.way-length.result.1) c.tree.ensures.nodes c.way-length.ensures.long;
      linked = subst (λ (n : Nodes). IsLinked n.nodes) c.tree.ensures.nodes c.way-length.ensures.linked;
    } in
    wide_found c.args.state.now (chained_view names c.args.message.now) c.args.own c.index-own-own.result
    c.way-length.result.0 c.way-length.result.1 end (λ l. c.if-length-len.false (l ∙ sym c.len.ensures))
    (take c.way-length.result.1 c.rdns.result.now) (ap (take c.way-length.result.1) c.rdns.ensures)
    (option_map (λ (n : Bor Nssr). nssr_view n.now) c.nssr_at.result) c.nssr_at.ensures
    c.in-Some.nssr.now (ap (option_map (λ (n : Bor Nssr). nssr_view n.now)) c.in-Some.is)
    (sym (c.has_other.ensures ∙ (λ j. list_any (λ (x : ℕ). not (x == c.me.ensures j)) (c.as_slice.ensures j))) ∙
    c.if-has_other.true)

pub returns-in_default : goal.returns-in_default
returns-in_default c = λ names.
    let end : IsEnd c.args.state.now (chained_view names c.args.message.now) c.args.own c.index-own-own.result
    c.way-length.result.0 c.way-length.result.1 = record {
      resolved = c.requires.resolved names;
      pin = c.requires.pin;
      held = (got c.args.state.now.own c.args.own c.index-own-own.result
          (own_within c.args.state.now (chained_view [] c.args.message.now) c.args.own c.requires.pin)
          (c.index-own-own.is ∙ ap (λ (l : List Kept). get_or l c.args.own c.index-own-own.result) c.own.ensures.own));
      kept_well = c.tree.ensures.kept;
      low = subst (λ (n : Nodes). IsLowest n.nodes (key_of c.args.message.now.target) c.way-length.result.0)
          c.tree.ensures.nodes c.way-length.ensures.lowest;
      long = subst (λ (n : Nodes). option_map length_in (node_with n.nodes c.way-length.result.0) ≡ Some
          c.way-length.result.1) c.tree.ensures.nodes c.way-length.ensures.long;
      linked = subst (λ (n : Nodes). IsLinked n.nodes) c.tree.ensures.nodes c.way-length.ensures.linked;
    } in
    elim c.in_default.branch [
      | in_default-via-in-Some+else-has_other w ↦ alone_found c.args.state.now (chained_view names c.args.message.now)
          c.args.own c.index-own-own.result c.way-length.result.0 c.way-length.result.1 end
          (λ l. c.if-length-len.false (l ∙ sym c.len.ensures)) (take c.way-length.result.1 c.rdns.result.now)
          (ap (take c.way-length.result.1) c.rdns.ensures)
          (option_map (λ (n : Bor Nssr). nssr_view n.now) c.nssr_at.result) c.nssr_at.ensures
          w.in-Some.nssr.now (ap (option_map (λ (n : Bor Nssr). nssr_view n.now)) w.in-Some.is)
          (sym (w.has_other.ensures ∙
          (λ j. list_any (λ (x : ℕ). not (x == w.me.ensures j)) (w.as_slice.ensures j))) ∙ w.if-has_other.false)
      | in_default-via-in_default w ↦ nowhere_found c.args.state.now (chained_view names c.args.message.now)
          c.args.own c.index-own-own.result c.way-length.result.0 c.way-length.result.1 end
          (λ l. c.if-length-len.false (l ∙ sym c.len.ensures)) (take c.way-length.result.1 c.rdns.result.now)
          (ap (take c.way-length.result.1) c.rdns.ensures)
          (option_map (λ (n : Bor Nssr). nssr_view n.now) c.nssr_at.result) c.nssr_at.ensures
          (ap (option_map (λ (n : Bor Nssr). nssr_view n.now)) w.in_default.is)
    ]
