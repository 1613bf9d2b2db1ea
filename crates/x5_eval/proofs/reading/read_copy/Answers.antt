-- The node is the target's, so what is told at it is what the definition tells of what the refresh brought.
use Rattle.std.proofs.Common.{◌≡◌, ℕ, true, List, [], ◌∷◌, get_or, Option, Some, sym, subst, ap, ◌∙◌}
use Rattle.std.specs.List.{slice_get}
use Rattle.std.specs.Option.{is_some, option_map}
use Rattle.std.proofs.lemmas.Option.{slice_get_within}
use Rattle.x5_model.specs.Values.{key_of}
use Rattle.x5_model_serve.specs.Answering.{reply_from, copy_source, reply_in_copy}
use Rattle.x5_ops.specs.AnswerViews.{reply_view, source_view}
use Rattle.x5_ops.specs.ReferenceViews.{chained_view}
use Rattle.x5_ops.specs.RequestViews.{body_view}
use Rattle.x5_ops.specs.declared.answers.Reply.{Reply}
use Rattle.x5_dse.specs.Linked.{Node, Nodes, IsLinked, AreNumbered, entry_in, node_with, is_live}
use Rattle.x5_holdings.specs.State.{Kept, CopyKept, State, copy_view}
use Rattle.x5_holdings.proofs.Holding.{got}
use Rattle.x5_eval.specs.Asked.{read_told}
use Rattle.x5_eval.proofs.Telling.{ok_by, same_some, live, replied_at, copy_refreshed, copy_reply}
use Rattle.x5_eval.proofs.reading.read_copy.Goals as goal

held_there : (s : State) (copy : ℕ) (k x : CopyKept) → slice_get s.copies copy ≡ Some k → x ≡ get_or s.copies copy x →
    slice_get s.copies copy ≡ Some x
held_there s copy k x e g = got s.copies copy x (slice_get_within s.copies copy k e) g

first_of_brought : (o : Option (Kept × ℕ)) (b : Kept × ℕ) (h : Kept) → Some h ≡ option_map (λ s. s.0) o → o ≡ Some b →
    h ≡ b.0
first_of_brought o b h e r = same_some h b.0 (e ∙ ap (λ (p : Option (Kept × ℕ)). option_map (λ s. s.0) p) r)

pub entry-found-requires : goal.entry-found-requires
entry-found-requires c =
    let x = c.index-copies-copy.result in
    let m = chained_view c.args.names.now c.args.message.now in
    let brought = c.requires.at.brought in
    let held : slice_get c.args.state.now.copies c.args.copy ≡ Some x = held_there c.args.state.now c.args.copy
    c.requires.at.kept x c.requires.at.held
    (c.index-copies-copy.is ∙ ap (λ (l : List CopyKept). get_or l c.args.copy x) c.copies.ensures.copies) in
    let fresh : x.refreshed ≡ Some brought = copy_refreshed c.args.state.now m c.args.copy c.args.node x c.requires.at
    held in
    let kept : c.in-Some.held.now ≡ brought.0 = first_of_brought x.refreshed brought c.in-Some.held.now
    c.in-Some.ensures fresh in
    let nodes : c.tree-tree.result.now ≡ brought.0.nodes = c.tree-tree.ensures.nodes ∙ ap (λ (k : Kept). k.nodes) kept
    in
    subst (λ (n : Nodes). is_live n.nodes c.args.node ≡ true) (sym nodes)
    (live brought.0.nodes.nodes (key_of c.args.message.now.target) c.args.node c.requires.at.at)

pub answer_at-requires-clause-live : goal.answer_at-requires-clause-live
answer_at-requires-clause-live c =
    let x = c.index-copies-copy.result in
    let m = chained_view c.args.names.now c.args.message.now in
    let brought = c.requires.at.brought in
    let held : slice_get c.args.state.now.copies c.args.copy ≡ Some x = held_there c.args.state.now c.args.copy
    c.requires.at.kept x c.requires.at.held
    (c.index-copies-copy.is ∙ ap (λ (l : List CopyKept). get_or l c.args.copy x) c.copies.ensures.copies) in
    let fresh : x.refreshed ≡ Some brought = copy_refreshed c.args.state.now m c.args.copy c.args.node x c.requires.at
    held in
    let kept : c.in-Some.held.now ≡ brought.0 = first_of_brought x.refreshed brought c.in-Some.held.now
    c.in-Some.ensures fresh in
    let nodes : c.tree-tree.result.now ≡ brought.0.nodes = c.tree-tree.ensures.nodes ∙ ap (λ (k : Kept). k.nodes) kept
    in
    subst (λ (n : Nodes). is_live n.nodes c.args.node ≡ true) (sym nodes)
    (live brought.0.nodes.nodes (key_of c.args.message.now.target) c.args.node c.requires.at.at)

pub returns : goal.returns
returns c =
    let x = c.index-copies-copy.result in
    let m = chained_view c.args.names.now c.args.message.now in
    let brought = c.requires.at.brought in
    let held : slice_get c.args.state.now.copies c.args.copy ≡ Some x = held_there c.args.state.now c.args.copy
    c.requires.at.kept x c.requires.at.held
    (c.index-copies-copy.is ∙ ap (λ (l : List CopyKept). get_or l c.args.copy x) c.copies.ensures.copies) in
    let fresh : x.refreshed ≡ Some brought = copy_refreshed c.args.state.now m c.args.copy c.args.node x c.requires.at
    held in
    let kept : c.in-Some.held.now ≡ brought.0 = first_of_brought x.refreshed brought c.in-Some.held.now
    c.in-Some.ensures fresh in
    let nodes : c.tree-tree.result.now ≡ brought.0.nodes = c.tree-tree.ensures.nodes ∙ ap (λ (k : Kept). k.nodes) kept
    in
    let sv = source_view c.args.names.now c.in_ok-source.source in
    let is : sv ≡ copy_source c.args.state.now.me (copy_view x) =
    c.in_ok-source.ensures ∙ (λ i. record {
      context = c.prefix.ensures.prefix i;
      agent = c.me.ensures i;
      moment =
          c.stamp.ensures i;
    }) in
    ok_by (λ (reply : Reply). (names : List (List ℕ)) (n : Node) → node_with c.tree-tree.result.now.nodes c.args.node
    ≡ Some n → n.named.entry ≡ c.entry-found.result.now → reply_view names reply ≡ reply_from (source_view names
    c.in_ok-source.source ∷ []) (read_told (is_some c.in_ok-source.source.moment) (body_view
    c.args.message.now.request.body) n.named))
    (λ (reply : Reply). (k : CopyKept) → slice_get c.args.state.now.copies c.args.copy ≡ Some k → reply_view
    c.args.names.now reply ≡ reply_in_copy c.args.state.now.me m (copy_view k))
    (λ reply told k at.
    subst (λ (y : CopyKept). reply_view c.args.names.now reply ≡ reply_in_copy c.args.state.now.me m (copy_view y))
    (same_some x k (sym held ∙ at))
    (copy_reply c.args.state.now.me m x brought sv (reply_view c.args.names.now reply) fresh is
    (replied_at brought.0.nodes.nodes (subst (λ (n : Nodes). IsLinked n.nodes) nodes c.entry-found.ensures.linked) m
    c.args.node sv (reply_view c.args.names.now reply) c.requires.asked c.requires.reads
    (subst (λ (n : Nodes). AreNumbered n.nodes) nodes c.entry-found.ensures.numbered) c.requires.at.at
    (λ n with.
    let w : node_with c.tree-tree.result.now.nodes c.args.node ≡ Some n = subst (λ (l : Nodes). node_with l.nodes
    c.args.node ≡ Some n) (sym nodes) with in
    told c.args.names.now n w (same_some n.named.entry c.entry-found.result.now (sym (ap (option_map entry_in) w) ∙
    c.entry-found.ensures.entry))))))
    c.answer_at.result c.answer_at.ensures
