-- The node is the target's, so what is told at it is what the definition tells of the context.
use Rattle.std.proofs.Common.{◌≡◌, ℕ, true, List, [], ◌∷◌, get_or, Some, None, sym, subst, ap, ◌∙◌}
use Rattle.std.specs.List.{slice_get}
use Rattle.std.specs.Option.{is_some, option_map}
use Rattle.std.proofs.lemmas.Option.{slice_get_within}
use Rattle.x5_model.specs.Values.{key_of}
use Rattle.x5_model_serve.specs.Answering.{reply_from, own_source, reply_in_own}
use Rattle.x5_ops.specs.AnswerViews.{reply_view, source_view}
use Rattle.x5_ops.specs.ReferenceViews.{chained_view}
use Rattle.x5_ops.specs.RequestViews.{body_view}
use Rattle.x5_ops.specs.declared.answers.Reply.{Reply}
use Rattle.x5_dse.specs.Linked.{Node, Nodes, IsLinked, AreNumbered, entry_in, node_with, is_live}
use Rattle.x5_holdings.specs.State.{Kept, State, held_view}
use Rattle.x5_holdings.proofs.Holding.{got}
use Rattle.x5_eval.specs.Asked.{read_told}
use Rattle.x5_eval.proofs.Telling.{ok_by, same_some, live, replied_at, own_target, own_reply}
use Rattle.x5_eval.proofs.reading.read_own.Goals as goal

held_there : (s : State) (own : ℕ) (k x : Kept) → slice_get s.own own ≡ Some k → x ≡ get_or s.own own x → slice_get
    s.own own ≡ Some x
held_there s own k x e g = got s.own own x (slice_get_within s.own own k e) g

pub entry-found-requires : goal.entry-found-requires
entry-found-requires c =
    let x = c.index-own-own.result in
    let held : slice_get c.args.state.now.own c.args.own ≡ Some x = held_there c.args.state.now c.args.own
    c.requires.at.kept x c.requires.at.held
    (c.index-own-own.is ∙ ap (λ (l : List Kept). get_or l c.args.own x) c.own.ensures.own) in
    subst (λ (n : Nodes). is_live n.nodes c.args.node ≡ true) (sym c.tree-tree.ensures.nodes)
    (live x.nodes.nodes (key_of c.args.message.now.target) c.args.node
    (own_target c.args.state.now (chained_view c.args.names.now c.args.message.now) c.args.own c.args.node x
    c.requires.at held))

pub answer_at-requires-clause-live : goal.answer_at-requires-clause-live
answer_at-requires-clause-live c =
    let x = c.index-own-own.result in
    let held : slice_get c.args.state.now.own c.args.own ≡ Some x = held_there c.args.state.now c.args.own
    c.requires.at.kept x c.requires.at.held
    (c.index-own-own.is ∙ ap (λ (l : List Kept). get_or l c.args.own x) c.own.ensures.own) in
    subst (λ (n : Nodes). is_live n.nodes c.args.node ≡ true) (sym c.tree-tree.ensures.nodes)
    (live x.nodes.nodes (key_of c.args.message.now.target) c.args.node
    (own_target c.args.state.now (chained_view c.args.names.now c.args.message.now) c.args.own c.args.node x
    c.requires.at held))

pub returns : goal.returns
returns c =
    let x = c.index-own-own.result in
    let m = chained_view c.args.names.now c.args.message.now in
    let sv = source_view c.args.names.now c.in_ok-source.source in
    let held : slice_get c.args.state.now.own c.args.own ≡ Some x = held_there c.args.state.now c.args.own
    c.requires.at.kept x c.requires.at.held
    (c.index-own-own.is ∙ ap (λ (l : List Kept). get_or l c.args.own x) c.own.ensures.own) in
    let is : sv ≡ own_source c.args.state.now.me (held_view x) =
    c.in_ok-source.ensures ∙ (λ i. record {
      context = c.prefix.ensures.prefix i;
      agent = c.me.ensures i;
      moment = None;
    }) in
    ok_by (λ (reply : Reply). (names : List (List ℕ)) (n : Node) → node_with c.tree-tree.result.now.nodes c.args.node
    ≡ Some n → n.named.entry ≡ c.entry-found.result.now → reply_view names reply ≡ reply_from (source_view names
    c.in_ok-source.source ∷ []) (read_told (is_some c.in_ok-source.source.moment) (body_view
    c.args.message.now.request.body) n.named))
    (λ (reply : Reply). (k : Kept) → slice_get c.args.state.now.own c.args.own ≡ Some k → reply_view c.args.names.now
    reply ≡ reply_in_own c.args.state.now.me m (held_view k))
    (λ reply told k at.
    subst (λ (y : Kept). reply_view c.args.names.now reply ≡ reply_in_own c.args.state.now.me m (held_view y))
    (same_some x k (sym held ∙ at))
    (own_reply c.args.state.now.me m x sv (reply_view c.args.names.now reply) is
    (replied_at x.nodes.nodes (subst (λ (n : Nodes). IsLinked n.nodes) c.tree-tree.ensures.nodes
    c.entry-found.ensures.linked) m c.args.node sv (reply_view c.args.names.now reply) c.requires.asked c.requires.reads
    (subst (λ (n : Nodes). AreNumbered n.nodes) c.tree-tree.ensures.nodes c.entry-found.ensures.numbered)
    (own_target c.args.state.now m c.args.own c.args.node x c.requires.at held)
    (λ n with.
    let w : node_with c.tree-tree.result.now.nodes c.args.node ≡ Some n = subst (λ (l : Nodes). node_with l.nodes
    c.args.node ≡ Some n) (sym c.tree-tree.ensures.nodes) with in
    told c.args.names.now n w (same_some n.named.entry c.entry-found.result.now (sym (ap (option_map entry_in) w) ∙
    c.entry-found.ensures.entry))))))
    c.answer_at.result c.answer_at.ensures
