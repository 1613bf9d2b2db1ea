-- Each step of reading gives what is expected of the element that lies there.
use Rattle.std.proofs.Common.{◌≡◌, ◌+◌, ℕ, ap, sym, ◌∙◌, length, arith, subst}
use Rattle.std.specs.declared.option.Option.{Option}
use Rattle.std.specs.declared.result.Result.TheVariants.{Ok}
use Rattle.x5_model_typed.specs.Judged as judged
use Rattle.x5_ber.specs.Views.{head_view}
use Rattle.x5_types.specs.FormView.{alternative_view, around, choices_view, content_view, table_in}
use Rattle.x5_typed.specs.Breaches.{Gives}
use Rattle.x5_typed.specs.Places.{EndsAt, behind}
use Rattle.x5_typed.specs.StateView.{state_view, awaited_view}
use Rattle.x5_typed.proofs.Awaiting.{content_read}
use Rattle.x5_typed.proofs.Heads.{branch_is, some_head}
use Rattle.x5_typed.proofs.Reading.{head_is, one_gone, all_gone, no_open_fault}
use Rattle.x5_typed.proofs.Elements.{err_is, not_awaited, member_is_wrong, step_is_wrong, member_done, open_untagged}
use Rattle.x5_typed.proofs.Elements.{open_wrong, settled_wrong, open_done, one_wrong_is}
use Rattle.x5_typed.proofs.reader.+reading.Goals as goal

-- ---- a member

pub read_member-returns-in_err-head-clause-reads : goal.read_member-returns-in_err-head-clause-reads
read_member-returns-in_err-head-clause-reads t c depth tree octets l s =
    let h = some_head c.args.bytes.now depth c.args.at tree octets l s in
    absurd (c.in_err-head.ensures.none h.0 h.1 (h.2, h.3))

pub read_member-returns-in_err-awaited-clause-reads : goal.read_member-returns-in_err-awaited-clause-reads
read_member-returns-in_err-awaited-clause-reads t c depth tree octets l s =
    let h = head_is c.args.bytes.now depth c.args.at (head_view c.in_ok-head.head) tree octets l s
    c.in_ok-head.ensures.head in
    not_awaited (table_in c.args.surroundings) _ (state_view (around c.args.surroundings) c.args.state.now) tree c.args.at (c.args.at + length octets)
    (head_view c.in_ok-head.head) c.in_err-awaited.field-0.0 c.from_residual-in_err-awaited.result h
    (c.in_err-awaited.ensures.awaits (around c.args.surroundings))
    (err_is c.from_residual-in_err-awaited.result _ c.from_residual-in_err-awaited.ensures.1)

pub read_member-returns-in_err-node-clause-reads : goal.read_member-returns-in_err-node-clause-reads
read_member-returns-in_err-node-clause-reads t c depth tree octets l s =
    let h = head_is c.args.bytes.now depth c.args.at (head_view c.in_ok-head.head) tree octets l s
    c.in_ok-head.ensures.head in
    member_is_wrong (table_in c.args.surroundings) _ (state_view (around c.args.surroundings) c.args.state.now) tree c.args.at (c.args.at + length octets)
    (head_view c.in_ok-head.head) (awaited_view (around c.args.surroundings) c.in_ok-awaited.awaited) c.in_err-node.field-0.0
    c.from_residual-in_err-node.result h (c.in_ok-awaited.ensures.awaits (around c.args.surroundings))
    (c.in_err-node.ensures.reads depth tree octets l s c.in_ok-head.ensures.head)
    (err_is c.from_residual-in_err-node.result c.in_err-node.field-0.0 c.from_residual-in_err-node.ensures.1)

pub read_member-returns-in_err-step-clause-reads : goal.read_member-returns-in_err-step-clause-reads
read_member-returns-in_err-step-clause-reads t c depth tree octets l s =
    let h = head_is c.args.bytes.now depth c.args.at (head_view c.in_ok-head.head) tree octets l s
    c.in_ok-head.ensures.head in
    step_is_wrong (table_in c.args.surroundings) (state_view (around c.args.surroundings) c.step.new.self) (state_view (around c.args.surroundings) c.args.state.now) tree c.args.at
    (c.args.at + length octets) (head_view c.in_ok-head.head) (awaited_view (around c.args.surroundings) c.in_ok-awaited.awaited)
    (c.in_ok-node.node, c.in_ok-node.next) c.in_err-step.field-0.0
    c.from_residual-in_err-step.result h (c.in_ok-awaited.ensures.awaits (around c.args.surroundings))
    (c.in_ok-node.ensures.reads depth tree octets l s c.in_ok-head.ensures.head) (c.in_err-step.ensures.stepped (around c.args.surroundings))
    (err_is c.from_residual-in_err-step.result c.in_err-step.field-0.0 c.from_residual-in_err-step.ensures.1)

pub read_member-returns-clause-reads : goal.read_member-returns-clause-reads
read_member-returns-clause-reads t c depth tree octets l s =
    let h = head_is c.args.bytes.now depth c.args.at (head_view c.in_ok-head.head) tree octets l s
    c.in_ok-head.ensures.head in
    member_done (table_in c.args.surroundings) (state_view (around c.args.surroundings) c.step.new.self) (state_view (around c.args.surroundings) c.args.state.now) tree c.args.at (c.args.at + length octets)
    (head_view c.in_ok-head.head) (awaited_view (around c.args.surroundings) c.in_ok-awaited.awaited) (c.in_ok-node.node, c.in_ok-node.next)
    c.in_ok-step.field-0
    h (c.in_ok-awaited.ensures.awaits (around c.args.surroundings)) (c.in_ok-node.ensures.reads depth tree octets l s c.in_ok-head.ensures.head)
    (c.in_ok-step.ensures.stepped (around c.args.surroundings))

-- ---- members

pub read_members-returns-in_err-place-clause-reads : goal.read_members-returns-in_err-place-clause-reads
read_members-returns-in_err-place-clause-reads t c depth ts octets l s e =
    one_wrong_is (table_in c.args.surroundings) c.args.bytes.now depth c.args.start ts octets (state_view (around c.args.surroundings) c.args.state.now) c.loop-alloc.place
    (state_view (around c.args.surroundings) c.loop-alloc.state) c.args.end c.in_err-place.field-0.0 (state_view (around c.args.surroundings) c.read_member.new.state)
    c.from_residual.result
    (c.loop-alloc.invariant.ahead depth ts octets l s e) e (sym c.is_over.ensures ∙ c.loop-alloc-test.true)
    (λ tree first k m. c.in_err-place.ensures.reads depth tree first k m)
    (err_is c.from_residual.result c.in_err-place.field-0.0 c.from_residual.ensures.1)

pub read_members-loop-alloc-preserved : goal.read_members-loop-alloc-preserved
read_members-loop-alloc-preserved t c = record {
  kept = c.in_ok-place.ensures.kept;
  order = omega (arith, c.in_ok-place.ensures.nearer.0, c.loop-alloc.invariant.order);
  inside = c.in_ok-place.ensures.nearer.1;
  ahead = λ depth ts octets l s e. one_gone (table_in c.args.surroundings) c.args.bytes.now depth c.args.start ts octets
      (state_view (around c.args.surroundings) c.args.state.now) c.loop-alloc.place (state_view (around c.args.surroundings) c.loop-alloc.state) c.args.end _
      (state_view (around c.args.surroundings) c.read_member.new.state)
      (c.loop-alloc.invariant.ahead depth ts octets l s e) e (sym c.is_over.ensures ∙ c.loop-alloc-test.true)
      (λ tree first k m. c.in_ok-place.ensures.reads depth tree first k m);
}

pub read_members-returns-clause-reads : goal.read_members-returns-clause-reads
read_members-returns-clause-reads t c depth ts octets l s e =
    all_gone (table_in c.args.surroundings) c.args.bytes.now depth c.args.start ts octets (state_view (around c.args.surroundings) c.args.state.now) c.loop-alloc.place
    (state_view (around c.args.surroundings) c.loop-alloc.state) c.args.end c.past_end.result
    (c.loop-alloc.invariant.ahead depth ts octets l s e) e
    (sym c.is_over.ensures ∙ c.loop-alloc-test.false) c.past_end.ensures.next

-- ---- a constructed element

pub read_open-returns-in_default-clause-reads : goal.read_open-returns-in_default-clause-reads
read_open-returns-in_default-clause-reads t c depth tree octets l s e form =
    let b = branch_is c.args.bytes.now depth c.args.at (head_view c.args.head) tree octets l s e form in
    open_untagged (table_in c.args.surroundings) (choices_view (around c.args.surroundings) c.args.choices) c.args.bytes.now depth c.args.at (head_view c.args.head) tree octets b
    c.wrong_tag.result (c.in_default.ensures (around c.args.surroundings)) c.wrong_tag.ensures

pub read_open-returns-in_err-end-clause-reads : goal.read_open-returns-in_err-end-clause-reads
read_open-returns-in_err-end-clause-reads t c depth tree octets l s e form =
    let b = branch_is c.args.bytes.now depth c.args.at (head_view c.args.head) tree octets l s e form in
    let f = c.in_err-end.ensures.none in
    absurd (no_open_fault c.args.bytes.now depth c.args.at (head_view c.args.head) tree octets b f.0 f.1 f.2)

pub read_open-returns-in_err-node-clause-reads : goal.read_open-returns-in_err-node-clause-reads
read_open-returns-in_err-node-clause-reads t c depth tree octets l s e form =
    let b = branch_is c.args.bytes.now depth c.args.at (head_view c.args.head) tree octets l s e form in
    let there : EndsAt c.args.bytes.now c.in_ok-end.end (c.args.head.content + length b.content) =
    subst (λ (o : Option ℕ). EndsAt c.args.bytes.now o (c.args.head.content + length b.content))
    (sym c.in_ok-end.ensures.end) b.ends in
    open_wrong (table_in c.args.surroundings) (choices_view (around c.args.surroundings) c.args.choices) (alternative_view (around c.args.surroundings) c.in-Some.a) c.args.bytes.now depth c.args.at
    (head_view c.args.head) tree octets b (behind c.in_ok-end.end (c.args.head.content + length b.content))
    c.in_err-node.field-0.0
    c.from_residual-in_err-node.result (c.in-Some.ensures (around c.args.surroundings))
    (c.in_err-node.ensures.reads (depth + 1) b.members b.content b.lie b.stand there)
    (err_is c.from_residual-in_err-node.result c.in_err-node.field-0.0 c.from_residual-in_err-node.ensures.1)

pub read_open-returns-in_err-node-2-clause-reads : goal.read_open-returns-in_err-node-2-clause-reads
read_open-returns-in_err-node-2-clause-reads t c depth tree octets l s e form =
    let b = branch_is c.args.bytes.now depth c.args.at (head_view c.args.head) tree octets l s e form in
    let there : EndsAt c.args.bytes.now c.in_ok-end.end (c.args.head.content + length b.content) =
    subst (λ (o : Option ℕ). EndsAt c.args.bytes.now o (c.args.head.content + length b.content))
    (sym c.in_ok-end.ensures.end) b.ends in
    settled_wrong (table_in c.args.surroundings) (choices_view (around c.args.surroundings) c.args.choices) (alternative_view (around c.args.surroundings) c.in-Some.a) c.args.bytes.now depth c.args.at
    (head_view c.args.head) tree octets b (behind c.in_ok-end.end (c.args.head.content + length b.content))
    (c.in_ok-node.node, c.in_ok-node.next) c.in_err-node-2.field-0.0 c.from_residual-in_err-node-2.result
    (c.in-Some.ensures (around c.args.surroundings)) (c.in_ok-node.ensures.reads (depth + 1) b.members b.content b.lie b.stand there)
    (c.in_err-node-2.ensures (around c.args.surroundings))
    (err_is c.from_residual-in_err-node-2.result c.in_err-node-2.field-0.0 c.from_residual-in_err-node-2.ensures.1)

pub read_open-returns-clause-reads : goal.read_open-returns-clause-reads
read_open-returns-clause-reads t c depth tree octets l s e form =
    let b = branch_is c.args.bytes.now depth c.args.at (head_view c.args.head) tree octets l s e form in
    let there : EndsAt c.args.bytes.now c.in_ok-end.end (c.args.head.content + length b.content) =
    subst (λ (o : Option ℕ). EndsAt c.args.bytes.now o (c.args.head.content + length b.content))
    (sym c.in_ok-end.ensures.end) b.ends in
    let next : behind c.in_ok-end.end (c.args.head.content + length b.content) ≡ c.args.at + length octets =
    ap (λ (o : Option ℕ). behind o (c.args.head.content + length b.content)) c.in_ok-end.ensures.end ∙ b.next in
    open_done (table_in c.args.surroundings) (choices_view (around c.args.surroundings) c.args.choices) (alternative_view (around c.args.surroundings) c.in-Some.a) c.args.bytes.now depth c.args.at
    (head_view c.args.head) tree octets b (behind c.in_ok-end.end (c.args.head.content + length b.content))
    (c.in_ok-node.node, c.in_ok-node.next) c.in_ok-node-2.node (c.in-Some.ensures (around c.args.surroundings)) next
    (c.in_ok-node.ensures.reads (depth + 1) b.members b.content b.lie b.stand there) (c.in_ok-node-2.ensures (around c.args.surroundings))

pub read_content-returns-clause-reads : goal.read_content-returns-clause-reads
read_content-returns-clause-reads t c = λ depth ts octets lies stands ends.
    let w = around c.args.surroundings in
    let s = state_view w c.read_members.new.state in
    let place = behind c.args.end (c.args.place + length octets) in
    content_read
    (judged.judged_all (table_in c.args.surroundings) (judged.begun c.args.at (content_view w c.args.content)) ts)
    c.in_ok-next.next place s c.in_ok-node.node
    (subst (λ (b : judged.State). Gives (λ (n : ℕ) t. (s ≡ t) × (n ≡ place))
    (judged.judged_all (table_in c.args.surroundings) b ts) (Ok c.in_ok-next.next)) (c.in_ok-state.ensures.begun w)
    (c.in_ok-next.ensures.reads depth ts octets lies stands ends))
    c.in_ok-node.ensures
