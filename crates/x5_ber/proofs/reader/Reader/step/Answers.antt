-- One step of the reader, by its ways out (an element closed, a header's fault, one opened, a content cut off, or a
-- primitive one passed): each reads as the model says, and comes nearer to the end unless it is a fault.
use Rattle.std.proofs.Common.{ℕ, ◌++◌, arith, subst, length-append}
use Rattle.std.proofs.lemmas.Result.{err_from_is_err_and}
use Rattle.x5_model_octets.specs.Faults.{Truncated, FirstFault, outermost}
use Rattle.x5_ber.specs.Views.{head_view, around_view}
use Rattle.x5_ber.specs.Reading.{around_at}
use Rattle.x5_ber.proofs.Steps.{octets_append, headed_here, headed_bounds, close_step, header_fault, open_step}
use Rattle.x5_ber.proofs.Steps.{primitive_step, content_fault}
use Rattle.x5_ber.proofs.reader.Reader.step.Goals as goal

pub returns-then-is_over-clause-reads : goal.returns-then-is_over-clause-reads
returns-then-is_over-clause-reads c = λ start o.
    close_step _ _ _ start _ _ _ _ (around_view c.around-around.result) o c.around-around.ensures c.if-is_over.ensures c.close.ensures.place c.close.ensures.depth c.close.ensures.around

pub returns-in_err-head-clause-reads : goal.returns-in_err-head-clause-reads
returns-in_err-head-clause-reads c = λ start o.
    let p = err_from_is_err_and c.from_residual.result c.from_residual.ensures.1 in
    rw (p.1, p.2) (header_fault (c.args.front.now ++ c.args.piece.now) c.args.self.now.enclosing start c.args.self.now.depth c.args.self.now.at (around_view c.around-around.result) _ o c.around-around.ensures c.if-is_over.ensures c.in_err-head.ensures)

pub returns-then-head-clause-nearer : goal.returns-then-head-clause-nearer
returns-then-head-clause-nearer c =
    let small = octets_append c.args.front.now c.args.piece.now (λ k. omega (arith, c.type_inv.front k)) (λ k. omega (arith, c.type_inv.piece k)) in
    let bounds = headed_bounds _ _ _ _ (headed_here (c.args.front.now ++ c.args.piece.now) (around_view c.around-around.result) _ c.args.self.now.at (head_view c.in_ok-head.head) small c.around-around.ensures c.in_ok-head.ensures) in
    omega (arith, bounds, length-append c.args.front.now c.args.piece.now, c.open.ensures.place, c.open.ensures.depth)

pub returns-then-head-clause-reads : goal.returns-then-head-clause-reads
returns-then-head-clause-reads c = λ start o.
    let small = octets_append c.args.front.now c.args.piece.now (λ k. omega (arith, c.type_inv.front k)) (λ k. omega (arith, c.type_inv.piece k)) in
    let headed = headed_here (c.args.front.now ++ c.args.piece.now) (around_view c.around-around.result) (around_at c.args.self.now.enclosing c.args.self.now.depth) c.args.self.now.at (head_view c.in_ok-head.head) small c.around-around.ensures c.in_ok-head.ensures in
    open_step _ _ _ start _ _ _ _ (around_view c.around-around.result) (head_view c.in_ok-head.head) o c.around-around.ensures headed
    c.if-head.true (omega (arith, headed.shallow)) c.open.ensures.place c.open.ensures.depth c.open.ensures.around

pub overflow_sub-total : goal.overflow_sub-total
overflow_sub-total c =
    let small = octets_append c.args.front.now c.args.piece.now (λ k. omega (arith, c.type_inv.front k)) (λ k. omega (arith, c.type_inv.piece k)) in
    let bounds = headed_bounds _ _ _ _ (headed_here (c.args.front.now ++ c.args.piece.now) (around_view c.around-around.result) _ c.args.self.now.at (head_view c.in_ok-head.head) small c.around-around.ensures c.in_ok-head.ensures) in
    omega (arith, bounds, length-append c.args.front.now c.args.piece.now)

pub returns-then-total-head-clause-reads : goal.returns-then-total-head-clause-reads
returns-then-total-head-clause-reads c = λ start o.
    let small = octets_append c.args.front.now c.args.piece.now (λ k. omega (arith, c.type_inv.front k)) (λ k. omega (arith, c.type_inv.piece k)) in
    let headed = headed_here (c.args.front.now ++ c.args.piece.now) (around_view c.around-around.result) (around_at c.args.self.now.enclosing c.args.self.now.depth) c.args.self.now.at (head_view c.in_ok-head.head) small c.around-around.ensures c.in_ok-head.ensures in
    let bounds = headed_bounds _ _ _ _ headed in
    subst (λ (n : ℕ). FirstFault (c.args.front.now ++ c.args.piece.now) outermost start (Truncated n)) (length-append c.args.front.now c.args.piece.now)
    (content_fault (c.args.front.now ++ c.args.piece.now) c.args.self.now.enclosing start c.args.self.now.depth c.args.self.now.at c.unwrap_or-extent.result (around_view c.around-around.result) (head_view c.in_ok-head.head) o c.around-around.ensures c.if-is_over.ensures headed c.if-head.false c.unwrap_or-extent.ensures (omega (arith, bounds, length-append c.args.front.now c.args.piece.now)))

pub returns-clause-nearer : goal.returns-clause-nearer
returns-clause-nearer c =
    let small = octets_append c.args.front.now c.args.piece.now (λ k. omega (arith, c.type_inv.front k)) (λ k. omega (arith, c.type_inv.piece k)) in
    let bounds = headed_bounds _ _ _ _ (headed_here (c.args.front.now ++ c.args.piece.now) (around_view c.around-around.result) _ c.args.self.now.at (head_view c.in_ok-head.head) small c.around-around.ensures c.in_ok-head.ensures) in
    omega (arith, bounds, length-append c.args.front.now c.args.piece.now)

pub returns-clause-reads : goal.returns-clause-reads
returns-clause-reads c = λ start o.
    let small = octets_append c.args.front.now c.args.piece.now (λ k. omega (arith, c.type_inv.front k)) (λ k. omega (arith, c.type_inv.piece k)) in
    let headed = headed_here (c.args.front.now ++ c.args.piece.now) (around_view c.around-around.result) (around_at c.args.self.now.enclosing c.args.self.now.depth) c.args.self.now.at (head_view c.in_ok-head.head) small c.around-around.ensures c.in_ok-head.ensures in
    let bounds = headed_bounds _ _ _ _ headed in
    primitive_step (c.args.front.now ++ c.args.piece.now) c.args.self.now.enclosing start c.args.self.now.depth c.args.self.now.at c.unwrap_or-extent.result (head_view c.in_ok-head.head) o headed c.if-head.false c.unwrap_or-extent.ensures (omega (arith, bounds, length-append c.args.front.now c.args.piece.now))
