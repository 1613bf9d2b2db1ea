-- Each step is the walk's own.
use Rattle.std.proofs.Common.{◌≡◌, ℕ, suc, ◌+◌, ◌-◌, List, get_or, refl, subst, arith, ◌∙◌}
use Rattle.std.specs.Vec.{with_item}
use Rattle.x5_dse.proofs.Spots.{in_get}
use Rattle.x5_model.specs.Members.{In}
use Rattle.x5_model.specs.Values.{key_of}
use Rattle.x5_ops.specs.RequestViews.{request_view, subset_view}
use Rattle.x5_holdings.specs.State.{holdings_view}
use Rattle.x5_eval.proofs.Walked.{below_all, came_more, has_room, mark_read, passed, went}
use Rattle.x5_eval.proofs.visits.Visits.+walk.Goals as goal

pub descend-returns-clause-descended : goal.descend-returns-clause-descended
descend-returns-clause-descended n c =
    let same : suc (c.args.deeper - 1) ≡ c.args.deeper = omega (arith, c.if-deeper-eq0.false) in
    below_all (request_view c.args.message.now.request) (holdings_view c.args.state.now) (key_of c.args.message.now.target)
    (subset_view c.args.subset) c.args.deeper (c.args.deeper - 1) c.args.number c.args.self.now c.visit_all.new.self c.deref.result.now
    same (c.deref.ensures.value ∙ c.in_ok-below.ensures.numbers)
    (λ m i. c.in_ok-below.ensures.rising m (subst (λ (l : List ℕ). In m l) c.deref.ensures.value i)) c.in_ok-visit_all.ensures.visited

pub visit-returns-then-before-deeper-clause-visited : goal.visit-returns-then-before-deeper-clause-visited
visit-returns-then-before-deeper-clause-visited n c =
    let room = has_room c.args.state.now c.args.self.now c.args.number c.requires.marks c.requires.within in
    passed (request_view c.args.message.now.request) (holdings_view c.args.state.now) (key_of c.args.message.now.target)
    (subset_view c.args.subset) c.args.deeper c.args.number c.index-before.result.now c.args.self.now
    (mark_read c.args.self.now.seen.items c.args.number c.index-before.result.now room c.index-before.ensures) c.if-before-deeper.true

pub visit-returns-clause-visited : goal.visit-returns-clause-visited
visit-returns-clause-visited n c =
    let room = has_room c.args.state.now c.args.self.now c.args.number c.requires.marks c.requires.within in
    let mark : c.args.deeper + 1 ≡ suc c.args.deeper = omega arith in
    went (request_view c.args.message.now.request) (holdings_view c.args.state.now) (key_of c.args.message.now.target)
    (subset_view c.args.subset) c.args.deeper c.args.number (c.args.deeper + 1) c.index-before.result.now c.args.self.now
    (record { entered = c.push_first.new.numbers; left = c.args.self.now.left; seen = with_item c.args.self.now.seen c.args.number (c.args.deeper + 1) })
    c.descend.new.self
    (record { entered = c.descend.new.self.entered; left = c.push_first-2.new.numbers; seen = c.descend.new.self.seen })
    room mark (mark_read c.args.self.now.seen.items c.args.number c.index-before.result.now room c.index-before.ensures) refl
    c.in_ok-push_first.ensures.first c.in_ok-push_first.ensures.again refl refl refl
    c.in_ok-push_first-2.ensures.first c.in_ok-push_first-2.ensures.again c.in_ok-descend.ensures.descended

pub visit_all-visit-requires : goal.visit_all-visit-requires
visit_all-visit-requires n c = (
  omega (arith, c.decreases),
  (
    c.loop-number.invariant.marks,
    (c.requires.within _ (in_get c.args.numbers.now c.loop-number.number-index 0 c.loop-number-test.true), c.requires.levels),
  ),
)

pub visit_all-loop-number-preserved : goal.visit_all-loop-number-preserved
visit_all-loop-number-preserved n c =
    came_more (request_view c.args.message.now.request) (holdings_view c.args.state.now) (key_of c.args.message.now.target)
    (subset_view c.args.subset) c.args.deeper c.args.numbers.now c.loop-number.number-index
    (get_or c.args.numbers.now c.loop-number.number-index 0) c.args.self.now c.loop-number.self c.visit.new.self
    c.loop-number-test.true refl c.loop-number.invariant c.in_ok-visit.ensures.marks c.in_ok-visit.ensures.visited
