-- The first of the references of contexts, of copies that may be used, and of the root, in this order.
use Rattle.std.proofs.Common.{Bor, sym, ap, ◌∙◌}
use Rattle.std.specs.Option.{option_map}
use Rattle.x5_model.specs.Values.{key_of}
use Rattle.x5_ops.specs.declared.knowledge.Specific.{Specific}
use Rattle.x5_ops.specs.RequestViews.{request_view}
use Rattle.x5_holdings.proofs.Holding.{found_own, found_copies, root_without, root_behind}
use Rattle.x5_holdings.proofs.holdings.Holdings.subordinate_at.Goals.{then-may_use_copies+in_default-below_copies}
use Rattle.x5_holdings.proofs.holdings.Holdings.subordinate_at.Goals.{else-may_use_copies}
use Rattle.x5_holdings.proofs.holdings.Holdings.subordinate_at.Goals as goal

pub returns-in-Some : goal.returns-in-Some
returns-in-Some c = sym (found_own (request_view c.args.request.now) c.args.self.now (key_of c.args.pin.now)
    c.in-Some.reference.now (sym c.in-Some.ensures))

pub returns-in-Some-below_copies : goal.returns-in-Some-below_copies
returns-in-Some-below_copies c =
    sym (found_copies (request_view c.args.request.now) c.args.self.now (key_of c.args.pin.now)
    (sym c.below_own.ensures ∙ ap (option_map (λ (k : Bor Specific). k.now)) c.in_default.is)
    c.in-Some-below_copies.reference.now
    (sym c.may_use_copies.ensures ∙ c.if-may_use_copies.true) (sym c.in-Some-below_copies.ensures))

pub returns : goal.returns
returns c =
    let none = sym c.below_own.ensures ∙ ap (option_map (λ (k : Bor Specific). k.now)) c.in_default.is in
    c.below_root.ensures ∙ sym (elim c.if-may_use_copies.branch [
      | then-may_use_copies+in_default-below_copies w ↦ root_behind (request_view c.args.request.now) c.args.self.now
          (key_of c.args.pin.now) none (sym c.may_use_copies.ensures ∙ w.if-may_use_copies.true)
          (sym w.below_copies.ensures ∙ ap (option_map (λ (k : Bor Specific). k.now)) w.in_default-below_copies.is)
      | else-may_use_copies w ↦ root_without (request_view c.args.request.now) c.args.self.now (key_of c.args.pin.now)
          none (sym c.may_use_copies.ensures ∙ w.if-may_use_copies.false)
    ])
