-- An agreement brings one copy more, or none.
use Rattle.std.proofs.Common.{◌==◌, ◌&&◌, not, Bool, List, [], ◌∷◌, ◌++◌, sym, ap, ◌∙◌, None}
use Rattle.std.specs.List.{list_any}
use Rattle.x5_model.specs.Keys.{same_key}
use Rattle.x5_model.specs.Values.{key_of}
use Rattle.x5_holdings.specs.State.{CopyKept}
use Rattle.x5_agents.proofs.Copying.{has_map, one_copied, none_copied}
use Rattle.x5_agents.proofs.copies.copies_of.Goals as goal
use Rattle.x5_agents.proofs.copies.copies_of.Goals.{then-is_new+in_ok-prefix+in_ok-push, else-is_new}

pub loop-agreement-preserved : goal.loop-agreement-preserved
loop-agreement-preserved c =
    let key = key_of c.agreement-item.result.context in
    let is = ap (λ (b : Bool). (c.agreement-item.result.consumer == c.args.me) && not b)
    (sym (has_map c.loop-agreement.copies.items key)
    ∙ ap (λ (l : List CopyKept). list_any (λ (k : CopyKept). same_key (key_of k.prefix) key) l) (sym c.deref.ensures.value))
    ∙ sym c.is_new.ensures in
    elim c.if-is_new.branch [
      | then-is_new+in_ok-prefix+in_ok-push w ↦
          one_copied c.args.me c.args.agreements.now c.loop-agreement.copies.items c.loop-agreement.agreement-index
          c.agreement-item.result c.loop-agreement-test.true c.agreement-item.is c.loop-agreement.invariant
          c.if-is_new.copies.items (is ∙ w.if-is_new.true)
          ((λ i. (w.copies-is i).items) ∙ w.in_ok-push.ensures.items
          ∙ ap (λ (y : CopyKept). c.loop-agreement.copies.items ++ y ∷ []) (w.new.ensures ∙ (λ i. record {
            prefix = (w.in_ok-prefix.ensures.cases ∙ (λ j. (c.agreement.view_is j).context)) i;
            supplier = (c.agreement.view_is i).supplier;
            refreshed = None;
          })))
      | else-is_new w ↦
          none_copied c.args.me c.args.agreements.now c.loop-agreement.copies.items c.loop-agreement.agreement-index
          c.agreement-item.result c.loop-agreement-test.true c.agreement-item.is c.loop-agreement.invariant
          c.if-is_new.copies.items (is ∙ w.if-is_new.false) (λ i. (w.copies-is i).items)
    ]
