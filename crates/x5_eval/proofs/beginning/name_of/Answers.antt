-- What is found at a key has that key.
use Rattle.std.proofs.Common.{subst}
use Rattle.x5_ops.specs.KnowledgeViews.{cross_view, specific_view}
use Rattle.x5_model_run.specs.Holdings.{subordinates}
use Rattle.x5_holdings.specs.Known.{IsFirst}
use Rattle.x5_holdings.specs.State.{holdings_view}
use Rattle.x5_holdings.specs.declared.holdings.Pin.{Pin}
use Rattle.x5_eval.proofs.Begun.{copy_known, own_known, pin_known}
use Rattle.x5_eval.proofs.beginning.name_of.Goals as goal

pub returns-in-Own : goal.returns-in-Own
returns-in-Own c = λ r key first.
    let h = holdings_view c.args.state.now in
    let w = subst (λ (p : Pin). IsFirst r h key p) c.in-Own.is first in
    own_known key c.args.other.now h c.in-Own.place c.own_name.result.now c.own_name.ensures w.0 w.1

pub returns-in-Copy : goal.returns-in-Copy
returns-in-Copy c = λ r key first.
    let h = holdings_view c.args.state.now in
    let w = subst (λ (p : Pin). IsFirst r h key p) c.in-Copy.is first in
    copy_known key c.args.other.now h c.in-Copy.place c.copy_name.result.now c.copy_name.ensures w.1 w.2

pub returns-in-Subordinate : goal.returns-in-Subordinate
returns-in-Subordinate c = λ r key first.
    let h = holdings_view c.args.state.now in
    let w = subst (λ (p : Pin). IsFirst r h key p) c.in-Subordinate.is first in
    pin_known key c.args.other.now (subordinates r h) (specific_view c.in-Subordinate.reference.now) w.2

pub returns-in-Cross : goal.returns-in-Cross
returns-in-Cross c = λ r key first.
    let h = holdings_view c.args.state.now in
    let w = subst (λ (p : Pin). IsFirst r h key p) c.in-Cross.is first in
    pin_known key c.args.other.now h.cross (cross_view c.in-Cross.reference.now) w.3
