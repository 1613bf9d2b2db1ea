-- A static refusal comes first; else what the entries become is what the tree becomes.
use Rattle.std.proofs.Common.{◌≡◌, ℕ, List, [], map, sym, ap, subst, ◌∙◌, Some, IfOk}
use Rattle.std.specs.Option.{option_map}
use Rattle.x5_model.specs.Answers.{Source}
use Rattle.x5_model.specs.Entries.{Named}
use Rattle.x5_model.specs.Statics.{fault_of}
use Rattle.x5_model_updates.proofs.Outcomes.{over_fault, tree_refuses}
use Rattle.std.specs.Prelude.{OnOk}
use Rattle.x5_model_run.specs.History.{tree_with}
use Rattle.x5_model_tree.specs.Apply.{ground_of}
use Rattle.x5_model_tree.specs.Ask.{ask}
use Rattle.x5_ops.specs.AnswerViews.{error_view, reply_view}
use Rattle.x5_ops.specs.RequestViews.{body_view, request_view}
use Rattle.x5_one.specs.One.{One, Held, pin_in, tree_in}
use Rattle.x5_one.specs.Kept.{view}
use Rattle.x5_one.specs.Replies.{reply_of}
use Rattle.x5_one.proofs.Sound.{told_refused, pins_once}
use Rattle.x5_one.proofs.Applying.{refused_stays, sound_after, reply_is, tree_is, err_is, by_err}
use Rattle.x5_one.proofs.Pins.{pins_in_order, above_held}
use Rattle.x5_one.proofs.tree.OneTree.apply.Goals as goal

abbrev put : List Named → List Held → One
put entries contexts = record { entries = entries; contexts = contexts }

pub returns-in-Some-clause-reply : goal.returns-in-Some-clause-reply
returns-in-Some-clause-reply c names source =
    told_refused source (tree_in c.args.self.now) (request_view c.args.request.now) (error_view names c.in-Some.error)
    (sym (ap (option_map (error_view names)) c.in-Some.is) ∙ c.in_ok-error.ensures names)

pub returns-in-Some-clause-tree : goal.returns-in-Some-clause-tree
returns-in-Some-clause-tree c =
    let fault : fault_of (body_view c.args.request.now.body) ≡ Some (error_view [] c.in-Some.error) =
    sym (c.in_ok-error.ensures []) ∙ ap (option_map (error_view [])) c.in-Some.is in
    refused_stays (tree_in c.args.self.now) (request_view c.args.request.now) (error_view [] c.in-Some.error)
    (tree_refuses (tree_in c.args.self.now) (request_view c.args.request.now) (error_view [] c.in-Some.error)
    (over_fault (ground_of (tree_in c.args.self.now)) (body_view c.args.request.now.body) (error_view [] c.in-Some.error)
    fault))

pub update-made-requires-clause-rows : goal.update-made-requires-clause-rows
update-made-requires-clause-rows c =
    pins_in_order c.self.inside.contexts.items c.deref.result.now (c.deref.ensures.value ∙ c.self.invariant.1)
    (pins_once (tree_in (view c.self.inside)) c.self.invariant.0)

pub update-made-requires-clause-passed : goal.update-made-requires-clause-passed
update-made-requires-clause-passed c = sym (c.in_ok-error.ensures []) ∙ ap (option_map (error_view [])) c.in_default.is

pub invariant_of-self : goal.invariant_of-self
invariant_of-self c = (
  sound_after (tree_in (view c.self.inside)) (request_view c.args.request.now)
      (sym (ap (option_map (error_view [])) c.in_default.is) ∙ c.in_ok-error.ensures []) c.requires
      c.update-made.result c.update-made.new.entries.items
      (c.update-made.ensures (map pin_in c.self.inside.contexts.items) c.self.invariant.0
      (above_held c.self.inside.contexts.items c.deref.result.now (c.deref.ensures.value ∙ c.self.invariant.1)
      (pins_once (tree_in (view c.self.inside)) c.self.invariant.0)))
      c.self.invariant.0,
  c.self.invariant.1,
)

pub returns-clause-reply : goal.returns-clause-reply
returns-clause-reply c =
    subst (λ (o : One). IfOk c.replied.result (λ reply. (names : List (List ℕ)) (source : Source)
    → reply_view names reply ≡ reply_of source (ask (tree_in o) (request_view c.args.request.now)))) c.self.view_is
    (reply_is (tree_in (view c.self.inside)) (request_view c.args.request.now)
    (sym (ap (option_map (error_view [])) c.in_default.is) ∙ c.in_ok-error.ensures []) c.requires
    c.update-made.result c.replied.result c.update-made.new.entries.items
    (c.update-made.ensures (map pin_in c.self.inside.contexts.items) c.self.invariant.0
    (above_held c.self.inside.contexts.items c.deref.result.now (c.deref.ensures.value ∙ c.self.invariant.1)
    (pins_once (tree_in (view c.self.inside)) c.self.invariant.0)))
    c.replied.ensures)

pub returns-clause-tree : goal.returns-clause-tree
returns-clause-tree c =
    subst (λ (o : One). OnOk c.replied.result (record (tree_in (view c.self.inside)) {
      entries =
          c.update-made.new.entries.items;
    } ≡ tree_with (tree_in o) (request_view c.args.request.now))) c.self.view_is
    (tree_is (tree_in (view c.self.inside)) (request_view c.args.request.now)
    (sym (ap (option_map (error_view [])) c.in_default.is) ∙ c.in_ok-error.ensures []) c.requires
    c.update-made.result c.replied.result c.update-made.new.entries.items
    (c.update-made.ensures (map pin_in c.self.inside.contexts.items) c.self.invariant.0
    (above_held c.self.inside.contexts.items c.deref.result.now (c.deref.ensures.value ∙ c.self.invariant.1)
    (pins_once (tree_in (view c.self.inside)) c.self.invariant.0)))
    c.replied.ensures)

pub returns-clause-err : goal.returns-clause-err
returns-clause-err c =
    by_err (c.update-made.new.entries.items ≡ c.self.inside.entries.items)
    (put c.update-made.new.entries.items c.self.inside.contexts.items ≡ c.args.self.now)
    (λ e. ap (λ (es : List Named). put es c.self.inside.contexts.items) e ∙ c.self.view_is)
    c.replied.result
    (err_is (tree_in (view c.self.inside)) (request_view c.args.request.now)
    (sym (ap (option_map (error_view [])) c.in_default.is) ∙ c.in_ok-error.ensures []) c.requires
    c.update-made.result c.replied.result c.update-made.new.entries.items
    (c.update-made.ensures (map pin_in c.self.inside.contexts.items) c.self.invariant.0
    (above_held c.self.inside.contexts.items c.deref.result.now (c.deref.ensures.value ∙ c.self.invariant.1)
    (pins_once (tree_in (view c.self.inside)) c.self.invariant.0)))
    c.replied.ensures)
