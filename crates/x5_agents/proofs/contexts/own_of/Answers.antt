-- A context whose prefix is new is held, and another isn't.
use Rattle.std.proofs.Common.{◌≡◌, true, cond, map, sym, ap, ◌∙◌}
use Rattle.std.specs.List.{list_any}
use Rattle.x5_model.specs.Keys.{Key, same_key}
use Rattle.x5_model.specs.Values.{key_of}
use Rattle.x5_model_run.specs.Holdings.{Held}
use Rattle.x5_ops.specs.KnowledgeViews.{context_view, specific_view}
use Rattle.x5_ops.proofs.Dropping.{all_at}
use Rattle.x5_agents.specs.Growing.{is_whole}
use Rattle.x5_agents.proofs.Apart.{one_apart, still_apart}
use Rattle.x5_agents.proofs.Taking.{one_held, none_held}
use Rattle.x5_agents.proofs.Unnoted.{as_many, none_yet, one_more}
use Rattle.x5_agents.proofs.contexts.own_of.Goals as goal
use Rattle.x5_agents.proofs.contexts.own_of.Goals.{then-not-contains+in_ok-clone+in_ok-_added+in_ok-held_of+in_ok-push, else-not-contains}

pub held_of-requires : goal.held_of-requires
held_of-requires c =
    all_at is_whole context_view c.args.contexts.now c.loop-context.context-index c.context-item.result c.requires
    c.loop-context-test.true c.context-item.is

pub loop-context-preserved : goal.loop-context-preserved
loop-context-preserved c =
    let at = ap (λ (k : Key). list_any (same_key k) c.loop-context.prefixes.keys) (sym c.key-key.ensures) in
    elim c.if-not-contains.branch [
      | then-not-contains+in_ok-clone+in_ok-_added+in_ok-held_of+in_ok-push w ↦
          let key : w.in_ok-clone.field-0 ≡ key_of c.context-item.result.prefix = w.in_ok-clone.ensures.cases ∙ c.key-key.ensures in (
            one_held (map specific_view c.args.specific.now) c.args.contexts.now c.loop-context.own.items
                c.loop-context.prefixes.keys c.loop-context.context-index c.context-item.result c.loop-context-test.true
                c.context-item.is c.loop-context.invariant.0 c.if-not-contains.own.items c.if-not-contains.prefixes.keys
                w.in_ok-held_of.field-0 (at ∙ sym w.if-not-contains.ensures)
                (λ q. (λ i. list_any (same_key q) (w.prefixes-is i).keys) ∙ w.in_ok-_added.ensures.updates.0 q
                ∙ ap (λ (k : Key). cond (same_key k q) true (list_any (same_key q) c.loop-context.prefixes.keys)) key)
                w.in_ok-held_of.ensures.held ((λ i. (w.own-is i).items) ∙ w.in_ok-push.ensures.items),
            (
              one_apart c.loop-context.own.items c.loop-context.prefixes.keys c.if-not-contains.own.items
                  c.if-not-contains.prefixes.keys w.in_ok-held_of.field-0 (key_of c.context-item.result.prefix)
                  (ap (λ (h : Held). key_of h.prefix) w.in_ok-held_of.ensures.held) (at ∙ sym w.if-not-contains.ensures)
                  (λ q. (λ i. list_any (same_key q) (w.prefixes-is i).keys) ∙ w.in_ok-_added.ensures.updates.0 q
                  ∙ ap (λ (k : Key). cond (same_key k q) true (list_any (same_key q) c.loop-context.prefixes.keys)) key)
                  ((λ i. (w.own-is i).items) ∙ w.in_ok-push.ensures.items) c.loop-context.invariant.1.0,
              one_more c.loop-context.own.items c.if-not-contains.own.items w.in_ok-held_of.field-0
                  ((λ i. (w.own-is i).items) ∙ w.in_ok-push.ensures.items) w.in_ok-held_of.ensures.unnoted
                  c.loop-context.invariant.1.1,
            ),
          )
      | else-not-contains w ↦ (
        none_held (map specific_view c.args.specific.now) c.args.contexts.now c.loop-context.own.items
            c.loop-context.prefixes.keys c.loop-context.context-index c.context-item.result c.loop-context-test.true
            c.context-item.is c.loop-context.invariant.0 c.if-not-contains.own.items c.if-not-contains.prefixes.keys
            (at ∙ sym w.if-not-contains.ensures) (λ i. (w.own-is i).items) (λ i. (w.prefixes-is i).keys),
        (
          still_apart c.loop-context.own.items c.loop-context.prefixes.keys c.if-not-contains.own.items
              c.if-not-contains.prefixes.keys (λ i. (w.own-is i).items) (λ i. (w.prefixes-is i).keys) c.loop-context.invariant.1.0,
          as_many c.loop-context.own.items c.if-not-contains.own.items (λ i. (w.own-is i).items) c.loop-context.invariant.1.1,
        ),
      )
    ]
