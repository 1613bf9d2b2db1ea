-- Refused as the one tree refuses it; else the run, with its new names, makes what the one tree's modifyDN makes once it
-- stands where it goes.
use Rattle.std.proofs.Common.{◌≡◌, ℕ, ◌+◌, ◌-◌, inl, inr, List, ◌++◌, length, take, drop, refl, sym, ap, subst, ◌∙◌}
use Rattle.std.proofs.Common.{arith, None, Some, Ok, Err}
use Rattle.std.specs.List.{filter}
use Rattle.x5_model.specs.Answers.{UpdateProblem}
use Rattle.x5_model.specs.Changes.{renamed, single_valued}
use Rattle.x5_model.specs.Entries.{Named}
use Rattle.x5_model.specs.Keys.{Key, is_prefix}
use Rattle.x5_model.specs.Problems.{entry_already_exists, affects_multiple_dsas}
use Rattle.x5_model.specs.Values.{key_of, name_above}
use Rattle.x5_model_tree.specs.Apply.{rename}
use Rattle.x5_model_tree.specs.Tree.{key_at, keys_of}
use Rattle.x5_one.specs.Making.{ground}
use Rattle.x5_one.specs.Moving.{IsNewPlace, moved_run}
use Rattle.x5_one.specs.Places.{IsStart}
use Rattle.x5_one.proofs.Runs.{start_there}
use Rattle.x5_one.proofs.Making.{absent_as, stopped_as, refused_as, place_as}
use Rattle.x5_one.proofs.Moving.{above_length, le_or_less, place_fits, run_count, run_filled, run_head, run_long}
use Rattle.x5_one.proofs.Outcomes.{rename_missing, rename_above, rename_doubled, rename_taken, rename_back, rename_on}
use Rattle.x5_one.proofs.renaming.planned.Goals as goal

pub returns-in-Err-clause-made : goal.returns-in-Err-clause-made
returns-in-Err-clause-made c pins s above =
    absent_as c.no_object.result c.args.entries.now c.args.entries.now c.key-in-Err.result.now (key_of c.args.object.now)
    (rename (ground c.args.entries.now pins) c.args.object.now c.args.rdn.now c.args.drop_old) refl c.key-in-Err.ensures
    (rename_missing c.args.entries.now pins c.requires.order c.args.object.now c.args.rdn.now c.args.drop_old c.in-Err.field-0
    (place_as c.args.entries.now c.args.entries.now c.key.result.now (key_of c.args.object.now) (Err c.in-Err.field-0) refl
    c.key.ensures c.in-Err.ensures))
    c.no_object.ensures

pub returns-then-above-clause-made : goal.returns-then-above-clause-made
returns-then-above-clause-made c pins s above =
    stopped_as c.refused.result (Err (UpdateProblem affects_multiple_dsas))
    (rename (ground c.args.entries.now pins) c.args.object.now c.args.rdn.now c.args.drop_old)
    (rename_above c.args.entries.now pins c.requires.order c.args.object.now c.args.rdn.now c.args.drop_old c.in-Ok.at
    (place_as c.args.entries.now c.args.entries.now c.key.result.now (key_of c.args.object.now) (Ok c.in-Ok.at) refl
    c.key.ensures c.in-Ok.ensures) (above ∙ c.if-above.true))
    c.refused.ensures

pub returns-in-Err-renamed-clause-made : goal.returns-in-Err-renamed-clause-made
returns-in-Err-renamed-clause-made c pins s above =
    refused_as c.in-Err-renamed.fault
    (single_valued (renamed c.in_ok-old.old c.args.rdn.now c.args.drop_old c.named.inside.entry))
    (rename (ground c.args.entries.now pins) c.args.object.now c.args.rdn.now c.args.drop_old)
    (λ x m. rename_doubled c.args.entries.now pins c.requires.order c.args.object.now c.args.rdn.now c.args.drop_old
    c.in-Ok.at c.index-entries-at.result
    (place_as c.args.entries.now c.args.entries.now c.key.result.now (key_of c.args.object.now) (Ok c.in-Ok.at) refl
    c.key.ensures c.in-Ok.ensures) c.index-entries-at.is (above ∙ c.if-above.false) x
    ((λ i. single_valued (renamed (sym c.in_ok-old.ensures i) c.args.rdn.now c.args.drop_old
    (sym c.named.view_is i).entry)) ∙ m))
    c.in-Err-renamed.ensures

pub returns-in_default-clause-made : goal.returns-in_default-clause-made
returns-in_default-clause-made c pins s above =
    stopped_as c.refused-in_default.result (Err (UpdateProblem entry_already_exists))
    (rename (ground c.args.entries.now pins) c.args.object.now c.args.rdn.now c.args.drop_old)
    (rename_taken c.args.entries.now pins c.requires.order c.args.object.now c.args.rdn.now c.args.drop_old
    c.in-Ok.at c.index-entries-at.result
    (place_as c.args.entries.now c.args.entries.now c.key.result.now (key_of c.args.object.now) (Ok c.in-Ok.at) refl
    c.key.ensures c.in-Ok.ensures) c.index-entries-at.is (above ∙ c.if-above.false) c.in-Ok-renamed.entry
    ((λ i. single_valued (renamed (sym c.in_ok-old.ensures i) c.args.rdn.now c.args.drop_old
    (sym c.named.view_is i).entry)) ∙ c.in-Ok-renamed.ensures)
    (subst (λ (k : Key). IsNewPlace c.args.entries.now (key_of c.args.object.now) k c.in-Ok.at None) c.in_ok-name.ensures
    c.in_default.ensures))
    c.refused-in_default.ensures

pub run_end-end-requires-clause-begins : goal.run_end-end-requires-clause-begins
run_end-end-requires-clause-begins c =
    subst (λ (k : Key). IsStart (keys_of c.args.entries.now) k c.in-Ok.at) (sym c.key-2.ensures)
    (start_there c.args.entries.now (key_of c.args.object.now) c.in-Ok.at c.requires.order
    (place_as c.args.entries.now c.args.entries.now c.key.result.now (key_of c.args.object.now) (Ok c.in-Ok.at) refl
    c.key.ensures c.in-Ok.ensures))

pub moved-requires-clause-filled : goal.moved-requires-clause-filled
moved-requires-clause-filled c =
    run_filled c.args.entries.now c.requires.order c.args.object.now c.args.rdn.now c.in-Ok-renamed.entry c.in-Ok.at
    c.run_end-end.result
    (place_as c.args.entries.now c.args.entries.now c.key.result.now (key_of c.args.object.now) (Ok c.in-Ok.at) refl
    c.key.ensures c.in-Ok.ensures)
    c.run_end-end.ensures.behind c.run_end-end.ensures.within
    (c.run_end-end.ensures.run ∙ ap (λ (k : Key). filter (λ e. is_prefix k (key_at e)) c.args.entries.now) c.key-2.ensures)
    c.requires.named

pub moved-requires-clause-long : goal.moved-requires-clause-long
moved-requires-clause-long c e i =
    let longer = run_long c.args.entries.now c.requires.order c.args.object.now c.args.rdn.now c.in-Ok-renamed.entry
    c.in-Ok.at c.run_end-end.result
    (place_as c.args.entries.now c.args.entries.now c.key.result.now (key_of c.args.object.now) (Ok c.in-Ok.at) refl
    c.key.ensures c.in-Ok.ensures)
    c.run_end-end.ensures.behind c.run_end-end.ensures.within
    (c.run_end-end.ensures.run ∙ ap (λ (k : Key). filter (λ e. is_prefix k (key_at e)) c.args.entries.now) c.key-2.ensures)
    c.requires.named e i in
    let count : length (name_above c.args.object.now) ≡ length c.args.object.now - 1 = above_length c.args.object.now in
    let len : c.len.result ≡ length c.args.object.now = c.len.ensures in
    omega arith

pub returns-clause-fits : goal.returns-clause-fits
returns-clause-fits c =
    let head = run_head c.args.entries.now c.requires.order c.args.object.now c.args.rdn.now c.in-Ok-renamed.entry c.in-Ok.at
    c.run_end-end.result
    (place_as c.args.entries.now c.args.entries.now c.key.result.now (key_of c.args.object.now) (Ok c.in-Ok.at) refl
    c.key.ensures c.in-Ok.ensures)
    c.run_end-end.ensures.behind c.run_end-end.ensures.within
    (c.run_end-end.ensures.run ∙ ap (λ (k : Key). filter (λ e. is_prefix k (key_at e)) c.args.entries.now) c.key-2.ensures)
    c.requires.named in
    let above : c.len.result - 1 ≡ length (name_above c.args.object.now) = ap (λ (n : ℕ). n - 1) c.len.ensures
    ∙ sym (above_length c.args.object.now) in
    let items : c.in_ok-run.run'.items ≡ moved_run (length (name_above c.args.object.now)) c.args.rdn.now
    c.in-Ok-renamed.entry head.0 (take (c.run_end-end.result - c.in-Ok.at) (drop c.in-Ok.at c.args.entries.now)) =
    c.in_ok-run.ensures head.0 head.1 ∙ ap (λ (n : ℕ). moved_run n c.args.rdn.now c.in-Ok-renamed.entry head.0
    (take (c.run_end-end.result - c.in-Ok.at) (drop c.in-Ok.at c.args.entries.now))) above in
    let count : c.in-Ok.at + length c.in_ok-run.run'.items ≡ c.run_end-end.result =
    ap (λ (es : List Named). c.in-Ok.at + length es) items ∙ run_count c.args.entries.now c.requires.order c.args.object.now c.args.rdn.now c.in-Ok-renamed.entry c.in-Ok.at
    c.run_end-end.result
    (place_as c.args.entries.now c.args.entries.now c.key.result.now (key_of c.args.object.now) (Ok c.in-Ok.at) refl
    c.key.ensures c.in-Ok.ensures)
    c.run_end-end.ensures.behind c.run_end-end.ensures.within
    (c.run_end-end.ensures.run ∙ ap (λ (k : Key). filter (λ e. is_prefix k (key_at e)) c.args.entries.now) c.key-2.ensures)
    c.requires.named head.0 in (
      c.run_end-end.ensures.behind,
      c.run_end-end.ensures.within,
      ap (λ (n : ℕ). c.in-Ok.at + n) c.in_ok-run.run'.ok.0 ∙ count,
      place_fits c.args.entries.now c.requires.order c.args.object.now c.args.rdn.now c.in-Ok-renamed.entry c.in-Ok.at
          c.run_end-end.result
          (place_as c.args.entries.now c.args.entries.now c.key.result.now (key_of c.args.object.now) (Ok c.in-Ok.at) refl
          c.key.ensures c.in-Ok.ensures)
          c.run_end-end.ensures.behind c.run_end-end.ensures.within
          (c.run_end-end.ensures.run ∙ ap (λ (k : Key). filter (λ e. is_prefix k (key_at e)) c.args.entries.now) c.key-2.ensures)
          c.requires.named c.in-Some.place
          (subst (λ (k : Key). IsNewPlace c.args.entries.now (key_of c.args.object.now) k c.in-Ok.at
          (Some c.in-Some.place)) c.in_ok-name.ensures c.in-Some.ensures),
    )

pub returns-clause-made : goal.returns-clause-made
returns-clause-made c pins s above after settled =
    let head = run_head c.args.entries.now c.requires.order c.args.object.now c.args.rdn.now c.in-Ok-renamed.entry c.in-Ok.at
    c.run_end-end.result
    (place_as c.args.entries.now c.args.entries.now c.key.result.now (key_of c.args.object.now) (Ok c.in-Ok.at) refl
    c.key.ensures c.in-Ok.ensures)
    c.run_end-end.ensures.behind c.run_end-end.ensures.within
    (c.run_end-end.ensures.run ∙ ap (λ (k : Key). filter (λ e. is_prefix k (key_at e)) c.args.entries.now) c.key-2.ensures)
    c.requires.named in
    let deep : c.len.result - 1 ≡ length (name_above c.args.object.now) = ap (λ (n : ℕ). n - 1) c.len.ensures
    ∙ sym (above_length c.args.object.now) in
    let items : c.in_ok-run.run'.items ≡ moved_run (length (name_above c.args.object.now)) c.args.rdn.now
    c.in-Ok-renamed.entry head.0 (take (c.run_end-end.result - c.in-Ok.at) (drop c.in-Ok.at c.args.entries.now)) =
    c.in_ok-run.ensures head.0 head.1 ∙ ap (λ (n : ℕ). moved_run n c.args.rdn.now c.in-Ok-renamed.entry head.0
    (take (c.run_end-end.result - c.in-Ok.at) (drop c.in-Ok.at c.args.entries.now))) deep in
    let single = (λ i. single_valued (renamed (sym c.in_ok-old.ensures i) c.args.rdn.now c.args.drop_old
    (sym c.named.view_is i).entry)) ∙ c.in-Ok-renamed.ensures in
    let place = subst (λ (k : Key). IsNewPlace c.args.entries.now (key_of c.args.object.now) k c.in-Ok.at
    (Some c.in-Some.place)) c.in_ok-name.ensures c.in-Some.ensures in
    elim (le_or_less c.in-Some.place c.in-Ok.at) [
      | inl l ↦ rename_back c.args.entries.now pins c.requires.order c.args.object.now c.args.rdn.now c.args.drop_old
          c.in-Ok.at c.index-entries-at.result
          (place_as c.args.entries.now c.args.entries.now c.key.result.now (key_of c.args.object.now) (Ok c.in-Ok.at) refl
          c.key.ensures c.in-Ok.ensures)
          c.index-entries-at.is (above ∙ c.if-above.false) s c.in-Ok-renamed.entry single
          c.run_end-end.result c.in-Some.place head.0 c.in_ok-run.run'.items
          (take c.in-Ok.at c.args.entries.now ++ (c.in_ok-run.run'.items ++ drop c.run_end-end.result c.args.entries.now))
          after c.run_end-end.ensures.behind c.run_end-end.ensures.within
          (c.run_end-end.ensures.run ∙ ap (λ (k : Key). filter (λ e. is_prefix k (key_at e)) c.args.entries.now)
          c.key-2.ensures) head.1 items refl place l (settled.0 l)
      | inr l ↦ rename_on c.args.entries.now pins c.requires.order c.args.object.now c.args.rdn.now c.args.drop_old
          c.in-Ok.at c.index-entries-at.result
          (place_as c.args.entries.now c.args.entries.now c.key.result.now (key_of c.args.object.now) (Ok c.in-Ok.at) refl
          c.key.ensures c.in-Ok.ensures)
          c.index-entries-at.is (above ∙ c.if-above.false) s c.in-Ok-renamed.entry single
          c.run_end-end.result c.in-Some.place head.0 c.in_ok-run.run'.items
          (take c.in-Ok.at c.args.entries.now ++ (c.in_ok-run.run'.items ++ drop c.run_end-end.result c.args.entries.now))
          after c.run_end-end.ensures.behind c.run_end-end.ensures.within
          (c.run_end-end.ensures.run ∙ ap (λ (k : Key). filter (λ e. is_prefix k (key_at e)) c.args.entries.now)
          c.key-2.ensures) head.1 items refl place l (settled.1 l)
    ]
