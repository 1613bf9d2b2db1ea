-- Refused as the one tree refuses it, or the entry is taken out at its place.
use Rattle.std.proofs.Common.{◌≡◌, true, false, Ok, Err, List, refl, sym, ap, ◌∙◌}
use Rattle.x5_model.specs.Entries.{Named}
use Rattle.x5_model.specs.Values.{key_of}
use Rattle.x5_model.specs.Answers.{UpdateProblem}
use Rattle.x5_model.specs.Problems.{affects_multiple_dsas, not_allowed_on_non_leaf}
use Rattle.x5_model_tree.specs.Apply.{remove}
use Rattle.x5_model_tree.specs.Tree.{has_below}
use Rattle.x5_one.specs.Making.{ground}
use Rattle.x5_one.proofs.Making.{absent_as, stopped_as, place_as, remove_missing, remove_above, remove_filled, remove_made}
use Rattle.x5_one.proofs.Moving.{nobody}
use Rattle.x5_one.proofs.updating.remove.Goals as goal

pub returns-in-Err : goal.returns-in-Err
returns-in-Err c pins above = (
  absent_as c.no_object.result c.deref-in-Err.result.now c.args.entries.now.items c.key-in-Err.result.now (key_of c.args.object.now) (remove (ground c.args.entries.now.items pins) c.args.object.now) c.deref-in-Err.ensures.value c.key-in-Err.ensures
      (remove_missing c.args.entries.now.items pins c.requires c.args.object.now c.in-Err.field-0
      (place_as c.deref.result.now c.args.entries.now.items c.key.result.now (key_of c.args.object.now) (Err c.in-Err.field-0) c.deref.ensures.value c.key.ensures c.in-Err.ensures))
      c.no_object.ensures,
  refl,
)

pub returns-then-above : goal.returns-then-above
returns-then-above c pins above = (
  stopped_as c.refused.result (Err (UpdateProblem affects_multiple_dsas)) (remove (ground c.args.entries.now.items pins) c.args.object.now)
      (remove_above c.args.entries.now.items pins c.requires c.args.object.now c.in-Ok.at nobody
      (place_as c.deref.result.now c.args.entries.now.items c.key.result.now (key_of c.args.object.now) (Ok c.in-Ok.at) c.deref.ensures.value c.key.ensures c.in-Ok.ensures) (above ∙ c.if-above.true))
      c.refused.ensures,
  refl,
)

pub returns-then-has_below : goal.returns-then-has_below
returns-then-has_below c pins above =
    let below : has_below c.args.entries.now.items (key_of c.args.object.now) ≡ true = (λ i. has_below (sym c.deref-2.ensures.value i) (sym c.key-2.ensures i)) ∙ sym c.has_below.ensures ∙ c.if-has_below.true in (
      stopped_as c.refused-then-has_below.result (Err (UpdateProblem not_allowed_on_non_leaf)) (remove (ground c.args.entries.now.items pins) c.args.object.now)
          (remove_filled c.args.entries.now.items pins c.requires c.args.object.now c.in-Ok.at nobody
          (place_as c.deref.result.now c.args.entries.now.items c.key.result.now (key_of c.args.object.now) (Ok c.in-Ok.at) c.deref.ensures.value c.key.ensures c.in-Ok.ensures) (above ∙ c.if-above.false) below)
          c.refused-then-has_below.ensures,
      refl,
    )

pub returns : goal.returns
returns c pins above =
    let below : has_below c.args.entries.now.items (key_of c.args.object.now) ≡ false = (λ i. has_below (sym c.deref-2.ensures.value i) (sym c.key-2.ensures i)) ∙ sym c.has_below.ensures ∙ c.if-has_below.false in
    remove_made c.args.entries.now.items pins c.requires c.args.object.now c.in-Ok.at nobody
    (place_as c.deref.result.now c.args.entries.now.items c.key.result.now (key_of c.args.object.now) (Ok c.in-Ok.at) c.deref.ensures.value c.key.ensures c.in-Ok.ensures) (above ∙ c.if-above.false) below
    ∙ ap (λ (es : List Named). Ok es) (sym c.remove-removed.ensures.by_index.2)
