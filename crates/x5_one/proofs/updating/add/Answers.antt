-- Refused as the one tree refuses it, or the new entry is put at its place.
use Rattle.std.proofs.Common.{◌≡◌, ◌++◌, [], ◌∷◌, Ok, Err, List, map, refl, sym, ap, ◌∙◌}
use Rattle.x5_model.specs.Entries.{Named}
use Rattle.x5_model.specs.Keys.{parent}
use Rattle.x5_model.specs.Values.{Name, Rdn, key_of, last_rdn}
use Rattle.x5_model.specs.Attributes.{added_entry}
use Rattle.x5_model.specs.Answers.{UpdateProblem}
use Rattle.x5_model.specs.Problems.{entry_already_exists}
use Rattle.x5_model_tree.specs.Apply.{add}
use Rattle.x5_model_tree.proofs.Grown.{above_key}
use Rattle.x5_ops.specs.RequestViews.{attribute_view}
use Rattle.x5_one.specs.Making.{ground}
use Rattle.x5_one.proofs.Making.{absent_as, stopped_as, place_as, add_missing, add_there, add_made, added_is}
use Rattle.x5_one.proofs.Moving.{nobody}
use Rattle.x5_one.proofs.updating.add.Goals as goal

pub returns-in-Err : goal.returns-in-Err
returns-in-Err c pins there =
    let key : c.key.result.now ≡ parent (key_of c.args.object.now) = c.key.ensures ∙ ap (λ (n : Name). key_of n) c.in_ok-above.ensures ∙ above_key c.args.object.now in
    let again : c.key-in-Err.result.now ≡ parent (key_of c.args.object.now) = c.key-in-Err.ensures ∙ ap (λ (n : Name). key_of n) c.in_ok-above.ensures ∙ above_key c.args.object.now in (
      absent_as c.no_object.result c.deref-in-Err.result.now c.args.entries.now.items c.key-in-Err.result.now (parent (key_of c.args.object.now)) (add (ground c.args.entries.now.items pins) c.args.object.now (map attribute_view c.args.attributes.now))
          c.deref-in-Err.ensures.value again
          (add_missing c.args.entries.now.items pins c.requires.order c.args.object.now (map attribute_view c.args.attributes.now) c.in-Err.field-0
          (place_as c.deref.result.now c.args.entries.now.items c.key.result.now (parent (key_of c.args.object.now)) (Err c.in-Err.field-0) c.deref.ensures.value key c.in-Err.ensures))
          c.no_object.ensures,
      refl,
    )

pub returns-in-Ok-place_of : goal.returns-in-Ok-place_of
returns-in-Ok-place_of c pins there =
    let key : c.key.result.now ≡ parent (key_of c.args.object.now) = c.key.ensures ∙ ap (λ (n : Name). key_of n) c.in_ok-above.ensures ∙ above_key c.args.object.now in (
      stopped_as c.refused.result (Err (UpdateProblem entry_already_exists)) (add (ground c.args.entries.now.items pins) c.args.object.now (map attribute_view c.args.attributes.now))
          (add_there c.args.entries.now.items pins c.requires.order c.args.object.now (map attribute_view c.args.attributes.now) c.in-Ok.parent c.in-Ok-place_of.field-0 nobody
          (place_as c.deref.result.now c.args.entries.now.items c.key.result.now (parent (key_of c.args.object.now)) (Ok c.in-Ok.parent) c.deref.ensures.value key c.in-Ok.ensures)
          (place_as c.deref-2.result.now c.args.entries.now.items c.key-2.result.now (key_of c.args.object.now) (Ok c.in-Ok-place_of.field-0) c.deref-2.ensures.value c.key-2.ensures c.in-Ok-place_of.ensures))
          c.refused.ensures,
      refl,
    )

pub returns : goal.returns
returns c pins there =
    let key : c.key.result.now ≡ parent (key_of c.args.object.now) = c.key.ensures ∙ ap (λ (n : Name). key_of n) c.in_ok-above.ensures ∙ above_key c.args.object.now in
    let entry : c.in_ok-entry.entry ≡ added_entry (last_rdn c.args.object.now) (map attribute_view c.args.attributes.now) =
    added_is c.in_ok-rdn.rdn (map attribute_view c.args.attributes.now) c.in_ok-entry.entry c.requires.apart c.in_ok-entry.ensures ∙ ap (λ (r : Rdn). added_entry r (map attribute_view c.args.attributes.now)) c.in_ok-rdn.ensures in
    let name : c.in_ok-name.name ≡ c.index-named.result.now.name ++ last_rdn c.args.object.now ∷ [] = c.in_ok-name.ensures ∙ (λ i. (c.named.view_is i).name ++ c.in_ok-rdn.ensures i ∷ []) in
    add_made c.args.entries.now.items pins c.requires.order c.args.object.now (map attribute_view c.args.attributes.now) c.in-Ok.parent c.in-Err-place_of.place c.index-named.result.now (record { name = c.in_ok-name.name; entry = c.in_ok-entry.entry })
    c.requires.named there
    (place_as c.deref.result.now c.args.entries.now.items c.key.result.now (parent (key_of c.args.object.now)) (Ok c.in-Ok.parent) c.deref.ensures.value key c.in-Ok.ensures)
    (place_as c.deref-2.result.now c.args.entries.now.items c.key-2.result.now (key_of c.args.object.now) (Err c.in-Err-place_of.place) c.deref-2.ensures.value c.key-2.ensures c.in-Err-place_of.ensures)
    c.index-named.ensures (λ i. record { name = name i; entry = entry i })
    ∙ ap (λ (es : List Named). Ok es) (sym c.in_ok-put.ensures.ok)
