-- Refused as the one tree refuses it, or the entry is put in its own place.
use Rattle.std.proofs.Common.{Ok, Err, map, refl, sym, ◌∙◌}
use Rattle.x5_model.specs.Values.{key_of}
use Rattle.x5_model.specs.Changes.{modified}
use Rattle.x5_model_tree.specs.Apply.{modify}
use Rattle.x5_ops.specs.RequestViews.{change_view}
use Rattle.x5_one.specs.Making.{ground}
use Rattle.x5_one.proofs.Making.{absent_as, refused_as, place_as, modify_missing, modify_refused, modify_made}
use Rattle.x5_one.proofs.updating.modify.Goals as goal

pub returns-in-Err : goal.returns-in-Err
returns-in-Err c pins = (
  absent_as c.no_object.result c.deref-in-Err.result.now c.args.entries.now.items c.key-in-Err.result.now (key_of c.args.object.now) (modify (ground c.args.entries.now.items pins) c.args.object.now (map change_view c.args.changes.now)) c.deref-in-Err.ensures.value c.key-in-Err.ensures
      (modify_missing c.args.entries.now.items pins c.requires c.args.object.now (map change_view c.args.changes.now) c.in-Err.field-0
      (place_as c.deref.result.now c.args.entries.now.items c.key.result.now (key_of c.args.object.now) (Err c.in-Err.field-0) c.deref.ensures.value c.key.ensures c.in-Err.ensures))
      c.no_object.ensures,
  refl,
)

pub returns-in-Err-change : goal.returns-in-Err-change
returns-in-Err-change c pins = (
  refused_as c.in-Err-change.fault (modified c.in_ok-rdn.rdn (map change_view c.args.changes.now) c.named.inside.entry) (modify (ground c.args.entries.now.items pins) c.args.object.now (map change_view c.args.changes.now))
      (λ x m. modify_refused c.args.entries.now.items pins c.requires c.args.object.now (map change_view c.args.changes.now) c.in-Ok.at c.index-named.result.now x
      (place_as c.deref.result.now c.args.entries.now.items c.key.result.now (key_of c.args.object.now) (Ok c.in-Ok.at) c.deref.ensures.value c.key.ensures c.in-Ok.ensures)
      c.index-named.ensures ((λ i. modified (sym c.in_ok-rdn.ensures i) (map change_view c.args.changes.now) (sym c.named.view_is i).entry) ∙ m))
      c.in-Err-change.ensures,
  refl,
)

pub returns : goal.returns
returns c pins =
    modify_made c.args.entries.now.items pins c.requires c.args.object.now (map change_view c.args.changes.now) c.in-Ok.at c.index-named.result.now c.in_ok-entries.field-0 c.in-Ok-change.entry
    (place_as c.deref.result.now c.args.entries.now.items c.key.result.now (key_of c.args.object.now) (Ok c.in-Ok.at) c.deref.ensures.value c.key.ensures c.in-Ok.ensures)
    c.index-named.ensures ((λ i. modified (sym c.in_ok-rdn.ensures i) (map change_view c.args.changes.now) (sym c.named.view_is i).entry) ∙ c.in-Ok-change.ensures) c.in_ok-entries.ensures
