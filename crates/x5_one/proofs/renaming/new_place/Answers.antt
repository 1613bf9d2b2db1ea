-- The old key has its old place; another that is there is taken.
use Rattle.std.proofs.Common.{inl, refl, sym, ◌∙◌, subst, Ok}
use Rattle.x5_model.specs.Keys.{Key}
use Rattle.x5_model.specs.Values.{key_of}
use Rattle.x5_model.proofs.KeyLaws.{key_decides}
use Rattle.x5_model_tree.specs.Tree.{keys_of}
use Rattle.x5_one.specs.Places.{IsPlace}
use Rattle.x5_one.proofs.Moving.{other_name}
use Rattle.x5_one.proofs.renaming.new_place.Goals as goal

pub returns-then-is_same : goal.returns-then-is_same
returns-then-is_same c = inl (
  (key_decides (key_of c.args.name.now) (key_of c.args.object.now)).0 (sym c.is_same.ensures
      ∙ c.if-is_same.true),
  refl,
)

pub returns-in-Ok : goal.returns-in-Ok
returns-in-Ok c = (
  other_name (key_of c.args.name.now) (key_of c.args.object.now) (sym c.is_same.ensures ∙ c.if-is_same.false),
  (
    c.in-Ok.field-0,
    subst (λ (k : Key). IsPlace (keys_of c.args.entries.now) k (Ok c.in-Ok.field-0)) c.key.ensures
        c.in-Ok.ensures,
  ),
)
