-- The entry stands where its key stands among the keys.
use Rattle.std.proofs.Common.{◌≡◌, List, map, slice_get, sym, ap, ◌∙◌, Some, None}
use Rattle.std.specs.List.{position}
use Rattle.x5_model.specs.Entries.{Named}
use Rattle.x5_model.specs.Keys.{Key, same_key}
use Rattle.x5_model_tree.specs.Tree.{key_at}
use Rattle.x5_world_members.proofs.Placed.{item_got, placed, unplaced}
use Rattle.x5_world_members.proofs.entries.Entries.at.Goals as goal

pub returns-in-Some : goal.returns-in-Some
returns-in-Some c =
    let key = c.args.key.now in
    let there : position (same_key key) (map key_at c.args.self.now) ≡ Some c.in-Some.place =
    sym (ap (λ (ks : List Key). position (same_key key) ks) (c.self.invariant ∙ ap (map key_at) c.self.view_is))
    ∙ sym c.place.ensures
    ∙ c.in-Some.is in
    item_got c.as_slice.result.now c.in-Some.place c.get.result c.get.ensures.lookup
    ∙ ap (λ (es : List Named). slice_get es c.in-Some.place) (c.as_slice.ensures.value ∙ c.self.view_is)
    ∙ sym (placed (same_key key) key_at c.args.self.now c.in-Some.place there)

pub returns-in-None : goal.returns-in-None
returns-in-None c =
    let key = c.args.key.now in
    let there : position (same_key key) (map key_at c.args.self.now) ≡ None =
    sym (ap (λ (ks : List Key). position (same_key key) ks) (c.self.invariant ∙ ap (map key_at) c.self.view_is))
    ∙ sym c.place.ensures
    ∙ c.in-None.is in
    sym (unplaced (same_key key) key_at c.args.self.now there)
