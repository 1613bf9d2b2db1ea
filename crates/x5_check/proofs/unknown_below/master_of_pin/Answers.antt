-- The master of the first context with this prefix.
use Rattle.std.proofs.Common.{◌≡◌, ℕ, List, Some, None, subst, sym, ap, ◌∙◌}
use Rattle.std.specs.Prelude.{slice_get}
use Rattle.std.specs.Option.{option_map}
use Rattle.x5_model.specs.Keys.{same_key}
use Rattle.x5_model_tree.specs.Masters.{Mastered, mastered, pin_of}
use Rattle.x5_check.proofs.ByAgent.{master_found}
use Rattle.x5_check.proofs.Places.{place_of_next, place_find, place_none, place_there, item_got, item_lacking}
use Rattle.x5_check.proofs.unknown_below.master_of_pin.Goals as goal

pub returns-in-Some-get : goal.returns-in-Some-get
returns-in-Some-get c =
    let here = place_of_next (λ (m : Mastered). same_key (pin_of m) c.args.pin.now) (mastered c.args.known.now) (Some c.in-Some.place) c.in-Some.ensures in
    let there : slice_get (mastered c.args.known.now) c.in-Some.place ≡ Some c.in-Some-get.context.now =
    subst (λ (xs : List Mastered). slice_get xs c.in-Some.place ≡ Some c.in-Some-get.context.now) c.held.ensures (item_got c.held.result.now c.in-Some.place c.get.result c.in-Some-get.context c.get.ensures.lookup c.in-Some-get.is) in
    ap (λ (n : ℕ). Some n) c.master.ensures
    ∙ sym (master_found (mastered c.args.known.now) c.args.pin.now ∙ ap (option_map (λ (m : Mastered). m.master)) (place_find (λ (m : Mastered). same_key (pin_of m) c.args.pin.now) (mastered c.args.known.now) c.in-Some.place here ∙ there))

pub returns-in-None-get : goal.returns-in-None-get
returns-in-None-get c =
    let here = place_of_next (λ (m : Mastered). same_key (pin_of m) c.args.pin.now) (mastered c.args.known.now) (Some c.in-Some.place) c.in-Some.ensures in
    absurd (place_there (λ (m : Mastered). same_key (pin_of m) c.args.pin.now) (mastered c.args.known.now) c.in-Some.place here (subst (λ (xs : List Mastered). slice_get xs c.in-Some.place ≡ None) c.held.ensures (item_lacking c.held.result.now c.in-Some.place c.get.result c.get.ensures.lookup c.in-None-get.is)))

pub returns-in-None : goal.returns-in-None
returns-in-None c =
    let none = place_of_next (λ (m : Mastered). same_key (pin_of m) c.args.pin.now) (mastered c.args.known.now) None c.in-None.ensures in
    sym (master_found (mastered c.args.known.now) c.args.pin.now ∙ ap (option_map (λ (m : Mastered). m.master)) (place_none (λ (m : Mastered). same_key (pin_of m) c.args.pin.now) (mastered c.args.known.now) none))
