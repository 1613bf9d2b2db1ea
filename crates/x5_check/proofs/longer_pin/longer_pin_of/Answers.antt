-- The first context whose prefix is longer, or there is none.
use Rattle.std.proofs.Common.{◌≡◌, ℕ, List, Option, Some, None, subst, ◌∙◌}
use Rattle.std.specs.Prelude.{slice_get}
use Rattle.x5_model_tree.specs.Masters.{Mastered, mastered}
use Rattle.x5_model_tree.specs.Consistent.{breach, NamePrinted}
use Rattle.x5_check.specs.Parts.{IsPlace, is_longer}
use Rattle.x5_check.proofs.Places.{place_told, none_told, place_there, item_got, item_lacking}
use Rattle.x5_check.proofs.longer_pin.longer_pin_of.Goals as goal

pub returns-in_default : goal.returns-in_default
returns-in_default c =
    none_told (is_longer c.args.context.now c.args.entry.now) (mastered c.args.known.now) (λ (p : Mastered). breach 3 (NamePrinted c.args.entry.now.name) (NamePrinted p.context.prefix)) (subst (λ (o : Option ℕ). IsPlace (is_longer c.args.context.now c.args.entry.now) (mastered c.args.known.now) o) c.in_default.is c.in_ok-place.ensures)

pub returns-in_default-get : goal.returns-in_default-get
returns-in_default-get c =
    absurd (place_there (is_longer c.args.context.now c.args.entry.now) (mastered c.args.known.now) c.in-Some.place (subst (λ (o : Option ℕ). IsPlace (is_longer c.args.context.now c.args.entry.now) (mastered c.args.known.now) o) c.in-Some.is c.in_ok-place.ensures) (subst (λ (xs : List Mastered). slice_get xs c.in-Some.place ≡ None) c.held.ensures (item_lacking c.held.result.now c.in-Some.place c.get.result c.get.ensures.lookup c.in_default-get.is)))

pub returns : goal.returns
returns c =
    let there : slice_get (mastered c.args.known.now) c.in-Some.place ≡ Some c.in-Some-get.longer.now =
    subst (λ (xs : List Mastered). slice_get xs c.in-Some.place ≡ Some c.in-Some-get.longer.now) c.held.ensures (item_got c.held.result.now c.in-Some.place c.get.result c.in-Some-get.longer c.get.ensures.lookup c.in-Some-get.is) in
    let entry : c.in_ok-clone.field-0 ≡ c.args.entry.now.name = c.in_ok-clone.ensures.cases ∙ (λ i. (c.entry.view_is i).name) in
    let pin : c.in_ok-clone-2.field-0 ≡ c.in-Some-get.longer.now.context.prefix = c.in_ok-clone-2.ensures.cases ∙ c.prefix.ensures in
    (λ i. Some (breach 3 (NamePrinted (entry i)) (NamePrinted (pin i))))
    ∙ place_told (is_longer c.args.context.now c.args.entry.now) (mastered c.args.known.now) (λ (p : Mastered). breach 3 (NamePrinted c.args.entry.now.name) (NamePrinted p.context.prefix)) c.in-Some.place c.in-Some-get.longer.now (subst (λ (o : Option ℕ). IsPlace (is_longer c.args.context.now c.args.entry.now) (mastered c.args.known.now) o) c.in-Some.is c.in_ok-place.ensures) there
