-- Slots of a SET's components.
use Rattle.std.proofs.Common.{◌≡◌, ◌<◌, ◌+◌, ◌&&◌, ◌||◌, ℕ, Bool, true, false, List, ◌∷◌}
use Rattle.std.proofs.Common.{length, drop, refl}
use Rattle.std.specs.declared.option.Option.{Option}
use Rattle.std.specs.declared.option.Option.TheVariants.{Some}
use Rattle.std.proofs.lemmas.List.{drop_more}
use Rattle.x5_model_typed.specs.Nodes as nodes
use Rattle.x5_model_typed.specs.Forms as forms
use Rattle.x5_model_typed.specs.Judged as judged
use Rattle.x5_typed.specs.StateView.{SlotIs}

pub one_filled : (taken missing : Bool) (i : ℕ) (cs more : List forms.Component) (c : forms.Component)
    (slots : List (Option nodes.Node)) → cs ≡ c ∷ more → SlotIs taken i slots
    → missing ≡ judged.may_be_missing c → judged.all_filled cs (drop i slots)
    ≡ ((taken || missing) && judged.all_filled more (drop (i + 1) slots))
one_filled true missing i cs more c slots e s m = rw (e, s.1) refl
one_filled false missing i cs more c slots e s m = rw (e, s, m) refl

pub one_given : (cs : List forms.Component) (i : ℕ) (slots : List (Option nodes.Node))
    (after : List (Option nodes.Node)) (n : nodes.Node) (d : forms.Component) → i < length cs → slots ≡ Some n ∷ after
    → judged.filled (drop i cs) slots ≡ n ∷ judged.filled (drop (i + 1) cs) after
one_given cs i slots after n d less e = rw (drop_more cs i d less, e) refl
