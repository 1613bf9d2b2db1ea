-- What is written of a text that may be a PrintableString.
use Rattle.std.proofs.Common.{◌≡◌, ℕ, Bool, true, false, List, [], ◌∷◌, ap, ◌∙◌}
use Rattle.std.specs.List.{find}
use Rattle.std.specs.Option.{is_some}
use Rattle.std.specs.Prelude.{if◌then◌else◌}
use Rattle.std.specs.declared.option.Option.TheVariants.{None, Some}
use Rattle.x5_model.specs.Normal.{is_printable}
use Rattle.x5_model.specs.Words.{in_option}
use Rattle.x5_model_octets.specs.Elements as elements
use Rattle.x5_model_typed.specs.Forms.{Alternative, Joined, universal}
use Rattle.x5_model_typed.specs.Layouts.{Surroundings, layout, printable}
use Rattle.x5_model_typed.specs.Leaves.{is_numeric, is_seven_bit, text_of, text_where, universal_string, where_so}
use Rattle.x5_model_typed.specs.Named as named
use Rattle.x5_model_typed.specs.Nodes.{Text}
use Rattle.x5_model_typed.specs.Written.{can_hold, leaf_or, primitive_of, written}

-- the alternatives behind PrintableString
abbrev behind : List Alternative
behind =
    universal 28 (Joined universal_string)
    ∷ universal 18 (Joined (text_where (text_of is_numeric)))
    ∷ universal 22 (Joined (text_where (text_of is_seven_bit)))
    ∷ []

pub text_is : (w : Surroundings) (t : List ℕ) → text_of is_printable t ≡ true
    → written (layout w) (layout w named.Value) (Text t) ≡ Some (elements.Primitive 0 19 t)
text_is w t h =
    let held : can_hold (Text t) printable ≡ true =
    ap (λ (b : Bool). if is_some (where_so b t) then true else false) h in
    ap (λ (b : Bool). in_option None (λ (a : Alternative). leaf_or a (Text t) None)
    (if b then Some printable else find (can_hold (Text t)) behind)) held
    ∙ ap (λ (b : Bool). in_option None (λ (octets : List ℕ). Some (primitive_of printable octets)) (where_so b t)) h
