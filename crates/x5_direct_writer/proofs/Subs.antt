-- What a list says of an entry below has its RDN, and that it comes from a shadow where it does, as its components.
use Rattle.std.proofs.Common.{◌≡◌, Bool, true, false, [], ◌∷◌, refl}
use Rattle.std.specs.Prelude.{not}
use Rattle.std.specs.declared.option.Option.TheVariants.{Some}
use Rattle.x5_model.specs.Answers.{Sub}
use Rattle.x5_model_messages.specs.Replies as replies
use Rattle.x5_model_messages.specs.Terms as terms
use Rattle.x5_model_messages.specs.Terms.{node_of}
use Rattle.x5_model_octets.specs.Elements as elements
use Rattle.x5_model_typed.specs.Layouts.{Surroundings, layout}
use Rattle.x5_model_typed.specs.Named as named
use Rattle.x5_model_typed.specs.Nodes.{Flag, Node}
use Rattle.x5_model_typed.specs.Written.{one_before, written}
use Rattle.x5_direct_writer.proofs.Infos.{flagged}
use Rattle.x5_direct_writer.proofs.Putting.{around}

sub_of : (w : Surroundings) (copy : Bool) (rdn : Node)
    → written (layout w) (layout w named.Sub) (node_of (rdn ∷ Flag (not copy) ∷ []))
    ≡ around 0 16 (one_before (written (layout w) (layout w named.Rdn) rdn) (flagged copy (Some elements.Nil)))
sub_of w true rdn = refl
sub_of w false rdn = refl

pub sub_is : (w : Surroundings) (s : Sub) → written (layout w) (layout w named.Sub) (replies.sub_node s)
    ≡ around 0 16 (one_before (written (layout w) (layout w named.Rdn) (terms.rdn_node s.rdn))
    (flagged s.copy (Some elements.Nil)))
sub_is w s = sub_of w s.copy (terms.rdn_node s.rdn)
