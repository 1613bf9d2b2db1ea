-- A selection says all attributes where it has no types, and else those.
use Rattle.std.proofs.Common.{◌≡◌, true, false, [], ◌∷◌, map, ap, refl, ◌∙◌}
use Rattle.x5_model.specs.Requests.{All, Only}
use Rattle.x5_model_messages.specs.Requests.{selection_in}
use Rattle.x5_model_messages.specs.Terms.{type_in}
use Rattle.x5_model_typed.specs.Nodes as nodes
use Rattle.x5_model_typed.specs.Nodes.{Node, is_vacant, parts, Many, More, Nil}
use Rattle.x5_dapber.proofs.Members.{as_one}

some_types : (t : Node) → is_vacant t ≡ false → selection_in (Many (More t Nil)) ≡ Only (map type_in (parts t))
some_types nodes.Vacant e = absurd (cc e)
some_types (nodes.Flag b) e = refl
some_types (nodes.Number k) e = refl
some_types (nodes.Oid arcs) e = refl
some_types (nodes.Bits b) e = refl
some_types (nodes.Octets o) e = refl
some_types (nodes.Text x) e = refl
some_types (nodes.Chosen tag m) e = refl
some_types (Many ns) e = refl

no_types : (t : Node) → is_vacant t ≡ true → selection_in (Many (More t Nil)) ≡ All
no_types nodes.Vacant e = refl
no_types (nodes.Flag b) e = absurd (cc e)
no_types (nodes.Number k) e = absurd (cc e)
no_types (nodes.Oid arcs) e = absurd (cc e)
no_types (nodes.Bits b) e = absurd (cc e)
no_types (nodes.Octets o) e = absurd (cc e)
no_types (nodes.Text x) e = absurd (cc e)
no_types (nodes.Chosen tag m) e = absurd (cc e)
no_types (Many ns) e = absurd (cc e)

pub only_selected : (n t : Node) → parts n ≡ t ∷ [] → is_vacant t ≡ false → selection_in n ≡ Only (map type_in (parts t))
only_selected n t e v = ap selection_in (as_one n t e) ∙ some_types t v

pub all_selected : (n t : Node) → parts n ≡ t ∷ [] → is_vacant t ≡ true → selection_in n ≡ All
all_selected n t e v = ap selection_in (as_one n t e) ∙ no_types t v
