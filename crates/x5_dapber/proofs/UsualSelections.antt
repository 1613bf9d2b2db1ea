-- Types of the table, one behind the other in their tags, are a selection of them.
use Rattle.std.proofs.Common.{◌≡◌, ℕ, true, List, [], ◌∷◌, map, refl, ap, sym, subst, ◌∙◌, lit<, lit≤}
use Rattle.x5_model.specs.Requests.{Only}
use Rattle.x5_model.specs.Types.{is_known}
use Rattle.x5_model.specs.Values.{TypeRef, Known}
use Rattle.x5_model_messages.specs.Requests.{selection_in}
use Rattle.x5_model_messages.specs.Terms.{type_in, type_node}
use Rattle.x5_model_typed.specs.Forms.{Component, Default, at}
use Rattle.x5_model_typed.specs.Layouts.{optional, set, set_of}
use Rattle.x5_model_typed.specs.Named as named
use Rattle.x5_model_typed.specs.Nodes.{Node, Many, Vacant, row}
use Rattle.x5_model_typed.proofs.Laws.{list_row}
use Rattle.x5_direct.specs.Spelled.{Opens, ReadEach, Reads, Spelled, SpelledEach}
use Rattle.x5_direct.proofs.Spelling.{branch_spelled, each_in}
use Rattle.x5_dapber.specs.Direct.{SpelledInSet}
use Rattle.x5_dapber.proofs.Sets.{next_given, reads_higher, set_in, set_over}

pub type_read : (k : ℕ) (octets rest : List ℕ) → is_known k ≡ true
    → Spelled 0 named.AnyOid (type_node (Known k)) octets rest → Reads 0 named.AnyOid type_in (Known k) octets rest
type_read k octets rest known s = (type_node (Known k), s, rw known refl)

types_spelled : (ns : List Node) (members octets : List ℕ) → Opens 49 members octets []
    → SpelledEach 0 named.AnyOid ns members → Spelled 1 named.TypeList (Many (row ns)) octets []
types_spelled ns members octets o each =
    let n : Node = Many (row ns) in
    branch_spelled 0 named.TypeList 49 0 17 (set_of named.AnyOid) n n members octets [] o refl (λ w. refl)
    (each_in 0 named.AnyOid ns members each) refl

abbrev chosen : List Component
chosen = optional (at 1 named.TypeList) ∷ []

abbrev itself : Node → Node
itself n = n

pub selection_read : (ks : List TypeRef) (component list members octets : List ℕ) → Opens 49 component octets []
    → Opens 161 list component [] → Opens 49 members list [] → ReadEach 0 named.AnyOid type_in ks members
    → Reads 48 named.Selection selection_in (Only ks) octets []
selection_read ks component list members octets outer tag inner each =
    let ns = each.0 in
    let kinds : Node = Many (row ns) in
    let n : Node = Many (row (kinds ∷ [])) in
    let next = next_given 1 161 named.TypeList (Default Vacant) itself kinds list component [] (lit≤ tt) (lit< tt) tag
    (kinds, types_spelled ns members list inner each.1, refl) in
    let all : SpelledInSet 2 1 chosen (kinds ∷ []) component =
    subst (λ (m : Node). SpelledInSet 2 1 chosen (m ∷ []) component) (sym next.2)
    (next.1 2 [] [] (lit< tt) (set_over 2 2)) in
    reads_higher 3 48 named.Selection selection_in (Only ks) octets [] (lit≤ tt) (
      n,
      branch_spelled 2 named.Selection 49 0 17 (set chosen) n n component octets [] outer refl (λ w. refl)
          (set_in 2 1 chosen (kinds ∷ []) component all) refl,
      ap Only (each.2 ∙ ap (map type_in) (sym (list_row ns))),
    )
