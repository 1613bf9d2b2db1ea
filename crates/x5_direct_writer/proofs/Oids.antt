-- What is written of a value that is an object identifier: its octets, where they aren't too many.
use Rattle.std.proofs.Common.{◌≡◌, ℕ, ◌-◌, Bool, true, false, ◌&&◌, List, [], ◌∷◌, ◌++◌, length, refl, ap, ◌∙◌}
use Rattle.std.proofs.Common.{arith, length-append}
use Rattle.std.specs.List.{find}
use Rattle.std.specs.Option.{is_some}
use Rattle.std.specs.Prelude.{if◌then◌else◌}
use Rattle.std.specs.declared.option.Option.TheVariants.{None, Some}
use Rattle.std.specs.declared.result.Result.TheVariants.{Ok, Err}
use Rattle.x5_model.specs.Normal.{is_oid}
use Rattle.x5_model.specs.Words.{in_option}
use Rattle.x5_model_octets.specs.Elements as elements
use Rattle.x5_model_octets.specs.Elements.{identifier, identifier_octets, shortest_length}
use Rattle.x5_model_typed.specs.Forms.{Alternative, Joined, Primitive, ruled, universal}
use Rattle.x5_model_typed.specs.Layouts.{Surroundings, layout, printable, sequence_of}
use Rattle.x5_model_typed.specs.Leaves.{is_numeric, is_seven_bit, octet_string, oid, oid_octets, short_oid}
use Rattle.x5_model_typed.specs.Leaves.{text_of, text_where, universal_string, where_so}
use Rattle.x5_model_typed.specs.Named as named
use Rattle.x5_model_typed.specs.Nodes.{Oid}
use Rattle.x5_model_typed.specs.Rules.{name_rule}
use Rattle.x5_model_typed.specs.Written.{can_hold, leaf_or, primitive_of, written}
use Rattle.x5_writer.specs.declared.fault.WriteFault.TheVariants.{Misfit}
use Rattle.x5_direct_writer.specs.PutsOf.{PutsOf}
use Rattle.x5_direct_writer.proofs.Putting.{primitive_put}

abbrev short : Alternative
short = universal 6 (Primitive (oid short_oid))

-- the alternatives behind it
abbrev behind : List Alternative
behind =
    universal 4 (Joined octet_string)
    ∷ ruled name_rule (sequence_of named.Rdn)
    ∷ printable
    ∷ universal 28 (Joined universal_string)
    ∷ universal 18 (Joined (text_where (text_of is_numeric)))
    ∷ universal 22 (Joined (text_where (text_of is_seven_bit)))
    ∷ []

-- it holds the value where this is one of not too many octets, and no other one does
holds : (arcs : List ℕ) (b : Bool) → is_oid arcs ≡ true → short_oid arcs ≡ b → can_hold (Oid arcs) short ≡ b
holds arcs b valid e =
    ap (λ (t : Bool). if is_some (where_so t (oid_octets arcs)) then true else false)
    (ap (λ (t : Bool). t && short_oid arcs) valid ∙ e)
    ∙ same b
  where
    same : (t : Bool) → (if is_some (where_so t (oid_octets arcs)) then true else false) ≡ t
    same true = refl
    same false = refl

value_is : (w : Surroundings) (arcs : List ℕ) → is_oid arcs ≡ true → short_oid arcs ≡ true
    → written (layout w) (layout w named.Value) (Oid arcs) ≡ Some (elements.Primitive 0 6 (oid_octets arcs))
value_is w arcs valid few =
    ap (λ (b : Bool). in_option None (λ (a : Alternative). leaf_or a (Oid arcs) None)
    (if b then Some short else find (can_hold (Oid arcs)) behind)) (holds arcs true valid few)
    ∙ ap (λ (b : Bool). in_option None (λ (octets : List ℕ). Some (primitive_of short octets))
    (where_so b (oid_octets arcs))) (ap (λ (t : Bool). t && short_oid arcs) valid ∙ few)

pub put_short : (arcs old mid new : List ℕ) (n : ℕ) → is_oid arcs ≡ true → short_oid arcs ≡ true
    → mid ≡ oid_octets arcs ++ old → n ≡ length mid - length old
    → new ≡ identifier_octets (identifier false 0 6) ++ (shortest_length n ++ mid)
    → PutsOf {Y = Unit {0}} named.Value (Oid arcs) old new (Ok tt)
put_short arcs old mid new n valid few put count header w =
    primitive_put 6 (written (layout w) (layout w named.Value) (Oid arcs)) (oid_octets arcs) old mid new n
    (value_is w arcs valid few) put (omega (arith, count, ap length put, length-append (oid_octets arcs) old)) header

pub none_long : (arcs old new : List ℕ) → is_oid arcs ≡ true → short_oid arcs ≡ false
    → PutsOf {Y = Unit {0}} named.Value (Oid arcs) old new (Err Misfit)
none_long arcs old new valid many w =
    ap (λ (b : Bool). in_option None (λ (a : Alternative). leaf_or a (Oid arcs) None)
    (if b then Some short else find (can_hold (Oid arcs)) behind)) (holds arcs false valid many)
