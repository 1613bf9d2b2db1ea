-- What is written of a type of the table: its object identifier has one octet an arc.
use Rattle.std.proofs.Common.{◌≡◌, ℕ, ◌<◌, ◌^◌, Bool, true, false, ◌&&◌, ltb-true, List, [], ◌∷◌, ◌++◌, refl, ap, subst, ◌∙◌, arith}
use Rattle.std.specs.Prelude.{nat_lt, ◌==◌, if◌then◌else◌}
use Rattle.std.specs.declared.option.Option.{Option}
use Rattle.std.specs.declared.option.Option.TheVariants.{None, Some}
use Rattle.x5_model.proofs.Decide.{nat_same_decides}
use Rattle.x5_model.proofs.Lists.{of_all, of_find}
use Rattle.x5_model.specs.Types.{Row, in_row, is_known, row_of, table}
use Rattle.x5_model.specs.Values as values
use Rattle.x5_model_messages.specs.Terms as terms
use Rattle.x5_model_octets.specs.Elements as elements
use Rattle.x5_model_octets.specs.Elements.{canonical, groups}
use Rattle.x5_model_typed.specs.Layouts.{Surroundings, layout}
use Rattle.x5_model_typed.specs.Named as named
use Rattle.x5_model_typed.specs.Written.{can_hold, leaf_or, primitive_of, written}
use Rattle.x5_model_typed.specs.Forms.{Alternative, Primitive, universal}
use Rattle.x5_model_typed.specs.Leaves.{any_oid, oid, oid_octets, where_so}
use Rattle.x5_model_typed.specs.Nodes.{Oid}
use Rattle.x5_model.specs.Normal.{is_oid}
use Rattle.x5_model.specs.Words.{in_option}
use Rattle.std.specs.Option.{is_some}
use Rattle.std.specs.List.{list_all}
use Rattle.x5_direct_writer.specs.PutsOf.{PutsOf}
use Rattle.std.specs.declared.result.Result.TheVariants.{Ok}

-- what a test says of all numbers of the table it says of a known type's
of_known : (test : ℕ → Bool) → list_all (λ (r : Row). test r.number) table ≡ true → (k : ℕ) → is_known k ≡ true
    → test k ≡ true
of_known test all k h = by (row_of k) refl h
  where
    by : (o : Option Row) → row_of k ≡ o → in_row false (λ r. true) o ≡ true → test k ≡ true
    by None e i = absurd (cc i)
    by (Some r) e i =
        let w = of_find (λ (x : Row). x.number == k) r table e in
        subst (λ (m : ℕ). test m ≡ true) ((nat_same_decides r.number k).0 w.1)
        (of_all (λ (x : Row). test x.number) r table all w.0)

known_oid : (k : ℕ) → is_known k ≡ true → is_oid (2 ∷ 5 ∷ 4 ∷ k ∷ []) ≡ true
known_oid k h = ap (λ (b : Bool). b && true) (of_known (λ n. nat_lt n (2 ^ 32)) refl k h)

abbrev oid_alternative : Alternative
oid_alternative = universal 6 (Primitive (oid any_oid))

oid_is : (w : Surroundings) (arcs : List ℕ) → is_oid arcs ≡ true
    → written (layout w) (layout w named.AnyOid) (Oid arcs) ≡ Some (elements.Primitive 0 6 (oid_octets arcs))
oid_is w arcs h =
    let tested : (is_oid arcs && true) ≡ true = ap (λ (b : Bool). b && true) h in
    let held : can_hold (Oid arcs) oid_alternative ≡ true =
    ap (λ (b : Bool). if is_some (where_so b (oid_octets arcs)) then true else false) tested in
    ap (λ (b : Bool). in_option None (λ (a : Alternative). leaf_or a (Oid arcs) None)
    (if b then Some oid_alternative else None)) held
    ∙ ap (λ (b : Bool). in_option None (λ (octets : List ℕ). Some (primitive_of oid_alternative octets))
    (where_so b (oid_octets arcs))) tested

one_group : (k : ℕ) → k < 128 → groups k ≡ k ∷ []
one_group k h = grind (arith, h)

pub put_known : (k : ℕ) (old new : List ℕ) → is_known k ≡ true → new ≡ (6 ∷ 3 ∷ 85 ∷ 4 ∷ k ∷ []) ++ old
    → PutsOf {Y = Unit {0}} named.AnyOid (terms.type_node (values.Known k)) old new (Ok tt)
put_known k old new h is w =
    let content : oid_octets (2 ∷ 5 ∷ 4 ∷ k ∷ []) ≡ 85 ∷ 4 ∷ k ∷ [] =
    ap (λ (g : List ℕ). 85 ∷ 4 ∷ (g ++ [])) (one_group k (ltb-true k 128 (of_known (λ n. nat_lt n 128) refl k h))) in (
      elements.Primitive 0 6 (85 ∷ 4 ∷ k ∷ []),
      oid_is w (2 ∷ 5 ∷ 4 ∷ k ∷ []) (known_oid k h) ∙ ap (λ (l : List ℕ). Some (elements.Primitive 0 6 l)) content,
      is,
    )
