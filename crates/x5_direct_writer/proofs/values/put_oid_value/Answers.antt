-- The octets are those of the object identifier, where they aren't too many.
use Rattle.std.proofs.Common.{◌≡◌, ℕ, ◌-◌, true, List, ◌++◌, ap, ap₂, sym, subst, ◌∙◌}
use Rattle.x5_model.specs.Normal.{is_oid}
use Rattle.x5_model_typed.specs.Leaves.{oid_octets, short_oid}
use Rattle.x5_direct_writer.proofs.Oids.{none_long, put_short}
use Rattle.x5_direct_writer.proofs.values.put_oid_value.Goals as goal

pub returns-then-not-is_short : goal.returns-then-not-is_short
returns-then-not-is_short c =
    let same = c.arcs-arcs.ensures.same in
    none_long c.args.oid.now c.args.out.now c.args.out.now
    (subst (λ (l : List ℕ). is_oid l ≡ true) same c.arcs-arcs.ensures.valid)
    (ap short_oid (sym same) ∙ sym c.is_short.ensures ∙ c.if-not-is_short.true)

pub returns : goal.returns
returns c =
    let same = c.arcs-arcs.ensures.same in
    put_short c.args.oid.now c.args.out.now c.put_oid.new.out c.put_header.new.self c.saturating_sub.result
    (subst (λ (l : List ℕ). is_oid l ≡ true) same c.arcs-arcs.ensures.valid)
    (ap short_oid (sym same) ∙ sym c.is_short.ensures ∙ c.if-not-is_short.false)
    (c.in_ok-put_oid.ensures ∙ ap (λ (l : List ℕ). oid_octets l ++ c.args.out.now) same)
    (c.saturating_sub.ensures ∙ ap₂ (λ (a b : ℕ). a - b) c.len.ensures c.len-behind.ensures)
    c.in_ok-put_header.ensures
