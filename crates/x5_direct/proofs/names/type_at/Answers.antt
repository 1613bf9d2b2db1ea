-- The five octets are an object identifier of the table.
use Rattle.std.proofs.Common.{◌≡◌, ◌∷◌, ℕ, List, drop, sym, ◌∙◌, subst}
use Rattle.x5_model_messages.specs.Terms as terms
use Rattle.x5_model.specs.Values as values
use Rattle.x5_model_typed.specs.Named as named
use Rattle.x5_direct.specs.Spelled.{Spelled}
use Rattle.x5_direct.proofs.Naming.{found_known, type_spelled}
use Rattle.x5_direct.proofs.names.type_at.Goals as goal

pub returns-clause-is : goal.returns-clause-is
returns-clause-is c =
    let k = c.in-Some.number in
    let octets = c.args.octets.now in
    let known = found_known k c.in-Some-new.kind (sym c.in-Some-new.is ∙ c.new.ensures) in
    let whole : octets ≡ 6 ∷ 3 ∷ 85 ∷ 4 ∷ k ∷ drop 5 octets =
    subst (λ (a : ℕ). octets ≡ 6 ∷ 3 ∷ 85 ∷ a ∷ k ∷ drop 5 octets) c.if-second-ne4.false c.in-Some.ensures.0 in
    subst (λ (a : ℕ). Spelled 0 named.AnyOid (terms.type_node (values.Known a)) octets (drop 5 octets)) (sym known.0)
    (subst (λ (l : List ℕ). Spelled 0 named.AnyOid (terms.type_node (values.Known k)) l (drop 5 octets)) (sym whole)
    (type_spelled k (drop 5 octets) c.in-Some.ensures.2))

pub returns-clause-known : goal.returns-clause-known
returns-clause-known c = (found_known c.in-Some.number c.in-Some-new.kind (sym c.in-Some-new.is ∙ c.new.ensures)).1
