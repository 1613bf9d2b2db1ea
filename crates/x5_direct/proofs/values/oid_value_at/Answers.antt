-- The five octets are an object identifier below 2.5.
use Rattle.std.proofs.Common.{◌≡◌, ◌∷◌, [], ℕ, List, drop, sym, ◌∙◌, subst}
use Rattle.x5_model.specs.Values.{OidValue}
use Rattle.x5_model_typed.specs.Named as named
use Rattle.x5_model_typed.specs.Rules as rules_of
use Rattle.x5_direct.specs.Spelled.{Reads}
use Rattle.x5_direct.proofs.Valuing.{oid_found, oid_value}
use Rattle.x5_direct.proofs.values.oid_value_at.Goals as goal

pub returns-in-Some-new-clause-reads : goal.returns-in-Some-new-clause-reads
returns-in-Some-new-clause-reads c =
    let f = c.in-Some.second in
    let k = c.in-Some.third in
    let octets = c.args.octets.now in
    let is : c.in-Some-new.oid ≡ 2 ∷ 5 ∷ f ∷ k ∷ [] =
    cc (
      oid_found c.in_ok-arcs.arcs.items c.in-Some-new.oid (sym c.in-Some-new.is ∙ c.new.ensures),
      c.in_ok-arcs.ensures.items,
      c.from.ensures,
      c.from-2.ensures,
    ) in
    subst (λ (v : List ℕ). Reads 3 named.Value rules_of.value_in (OidValue v) octets (drop 5 octets)) (sym is)
    (subst (λ (l : List ℕ). Reads 3 named.Value rules_of.value_in (OidValue (2 ∷ 5 ∷ f ∷ k ∷ [])) l (drop 5 octets))
    (sym c.in-Some.ensures.0) (oid_value f k (drop 5 octets) c.in-Some.ensures.1 c.in-Some.ensures.2))
