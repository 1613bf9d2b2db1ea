-- The known RDNs stand first, or nothing is read yet.
use Rattle.std.proofs.Common.{◌≡◌, ◌++◌, ap, sym, subst, ◌∙◌}
use Rattle.std.specs.declared.option.Option.TheVariants.{Some}
use Rattle.std.proofs.lemmas.Bool.Decides.{Decides-eqb}
use Rattle.std.proofs.lemmas.List.Elements.{same_from_all_zip}
use Rattle.std.proofs.lemmas.Slice.Eq.{strip_prefix_is}
use Rattle.x5_model_messages.specs.Terms as terms
use Rattle.x5_model_typed.specs.Named as named
use Rattle.x5_direct.specs.Spelled.{Ahead, BeginEach}
use Rattle.x5_direct.proofs.Beginning.{all_ahead}
use Rattle.x5_direct.proofs.names.begun.Goals as goal

pub returns : goal.returns
returns c =
    let octets = c.args.octets.now in
    subst (λ rdns. Ahead 2 named.Rdn terms.rdn_of octets rdns octets) (sym c.in_ok-rdns.ensures.items)
    (all_ahead 2 named.Rdn terms.rdn_of octets)

pub returns-then-not-is_empty : goal.returns-then-not-is_empty
returns-then-not-is_empty c =
    let above = c.args.above.now in
    let front = c.args.above_octets.now in
    let added = c.in_ok-extend_from_slice.ensures.items in
    let same : c.extend_from_slice.new.self.items ≡ above = added.1 ∙ ap (λ l. l ++ added.0) c.in_ok-rdns.ensures.items
    ∙ same_from_all_zip _ above added.0 added.2 (λ x y r. r) in (
      front,
      strip_prefix_is Decides-eqb c.args.octets.now front (Some c.in-Some.left) c.in-Some.ensures.cases,
      subst (λ rdns. BeginEach 2 named.Rdn terms.rdn_of rdns front) (sym same) c.requires,
    )
