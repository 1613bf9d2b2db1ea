-- Where the known name's octets stand again they spell it.
use Rattle.std.proofs.Common.{◌-◌, drop, length, refl, sym, subst}
use Rattle.std.specs.declared.option.Option.TheVariants.{Some}
use Rattle.std.proofs.lemmas.Bool.Decides.{Decides-eqb}
use Rattle.std.proofs.lemmas.Slice.Eq.{strip_prefix_is}
use Rattle.x5_model.specs.Values as values
use Rattle.x5_model_messages.specs.Terms as terms
use Rattle.x5_model_typed.specs.Named as named
use Rattle.x5_direct.specs.Spelled.{Reads}
use Rattle.x5_direct.proofs.Beginning.{spelled_again}
use Rattle.x5_direct.proofs.Spelling.{read_taken}
use Rattle.x5_direct.proofs.names.name_like.Goals as goal

pub returns-clause-reads : goal.returns-clause-reads
returns-clause-reads c =
    let known = c.args.known.now in
    let spelled = c.args.spelled.now in
    let octets = c.args.octets.now in
    let rest = c.in-Some.rest.now in
    subst (λ (n : values.Name). Reads 3 named.Name terms.name_of n octets (drop (length octets - length rest) octets))
    (sym c.in_ok-clone.ensures.cases)
    (read_taken 3 named.Name terms.name_of known octets rest (length octets - length rest) refl
    (spelled_again 3 named.Name terms.name_of known spelled octets rest c.requires
    (strip_prefix_is Decides-eqb octets spelled (Some c.in-Some.rest) c.in-Some.ensures.cases)))
