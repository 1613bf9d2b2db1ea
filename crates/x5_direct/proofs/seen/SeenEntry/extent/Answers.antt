-- Where the entry's own octets stand again they spell it.
use Rattle.std.proofs.Common.{◌≡◌, ℕ, List, ◌-◌, [], drop, length, refl, sym, subst, ap, ◌∙◌}
use Rattle.std.specs.declared.option.Option.TheVariants.{Some}
use Rattle.std.proofs.lemmas.Bool.Decides.{Decides-eqb}
use Rattle.std.proofs.lemmas.Slice.Eq.{strip_prefix_is}
use Rattle.x5_model.specs.Entries.{Named}
use Rattle.x5_model_messages.specs.Shadows.{entry_in}
use Rattle.x5_model_typed.specs.Named as named
use Rattle.x5_direct.specs.Spelled.{Reads}
use Rattle.x5_direct.proofs.Beginning.{spelled_again}
use Rattle.x5_direct.proofs.Spelling.{read_taken}
use Rattle.x5_direct.proofs.seen.SeenEntry.extent.Goals as goal

pub returns-clause-reads : goal.returns-clause-reads
returns-clause-reads c =
    let octets = c.args.octets.now in
    let rest = c.in-Some.rest.now in
    let spelled = c.as_slice-spelled.result.now in
    let own : Reads 7 named.Entry entry_in c.args.self.now spelled [] =
    subst (λ (e : Named). Reads 7 named.Entry entry_in e spelled []) c.self.view_is
    (subst (λ (l : List ℕ). Reads 7 named.Entry entry_in c.self.inside.entry l [])
    (sym (c.as_slice-spelled.ensures.value ∙ ap (λ v. v.items) c.deref.ensures)) c.self.invariant) in
    read_taken 7 named.Entry entry_in c.args.self.now octets rest (length octets - length rest) refl
    (spelled_again 7 named.Entry entry_in c.args.self.now spelled octets rest own
    (strip_prefix_is Decides-eqb octets spelled (Some c.in-Some.rest) c.in-Some.ensures.cases))
