-- A type and its values, and nothing else, are the attribute.
use Rattle.std.proofs.Common.{◌≡◌, ◌-◌, ◌==◌, ℕ, true, false, List, drop, length, not, ◌&&◌, refl, ap, sym, subst, ◌∙◌}
use Rattle.std.specs.declared.option.Option.TheVariants.{Some}
use Rattle.x5_model.specs.Attributes.{value_below}
use Rattle.x5_model.specs.Entries.{Stored}
use Rattle.x5_model.specs.Values.{StoredValue}
use Rattle.x5_model.specs.Words.{ascending, is_empty}
use Rattle.x5_model.proofs.Lists.{and_true}
use Rattle.x5_model_typed.specs.Named as named
use Rattle.x5_direct.specs.Kept.{kept_in}
use Rattle.x5_direct.specs.Spelled.{Opens, Reads}
use Rattle.x5_direct.proofs.EntryParts.{attribute_reads}
use Rattle.x5_direct.proofs.Heads.{nothing, rest_here}
use Rattle.x5_direct.proofs.KeptValues.{something_left}
use Rattle.x5_direct.proofs.Spelling.{read_taken}
use Rattle.x5_direct.proofs.entries.stored_at.Goals as goal

some : (xs items : List StoredValue) → xs ≡ items → (length xs == 0) ≡ false → is_empty items ≡ false
some xs items e h = subst (λ (l : List StoredValue). is_empty l ≡ false) e (something_left xs h)

pub returns-clause-reads : goal.returns-clause-reads
returns-clause-reads c =
    let octets = c.args.octets.now in
    let content = c.in_ok-content.content.now in
    let rest = c.in_ok-content.rest.now in
    let members = c.in_ok-members.members.now in
    let end = c.in_ok-members.end.now in
    let kind = c.in_ok-kind.kind in
    let vs = c.in_ok-stored_values_in.field-0.items in
    let inner : Opens 49 members (drop 5 content) end =
    subst (λ (l : List ℕ). Opens 49 members l end) (rest_here content 5) c.in_ok-members.ensures.opens in
    subst (λ (l : List StoredValue). Reads 5 named.Attribute kept_in (Some (record { kind = kind; values = l })) octets
    (drop (length octets - length rest) octets)) (sym c.from_vec-values.ensures)
    (read_taken 5 named.Attribute kept_in (Some (record { kind = kind; values = vs })) octets rest
    (length octets - length rest) refl
    (attribute_reads kind vs content (drop 5 content) members end octets rest c.in_ok-content.ensures.opens
    c.in_ok-kind.ensures.is inner (nothing end (sym c.is_empty.ensures ∙ c.if-not-is_empty.false))
    c.in_ok-stored_values_in.ensures.are c.in_ok-kind.ensures.known c.in_ok-stored_values_in.ensures.fit
    c.in_ok-stored_values_in.ensures.ordered
    (some c.as_slice.result.now vs (c.as_slice.ensures ∙ c.from_vec-values.ensures)
    (sym c.is_empty-2.ensures ∙ c.if-is_empty.false))))

pub returns-clause-ordered : goal.returns-clause-ordered
returns-clause-ordered c =
    let vs = c.in_ok-stored_values_in.field-0.items in
    subst (λ (l : List StoredValue). (not (is_empty l) && ascending value_below l) ≡ true) (sym c.from_vec-values.ensures)
    (and_true (not (is_empty vs)) (ascending value_below vs)
    (ap not (some c.as_slice.result.now vs (c.as_slice.ensures ∙ c.from_vec-values.ensures)
    (sym c.is_empty-2.ensures ∙ c.if-is_empty.false)))
    c.in_ok-stored_values_in.ensures.ordered)
