-- A name and attributes in their order, and nothing else, are the entry.
use Rattle.std.proofs.Common.{◌≡◌, ◌-◌, ℕ, true, List, drop, length, refl, sym, ap, subst, ◌∙◌}
use Rattle.x5_model.specs.Entries.{Stored, Entry}
use Rattle.x5_model_messages.specs.Shadows.{entry_in}
use Rattle.x5_model_typed.specs.Named as named
use Rattle.x5_direct.specs.Spelled.{Opens, Reads}
use Rattle.x5_direct.proofs.EntryParts.{entry_reads}
use Rattle.x5_direct.proofs.Heads.{nothing, rest_here}
use Rattle.x5_direct.proofs.Spelling.{read_taken}
use Rattle.x5_direct.proofs.entries.entry_behind.Goals as goal

pub returns-clause-reads : goal.returns-clause-reads
returns-clause-reads c =
    let octets = c.args.octets.now in
    let content = c.in_ok-content.content.now in
    let rest = c.in_ok-content.rest.now in
    let members = c.in_ok-members.members.now in
    let end = c.in_ok-members.end.now in
    let name = c.in_ok-name.name in
    let attributes = c.in_ok-attributes.attributes in
    let behind = drop c.in_ok-name.named_by content in
    let inner : Opens 49 members behind end =
    subst (λ (l : List ℕ). Opens 49 members l end) (rest_here content c.in_ok-name.named_by) c.in_ok-members.ensures.opens in
    subst (λ (l : List Stored). Reads 7 named.Entry entry_in (record { name = name; entry = record { attributes = l } }) octets
    (drop (length octets - length rest) octets))
    (sym (ap (λ (e : Entry). e.attributes) c.in_ok-entry.ensures ∙ c.from_list.ensures))
    (read_taken 7 named.Entry entry_in (record { name = name; entry = record { attributes = attributes } }) octets rest
    (length octets - length rest) refl
    (entry_reads name attributes content behind members end octets rest c.in_ok-content.ensures.opens
    c.in_ok-name.ensures.reads inner (nothing end (sym c.is_empty.ensures ∙ c.if-not-is_empty.false))
    c.in_ok-attributes.ensures.are c.in_ok-attributes.ensures.ordered))
