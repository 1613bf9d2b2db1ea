-- They are the members of the list.
use Rattle.std.proofs.Common.{◌≡◌, true, [], map, refl, sym, subst, rules}
use Rattle.x5_model_typed.specs.Named as named
use Rattle.x5_model_typed.specs.Nodes.{Many, Nil}
use Rattle.x5_model_messages.specs.Replies as replies
use Rattle.x5_direct.specs.Spelled.{Reads}
use Rattle.x5_dapreply.specs.ReplyViews.{told_reference}
use Rattle.x5_dapreply.specs.Said.{references_in}
use Rattle.x5_dapreply.proofs.PartSpelling.{list_read}
use Rattle.x5_dapreply.proofs.SetSpelling.{may_there}
use Rattle.x5_dapreply.proofs.direct_parts.references_if.Goals as goal

pub returns : goal.returns
returns c =
    let there : c.args.there ≡ true = search rules in
    may_there c.args.there 6 named.References references_in (Many Nil) (map told_reference c.from_vec.result)
    c.args.octets.now there
    (subst (λ l. Reads 6 named.References references_in (map told_reference l) c.args.octets.now [])
    (sym c.from_vec.ensures)
    (list_read 5 named.Reference named.References replies.reference_in
    (map told_reference c.in_ok-references.references.items) c.in_ok-content.content.now c.args.octets.now []
    (λ w. refl)
    c.in_ok-content.ensures c.in_ok-references.ensures))
