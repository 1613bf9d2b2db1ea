-- They are the members of the list.
use Rattle.std.proofs.Common.{refl, sym, subst}
use Rattle.x5_model_typed.specs.Named as named
use Rattle.x5_model_messages.specs.Terms.{rdn_of}
use Rattle.x5_direct.specs.Spelled.{Reads}
use Rattle.x5_dapreply.specs.Said.{rdns_in}
use Rattle.x5_dapreply.proofs.PartSpelling.{list_read}
use Rattle.x5_dapreply.proofs.direct_parts.rdns_of_content.Goals as goal

pub returns : goal.returns
returns c = λ octets rest opens.
    subst (λ l. Reads 3 named.Rdns rdns_in l octets rest) (sym c.from_vec.ensures)
    (list_read 2 named.Rdn named.Rdns rdn_of c.in_ok-rdns.rdns.items c.args.content.now octets rest (λ w. refl) opens
    c.in_ok-rdns.ensures)
