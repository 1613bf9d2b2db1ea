-- No octets stand behind the name.
use Rattle.std.proofs.Common.{List, ℕ, subst}
use Rattle.x5_model_typed.specs.Named as named
use Rattle.x5_model_messages.specs.Terms.{name_of}
use Rattle.x5_direct.specs.Spelled.{Reads}
use Rattle.x5_dapreply.proofs.LeafSpelling.{none_behind}
use Rattle.x5_dapreply.proofs.direct_parts.name_in.Goals as goal

pub returns : goal.returns
returns c =
    subst (λ (l : List ℕ). Reads 3 named.Name name_of c.in_ok-name.name c.args.octets.now l)
    (none_behind c.args.octets.now c.in_ok-name.taken c.if-taken-octets.false) c.in_ok-name.ensures.reads
