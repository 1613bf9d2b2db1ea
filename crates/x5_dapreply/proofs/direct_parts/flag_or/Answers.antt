-- No octets are a component that is missing.
use Rattle.std.proofs.Common.{List, ℕ, refl, sym, subst}
use Rattle.x5_model_typed.specs.Forms.{plain, or}
use Rattle.x5_model_typed.specs.Named as named
use Rattle.x5_model_typed.specs.Nodes.{Flag}
use Rattle.x5_model_messages.specs.Terms.{flag_in}
use Rattle.x5_dapreply.specs.Components.{ReadsLast}
use Rattle.x5_dapreply.proofs.LeafSpelling.{none_left}
use Rattle.x5_dapreply.proofs.SetSpelling.{last_missing, last_given}
use Rattle.x5_dapreply.proofs.direct_parts.flag_or.Goals as goal

pub returns-then-octets-eq0 : goal.returns-then-octets-eq0
returns-then-octets-eq0 c =
    subst (λ (o : List ℕ). ReadsLast 0 (or (Flag c.args.missing) (plain named.Boolean)) flag_in c.args.missing o)
    (sym (none_left c.args.octets.now c.if-octets-eq0.true))
    (last_missing 0 named.Boolean (Flag c.args.missing) flag_in c.args.missing refl)

pub returns : goal.returns
returns c =
    last_given 0 named.Boolean (Flag c.args.missing) flag_in c.in_ok-flag.flag c.args.octets.now c.in_ok-flag.ensures
