-- No octets are no moment, and others are its number.
use Rattle.std.proofs.Common.{List, [], ℕ, refl, sym, subst, arith}
use Rattle.std.specs.declared.option.Option.{Option}
use Rattle.std.specs.declared.option.Option.TheVariants.{None, Some}
use Rattle.x5_model_typed.specs.Forms.{plain}
use Rattle.x5_model_typed.specs.Layouts.{optional}
use Rattle.x5_model_typed.specs.Named as named
use Rattle.x5_model_typed.specs.Nodes.{Vacant}
use Rattle.x5_model_messages.specs.Terms.{number_in}
use Rattle.x5_dapreply.specs.Components.{ReadsLast}
use Rattle.x5_dapreply.proofs.LeafSpelling.{none_left, count_read}
use Rattle.x5_dapreply.proofs.SetSpelling.{last_missing, last_given}
use Rattle.x5_dapreply.proofs.direct_parts.moment_in.Goals as goal

pub returns-then-octets-eq0 : goal.returns-then-octets-eq0
returns-then-octets-eq0 c =
    let no : Option ℕ = None in
    subst (λ (o : List ℕ). ReadsLast 0 (optional (plain (named.NumberBelow 0 4294967295))) number_in no o)
    (sym (none_left c.args.octets.now c.if-octets-eq0.true))
    (last_missing 0 (named.NumberBelow 0 4294967295) Vacant number_in no refl)

pub returns-in-Some : goal.returns-in-Some
returns-in-Some c =
    last_given 0 (named.NumberBelow 0 4294967295) Vacant number_in (Some c.in-Some.seconds) c.args.octets.now
    (count_read c.in-Some.seconds c.in_ok-whole.field-0.now c.args.octets.now [] c.in_ok-whole.ensures c.in-Some.ensures
    (omega arith))
