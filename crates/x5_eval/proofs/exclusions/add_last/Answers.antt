-- The last RDN, if there is one.
use Rattle.std.proofs.Common.{[], ◌∷◌, ◌++◌, List, ap, sym, ◌∙◌}
use Rattle.std.specs.Option.{option_copied}
use Rattle.x5_model.specs.Values.{Rdn}
use Rattle.x5_eval.proofs.Adding.{no_more}
use Rattle.x5_eval.proofs.Excluding.{last_some, last_none}
use Rattle.x5_eval.proofs.exclusions.add_last.Goals as goal

pub returns-in_ok-push : goal.returns-in_ok-push
returns-in_ok-push c =
    c.in_ok-push.ensures.items
    ∙ ap (λ (l : List Rdn). c.args.rdns.now.items ++ l) (
    (λ i. c.in_ok-clone.ensures.cases i ∷ [])
    ∙ sym (last_some c.args.name.now c.in-Some.last.now (sym (ap option_copied c.in-Some.is) ∙ c.last.ensures)))

pub returns-in_default : goal.returns-in_default
returns-in_default c =
    no_more c.args.rdns.now.items _ (last_none c.args.name.now (sym (ap option_copied c.in_default.is) ∙ c.last.ensures))
