-- One entry at most has the key.
use Rattle.std.proofs.Common.{List, [], ◌∷◌, ◌++◌, Bor, sym, ap, ◌∙◌}
use Rattle.std.specs.Option.{option_copied}
use Rattle.x5_model.specs.Entries.{Named}
use Rattle.x5_one.specs.Scopes.{found_in}
use Rattle.x5_one.proofs.Scopes.{itself_there, itself_missing}
use Rattle.x5_one.proofs.asking.itself.Goals as goal

pub returns-in_default : goal.returns-in_default
returns-in_default c = ap found_in c.new-found.ensures.items
    ∙ itself_missing c.args.key.now c.args.entries.now (sym (ap option_copied c.in_default.is) ∙ c.entry_of.ensures)

pub returns : goal.returns
returns c =
    ap found_in (c.in_ok-push.ensures.items ∙ ap (λ (rs : List (Bor Named)). rs ++ c.in-Some.named ∷ []) c.new-found.ensures.items)
    ∙ itself_there c.args.key.now c.args.entries.now c.in-Some.named.now c.requires (sym (ap option_copied c.in-Some.is)
    ∙ c.entry_of.ensures)
