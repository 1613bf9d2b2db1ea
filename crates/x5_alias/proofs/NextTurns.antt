-- What a user makes of the reading of an alias, by the request with the alias dereferenced.
use Rattle.std.proofs.Common.{◌≡◌, refl, sym, ap, ◌∙◌}
use Rattle.std.specs.declared.option.Option.{Option}
use Rattle.std.specs.declared.option.Option.TheVariants.{None, Some}
use Rattle.x5_model.specs.Words.{in_option}
use Rattle.x5_model.specs.Values.{Name}
use Rattle.x5_model.specs.Requests.{Request}
use Rattle.x5_model.specs.Answers.{Answer, Answered}
use Rattle.x5_model_follow.specs.Alias.{alias_in, when_short, Again, First, turn}

-- the request that is asked again, by the name that is shown
abbrev put_by : Name → Request → Option Name → Option Request
put_by alias r shown = in_option None (λ v. when_short alias v r) shown

pub turn_of : (alias : Name) (r : Request) (shown : Option Name)
    → in_option First (λ v. in_option First Again (when_short alias v r)) shown
    ≡ in_option First Again (put_by alias r shown)
turn_of alias r None = refl
turn_of alias r (Some v) = refl

pub turn_by : (alias : Name) (r : Request) (a : Answer) (put : Option Request)
    → put ≡ put_by alias r (alias_in a) → in_option First Again put ≡ turn alias r (Answered a)
turn_by alias r a put e = ap (in_option First Again) e ∙ sym (turn_of alias r (alias_in a))
