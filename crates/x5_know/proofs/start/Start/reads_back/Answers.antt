-- No other moment has the text.
use Rattle.std.proofs.Common.{◌≡◌, subst, sym}
use Rattle.std.specs.declared.option.Option.TheVariants.{Some}
use Rattle.x5_know.specs.Moments.{Start, moment_of, moment_text}
use Rattle.x5_know.proofs.Stamps.{reads_back}
use Rattle.x5_know.proofs.start.Start.reads_back.Goals as goal

pub returns : goal.returns
returns c = λ m few.
    subst (λ (s : Start). moment_of s (moment_text s m) ≡ Some m) c.self.view_is
    (reads_back c.self.inside.date c.self.inside.second m c.self.invariant.0 c.self.invariant.1 c.self.invariant.2 few)
