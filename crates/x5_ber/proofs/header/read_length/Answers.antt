-- The length in the long form: the number that its octets give is the length, and the place behind them lies within the
-- end, by the lemma that reads this form where the first octet says how many follow.
use Rattle.std.proofs.Common.{ℕ, ◌+◌, ◌-◌, ◌≤◌, ◌++◌, take, drop, arith, ap, sym, ◌∙◌, length-append}
use Rattle.std.specs.declared.option.Option.TheVariants.{Some}
use Rattle.std.specs.declared.result.Result.TheVariants.{Ok}
use Rattle.x5_ber.proofs.Lengths.{long_length}
use Rattle.x5_ber.proofs.header.read_length.Goals as goal

pub returns : goal.returns
returns c =
    let fits : c.args.start + 1 + (c.in-Some.first - 128) ≤ c.args.end = omega (arith, c.in-Some.ensures.0) in (
      long_length (c.args.front.now ++ c.args.piece.now) c.args.end c.args.start c.in-Some.first (omega (arith, length-append c.args.front.now c.args.piece.now)) c.in-Some.ensures.1 (omega arith) (omega arith) fits
          ∙ ap (λ (n : ℕ). Ok (Some n, drop (c.args.start + 1 + (c.in-Some.first - 128)) (take c.args.end (c.args.front.now ++ c.args.piece.now)))) (sym c.read_number.ensures),
      omega arith,
      fits,
    )
