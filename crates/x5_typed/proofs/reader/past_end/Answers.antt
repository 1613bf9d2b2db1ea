-- End-of-contents octets are two.
use Rattle.std.proofs.Common.{◌≤◌, ◌+◌, ℕ, ap, sym, ◌∙◌, length, arith}
use Rattle.std.specs.declared.option.Option.{Option}
use Rattle.x5_typed.specs.Places.{is_over_at}
use Rattle.x5_typed.proofs.Elements.{end_inside}
use Rattle.x5_typed.proofs.reader.past_end.Goals as goal

pub returns-in-None-clause-inside : goal.returns-in-None-clause-inside
returns-in-None-clause-inside c =
    let fits : c.args.place + 2 ≤ length c.args.bytes.now =
    end_inside c.args.bytes.now c.args.place (sym
    (ap (λ (o : Option ℕ). is_over_at c.args.bytes.now c.args.place o) c.in-None.is) ∙ c.requires.over) in
    (omega arith, fits)
