-- The octets are values, whose lines are put from place 0 on at level 0 into an empty text, which is then those lines.
use Rattle.std.proofs.Common.{ℕ, ◌++◌, List, arith, sym, ap, subst, ◌∙◌}
use Rattle.x5_show.specs.Show.{LinesAll}
use Rattle.x5_show.proofs.Printing.{whole_stands}
use Rattle.x5_show.proofs.print.elements.Goals as goal

pub returns : goal.returns
returns c =
    let put = c.in_ok-put_members.ensures c.requires.0 c.args.bytes.now c.requires.1 (whole_stands c.args.bytes.now) (omega arith) in
    record {
      values = c.requires.0;
      spelled = c.requires.1;
      lines = subst (λ (l : List ℕ). LinesAll 0 0 c.requires.0 c.args.bytes.now l) (sym (put.2 ∙ ap (λ (l : List ℕ). l ++ put.0) c.new-out.ensures.bytes)) put.1;
    }
