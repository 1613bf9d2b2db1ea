-- The line feed cuts the octets, or there is none.
use Rattle.std.proofs.Common.{sym, ◌∙◌}
use Rattle.x5_model_script.proofs.ScriptLaws.{first_line_cut, behind_line_cut, first_line_whole, behind_line_whole}
use Rattle.x5_script.proofs.script.first_line.Goals as goal

pub returns-in-Some-clause-line : goal.returns-in-Some-clause-line
returns-in-Some-clause-line c = first_line_cut c.args.octets.now c.in-Some.end (sym c.line_end.ensures ∙ c.in-Some.is)

pub returns-in-Some-clause-behind : goal.returns-in-Some-clause-behind
returns-in-Some-clause-behind c = behind_line_cut c.args.octets.now c.in-Some.end (sym c.line_end.ensures ∙ c.in-Some.is)

pub returns-in-None-clause-line : goal.returns-in-None-clause-line
returns-in-None-clause-line c = first_line_whole c.args.octets.now (sym c.line_end.ensures ∙ c.in-None.is)

pub returns-in-None-clause-behind : goal.returns-in-None-clause-behind
returns-in-None-clause-behind c = behind_line_whole c.args.octets.now (sym c.line_end.ensures ∙ c.in-None.is)
