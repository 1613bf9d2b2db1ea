-- The text is what the definitions print.
use Rattle.std.proofs.Common.{◌∙◌}
use Rattle.x5_model_tree.specs.World.{names_of_agents}
use Rattle.x5_report.proofs.Blocks.{block_is, in_world}
use Rattle.x5_report.proofs.report.block.Goals as goal

pub returns-clause-named : goal.returns-clause-named
returns-clause-named c =
    λ names h. block_is names c.args.start.now c.args.line c.args.journal.now c.args.outcome.now c.from_string.result (c.from_string.ensures ∙ c.in_ok-text.ensures) h

pub returns-clause-in_world : goal.returns-clause-in_world
returns-clause-in_world c =
    λ w h. in_world w c.args.start.now c.args.line c.args.journal.now c.args.outcome.now c.from_string.result
    (block_is (names_of_agents w) c.args.start.now c.args.line c.args.journal.now c.args.outcome.now c.from_string.result (c.from_string.ensures ∙ c.in_ok-text.ensures) h)
