-- Subcommand by subcommand, the command line is the one that is told.
use Rattle.std.proofs.Common.{◌∙◌, ap}
use Rattle.std.proofs.lemmas.Result.{IfOk-weaker}
use Rattle.clap.specs.Words.{App}
use Rattle.x5_words.specs.Command.{with_app, run_app, check_app, tree_app, gen_app, show_app}
use Rattle.x5_words.proofs.command.command.Goals as goal

pub returns : goal.returns
returns c =
    let one = c.in_ok-command.ensures ∙ ap (λ (a : App). with_app a run_app) c.bare.ensures in
    let two = c.in_ok-command-2.ensures ∙ ap (λ (a : App). with_app a check_app) one in
    let three = c.in_ok-command-3.ensures ∙ ap (λ (a : App). with_app a tree_app) two in
    let four = c.in_ok-command-4.ensures ∙ ap (λ (a : App). with_app a gen_app) three in
    IfOk-weaker c.with_one-2.result _ _ (λ w e. e ∙ ap (λ (a : App). with_app a show_app) four) c.with_one-2.ensures
