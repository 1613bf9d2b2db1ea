-- Words that don't fit ask for nothing, and of others `clap` tells.
use Rattle.std.proofs.Common.{◌≡◌, true, map, string_bytes, sym, ◌∙◌}
use Rattle.std.specs.List.{list_all}
use Rattle.std.proofs.lemmas.List.Folds.{list_all-map}
use Rattle.clap.specs.Words.{app_of, kind_of, subcommand_rows_of}
use Rattle.x5_words.specs.Command.{is_fit}
use Rattle.x5_words.proofs.Reading.{is_simple_app, is_free_app, matches_read, error_read}
use Rattle.x5_words.proofs.Unfit.{none_asked}
use Rattle.x5_words.proofs.words.read_words.Goals as goal

pub returns-then-not-are_fit : goal.returns-then-not-are_fit
returns-then-not-are_fit c =
    sym (none_asked (map string_bytes c.args.words.now) (list_all-map is_fit string_bytes c.args.words.now
    ∙ sym c.if-not-are_fit.ensures))

pub returns-in-Ok : goal.returns-in-Ok
returns-in-Ok c =
    let fits : list_all is_fit (map string_bytes c.args.words.now)
    ≡ true = list_all-map is_fit string_bytes c.args.words.now ∙ sym c.if-not-are_fit.ensures in
    c.found.ensures
    ∙ matches_read (app_of c.in_ok-command.command) c.in_ok-command.ensures (map string_bytes c.args.words.now) fits
    (subcommand_rows_of c.in-Ok.matches)
    (c.in-Ok.ensures.kinds (is_free_app (app_of c.in_ok-command.command) c.in_ok-command.ensures))
    (c.in-Ok.ensures.matches (is_simple_app (app_of c.in_ok-command.command) c.in_ok-command.ensures)).1

pub returns : goal.returns
returns c =
    let fits : list_all is_fit (map string_bytes c.args.words.now)
    ≡ true = list_all-map is_fit string_bytes c.args.words.now ∙ sym c.if-not-are_fit.ensures in
    sym (error_read (app_of c.in_ok-command.command) c.in_ok-command.ensures (map string_bytes c.args.words.now) fits
    (kind_of c.in-Err.error)
    (sym c.ran_out.ensures ∙ c.if-ran_out.false)
    (c.in-Err.ensures.kinds (is_free_app (app_of c.in_ok-command.command) c.in_ok-command.ensures)))
