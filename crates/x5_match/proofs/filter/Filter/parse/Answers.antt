-- What is read is spelled so.
use Rattle.std.proofs.Common.{◌≡◌, Ok, rules}
use Rattle.x5_model_text.specs.Filters.{filter_of_text}
use Rattle.x5_model_text.proofs.FilterLaws.{read_is_spelled}
use Rattle.x5_match.specs.FilterView.{filter_view}
use Rattle.x5_match.proofs.filter.Filter.parse.Goals as goal

pub returns-then-is_empty-clause-spelled : goal.returns-then-is_empty-clause-spelled
returns-then-is_empty-clause-spelled c =
    let read : filter_of_text c.args.text.now ≡ Ok (filter_view c.in-Ok.filter) = search rules in
    read_is_spelled c.args.text.now (filter_view c.in-Ok.filter) read
