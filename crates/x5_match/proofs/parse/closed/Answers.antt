-- No bracket stands there.
use lib.Utf8.{encode}
use Rattle.x5_match.specs.FilterView.{filter_view}
use Rattle.x5_match.proofs.ParseLemmas.{not_closed}
use Rattle.x5_match.proofs.parse.closed.Goals as goal

pub returns-in-None-clause-read : goal.returns-in-None-clause-read
unfolding encode
returns-in-None-clause-read c = not_closed c.args.all (filter_view c.args.filter) c.args.text.now c.in-None.ensures.cases
