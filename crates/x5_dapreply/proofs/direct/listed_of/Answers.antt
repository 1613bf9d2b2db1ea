-- The components are the answer's.
use Rattle.std.proofs.Common.{map}
use Rattle.x5_ops.specs.AnswerViews.{sub_view}
use Rattle.x5_dapreply.specs.ReplyViews.{told_outcome, told_source}
use Rattle.x5_dapreply.proofs.AnswerSpelling.{listed_made}
use Rattle.x5_dapreply.proofs.direct.listed_of.Goals as goal

pub returns : goal.returns
returns c =
    listed_made (map sub_view c.in_ok-subs.subs) (map told_source c.in_ok-sources.sources)
    (told_outcome c.in_ok-outcome.outcome) c.in_ok-qualified.qualified c.args.content.now
    c.in_ok-subs_octets.subs_octets.now c.in_ok-subs_octets.left.now
    c.in_ok-sources_octets.sources_octets.now c.in_ok-sources_octets.left.now c.in_ok-qualified.outcome_octets.now
    c.in_ok-subs_octets.ensures.opens c.in_ok-sources_octets.ensures.opens c.in_ok-qualified.ensures
    c.in_ok-subs.ensures c.in_ok-sources.ensures c.in_ok-outcome.ensures
