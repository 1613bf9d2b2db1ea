-- The components are the answer's.
use Rattle.x5_ops.specs.AnswerViews.{info_view}
use Rattle.x5_dapreply.specs.ReplyViews.{told_source}
use Rattle.x5_dapreply.proofs.AnswerSpelling.{entry_made}
use Rattle.x5_dapreply.proofs.direct.entry_of.Goals as goal

pub returns : goal.returns
returns c =
    entry_made (info_view c.in_ok-entry.entry) (told_source c.in_ok-source.source) c.args.content.now
    c.in_ok-entry_octets.entry_octets.now c.in_ok-entry_octets.left.now c.in_ok-source_octets.source_octets.now
    c.in_ok-entry_octets.ensures.opens c.in_ok-source_octets.ensures c.in_ok-entry.ensures c.in_ok-source.ensures
