-- The members of the first component are entries, and those of the second sources.
use Rattle.x5_dapber.proofs.Members.{members_are}
use Rattle.x5_dapreply.specs.Sayable.{IsInfo, IsSource}
use Rattle.x5_dapreply.proofs.read_replies.found_in.Goals as goal

pub infos_in-requires : goal.infos_in-requires
infos_in-requires c = members_are IsInfo c.parts.result.now _ c.parts.ensures c.requires.0

pub sources_in-requires : goal.sources_in-requires
sources_in-requires c = members_are IsSource c.parts-2.result.now _ c.parts-2.ensures c.requires.1
