-- The members of the first component are entries below, and those of the second sources.
use Rattle.x5_dapber.proofs.Members.{members_are}
use Rattle.x5_dapreply.specs.Sayable.{IsSub, IsSource}
use Rattle.x5_dapreply.proofs.read_replies.listed_in.Goals as goal

pub subs_in-requires : goal.subs_in-requires
subs_in-requires c = members_are IsSub c.parts.result.now _ c.parts.ensures c.requires.0

pub sources_in-requires : goal.sources_in-requires
sources_in-requires c = members_are IsSource c.parts-2.result.now _ c.parts-2.ensures c.requires.1
