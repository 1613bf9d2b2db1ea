-- A context to which entries are added behind all others (X.501, section 7: the directory information tree).
use Rattle.std.specs.Prelude.{◌≡◌, ◌++◌, List}
use Rattle.x5_model.specs.Entries.{Named}
use Rattle.x5_dse.specs.Linked.{entries_of}
use Rattle.x5_holdings.specs.State.{Kept, OnlyEntries}

pub record IsExtended (old : Kept) (more : List Named) (after : Kept) : Type 0 where
  pub entries : entries_of after.nodes.nodes ≡ entries_of old.nodes.nodes ++ more
  pub rest : OnlyEntries old after
