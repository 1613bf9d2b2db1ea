-- A context to which entries are added, one by one, each behind the one above it (X.501, section 7: the directory
-- information tree).
use Rattle.std.specs.Prelude.{◌≡◌, ◌⊎◌, ◌↔◌, Bool, true, ◌&&◌, List}
use Rattle.std.specs.List.{list_all}
use Rattle.x5_model.specs.Members.{In}
use Rattle.x5_model.specs.Words.{ascending, distinct}
use Rattle.x5_model.specs.Keys.{same_key}
use Rattle.x5_model.specs.Entries.{Named}
use Rattle.x5_model_tree.specs.World.{Context}
use Rattle.x5_model_tree.specs.Tree.{keys_of, named_below}
use Rattle.x5_model_tree.specs.Described.{is_kept, is_rooted}
use Rattle.x5_dse.specs.Linked.{entries_of}
use Rattle.x5_holdings.specs.State.{Kept, OnlyEntries}

-- what a described context has by itself: its entries from the prefix's on, each of which may be kept, and no
-- two with one name
abbrev pub is_whole : Context → Bool
is_whole c = is_rooted c c.entries && (list_all is_kept c.entries && distinct same_key (keys_of c.entries))

-- its entries are those of before and these, in the order of their keys; all else stays
pub record Grown (old : Kept) (more : List Named) (after : Kept) : Type 0 where
  pub order : ascending named_below (entries_of after.nodes.nodes) ≡ true
  pub members : (e : Named) → In e (entries_of after.nodes.nodes) ↔ (In e (entries_of old.nodes.nodes) ⊎ In e more)
  pub rest : OnlyEntries old after
