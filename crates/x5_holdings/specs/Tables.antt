-- What is kept beside the lists of what an agent holds: for each list its names by their keys.
use Rattle.std.specs.Prelude.{List, map}
use Rattle.x5_model.specs.Values.{key_of}
use Rattle.x5_ops.specs.declared.knowledge.Specific.{Specific}
use Rattle.x5_holdings.specs.Rows.{AreRowsOf}
use Rattle.x5_holdings.specs.Spots.{AreBelow}
use Rattle.x5_holdings.specs.State.{State, brought_references}
use Rattle.x5_holdings.specs.declared.tables.Tables.{Tables}

abbrev pub below_own : State → List (List Specific)
below_own s = map (λ c. c.subordinate) s.own

abbrev pub below_copies : State → List (List Specific)
below_copies s = map (λ c. brought_references c.refreshed) s.copies

pub record AreTables (s : State) (t : Tables) : Type 0 where
  pub own : AreRowsOf t.own (map (λ c. key_of c.prefix) s.own)
  pub copies : AreRowsOf t.copies (map (λ c. key_of c.prefix) s.copies)
  pub below_own : AreBelow t.below_own (below_own s)
  pub below_copies : AreBelow t.below_copies (below_copies s)
  pub root : AreRowsOf t.root (map (λ k. key_of k.pin) s.root)
  pub cross : AreRowsOf t.cross (map (λ k. key_of k.pin) s.cross)
