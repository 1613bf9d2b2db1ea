-- What is kept of an entry: the number of the node just above, how far it stands below the prefix, and its own RDN.
use Rattle.std.specs.Prelude.{ℕ}
use Rattle.x5_model.specs.Values.{Rdn, last_rdn}
use Rattle.x5_model.specs.Entries.{Entry}
use Rattle.x5_dse.specs.declared.node.NodeId.{NodeId}
use Rattle.x5_dse.specs.declared.node.Own.{Own}
use Rattle.x5_dse.specs.declared.node.Own.TheVariants.{Last, Renamed}

pub record Slot : Type 0 where
  pub parent : NodeId
  pub depth : ℕ
  pub rdn : Rdn
  pub entry : Entry

-- the RDN that an entry was renamed to, or the last of the name that it was added with
abbrev pub own_rdn : Own → Rdn
own_rdn (Last name) = last_rdn name
own_rdn (Renamed rdn) = rdn
