-- The one tree by its parts, what always holds of it, and what a read or compare tells at an entry.
use Rattle.std.specs.Prelude.{Bool, true, false, List, map}
use Rattle.x5_model.specs.Members.{Once}
use Rattle.x5_model.specs.Entries.{Named}
use Rattle.x5_model.specs.Requests.{Body, Read, Compare, ListBelow, Search, AddEntry, RemoveEntry, ModifyEntry}
use Rattle.x5_model.specs.Requests.{ModifyDn}
use Rattle.x5_model_tree.specs.Tree.{Tree}
use Rattle.x5_model_tree.specs.Ask as model
use Rattle.x5_model_theory.specs.Knowledge.{Knowledge}
use Rattle.x5_model_theory.specs.Coherent.{Coherent}
use Rattle.x5_model_updates.specs.Standing.{IsTreeOf}
use Rattle.x5_one.specs.One.{Held, pin_in}

abbrev pub tree_of : List Named → List Held → Tree
tree_of entries contexts = record { entries = entries; pins = map pin_in contexts }

-- the tree is that of some coherent knowledge, as that of a consistent world is, and as it stays by updates; and no pin
-- stands twice
pub record IsSound (t : Tree) : Type 0 where
  pub knowledge : Knowledge
  pub coherent : Coherent knowledge
  pub tree : IsTreeOf knowledge t
  pub once : Once t.pins

abbrev pub read_told : Body → Named → model.Told
read_told (Read name selection) e = model.read (λ key. false) selection e
read_told (Compare name assertion) e = model.compare (λ key. false) assertion e
read_told (ListBelow name) e = model.Changes
read_told (Search base subset filter selection) e = model.Changes
read_told (AddEntry name attributes) e = model.Changes
read_told (RemoveEntry name) e = model.Changes
read_told (ModifyEntry name changes) e = model.Changes
read_told (ModifyDn name rdn drops) e = model.Changes
