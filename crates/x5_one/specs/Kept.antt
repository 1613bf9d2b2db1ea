-- What is kept beside the entries and the contexts: the pins in order, each with the place of its context.
use Rattle.std.specs.Prelude.{◌≡◌}
use Rattle.x5_model.specs.Words.{sorted}
use Rattle.x5_one.specs.One.{One, tree_in}
use Rattle.x5_one.specs.Parts.{IsSound}
use Rattle.x5_one.specs.Rows.{row_below, rows_of}
use Rattle.x5_one.specs.declared.tree.OneTree.TheInside.{Inside}

abbrev pub view : Inside → One
view a = record { entries = a.entries.items; contexts = a.contexts.items }

abbrev pub Invariant : Inside → Type 0
Invariant a = IsSound (tree_in (view a)) × (a.pins.items ≡ sorted row_below (rows_of a.contexts.items))
