-- What is written of a total refresh, part by part.
use Rattle.std.specs.Prelude.{◌≡◌, ℕ, List, [], ◌∷◌, map}
use Rattle.std.specs.declared.option.Option.{Option}
use Rattle.std.specs.declared.option.Option.TheVariants.{None, Some}
use Rattle.std.specs.declared.result.Result.{Result}
use Rattle.std.specs.declared.result.Result.TheVariants.{Ok, Err}
use Rattle.x5_model.specs.Entries as model
use Rattle.x5_model.specs.Values.{Text}
use Rattle.x5_model_messages.specs.Shadows as shadows
use Rattle.x5_model_messages.specs.Terms.{node_of}
use Rattle.x5_model_typed.specs.Layouts.{Surroundings, layout}
use Rattle.x5_model_typed.specs.Named as named
use Rattle.x5_model_typed.specs.Nodes.{Node, Chosen, whole}
use Rattle.x5_model_typed.specs.Written.{canonical_octets}
use Rattle.x5_ops.specs.declared.knowledge.Content.{Content}
use Rattle.x5_writer.specs.declared.fault.WriteFault.{WriteFault}
use Rattle.x5_writer.specs.declared.fault.WriteFault.TheVariants.{Misfit, NoMemory}
use Rattle.x5_dispber.specs.ShadowViews.{told_known, told_other}

abbrev pub total_node : List Text → Content → Node
total_node names c =
    node_of (node_of (map shadows.entry_node c.entries) ∷ node_of (map shadows.known_node (map (told_known names) c.specific))
    ∷ node_of (map shadows.non_specific_node (map (told_other names) c.nssr)) ∷ [])

abbrev pub sent_total : List Text → ℕ → ℕ → Content → Node
sent_total names agreement stamp c = node_of (whole agreement ∷ whole stamp ∷ Chosen 0 (total_node names c) ∷ [])

-- The canonical octets (X.690, section 10) of entries as a total refresh brings them (X.525, section 10), or that they have none.
abbrev pub entries_octets : Surroundings → List model.Named → Option (List ℕ)
entries_octets w es = canonical_octets (layout w) named.Entries (node_of (map shadows.entry_node es))

-- The octets of a value, put before none, or that it has none.
abbrev pub PutsAlone : Option (List ℕ) → Result (List ℕ) WriteFault → Type 0
PutsAlone o (Ok octets) = o ≡ Some octets
PutsAlone o (Err Misfit) = o ≡ None
PutsAlone o (Err NoMemory) = Unit {0}

-- The octets are theirs, in all surroundings.
abbrev pub AreOctetsOf : List model.Named → List ℕ → Type 0
AreOctetsOf es octets = (w : Surroundings) → entries_octets w es ≡ Some octets
