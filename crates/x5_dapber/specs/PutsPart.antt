-- What is written of a value or of a component stands before the octets that were there, or there is nothing that can.
use Rattle.std.specs.Prelude.{List, ℕ, if◌then◌else◌}
use Rattle.std.specs.declared.option.Option.{Option}
use Rattle.std.specs.declared.option.Option.TheVariants.{Some}
use Rattle.std.specs.declared.result.Result.{Result}
use Rattle.x5_model.specs.Requests as model
use Rattle.x5_model_octets.specs.Elements as elements
use Rattle.x5_model_octets.specs.Elements.{Elements, canonical, canonical_all}
use Rattle.x5_model_typed.specs.Forms.{Component, Layout}
use Rattle.x5_model_typed.specs.Named as named
use Rattle.x5_model_typed.specs.Named.{Named, Operation}
use Rattle.x5_model_typed.specs.Nodes.{Node}
use Rattle.x5_model_typed.specs.Written.{is_default, one_before, tagged_with, written}
use Rattle.x5_types.specs.FormView.{table}
use Rattle.x5_writer.specs.Puts.{Puts}
use Rattle.x5_writer.specs.declared.fault.WriteFault.{WriteFault}

-- The element of a value of the type.
abbrev pub PutsValue : {Y : Type 0} → Named → Node → List ℕ → List ℕ → Result Y WriteFault → Type 0
PutsValue form n old new result = Puts canonical (written table (table form) n) old new result

-- The element of a component before those of the components behind it; where it has its default it's left out (X.690, 11.5).
abbrev pub part : Layout → Component → Node → Option Elements → Option Elements
part layout c n behind =
    if is_default c.presence n then behind
    else one_before (tagged_with c.tag (written layout (layout c.form) n)) behind

abbrev pub PutsPart : {Y : Type 0} → Component → Node → List ℕ → List ℕ → Result Y WriteFault → Type 0
PutsPart c n old new result = Puts canonical_all (part table c n (Some elements.Nil)) old new result

-- The operation that is asked for, whose argument a message has (X.519, section 7).
abbrev pub asked_by : model.Body → Operation
asked_by (model.Read name selection) = named.Read
asked_by (model.Compare name assertion) = named.Compare
asked_by (model.ListBelow name) = named.ListBelow
asked_by (model.Search base subset filter selection) = named.Search
asked_by (model.AddEntry name attributes) = named.AddEntry
asked_by (model.RemoveEntry name) = named.RemoveEntry
asked_by (model.ModifyEntry name changes) = named.ModifyEntry
asked_by (model.ModifyDn name rdn drops) = named.ModifyDn
