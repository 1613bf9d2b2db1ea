-- What requests stand for.
use Rattle.std.specs.Prelude.{map}
use Rattle.x5_model.specs.Values as values
use Rattle.x5_model.specs.Assertions.{offered, assertion_of}
use Rattle.x5_model.specs.Requests as model
use Rattle.x5_syntax.specs.TypeView.{type_view}
use Rattle.x5_syntax.specs.ValueView.{value_view}
use Rattle.x5_match.specs.FilterView.{filter_view}
use Rattle.x5_ops.specs.declared.requests.Controls.{Controls}
use Rattle.x5_ops.specs.declared.requests.Subset.{Subset}
use Rattle.x5_ops.specs.declared.requests.Subset.TheVariants.{Base, One, Tree}
use Rattle.x5_ops.specs.declared.requests.Selection.{Selection}
use Rattle.x5_ops.specs.declared.requests.Selection.TheVariants.{All, Only}
use Rattle.x5_ops.specs.declared.requests.Attribute.{Attribute}
use Rattle.x5_ops.specs.declared.requests.Change.{Change}
use Rattle.x5_ops.specs.declared.requests.Change.TheVariants.{AddAttribute, RemoveAttribute, AddValues, RemoveValues}
use Rattle.x5_ops.specs.declared.requests.Body.{Body}
use Rattle.x5_ops.specs.declared.requests.Body.TheVariants as bodies
use Rattle.x5_ops.specs.declared.requests.Request.{Request}

abbrev pub controls_view : Controls → model.Controls
controls_view c = record { nocopy = c.nocopy; nochain = c.nochain; size = c.size }

abbrev pub subset_view : Subset → model.Subset
subset_view Base = model.Base
subset_view One = model.OneLevel
subset_view Tree = model.WholeSubtree

abbrev pub selection_view : Selection → model.Selection
selection_view All = model.All
selection_view (Only kinds) = model.Only (map type_view kinds)

-- an attribute that is offered: each value with its normal form for the type, where it has one
abbrev pub attribute_view : Attribute → model.Attribute
attribute_view a =
    record { kind = type_view a.kind; values = map (λ v. offered (type_view a.kind) (value_view v)) a.values }

abbrev pub change_view : Change → model.Change
change_view (AddAttribute a) = model.AddAttribute (attribute_view a)
change_view (RemoveAttribute kind) = model.RemoveAttribute (type_view kind)
change_view (AddValues a) = model.AddValues (attribute_view a)
change_view (RemoveValues a) = model.RemoveValues (attribute_view a)

abbrev pub body_view : Body → model.Body
body_view (bodies.Read object selection) = model.Read object (selection_view selection)
body_view (bodies.Compare object kind value) = model.Compare object (assertion_of (type_view kind) (value_view value))
body_view (bodies.List object) = model.ListBelow object
body_view (bodies.Search base subset filter selection) =
    model.Search base (subset_view subset) (filter_view filter) (selection_view selection)
body_view (bodies.Add object attributes) = model.AddEntry object (map attribute_view attributes)
body_view (bodies.Remove object) = model.RemoveEntry object
body_view (bodies.Modify object changes) = model.ModifyEntry object (map change_view changes)
body_view (bodies.ModifyDn object rdn drops) = model.ModifyDn object rdn drops

abbrev pub request_view : Request → model.Request
request_view r = record { controls = controls_view r.controls; body = body_view r.body }

-- the name that an operation is given
abbrev pub name_of : model.Body → values.Name
name_of (model.Read name selection) = name
name_of (model.Compare name assertion) = name
name_of (model.ListBelow name) = name
name_of (model.Search base subset filter selection) = base
name_of (model.AddEntry name attributes) = name
name_of (model.RemoveEntry name) = name
name_of (model.ModifyEntry name changes) = name
name_of (model.ModifyDn name rdn drops) = name
