-- What the code's types stand for.
use Rattle.x5_model.specs.Types as model
use Rattle.x5_syntax.specs.declared.kinds.Kind.{Kind}
use Rattle.x5_syntax.specs.declared.kinds.Kind.TheVariants as kinds

abbrev pub kind_view : Kind → model.Kind
kind_view kinds.Text = model.TextKind
kind_view kinds.Printable = model.PrintableKind
kind_view kinds.Country = model.CountryKind
kind_view kinds.Numeric = model.NumericKind
kind_view kinds.Telephone = model.TelephoneKind
kind_view kinds.Oid = model.OidKind
kind_view kinds.Name = model.NameKind
kind_view kinds.Octets = model.OctetsKind
