-- What a value stands for, and what reading one or its normal form gives.
use Rattle.std.specs.Prelude.{◌≡◌, Result, Ok, Err}
use Rattle.x5_model.specs.Values as model
use Rattle.x5_model.specs.Normal as normal
use Rattle.x5_syntax.specs.declared.escapes.EscapeFault.{EscapeFault}
use Rattle.x5_syntax.specs.declared.escapes.EscapeFault.TheVariants as escapes
use Rattle.x5_syntax.specs.declared.values.Value.{Value}
use Rattle.x5_syntax.specs.declared.values.Value.TheVariants as values
use Rattle.x5_syntax.specs.declared.values.SyntaxFault.{SyntaxFault}
use Rattle.x5_syntax.specs.declared.values.SyntaxFault.TheVariants.{WrongSyntax, TooLong, NoMemory}

abbrev pub value_view : Value → model.Value
value_view (values.Text t) = model.TextValue t
value_view (values.Octets bs) = model.OctetsValue bs
value_view (values.Oid arcs) = model.OidValue arcs
value_view (values.Name n) = model.NameOf n

abbrev pub syntax_fault : EscapeFault → SyntaxFault
syntax_fault (escapes.Bad place) = WrongSyntax
syntax_fault escapes.NoMemory = NoMemory

-- the fault is that of the value, unless memory ran out
abbrev pub IsValueFault : {Y : Type 0} → SyntaxFault → Result Y normal.ValueFault → Type 0
IsValueFault WrongSyntax read = read ≡ Err normal.WrongSyntax
IsValueFault (TooLong most) read = read ≡ Err (normal.TooLong most)
IsValueFault NoMemory read = Unit {0}

-- what a function returned, seen by `view`, is this, unless memory ran out
abbrev pub Gives : {X Y : Type 0} → (X → Y) → Result X SyntaxFault → Result Y normal.ValueFault → Type 0
Gives view (Ok x) read = read ≡ Ok (view x)
Gives view (Err fault) read = IsValueFault fault read
