-- Requests within the limits of messages (X.511, sections 7, 9 to 11).
use Rattle.std.specs.Prelude.{ℕ, ◌<◌, ◌^◌}
use Rattle.std.specs.declared.option.Option.{Option}
use Rattle.std.specs.declared.option.Option.TheVariants.{None, Some}
use Rattle.x5_model.specs.Requests.{Selection, All, Only, Change, AddAttribute, RemoveAttribute}
use Rattle.x5_model.specs.Requests.{AddValues, RemoveValues}
use Rattle.x5_model.specs.Requests.{Controls, Body, Read, Compare, ListBelow, Search}
use Rattle.x5_model.specs.Requests.{AddEntry, RemoveEntry, ModifyEntry}
use Rattle.x5_model.specs.Requests.{ModifyDn, Request}
use Rattle.x5_model_fitting.specs.Names.{Each, RdnWithin, NameWithin}
use Rattle.x5_model_fitting.specs.Terms.{TypeWithin, AttributeWithin, AssertionWithin}
use Rattle.x5_model_fitting.specs.Filters.{FilterWithin, most_levels}

-- a number of four octets
abbrev pub CountWithin : ℕ → Type 0
CountWithin n = n < 2 ^ 32

abbrev pub IfThere : {X : Type 0} → (X → Type 0) → Option X → Type 0
IfThere P None = Unit {0}
IfThere P (Some x) = P x

abbrev pub SelectionWithin : Selection → Type 0
SelectionWithin All = Unit {0}
SelectionWithin (Only types) = Each TypeWithin types

abbrev pub ChangeWithin : Change → Type 0
ChangeWithin (AddAttribute a) = AttributeWithin a
ChangeWithin (RemoveAttribute type) = TypeWithin type
ChangeWithin (AddValues a) = AttributeWithin a
ChangeWithin (RemoveValues a) = AttributeWithin a

-- the size limit
abbrev pub ControlsWithin : Controls → Type 0
ControlsWithin c = IfThere CountWithin c.size

abbrev pub BodyWithin : Body → Type 0
BodyWithin (Read name selection) = NameWithin name × SelectionWithin selection
BodyWithin (Compare name assertion) = NameWithin name × AssertionWithin assertion
BodyWithin (ListBelow name) = NameWithin name
BodyWithin (Search base subset filter selection) =
    NameWithin base × FilterWithin most_levels filter × SelectionWithin selection
BodyWithin (AddEntry name attributes) = NameWithin name × Each AttributeWithin attributes
BodyWithin (RemoveEntry name) = NameWithin name
BodyWithin (ModifyEntry name changes) = NameWithin name × Each ChangeWithin changes
BodyWithin (ModifyDn name rdn drops) = NameWithin name × RdnWithin rdn

pub record RequestWithin (r : Request) : Type 0 where
  pub controls : ControlsWithin r.controls
  pub body : BodyWithin r.body
