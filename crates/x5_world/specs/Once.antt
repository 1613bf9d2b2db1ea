-- That something is within the limits of messages, or under way, has one proof at most; so it may be kept beside what
-- is under way.
use Rattle.std.specs.Prelude.{◌≡◌, ℕ, ◌-◌, List}
use Rattle.std.specs.Coded.{×_prop, Unit-prop, le_prop}
use Rattle.std.specs.declared.option.Option.{Option}
use Rattle.std.specs.declared.option.Option.TheVariants.{None, Some}
use Rattle.std.proofs.Props.{props}
use Rattle.x5_model.specs.Values.{Value, TextValue, OctetsValue, OidValue, NameOf, Rdn, Name}
use Rattle.x5_model.specs.Entries.{Named}
use Rattle.x5_model.specs.Filters.{Item, Equality, Substrings, GreaterOrEqual, LessOrEqual, Present, Approximate}
use Rattle.x5_model.specs.Filters.{Filter, Filters, Is, And, Or, Not, Nil, More, Assertion, SubstringItem}
use Rattle.x5_model.specs.Requests.{Selection, All, Only, Change, AddAttribute, RemoveAttribute, AddValues}
use Rattle.x5_model.specs.Requests.{RemoveValues}
use Rattle.x5_model.specs.Requests.{Attribute, Body, Read, Compare, ListBelow, Search, AddEntry, RemoveEntry}
use Rattle.x5_model.specs.Requests.{ModifyEntry}
use Rattle.x5_model.specs.Requests.{ModifyDn, Request}
use Rattle.x5_model.specs.References.{Chained, Progress, Start, Next, Done}
use Rattle.x5_model_run.specs.Holdings.{Holdings}
use Rattle.x5_model_run.specs.Journal.{Journal}
use Rattle.x5_model_refreshed.specs.Steps.{Step, Add, Remove, Modify, Rename}
use Rattle.x5_model_fitting.specs.Names.{RdnWithin, NameWithin}
use Rattle.x5_model_fitting.specs.Terms.{ValueWithin, PartWithin, AttributeWithin, AssertionWithin, SubstringsWithin}
use Rattle.x5_model_fitting.specs.Filters.{ItemWithin, FilterWithin, FiltersWithin}
use Rattle.x5_model_fitting.specs.Requests.{CountWithin, IfThere, SelectionWithin, ChangeWithin, BodyWithin}
use Rattle.x5_model_fitting.specs.Requests.{RequestWithin}
use Rattle.x5_model_fitting.specs.Chained.{ProgressWithin}
use Rattle.x5_model_limits.specs.Holding.{BoundedEntry, BoundedHoldings}
use Rattle.x5_model_limits.specs.Steps.{BoundedStep}
use Rattle.x5_model_limits.specs.Messages.{BoundedMessage}
use Rattle.x5_model_limits.specs.Doing.{BoundedJournal}
use Rattle.x5_world.specs.Logs.{Notes, Logs}
use Rattle.x5_world.specs.LogLimits.{BoundedNotes, BoundedLogs}
use Rattle.x5_world.specs.State.{Net}
use Rattle.x5_world.specs.Sent.{IsUnderWay}
use Rattle.x5_world.specs.declared.journal.Sent.{Sent}

-- ---- names, values and numbers

pub rdn_once : (r : Rdn) → IsProp (RdnWithin r)
rdn_once r = hlevel props

pub name_once : (n : Name) → IsProp (NameWithin n)
name_once n = hlevel (rdn_once, props)

pub value_once : (v : Value) → IsProp (ValueWithin v)
value_once (TextValue t) = hlevel props
value_once (OctetsValue octets) = hlevel props
value_once (OidValue arcs) = hlevel props
value_once (NameOf n) = hlevel props

pub count_once : (o : Option ℕ) → IsProp (IfThere CountWithin o)
count_once None = Unit-prop
count_once (Some n) = hlevel props

-- ---- requests

part_once : (v : Value) → IsProp (PartWithin v)
part_once (TextValue t) = hlevel props
part_once (OctetsValue octets) = hlevel
part_once (OidValue arcs) = hlevel
part_once (NameOf n) = hlevel

attribute_once : (a : Attribute) → IsProp (AttributeWithin a)
attribute_once a = hlevel (value_once, props)

assertion_once : (a : Assertion) → IsProp (AssertionWithin a)
assertion_once a = hlevel (value_once, props)

substrings_once : (s : SubstringItem) → IsProp (SubstringsWithin s)
substrings_once s = hlevel (part_once, props)

item_once : (i : Item) → IsProp (ItemWithin i)
item_once (Equality a) = assertion_once a
item_once (Substrings s) = substrings_once s
item_once (GreaterOrEqual a) = assertion_once a
item_once (LessOrEqual a) = assertion_once a
item_once (Present type) = hlevel props
item_once (Approximate a) = assertion_once a

mutual
  filter_once : (levels : ℕ) (f : Filter) → IsProp (FilterWithin levels f)
  filter_once levels (Is i) = ×_prop le_prop (item_once i)
  filter_once levels (And fs) = ×_prop le_prop (filters_once (levels - 1) fs)
  filter_once levels (Or fs) = ×_prop le_prop (filters_once (levels - 1) fs)
  filter_once levels (Not f) = ×_prop le_prop (filter_once (levels - 1) f)

  filters_once : (levels : ℕ) (fs : Filters) → IsProp (FiltersWithin levels fs)
  filters_once levels Nil = Unit-prop
  filters_once levels (More f fs) = ×_prop (filter_once levels f) (filters_once levels fs)

selection_once : (s : Selection) → IsProp (SelectionWithin s)
selection_once All = Unit-prop
selection_once (Only types) = hlevel props

change_once : (c : Change) → IsProp (ChangeWithin c)
change_once (AddAttribute a) = attribute_once a
change_once (RemoveAttribute type) = hlevel props
change_once (AddValues a) = attribute_once a
change_once (RemoveValues a) = attribute_once a

body_once : (b : Body) → IsProp (BodyWithin b)
body_once (Read name selection) = hlevel (name_once, selection_once)
body_once (Compare name assertion) = hlevel (name_once, assertion_once)
body_once (ListBelow name) = name_once name
body_once (Search base subset filter selection) = hlevel (name_once, filter_once, selection_once)
body_once (AddEntry name attributes) = hlevel (name_once, attribute_once)
body_once (RemoveEntry name) = name_once name
body_once (ModifyEntry name changes) = hlevel (name_once, change_once)
body_once (ModifyDn name rdn drops) = hlevel (name_once, rdn_once)

pub request_once : (r : Request) → IsProp (RequestWithin r)
request_once r = hlevel (count_once, body_once)

-- ---- what agents hold, and what they keep of changes

entry_once : (e : Named) → IsProp (BoundedEntry e)
entry_once e = hlevel (name_once, value_once, props)

pub holdings_once : (h : Holdings) → IsProp (BoundedHoldings h)
holdings_once h = hlevel (name_once, entry_once, count_once, props)

step_once : (s : Step) → IsProp (BoundedStep s)
step_once (Add e) = entry_once e
step_once (Remove name) = name_once name
step_once (Modify e) = entry_once e
step_once (Rename name e) = ×_prop (name_once name) (entry_once e)

notes_once : (o : Option Notes) → IsProp (IfThere BoundedNotes o)
notes_once None = Unit-prop
notes_once (Some n) = hlevel step_once

pub logs_once : (l : Logs) → IsProp (BoundedLogs l)
logs_once l = hlevel (step_once, notes_once)

-- ---- messages

progress_once : (p : Progress) → IsProp (ProgressWithin p)
progress_once Start = Unit-prop
progress_once (Next k) = ×_prop le_prop le_prop
progress_once Done = Unit-prop

pub message_once : (m : Chained) → IsProp (BoundedMessage m)
message_once m = hlevel (rdn_once, name_once, progress_once, request_once, props)

pub journal_once : (n : ℕ) (j : Journal) → IsProp (BoundedJournal n j)
journal_once n j = hlevel (message_once, props)

-- ---- what is under way

net_set : IsSet Net
net_set = hlevel props

pub under_way_once : (n now : Net) (first : ℕ) (m : Chained) (most : ℕ) (lines : List Sent) (accepted : List ℕ)
    → IsProp (IsUnderWay n now first m most lines accepted)
under_way_once n now first m most lines accepted =
    hlevel (net_set, holdings_once, logs_once, request_once, journal_once, props)
