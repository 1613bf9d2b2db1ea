-- Requests within the limits fit, and are as they are spelled.
use Rattle.std.proofs.Common.{◌≡◌, ℕ, ◌<◌, ◌^◌, false, List, [], ◌∷◌, map, refl, arith}
use Rattle.std.specs.Prelude.{pos}
use Rattle.std.specs.declared.option.Option.{Option}
use Rattle.std.specs.declared.option.Option.TheVariants.{None, Some}
use Rattle.x5_model.specs.Members.{here, there}
use Rattle.x5_model.specs.Types.{is_type}
use Rattle.x5_model.specs.Values.{TypeRef}
use Rattle.x5_model.specs.Requests.{Subset, Base, OneLevel, WholeSubtree, Selection, All, Only, Change, AddAttribute, RemoveAttribute, AddValues, RemoveValues, Controls, Body, Read, Compare, ListBelow, Search, AddEntry, RemoveEntry, ModifyEntry, ModifyDn, Request}
use Rattle.x5_model.proofs.Lists.{all_in}
use Rattle.x5_model_run.specs.Journal.{operation_of}
use Rattle.x5_model_typed.specs.Nodes.{Node, Vacant, Flag, Nil, More, whole}
use Rattle.x5_model_typed.specs.Named as named
use Rattle.x5_model_typed.specs.Forms.{Explicit, choice, code}
use Rattle.x5_model_typed.specs.Leaves.{options_node}
use Rattle.x5_model_typed.specs.Typed as typed
use Rattle.x5_model_typed.specs.Typed.{required, default}
use Rattle.x5_model_typed.specs.Layouts as layouts
use Rattle.x5_model_typed.specs.Layouts.{Surroundings, layout, named_by, operation_codes}
use Rattle.x5_model_typed_laws.specs.Fits as fits
use Rattle.x5_model_typed_laws.specs.Fits.{Fits, FitsSequence, FitsSet}
use Rattle.x5_model_messages.specs.Terms.{node_of, type_node, change_node}
use Rattle.x5_model_messages.specs.Requests.{size_node, controls_node, subset_number, selection_node, argument_node}
use Rattle.x5_model_messages.specs.Laws.{IsChange, AreChanges, IsSelection, IsBody}
use Rattle.x5_model_fitting.specs.Names.{Each}
use Rattle.x5_model_fitting.specs.Filters.{most_levels}
use Rattle.x5_model_fitting.specs.Requests.{CountWithin, IfThere, SelectionWithin, ChangeWithin, ControlsWithin, BodyWithin, RequestWithin}
use Rattle.x5_model_fitting.specs.Laws.{RequestFits, RequestIsSpelled}
use Rattle.x5_model_fitting.proofs.Making.{each_fits, set_or}
use Rattle.x5_model_fitting.proofs.Texts.{type_fits}
use Rattle.x5_model_fitting.proofs.Names.{name_fits, name_is, rdn_fits, rdn_is}
use Rattle.x5_model_fitting.proofs.Terms.{attribute_fits, attribute_is, attributes_fit, attributes_are, assertion_fits, assertion_is}
use Rattle.x5_model_fitting.proofs.Filters.{filter_fits, filter_is}
use Rattle.x5_model_fitting.proofs.Leaves.{number_fits, count_fits, code_fits, flag_fits, options_fit}

-- ---- controls, selections and changes

size_set : (w : Surroundings) (o : Option ℕ) → IfThere CountWithin o
    → FitsSet (layout w) (layouts.optional (Rattle.x5_model_typed.specs.Forms.at 3 (named.NumberBelow 0 4294967295)) ∷
    []) (More (size_node o) Nil)
size_set w None h = fits.absent Vacant refl refl fits.all
size_set w (Some n) h = fits.present refl (count_fits w n h) default fits.all

controls_fit : (w : Surroundings) (c : Controls) → ControlsWithin c
    → Fits (layout w) (layout w named.Controls) (controls_node c)
controls_fit w c h =
    fits.made _ refl refl refl
    (fits.set (set_or (layout w) (options_node false false) (options_node c.nocopy c.nochain) 0 named.Options _ _
    (options_fit w c.nocopy c.nochain)
    (fits.absent Vacant refl refl (fits.absent Vacant refl refl (size_set w c.size h)))))
    refl

controls_last : (w : Surroundings) (c : Controls) → ControlsWithin c
    → FitsSet (layout w) (layouts.controls ∷ []) (More (controls_node c) Nil)
controls_last w c h =
    set_or (layout w) layouts.no_controls (controls_node c) 30 named.Controls [] Nil (controls_fit w c h) fits.all

selection_fits : (w : Surroundings) (s : Selection) → SelectionWithin s
    → Fits (layout w) (layout w named.Selection) (selection_node s)
selection_fits w All h = fits.made _ refl refl refl (fits.set (fits.absent Vacant refl refl fits.all)) refl
selection_fits w (Only types) h =
    fits.made _ refl refl refl
    (fits.set (fits.present refl
    (fits.made _ refl refl refl (fits.members (each_fits (layout w) named.AnyOid type_node types
    (λ t i. type_fits w t (h t i)))) refl)
    default fits.all))
    refl

change_fits : (w : Surroundings) (c : Change) → ChangeWithin c → Fits (layout w) (layout w named.Change) (change_node c)
change_fits w (AddAttribute a) h =
    fits.chosen (choice 0 (Explicit named.Attribute)) 0 named.Attribute refl refl (attribute_fits w a h) refl
change_fits w (RemoveAttribute type) h =
    fits.chosen (choice 1 (Explicit named.AnyOid)) 1 named.AnyOid refl refl (type_fits w type h) refl
change_fits w (AddValues a) h =
    fits.chosen (choice 2 (Explicit named.Attribute)) 2 named.Attribute refl refl (attribute_fits w a h) refl
change_fits w (RemoveValues a) h =
    fits.chosen (choice 3 (Explicit named.Attribute)) 3 named.Attribute refl refl (attribute_fits w a h) refl

changes_fit : (w : Surroundings) (cs : List Change) → Each ChangeWithin cs
    → Fits (layout w) (layout w named.Changes) (node_of (map change_node cs))
changes_fit w cs h =
    fits.made _ refl refl refl (fits.members (each_fits (layout w) named.Change change_node cs
    (λ c i. change_fits w c (h c i)))) refl

subset_fits : (w : Surroundings) (s : Subset) → Fits (layout w) (layout w (named.NumberBelow 0 2))
    (whole (subset_number s))
subset_fits w Base = number_fits w 0 2 0 (omega arith) (omega arith) (omega arith)
subset_fits w OneLevel = number_fits w 0 2 1 (omega arith) (omega arith) (omega arith)
subset_fits w WholeSubtree = number_fits w 0 2 2 (omega arith) (omega arith) (omega arith)

-- ---- arguments

abbrev pub operation : Body → named.Operation
operation (Read name selection) = named.Read
operation (Compare name assertion) = named.Compare
operation (ListBelow name) = named.ListBelow
operation (Search base subset filter selection) = named.Search
operation (AddEntry name attributes) = named.AddEntry
operation (RemoveEntry name) = named.RemoveEntry
operation (ModifyEntry name changes) = named.ModifyEntry
operation (ModifyDn name rdn drops) = named.ModifyDn

abbrev set_made : (w : Surroundings) (c : Controls) (b : Body) → Type 0
set_made w c b =
    Fits (layout w) (layout w (named.Argument (operation b))) (argument_node (record { controls = c; body = b }))

body_fits : (w : Surroundings) (c : Controls) (b : Body) → ControlsWithin c → BodyWithin b → set_made w c b
body_fits w c (Read name selection) k h =
    fits.made _ refl refl refl
    (fits.set (fits.present refl (name_fits w name h.0) required
    (set_or (layout w) layouts.all_attributes (selection_node selection) 1 named.Selection _ _
    (selection_fits w selection h.1) (controls_last w c k))))
    refl
body_fits w c (Compare name assertion) k h =
    fits.made _ refl refl refl
    (fits.set (fits.present refl (name_fits w name h.0) required
    (fits.present refl (assertion_fits w assertion h.1) required (controls_last w c k))))
    refl
body_fits w c (ListBelow name) k h =
    fits.made _ refl refl refl (fits.set (fits.present refl (name_fits w name h) required (controls_last w c k))) refl
body_fits w c (Search base subset filter selection) k h =
    fits.made _ refl refl refl
    (fits.set (fits.present refl (name_fits w base h.0) required
    (set_or (layout w) (whole 0) (whole (subset_number subset)) 1 (named.NumberBelow 0 2) _ _ (subset_fits w subset)
    (set_or (layout w) layouts.everything _ 2 (named.Filter 16) _ _ (filter_fits w most_levels filter h.1)
    (set_or (layout w) layouts.all_attributes (selection_node selection) 4 named.Selection _ _
    (selection_fits w selection h.2) (controls_last w c k))))))
    refl
body_fits w c (AddEntry name attributes) k h =
    fits.made _ refl refl refl
    (fits.set (fits.present refl (name_fits w name h.0) required
    (fits.present refl (attributes_fit w attributes h.1) required (controls_last w c k))))
    refl
body_fits w c (RemoveEntry name) k h =
    fits.made _ refl refl refl (fits.set (fits.present refl (name_fits w name h) required (controls_last w c k))) refl
body_fits w c (ModifyEntry name changes) k h =
    fits.made _ refl refl refl
    (fits.set (fits.present refl (name_fits w name h.0) required
    (fits.present refl (changes_fit w changes h.1) required (controls_last w c k))))
    refl
body_fits w c (ModifyDn name rdn drops) k h =
    fits.made _ refl refl refl
    (fits.set (fits.present refl (name_fits w name h.0) required
    (fits.present refl (rdn_fits w rdn h.1) required
    (set_or (layout w) (Flag false) (Flag drops) 2 named.Boolean _ _ (flag_fits w drops) (controls_last w c k)))))
    refl

pub argument_fits : (w : Surroundings) (r : Request) → RequestWithin r
    → Fits (layout w) (layout w (named.Argument (operation r.body))) (argument_node r)
argument_fits w r h = body_fits w r.controls r.body h.controls h.body

-- ---- messages

pub coded : (of : named.Operation → named.Named) (b : Body)
    → named_by (operation_codes of) (pos (operation_of b)) ≡ Some (of (operation b))
coded of (Read name selection) = refl
coded of (Compare name assertion) = refl
coded of (ListBelow name) = refl
coded of (Search base subset filter selection) = refl
coded of (AddEntry name attributes) = refl
coded of (RemoveEntry name) = refl
coded of (ModifyEntry name changes) = refl
coded of (ModifyDn name rdn drops) = refl

pub code_small : (b : Body) → operation_of b < 2 ^ 32
code_small (Read name selection) = omega arith
code_small (Compare name assertion) = omega arith
code_small (ListBelow name) = omega arith
code_small (Search base subset filter selection) = omega arith
code_small (AddEntry name attributes) = omega arith
code_small (RemoveEntry name) = omega arith
code_small (ModifyEntry name changes) = omega arith
code_small (ModifyDn name rdn drops) = omega arith

-- an id, the code of an operation, and what the code names
pub invoke_fits : (w : Surroundings) (rows : List (ℕ × named.Named)) (id k : ℕ) (form : named.Named) (n : Node)
    → CountWithin id → k < 2 ^ 32
    → named_by rows (pos k) ≡ Some form → Fits (layout w) (layout w form) n
    → FitsSequence (layout w) (layouts.id ∷ code named.AnyNumber (named_by rows) ∷ [])
    (More (whole id) (More (whole k) (More n Nil)))
invoke_fits w rows id k form n small few names f =
    fits.given refl (count_fits w id small) required
    (fits.given refl (code_fits w k few) (typed.named (pos k) form refl names) (fits.given refl f required fits.over))

pub request_fits : RequestFits
request_fits w id r small h =
    fits.chosen_made (layouts.invoke (operation_codes named.Argument)) 1 refl
    (fits.sequence (invoke_fits w (operation_codes named.Argument) id (operation_of r.body)
    (named.Argument (operation r.body)) (argument_node r) small
    (code_small r.body) (coded named.Argument r.body) (argument_fits w r h)))
    refl

-- ---- such requests are as they are spelled

change_is : (c : Change) → ChangeWithin c → IsChange c
change_is (AddAttribute a) h = attribute_is a h
change_is (RemoveAttribute type) h = h.is
change_is (AddValues a) h = attribute_is a h
change_is (RemoveValues a) h = attribute_is a h

changes_are : (cs : List Change) → Each ChangeWithin cs → AreChanges cs
changes_are [] h = tt
changes_are (c ∷ cs) h = (change_is c (h c here), changes_are cs (λ x i. h x (there i)))

selection_is : (s : Selection) → SelectionWithin s → IsSelection s
selection_is All h = tt
selection_is (Only types) h = all_in is_type types (λ (t : TypeRef) i. (h t i).is)

body_is : (b : Body) → BodyWithin b → IsBody b
body_is (Read name selection) h = (name_is name h.0, selection_is selection h.1)
body_is (Compare name assertion) h = (name_is name h.0, assertion_is assertion h.1)
body_is (ListBelow name) h = name_is name h
body_is (Search base subset filter selection) h =
    (name_is base h.0, filter_is most_levels filter h.1, selection_is selection h.2)
body_is (AddEntry name attributes) h = (name_is name h.0, attributes_are attributes h.1)
body_is (RemoveEntry name) h = name_is name h
body_is (ModifyEntry name changes) h = (name_is name h.0, changes_are changes h.1)
body_is (ModifyDn name rdn drops) h = (name_is name h.0, rdn_is rdn h.1)

pub request_is : RequestIsSpelled
request_is r h = body_is r.body h.body
