-- What octets say of a user's request is within the limits, component by component.
use Rattle.std.proofs.Common.{◌≡◌, ℕ, zero, suc, false, List, [], ◌∷◌, map, refl, sym, ap, subst, ◌∙◌, arith}
use Rattle.std.specs.List.{find}
use Rattle.std.specs.declared.option.Option.TheVariants.{Some}
use Rattle.x5_model.specs.Requests.{Selection}
use Rattle.x5_model_typed.specs.Nodes.{Node, Nodes, Vacant, Flag, Chosen, Many, Nil, More, parts, whole}
use Rattle.x5_model_typed.specs.Named as named
use Rattle.x5_model_typed.specs.Forms.{Alternative}
use Rattle.x5_model_typed.specs.Leaves.{options_node}
use Rattle.x5_model_typed.specs.Written.{is_marked}
use Rattle.x5_model_typed.specs.Layouts as layouts
use Rattle.x5_model_typed.specs.Layouts.{Surroundings, layout, operation_codes}
use Rattle.x5_model_typed_laws.specs.Fits.{Fits, FitsIn, FitsSet}
use Rattle.x5_model_typed_laws.proofs.Closed.{messages_spelled_fit}
use Rattle.x5_model_messages.specs.Terms.{type_in, name_of, rdn_of, number_in, attribute_in, assertion_in, change_in}
use Rattle.x5_model_messages.specs.FilterTerms.{filter_in}
use Rattle.x5_model_messages.specs.Requests.{controls_in, selection_in, argument_in, request_in}
use Rattle.x5_model_fitting.specs.Names.{Each, NameWithin, RdnWithin}
use Rattle.x5_model_fitting.specs.Terms.{TypeWithin, AttributeWithin, AssertionWithin}
use Rattle.x5_model_fitting.specs.Filters.{FilterWithin, most_levels}
use Rattle.x5_model_fitting.specs.Requests.{CountWithin, IfThere, SelectionWithin, ChangeWithin, ControlsWithin, RequestWithin}
use Rattle.x5_model_fitting.specs.Laws.{SpelledRequestIsWithin}
use Rattle.x5_model_fitting.proofs.Taking.{only_made, many_in, each_mapped, set_in, set_first, set_maybe, set_over, sequence_in, IsChoice, choice_in, inner_fits, tag_below}
use Rattle.x5_model_fitting.proofs.TextsSaid.{type_said}
use Rattle.x5_model_fitting.proofs.NamesSaid.{name_said, rdn_of_said}
use Rattle.x5_model_fitting.proofs.TermsSaid.{attribute_said, attributes_said, assertion_said}
use Rattle.x5_model_fitting.proofs.FiltersSaid.{filter_said}
use Rattle.x5_model_fitting.proofs.LeavesSaid.{number_said}
use Rattle.x5_model_fitting.proofs.MessagesSaid.{marked_in, only_marked, invoke_in, code_of, operation_in}

abbrev anything : Node → Type 0
anything n = Unit {0}

-- ---- controls, selections and changes

pub count_said : (w : Surroundings) (n : Node) → Fits (layout w) (layout w (named.NumberBelow 0 4294967295)) n
    → IfThere CountWithin (number_in n)
count_said w n f =
    let i = number_said w 0 4294967295 n f in
    let small : CountWithin i.value = omega (arith, i.most) in
    subst (λ (x : Node). IfThere CountWithin (number_in x)) (sym i.is) small

-- the size limit is kept whatever the options
size_kept : (options priority time size : Node) (os : List Node) → parts options ≡ os
    → (controls_in (Many (More options (More priority (More time (More size Nil)))))).size ≡ number_in size
size_kept options priority time size [] e = rw e refl
size_kept options priority time size (a ∷ []) e = rw e refl
size_kept options priority time size (a ∷ b ∷ []) e = rw e refl
size_kept options priority time size (a ∷ b ∷ c ∷ os) e = rw e refl

controls_said : (w : Surroundings) (n : Node) → Fits (layout w) (layout w named.Controls) n
    → ControlsWithin (controls_in n)
controls_said w n f =
    let m = only_made (layout w) _ n refl refl f in
    let a = set_maybe (layout w) (options_node false false) 0 named.Options _ anything tt (λ x g. tt) m.members
    (set_in (layout w) _ m.members m.within) in
    let b = set_maybe (layout w) Vacant 1 named.AnyNumber _ anything tt (λ x g. tt) a.others a.rest in
    let c = set_maybe (layout w) Vacant 2 named.AnyNumber _ anything tt (λ x g. tt) b.others b.rest in
    let d = set_maybe (layout w) Vacant 3 (named.NumberBelow 0 4294967295) [] (λ x. IfThere CountWithin (number_in x))
    tt (count_said w) c.others c.rest in
    let is : n ≡ Many (More a.first (More b.first (More c.first (More d.first Nil)))) =
    m.is_many ∙ ap Many (a.split ∙ ap (More a.first) (b.split ∙ ap (More b.first) (c.split ∙ ap (More c.first)
    (d.split ∙ ap (More d.first) (set_over (layout w) d.others d.rest))))) in
    subst (λ (x : Node). ControlsWithin (controls_in x)) (sym is)
    (subst (IfThere CountWithin) (sym (size_kept a.first b.first c.first d.first (parts a.first) refl)) d.is)

types_said : (w : Surroundings) (n : Node) → Fits (layout w) (layout w named.TypeList) n
    → SelectionWithin (selection_in (Many (More n Nil)))
types_said w n f =
    let m = only_made (layout w) (layouts.set_of named.AnyOid) n refl refl f in
    let types = each_mapped TypeWithin type_in (parts n)
    (many_in (layout w) _ named.AnyOid (λ x. TypeWithin (type_in x)) refl (type_said w) n m) in
    subst (λ (x : Node). SelectionWithin (selection_in (Many (More x Nil)))) (sym m.is_many)
    (subst (λ (x : Node). Each TypeWithin (map type_in (parts x))) m.is_many types)

selection_said : (w : Surroundings) (n : Node) → Fits (layout w) (layout w named.Selection) n
    → SelectionWithin (selection_in n)
selection_said w n f =
    let m = only_made (layout w) _ n refl refl f in
    let a = set_maybe (layout w) Vacant 1 named.TypeList [] (λ x. SelectionWithin (selection_in (Many (More x Nil))))
    tt (types_said w)
    m.members (set_in (layout w) _ m.members m.within) in
    let is : n ≡ Many (More a.first Nil) = m.is_many ∙ ap Many
    (a.split ∙ ap (More a.first) (set_over (layout w) a.others a.rest)) in
    subst (λ (x : Node). SelectionWithin (selection_in x)) (sym is) a.is

change_by : (w : Surroundings) (n : Node) (c : IsChoice (layout w) (layout w named.Change) n) (tag : ℕ)
    → find (is_marked tag) (layout w named.Change) ≡ Some c.alternative → ChangeWithin (change_in (Chosen tag c.inner))
change_by w n c zero e =
    attribute_said w c.inner (inner_fits (layout w) (layout w named.Change) n c named.Attribute _ refl e)
change_by w n c (suc zero) e =
    type_said w c.inner (inner_fits (layout w) (layout w named.Change) n c named.AnyOid _ refl e)
change_by w n c (suc (suc zero)) e =
    attribute_said w c.inner (inner_fits (layout w) (layout w named.Change) n c named.Attribute _ refl e)
change_by w n c (suc (suc (suc zero))) e =
    attribute_said w c.inner (inner_fits (layout w) (layout w named.Change) n c named.Attribute _ refl e)
change_by w n c (suc (suc (suc (suc k)))) e =
    absurd (omega (arith, tag_below (layout w named.Change) (suc (suc (suc (suc k)))) 4 c.alternative refl e))

change_said : (w : Surroundings) (n : Node) → Fits (layout w) (layout w named.Change) n → ChangeWithin (change_in n)
change_said w n f =
    let c = choice_in (layout w) (layout w named.Change) n refl refl f in
    subst (λ (x : Node). ChangeWithin (change_in x)) (sym c.is) (change_by w n c c.tag c.found)

changes_said : (w : Surroundings) (n : Node) → Fits (layout w) (layout w named.Changes) n
    → Each ChangeWithin (map change_in (parts n))
changes_said w n f =
    each_mapped ChangeWithin change_in (parts n)
    (many_in (layout w) _ named.Change (λ x. ChangeWithin (change_in x)) refl (change_said w) n
    (only_made (layout w) (layouts.sequence_of named.Change) n refl refl f))

-- ---- arguments

abbrev NameSaid : Node → Type 0
NameSaid n = NameWithin (name_of n)

abbrev ControlsSaid : Node → Type 0
ControlsSaid n = ControlsWithin (controls_in n)

abbrev SelectionSaid : Node → Type 0
SelectionSaid n = SelectionWithin (selection_in n)

abbrev FilterSaid : Node → Type 0
FilterSaid n = FilterWithin most_levels (filter_in n)

record Last (ns : Nodes) : Type 0 where
  first : Node
  split : ns ≡ More first Nil
  is : ControlsSaid first

controls_last : (w : Surroundings) (ns : Nodes) → FitsSet (layout w) (layouts.controls ∷ []) ns → Last ns
controls_last w ns f =
    let a = set_maybe (layout w) layouts.no_controls 30 named.Controls [] ControlsSaid tt (controls_said w) ns f in
    record { first = a.first; split = a.split ∙ ap (More a.first) (set_over (layout w) a.others a.rest); is = a.is }

abbrev ArgumentSaid : ℕ → Node → Type 0
ArgumentSaid code n = RequestWithin (argument_in code n)

everything_within : FilterSaid layouts.everything
everything_within = (omega arith, tt)

pub argument_said : (w : Surroundings) (o : named.Operation) (n : Node)
    → Fits (layout w) (layout w (named.Argument o)) n → RequestWithin (argument_in (code_of o) n)
argument_said w named.Read n f =
    let m = only_made (layout w) _ n refl refl f in
    let a = set_first (layout w) 0 named.Name _ NameSaid (name_said w) m.members
    (set_in (layout w) _ m.members m.within) in
    let b = set_maybe (layout w) layouts.all_attributes 1 named.Selection _ SelectionSaid tt (selection_said w)
    a.others a.rest in
    let c = controls_last w b.others b.rest in
    let is : n ≡ Many (More a.first (More b.first (More c.first Nil))) =
    m.is_many ∙ ap Many (a.split ∙ ap (More a.first) (b.split ∙ ap (More b.first) c.split)) in
    subst (ArgumentSaid 1) (sym is) (record { controls = c.is; body = (a.is, b.is) })
argument_said w named.Compare n f =
    let m = only_made (layout w) _ n refl refl f in
    let a = set_first (layout w) 0 named.Name _ NameSaid (name_said w) m.members
    (set_in (layout w) _ m.members m.within) in
    let b = set_first (layout w) 1 named.Assertion _ (λ x. AssertionWithin (assertion_in x)) (assertion_said w)
    a.others a.rest in
    let c = controls_last w b.others b.rest in
    let is : n ≡ Many (More a.first (More b.first (More c.first Nil))) =
    m.is_many ∙ ap Many (a.split ∙ ap (More a.first) (b.split ∙ ap (More b.first) c.split)) in
    subst (ArgumentSaid 2) (sym is) (record { controls = c.is; body = (a.is, b.is) })
argument_said w named.ListBelow n f =
    let m = only_made (layout w) _ n refl refl f in
    let a = set_first (layout w) 0 named.Name _ NameSaid (name_said w) m.members
    (set_in (layout w) _ m.members m.within) in
    let c = controls_last w a.others a.rest in
    let is : n ≡ Many (More a.first (More c.first Nil)) = m.is_many ∙ ap Many (a.split ∙ ap (More a.first) c.split) in
    subst (ArgumentSaid 4) (sym is) (record { controls = c.is; body = a.is })
argument_said w named.Search n f =
    let m = only_made (layout w) _ n refl refl f in
    let a = set_first (layout w) 0 named.Name _ NameSaid (name_said w) m.members
    (set_in (layout w) _ m.members m.within) in
    let b = set_maybe (layout w) (whole 0) 1 (named.NumberBelow 0 2) _ anything tt (λ x g. tt) a.others a.rest in
    let c = set_maybe (layout w) layouts.everything 2 (named.Filter 16) _ FilterSaid everything_within
    (filter_said w most_levels) b.others b.rest in
    let d = set_maybe (layout w) layouts.all_attributes 4 named.Selection _ SelectionSaid tt (selection_said w)
    c.others c.rest in
    let e = controls_last w d.others d.rest in
    let is : n ≡ Many (More a.first (More b.first (More c.first (More d.first (More e.first Nil))))) =
    m.is_many ∙ ap Many (a.split ∙ ap (More a.first) (b.split ∙ ap (More b.first) (c.split ∙ ap (More c.first)
    (d.split ∙ ap (More d.first) e.split)))) in
    subst (ArgumentSaid 5) (sym is) (record { controls = e.is; body = (a.is, c.is, d.is) })
argument_said w named.AddEntry n f =
    let m = only_made (layout w) _ n refl refl f in
    let a = set_first (layout w) 0 named.Name _ NameSaid (name_said w) m.members
    (set_in (layout w) _ m.members m.within) in
    let b = set_first (layout w) 1 named.Attributes _ (λ x. Each AttributeWithin (map attribute_in (parts x)))
    (attributes_said w) a.others a.rest in
    let c = controls_last w b.others b.rest in
    let is : n ≡ Many (More a.first (More b.first (More c.first Nil))) =
    m.is_many ∙ ap Many (a.split ∙ ap (More a.first) (b.split ∙ ap (More b.first) c.split)) in
    subst (ArgumentSaid 6) (sym is) (record { controls = c.is; body = (a.is, b.is) })
argument_said w named.RemoveEntry n f =
    let m = only_made (layout w) _ n refl refl f in
    let a = set_first (layout w) 0 named.Name _ NameSaid (name_said w) m.members
    (set_in (layout w) _ m.members m.within) in
    let c = controls_last w a.others a.rest in
    let is : n ≡ Many (More a.first (More c.first Nil)) = m.is_many ∙ ap Many (a.split ∙ ap (More a.first) c.split) in
    subst (ArgumentSaid 7) (sym is) (record { controls = c.is; body = a.is })
argument_said w named.ModifyEntry n f =
    let m = only_made (layout w) _ n refl refl f in
    let a = set_first (layout w) 0 named.Name _ NameSaid (name_said w) m.members
    (set_in (layout w) _ m.members m.within) in
    let b = set_first (layout w) 1 named.Changes _ (λ x. Each ChangeWithin (map change_in (parts x))) (changes_said w)
    a.others a.rest in
    let c = controls_last w b.others b.rest in
    let is : n ≡ Many (More a.first (More b.first (More c.first Nil))) =
    m.is_many ∙ ap Many (a.split ∙ ap (More a.first) (b.split ∙ ap (More b.first) c.split)) in
    subst (ArgumentSaid 8) (sym is) (record { controls = c.is; body = (a.is, b.is) })
argument_said w named.ModifyDn n f =
    let m = only_made (layout w) _ n refl refl f in
    let a = set_first (layout w) 0 named.Name _ NameSaid (name_said w) m.members
    (set_in (layout w) _ m.members m.within) in
    let b = set_first (layout w) 1 named.Rdn _ (λ x. RdnWithin (rdn_of x)) (rdn_of_said w) a.others a.rest in
    let c = set_maybe (layout w) (Flag false) 2 named.Boolean _ anything tt (λ x g. tt) b.others b.rest in
    let d = controls_last w c.others c.rest in
    let is : n ≡ Many (More a.first (More b.first (More c.first (More d.first Nil)))) =
    m.is_many ∙ ap Many (a.split ∙ ap (More a.first) (b.split ∙ ap (More b.first)
    (c.split ∙ ap (More c.first) d.split))) in
    subst (ArgumentSaid 9) (sym is) (record { controls = d.is; body = (a.is, b.is) })

-- ---- messages

abbrev RequestSaid : Node → Type 0
RequestSaid n = CountWithin (request_in n).0 × RequestWithin (request_in n).1

request_said : (w : Surroundings) (n : Node) → Fits (layout w) (layout w named.DapRequest) n → RequestSaid n
request_said w n f =
    let m = marked_in (layout w) (layout w named.DapRequest) n refl refl f in
    let invoke = layouts.invoke (operation_codes named.Argument) in
    let same : m.alternative ≡ invoke = only_marked invoke m.alternative m.tag m.found in
    let i = invoke_in w (operation_codes named.Argument) m.members
    (sequence_in (layout w) _ m.members (subst (λ (x : Alternative). FitsIn (layout w) x.content m.members) same
    m.within)) in
    let o = operation_in named.Argument i.number i.form i.names_it in
    let said = argument_said w o.operation i.said (subst (λ (x : named.Named). Fits (layout w) (layout w x) i.said)
    o.named_so i.fits_said) in
    subst RequestSaid (sym (m.is ∙ ap (λ (x : Nodes). Chosen m.tag (Many x)) (i.split
    ∙ ap (λ (k : Rattle.std.specs.Prelude.ℤ). More (whole i.id)
    (More (Rattle.x5_model_typed.specs.Nodes.Number k) (More i.said Nil))) o.number)))
    (i.small, said)

pub request_spelled : SpelledRequestIsWithin
request_spelled w octets n eights spells =
    request_said w n (messages_spelled_fit w named.DapRequest octets n eights spells)
