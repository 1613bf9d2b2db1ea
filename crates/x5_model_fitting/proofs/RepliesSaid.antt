-- What octets say of a reply is within the limits, component by component.
use Rattle.std.proofs.Common.{◌≡◌, ℕ, zero, suc, Bool, true, false, cond, List, [], ◌∷◌, map, ◌⊎◌, inl, inr, refl, sym, ap, subst, ◌∙◌, arith}
use Rattle.std.specs.Prelude.{ℤ, pos, negsuc}
use Rattle.std.specs.declared.option.Option.TheVariants.{None, Some}
use Rattle.x5_model.specs.Members.{In, here, there}
use Rattle.x5_model_typed.specs.Nodes as nodes
use Rattle.x5_model_typed.specs.Nodes.{Node, Nodes, Vacant, Flag, Number, Oid, Bits, Octets, Chosen, Many, Nil, More, parts, whole}
use Rattle.x5_model_typed.specs.Named as named
use Rattle.x5_model_typed.specs.Forms.{Primitive, Alternative, plain, at, universal}
use Rattle.x5_model_typed.specs.Leaves.{null}
use Rattle.x5_model_typed.specs.Rules.{value_in}
use Rattle.x5_model_typed.specs.Written.{is_marked}
use Rattle.x5_model_typed.specs.Layouts as layouts
use Rattle.x5_model_typed.specs.Layouts.{Surroundings, layout, named_by, operation_codes}
use Rattle.x5_model_typed_laws.specs.Fits.{Fits, FitsIn}
use Rattle.x5_model_typed_laws.proofs.Closed.{messages_spelled_fit}
use Rattle.x5_model_messages.specs.Terms.{type_in, name_of, rdn_of, number_in}
use Rattle.x5_model_messages.specs.Replies.{access_in, reference_in, item_in, source_in, shown_in, info_in, sub_in, outcome_in, answer_in, reference_if, item_if, error_in, reply_in}
use Rattle.x5_model_fitting.specs.Names.{Each, NameWithin, RdnWithin}
use Rattle.x5_model_fitting.specs.Terms.{TypeWithin, ValueWithin}
use Rattle.x5_model_fitting.specs.Requests.{CountWithin, IfThere}
use Rattle.x5_model_fitting.specs.Chained.{ItemWithin}
use Rattle.x5_model_fitting.specs.Replies.{AccessWithin, ReferenceWithin, SourceWithin, ShownWithin, InfoWithin, SubWithin, OutcomeWithin, AnswerWithin, answered_by, ReplyWithin}
use Rattle.x5_model_fitting.specs.Laws.{SpelledReplyIsWithin, SpelledReplyToAgentIsWithin}
use Rattle.x5_model_fitting.proofs.Taking.{only_made, only_leaf, many_in, each_mapped, set_in, set_first, set_maybe, set_over, sequence_in, first_in, maybe_in, sequence_over}
use Rattle.x5_model_fitting.proofs.TextsSaid.{type_said}
use Rattle.x5_model_fitting.proofs.NamesSaid.{name_said, rdn_of_said, rdns_said}
use Rattle.x5_model_fitting.proofs.TermsSaid.{AreValues, values_said, map_some, typed_in}
use Rattle.x5_model_fitting.proofs.LeavesSaid.{IsNumber, number_said, IsAgent, agent_said}
use Rattle.x5_model_fitting.proofs.MessagesSaid.{marked_in, coded_in, invoke_in, code_below, code_of, operation_in}
use Rattle.x5_model_fitting.proofs.RequestsSaid.{count_said}
use Rattle.x5_model_fitting.proofs.ChainedSaid.{IsProgress, progress_within, progress_said, item_said}

abbrev anything : Node → Type 0
anything n = Unit {0}

abbrev NameSaid : Node → Type 0
NameSaid n = NameWithin (name_of n)

-- ---- references and sources

access_said : (w : Surroundings) (n : Node) → Fits (layout w) (layout w named.Agent) n → AccessWithin (access_in n)
access_said w n f =
    let m = only_made (layout w) _ n refl refl f in
    let a = first_in (layout w) named.AgentName _ IsAgent (agent_said w) m.members
    (sequence_in (layout w) _ m.members m.within) in
    let b = maybe_in (layout w) (Flag false) (plain named.Boolean) [] anything tt (λ x g. tt) a.others a.rest in
    let is : n ≡ Many (More (nodes.Text a.is.name) (More b.first Nil)) =
    m.is_many ∙ ap Many (a.split ∙ ap (λ (x : Node). More x a.others) a.is.is
    ∙ ap (More (nodes.Text a.is.name)) (b.split ∙ ap (More b.first) (sequence_over (layout w) b.others b.rest))) in
    subst (λ (x : Node). AccessWithin (access_in x)) (sym is) a.is.agent

accesses_said : (w : Surroundings) (n : Node) → Fits (layout w) (layout w named.Agents) n
    → Each AccessWithin (map access_in (parts n))
accesses_said w n f =
    each_mapped AccessWithin access_in (parts n)
    (many_in (layout w) _ named.Agent (λ x. AccessWithin (access_in x)) refl (access_said w) n
    (only_made (layout w) (layouts.sequence_of named.Agent) n refl refl f))

-- six components
reference_said : (w : Surroundings) (n : Node) → Fits (layout w) (layout w named.Reference) n
    → ReferenceWithin (reference_in n)
reference_said w n f =
    let m = only_made (layout w) _ n refl refl f in
    let a = set_first (layout w) 0 named.Name _ NameSaid (name_said w) m.members
    (set_in (layout w) _ m.members m.within) in
    let b = set_first (layout w) 1 named.Progress _ IsProgress (progress_said w) a.others a.rest in
    let c = set_first (layout w) 2 named.RefType _ anything (λ x g. tt) b.others b.rest in
    let d = set_first (layout w) 3 named.Agents _ (λ x. Each AccessWithin (map access_in (parts x))) (accesses_said w)
    c.others c.rest in
    let e = set_maybe (layout w) (Many Nil) 4 named.Rdns _ (λ x. Each RdnWithin (map rdn_of (parts x)))
    (λ r i. elim i [ ]) (rdns_said w) d.others d.rest in
    let g = set_maybe (layout w) (Flag false) 5 named.Boolean [] anything tt (λ x h. tt) e.others e.rest in
    let is : n ≡ Many (More a.first (More b.first (More c.first (More d.first (More e.first (More g.first Nil)))))) =
    m.is_many ∙ ap Many (a.split ∙ ap (More a.first) (b.split ∙ ap (More b.first) (c.split ∙ ap (More c.first)
    (d.split ∙ ap (More d.first) (e.split ∙ ap (More e.first)
    (g.split ∙ ap (More g.first) (set_over (layout w) g.others g.rest))))))) in
    subst (λ (x : Node). ReferenceWithin (reference_in x)) (sym is)
    (record { target = a.is; progress = progress_within b.first b.is; agents = d.is; exclusions = e.is })

references_said : (w : Surroundings) (n : Node) → Fits (layout w) (layout w named.References) n
    → Each ReferenceWithin (map reference_in (parts n))
references_said w n f =
    each_mapped ReferenceWithin reference_in (parts n)
    (many_in (layout w) _ named.Reference (λ x. ReferenceWithin (reference_in x)) refl (reference_said w) n
    (only_made (layout w) (layouts.sequence_of named.Reference) n refl refl f))

source_said : (w : Surroundings) (n : Node) → Fits (layout w) (layout w named.Source) n → SourceWithin (source_in n)
source_said w n f =
    let m = only_made (layout w) _ n refl refl f in
    let a = first_in (layout w) named.Name _ NameSaid (name_said w) m.members
    (sequence_in (layout w) _ m.members m.within) in
    let b = first_in (layout w) named.AgentName _ IsAgent (agent_said w) a.others a.rest in
    let c = maybe_in (layout w) Vacant (plain (named.NumberBelow 0 4294967295)) []
    (λ x. IfThere CountWithin (number_in x)) tt (count_said w) b.others b.rest in
    let is : n ≡ Many (More a.first (More (nodes.Text b.is.name) (More c.first Nil))) =
    m.is_many ∙ ap Many (a.split ∙ ap (More a.first) (b.split ∙ ap (λ (x : Node). More x b.others) b.is.is
    ∙ ap (More (nodes.Text b.is.name)) (c.split ∙ ap (More c.first) (sequence_over (layout w) c.others c.rest)))) in
    subst (λ (x : Node). SourceWithin (source_in x)) (sym is)
    (record { context = a.is; agent = b.is.agent; moment = c.is })

sources_said : (w : Surroundings) (n : Node) → Fits (layout w) (layout w named.Sources) n
    → Each SourceWithin (map source_in (parts n))
sources_said w n f =
    each_mapped SourceWithin source_in (parts n)
    (many_in (layout w) _ named.Source (λ x. SourceWithin (source_in x)) refl (source_said w) n
    (only_made (layout w) (layouts.sequence_of named.Source) n refl refl f))

-- ---- results

shown_said : (w : Surroundings) (n : Node) → Fits (layout w) (layout w named.Attribute) n → ShownWithin (shown_in n)
shown_said w n f =
    let t = typed_in w named.Values (AreValues (λ x. ValueWithin (value_in x))) (values_said w) n f in
    subst (λ (x : Node). ShownWithin (shown_in x)) (sym t.is)
    (record {
      type = t.type_within;
      some = map_some value_in (parts t.behind) t.so_behind.some;
      values = each_mapped ValueWithin value_in (parts t.behind) t.so_behind.each;
    })

shown_all : (w : Surroundings) (n : Node) → Fits (layout w) (layout w named.Attributes) n
    → Each ShownWithin (map shown_in (parts n))
shown_all w n f =
    each_mapped ShownWithin shown_in (parts n)
    (many_in (layout w) _ named.Attribute (λ x. ShownWithin (shown_in x)) refl (shown_said w) n
    (only_made (layout w) (layouts.set_of named.Attribute) n refl refl f))

info_said : (w : Surroundings) (n : Node) → Fits (layout w) (layout w named.EntryInfo) n → InfoWithin (info_in n)
info_said w n f =
    let m = only_made (layout w) _ n refl refl f in
    let a = first_in (layout w) named.Name _ NameSaid (name_said w) m.members
    (sequence_in (layout w) _ m.members m.within) in
    let b = maybe_in (layout w) (Flag true) (plain named.Boolean) _ anything tt (λ x g. tt) a.others a.rest in
    let c = first_in (layout w) named.Attributes [] (λ x. Each ShownWithin (map shown_in (parts x))) (shown_all w)
    b.others b.rest in
    let is : n ≡ Many (More a.first (More b.first (More c.first Nil))) =
    m.is_many ∙ ap Many (a.split ∙ ap (More a.first) (b.split ∙ ap (More b.first) (c.split ∙ ap (More c.first)
    (sequence_over (layout w) c.others c.rest)))) in
    subst (λ (x : Node). InfoWithin (info_in x)) (sym is) (record { name = a.is; attributes = c.is })

infos_said : (w : Surroundings) (n : Node) → Fits (layout w) (layout w named.EntryInfos) n
    → Each InfoWithin (map info_in (parts n))
infos_said w n f =
    each_mapped InfoWithin info_in (parts n)
    (many_in (layout w) _ named.EntryInfo (λ x. InfoWithin (info_in x)) refl (info_said w) n
    (only_made (layout w) (layouts.sequence_of named.EntryInfo) n refl refl f))

sub_said : (w : Surroundings) (n : Node) → Fits (layout w) (layout w named.Sub) n → SubWithin (sub_in n)
sub_said w n f =
    let m = only_made (layout w) _ n refl refl f in
    let a = first_in (layout w) named.Rdn _ (λ x. RdnWithin (rdn_of x)) (rdn_of_said w) m.members
    (sequence_in (layout w) _ m.members m.within) in
    let b = maybe_in (layout w) (Flag true) (plain named.Boolean) [] anything tt (λ x g. tt) a.others a.rest in
    let is : n ≡ Many (More a.first (More b.first Nil)) =
    m.is_many ∙ ap Many (a.split ∙ ap (More a.first) (b.split ∙ ap (More b.first)
    (sequence_over (layout w) b.others b.rest))) in
    subst (λ (x : Node). SubWithin (sub_in x)) (sym is) a.is

subs_said : (w : Surroundings) (n : Node) → Fits (layout w) (layout w named.Subs) n
    → Each SubWithin (map sub_in (parts n))
subs_said w n f =
    each_mapped SubWithin sub_in (parts n)
    (many_in (layout w) _ named.Sub (λ x. SubWithin (sub_in x)) refl (sub_said w) n
    (only_made (layout w) (layouts.sequence_of named.Sub) n refl refl f))

outcome_said : (w : Surroundings) (n : Node) → Fits (layout w) (layout w named.Qualifier) n
    → OutcomeWithin (outcome_in n)
outcome_said w n f =
    let m = only_made (layout w) _ n refl refl f in
    let a = set_maybe (layout w) Vacant 0 (named.NumberBelow 1 1) _ anything tt (λ x g. tt) m.members
    (set_in (layout w) _ m.members m.within) in
    let b = set_maybe (layout w) (Many Nil) 1 named.References []
    (λ x. Each ReferenceWithin (map reference_in (parts x))) (λ r i. elim i [ ])
    (references_said w) a.others a.rest in
    let is : n ≡ Many (More a.first (More b.first Nil)) =
    m.is_many ∙ ap Many (a.split ∙ ap (More a.first) (b.split ∙ ap (More b.first)
    (set_over (layout w) b.others b.rest))) in
    subst (λ (x : Node). OutcomeWithin (outcome_in x)) (sym is) b.is

-- a result of the operation with the code
abbrev ResultSaid : ℕ → Node → Type 0
ResultSaid code n = In code (answered_by (answer_in code n)) × AnswerWithin (answer_in code n)

null_writes : (P : Node → Type 0) → P Vacant → (n : Node) (octets : List ℕ) → null.writes n ≡ Some octets → P n
null_writes P p Vacant octets h = p
null_writes P p (Flag b) octets h = absurd (cc h)
null_writes P p (Number k) octets h = absurd (cc h)
null_writes P p (Oid arcs) octets h = absurd (cc h)
null_writes P p (Bits b) octets h = absurd (cc h)
null_writes P p (Octets o) octets h = absurd (cc h)
null_writes P p (nodes.Text t) octets h = absurd (cc h)
null_writes P p (Chosen tag n) octets h = absurd (cc h)
null_writes P p (Many ns) octets h = absurd (cc h)

update_said : (w : Surroundings) (code : ℕ) → In code (6 ∷ 7 ∷ 8 ∷ 9 ∷ []) → (n : Node)
    → Fits (layout w) (universal 5 (Primitive null) ∷ []) n
    → ResultSaid code n
update_said w code i n f =
    let v = only_leaf (layout w) (universal 5 (Primitive null)) n refl refl f in null_writes (ResultSaid code) (i, tt)
    n v.0 v.1

result_said : (w : Surroundings) (o : named.Operation) (n : Node) → Fits (layout w) (layout w (named.Outcome o)) n
    → ResultSaid (code_of o) n
result_said w named.Read n f =
    let m = only_made (layout w) _ n refl refl f in
    let a = set_first (layout w) 0 named.EntryInfo _ (λ x. InfoWithin (info_in x)) (info_said w) m.members
    (set_in (layout w) _ m.members m.within) in
    let b = set_first (layout w) 1 named.Source [] (λ x. SourceWithin (source_in x)) (source_said w) a.others a.rest in
    let is : n ≡ Many (More a.first (More b.first Nil)) =
    m.is_many ∙ ap Many (a.split ∙ ap (More a.first) (b.split ∙ ap (More b.first)
    (set_over (layout w) b.others b.rest))) in
    subst (ResultSaid 1) (sym is) (here, (a.is, b.is))
result_said w named.Compare n f =
    let m = only_made (layout w) _ n refl refl f in
    let a = set_first (layout w) 0 named.Boolean _ anything (λ x g. tt) m.members
    (set_in (layout w) _ m.members m.within) in
    let b = set_maybe (layout w) (Flag true) 1 named.Boolean _ anything tt (λ x g. tt) a.others a.rest in
    let c = set_first (layout w) 2 named.Source [] (λ x. SourceWithin (source_in x)) (source_said w) b.others b.rest in
    let is : n ≡ Many (More a.first (More b.first (More c.first Nil))) =
    m.is_many ∙ ap Many (a.split ∙ ap (More a.first) (b.split ∙ ap (More b.first) (c.split ∙ ap (More c.first)
    (set_over (layout w) c.others c.rest)))) in
    subst (ResultSaid 2) (sym is) (here, c.is)
result_said w named.ListBelow n f =
    let m = only_made (layout w) _ n refl refl f in
    let a = set_first (layout w) 0 named.Subs _ (λ x. Each SubWithin (map sub_in (parts x))) (subs_said w) m.members
    (set_in (layout w) _ m.members m.within) in
    let b = set_first (layout w) 1 named.Sources _ (λ x. Each SourceWithin (map source_in (parts x))) (sources_said w)
    a.others a.rest in
    let c = set_maybe (layout w) layouts.no_qualifier 2 named.Qualifier [] (λ x. OutcomeWithin (outcome_in x))
    (λ r i. elim i [ ])
    (outcome_said w) b.others b.rest in
    let is : n ≡ Many (More a.first (More b.first (More c.first Nil))) =
    m.is_many ∙ ap Many (a.split ∙ ap (More a.first) (b.split ∙ ap (More b.first) (c.split ∙ ap (More c.first)
    (set_over (layout w) c.others c.rest)))) in
    subst (ResultSaid 4) (sym is) (here, (a.is, b.is, c.is))
result_said w named.Search n f =
    let m = only_made (layout w) _ n refl refl f in
    let a = set_first (layout w) 0 named.EntryInfos _ (λ x. Each InfoWithin (map info_in (parts x))) (infos_said w)
    m.members
    (set_in (layout w) _ m.members m.within) in
    let b = set_first (layout w) 1 named.Sources _ (λ x. Each SourceWithin (map source_in (parts x))) (sources_said w)
    a.others a.rest in
    let c = set_maybe (layout w) layouts.no_qualifier 2 named.Qualifier [] (λ x. OutcomeWithin (outcome_in x))
    (λ r i. elim i [ ])
    (outcome_said w) b.others b.rest in
    let is : n ≡ Many (More a.first (More b.first (More c.first Nil))) =
    m.is_many ∙ ap Many (a.split ∙ ap (More a.first) (b.split ∙ ap (More b.first) (c.split ∙ ap (More c.first)
    (set_over (layout w) c.others c.rest)))) in
    subst (ResultSaid 5) (sym is) (here, (a.is, b.is, c.is))
result_said w named.AddEntry n f = update_said w 6 here n f
result_said w named.RemoveEntry n f = update_said w 7 (there here) n f
result_said w named.ModifyEntry n f = update_said w 8 (there (there here)) n f
result_said w named.ModifyDn n f = update_said w 9 (there (there (there here))) n f

-- ---- errors

abbrev ErrorSaid : ℕ → Node → Type 0
ErrorSaid code n = ReplyWithin (error_in code n)

attribute_said : (w : Surroundings) (n : Node) → Fits (layout w) (layout w named.AttributeError) n → ErrorSaid 1 n
attribute_said w n f =
    let m = only_made (layout w) _ n refl refl f in
    let a = first_in (layout w) (named.NumberBelow 1 6) _ (IsNumber 1 6) (number_said w 1 6) m.members
    (sequence_in (layout w) _ m.members m.within) in
    let b = first_in (layout w) named.AnyOid [] (λ x. TypeWithin (type_in x)) (type_said w) a.others a.rest in
    let is : n ≡ Many (More (whole a.is.value) (More b.first Nil)) =
    m.is_many ∙ ap Many (a.split ∙ ap (λ (x : Node). More x a.others) a.is.is
    ∙ ap (More (whole a.is.value)) (b.split ∙ ap (More b.first) (sequence_over (layout w) b.others b.rest))) in
    subst (ErrorSaid 1) (sym is) ((a.is.least, a.is.most), b.is)

unknown_said : (w : Surroundings) (n : Node) → Fits (layout w) (layout w named.NameError) n → ErrorSaid 2 n
unknown_said w n f =
    let m = only_made (layout w) _ n refl refl f in
    let a = first_in (layout w) (named.NumberBelow 1 1) _ anything (λ x g. tt) m.members
    (sequence_in (layout w) _ m.members m.within) in
    let b = first_in (layout w) named.Name [] NameSaid (name_said w) a.others a.rest in
    let is : n ≡ Many (More a.first (More b.first Nil)) =
    m.is_many ∙ ap Many (a.split ∙ ap (More a.first) (b.split ∙ ap (More b.first)
    (sequence_over (layout w) b.others b.rest))) in
    subst (ErrorSaid 2) (sym is) b.is

reference_there : (w : Surroundings) (n : Node) → Fits (layout w) (layout w named.Reference) n
    → IfThere ReferenceWithin (reference_if n)
reference_there w n f =
    let m = only_made (layout w) _ n refl refl f in
    subst (λ (x : Node). IfThere ReferenceWithin (reference_if x)) (sym m.is_many)
    (subst (λ (x : Node). ReferenceWithin (reference_in x)) m.is_many (reference_said w n f))

item_there : (w : Surroundings) (n : Node) → Fits (layout w) (layout w named.TraceItem) n
    → IfThere ItemWithin (item_if n)
item_there w n f =
    let m = only_made (layout w) _ n refl refl f in
    subst (λ (x : Node). IfThere ItemWithin (item_if x)) (sym m.is_many)
    (subst (λ (x : Node). ItemWithin (item_in x)) m.is_many (item_said w n f))

service_said : (w : Surroundings) (n : Node) → Fits (layout w) (layout w named.ServiceError) n → ErrorSaid 3 n
service_said w n f =
    let m = only_made (layout w) _ n refl refl f in
    let a = first_in (layout w) (named.NumberBelow 1 12) _ (IsNumber 1 12) (number_said w 1 12) m.members
    (sequence_in (layout w) _ m.members m.within) in
    let b = maybe_in (layout w) Vacant (at 0 named.Reference) _ (λ x. IfThere ReferenceWithin (reference_if x)) tt
    (reference_there w) a.others a.rest in
    let c = maybe_in (layout w) Vacant (at 1 named.TraceItem) [] (λ x. IfThere ItemWithin (item_if x)) tt
    (item_there w) b.others b.rest in
    let is : n ≡ Many (More (whole a.is.value) (More b.first (More c.first Nil))) =
    m.is_many ∙ ap Many (a.split ∙ ap (λ (x : Node). More x a.others) a.is.is
    ∙ ap (More (whole a.is.value)) (b.split ∙ ap (More b.first)
    (c.split ∙ ap (More c.first) (sequence_over (layout w) c.others c.rest)))) in
    subst (ErrorSaid 3) (sym is) ((a.is.least, a.is.most), b.is, c.is)

refused_said : (w : Surroundings) (n : Node) → Fits (layout w) (layout w named.UpdateError) n → ErrorSaid 8 n
refused_said w n f =
    let m = only_made (layout w) _ n refl refl f in
    let a = first_in (layout w) (named.NumberBelow 1 7) [] (IsNumber 1 7) (number_said w 1 7) m.members
    (sequence_in (layout w) _ m.members m.within) in
    let is : n ≡ Many (More (whole a.is.value) Nil) =
    m.is_many ∙ ap Many (a.split ∙ ap (λ (x : Node). More x a.others) a.is.is ∙ ap (More (whole a.is.value))
    (sequence_over (layout w) a.others a.rest)) in
    subst (ErrorSaid 8) (sym is) (a.is.least, a.is.most)

-- a referral, whatever its code: a reference has six components
referred_said : (w : Surroundings) (code : ℕ) (n : Node) → Fits (layout w) (layout w named.Reference) n
    → ErrorSaid code n
referred_said w code n f =
    let m = only_made (layout w) _ n refl refl f in
    let a = set_first (layout w) 0 named.Name _ anything (λ x g. tt) m.members (set_in (layout w) _ m.members m.within)
    in
    let b = set_first (layout w) 1 named.Progress _ anything (λ x g. tt) a.others a.rest in
    let c = set_first (layout w) 2 named.RefType _ anything (λ x g. tt) b.others b.rest in
    let d = set_first (layout w) 3 named.Agents _ anything (λ x g. tt) c.others c.rest in
    let is : n ≡ Many (More a.first (More b.first (More c.first (More d.first d.others)))) =
    m.is_many ∙ ap Many (a.split ∙ ap (More a.first) (b.split ∙ ap (More b.first)
    (c.split ∙ ap (More c.first) d.split))) in
    subst (ErrorSaid code) (sym is) (subst (λ (x : Node). ReferenceWithin (reference_in x)) is (reference_said w n f))

abbrev number_or_zero : ℤ → ℕ
number_or_zero k = Rattle.x5_model_messages.specs.Replies.or_zero (number_in (Number k))

abbrev as_form : (w : Surroundings) (n : Node) → named.Named → Type 0
as_form w n form = Fits (layout w) (layout w form) n

user_error_said : (w : Surroundings) (k : ℤ) (form : named.Named) (n : Node) → named_by layouts.dap_errors k ≡ Some form
    → Fits (layout w) (layout w form) n → ErrorSaid (number_or_zero k) n
user_error_said w (negsuc m) form n e f = absurd (cc e)
user_error_said w (pos zero) form n e f = absurd (cc e)
user_error_said w (pos (suc zero)) form n e f =
    (let same : form ≡ named.AttributeError = cc in attribute_said w n (subst (as_form w n) same f))
user_error_said w (pos (suc (suc zero))) form n e f =
    (let same : form ≡ named.NameError = cc in unknown_said w n (subst (as_form w n) same f))
user_error_said w (pos (suc (suc (suc zero)))) form n e f =
    (let same : form ≡ named.ServiceError = cc in service_said w n (subst (as_form w n) same f))
user_error_said w (pos (suc (suc (suc (suc zero))))) form n e f =
    (let same : form ≡ named.Reference = cc in referred_said w 4 n (subst (as_form w n) same f))
user_error_said w (pos (suc (suc (suc (suc (suc zero)))))) form n e f = absurd (cc e)
user_error_said w (pos (suc (suc (suc (suc (suc (suc zero))))))) form n e f = absurd (cc e)
user_error_said w (pos (suc (suc (suc (suc (suc (suc (suc zero)))))))) form n e f = absurd (cc e)
user_error_said w (pos (suc (suc (suc (suc (suc (suc (suc (suc zero))))))))) form n e f =
    (let same : form ≡ named.UpdateError = cc in refused_said w n (subst (as_form w n) same f))
user_error_said w (pos (suc (suc (suc (suc (suc (suc (suc (suc (suc m)))))))))) form n e f =
    absurd (omega (
      arith,
      code_below layouts.dap_errors (suc (suc (suc (suc (suc (suc (suc (suc (suc m))))))))) 9 form
          refl e,
    ))

agent_error_said : (w : Surroundings) (k : ℤ) (form : named.Named) (n : Node)
    → named_by layouts.dsp_errors k ≡ Some form
    → Fits (layout w) (layout w form) n → ErrorSaid (number_or_zero k) n
agent_error_said w (negsuc m) form n e f = absurd (cc e)
agent_error_said w (pos zero) form n e f = absurd (cc e)
agent_error_said w (pos (suc zero)) form n e f =
    (let same : form ≡ named.AttributeError = cc in attribute_said w n (subst (as_form w n) same f))
agent_error_said w (pos (suc (suc zero))) form n e f =
    (let same : form ≡ named.NameError = cc in unknown_said w n (subst (as_form w n) same f))
agent_error_said w (pos (suc (suc (suc zero)))) form n e f =
    (let same : form ≡ named.ServiceError = cc in service_said w n (subst (as_form w n) same f))
agent_error_said w (pos (suc (suc (suc (suc zero))))) form n e f = absurd (cc e)
agent_error_said w (pos (suc (suc (suc (suc (suc zero)))))) form n e f = absurd (cc e)
agent_error_said w (pos (suc (suc (suc (suc (suc (suc zero))))))) form n e f = absurd (cc e)
agent_error_said w (pos (suc (suc (suc (suc (suc (suc (suc zero)))))))) form n e f = absurd (cc e)
agent_error_said w (pos (suc (suc (suc (suc (suc (suc (suc (suc zero))))))))) form n e f =
    (let same : form ≡ named.UpdateError = cc in refused_said w n (subst (as_form w n) same f))
agent_error_said w (pos (suc (suc (suc (suc (suc (suc (suc (suc (suc zero)))))))))) form n e f =
    (let same : form ≡ named.Reference = cc in referred_said w 9 n (subst (as_form w n) same f))
agent_error_said w (pos (suc (suc (suc (suc (suc (suc (suc (suc (suc (suc m))))))))))) form n e f =
    absurd (omega (
      arith,
      code_below layouts.dsp_errors (suc (suc (suc (suc (suc (suc (suc (suc (suc (suc m))))))))))
          10 form refl e,
    ))

-- ---- messages, to users and to agents

abbrev ReplySaid : Node → Type 0
ReplySaid n = CountWithin (reply_in n).0 × ReplyWithin (reply_in n).1

one_of_two : (a b x : Alternative) (c d : Bool) → cond c (Some a) (cond d (Some b) None) ≡ Some x → (x ≡ a) ⊎ (x ≡ b)
one_of_two a b x true d h = inl (let s : x ≡ a = cc in s)
one_of_two a b x false true h = inr (let s : x ≡ b = cc in s)
one_of_two a b x false false h = absurd (cc h)

abbrev inner_result : Alternative
inner_result = layouts.result_inner (operation_codes named.Outcome)

module _ (w : Surroundings) (inner : named.Named) (is_inner : layout w inner ≡ layouts.is inner_result)
    (rows : List (ℕ × named.Named))
    (errors : (k : ℤ) (form : named.Named) (n : Node) → named_by rows k ≡ Some form → Fits (layout w) (layout w form) n
    → ErrorSaid (number_or_zero k) n) where
  inner_said : (id : ℕ) → CountWithin id → (tag : ℕ) (n : Node) → Fits (layout w) (layout w inner) n
      → ReplySaid (Chosen tag (Many (More (whole id) (More n Nil))))
  inner_said id small tag n f =
      let m = only_made (layout w) inner_result n refl refl (subst (λ (ts : List Alternative). Fits (layout w) ts n)
      is_inner f) in
      let c = coded_in (layout w) (named_by (operation_codes named.Outcome)) m.members
      (sequence_in (layout w) _ m.members m.within) in
      let o = operation_in named.Outcome c.number c.form c.names_it in
      let said = result_said w o.operation c.said (subst (λ (x : named.Named). Fits (layout w) (layout w x) c.said)
      o.named_so c.fits_said) in
      subst (λ (x : Node). ReplySaid (Chosen tag (Many (More (whole id) (More x Nil)))))
      (sym (m.is_many ∙ ap Many (c.split ∙ ap (λ (k : ℤ). More (Number k) (More c.said Nil)) o.number))) (small, said)

  result_by : (tag : ℕ) (ns : Nodes) → FitsIn (layout w) ((layouts.result inner).content) ns
      → ReplySaid (Chosen tag (Many ns))
  result_by tag ns inside =
      let a = first_in (layout w) (named.NumberBelow 0 4294967295) _ (IsNumber 0 4294967295)
      (number_said w 0 4294967295) ns (sequence_in (layout w) _ ns inside) in
      let b = first_in (layout w) inner [] (λ x. Fits (layout w) (layout w inner) x) (λ x g. g) a.others a.rest in
      subst (λ (x : Nodes). ReplySaid (Chosen tag (Many x)))
      (sym (a.split ∙ ap (λ (x : Node). More x a.others) a.is.is ∙ ap (More (whole a.is.value)) (b.split
      ∙ ap (More b.first) (sequence_over (layout w) b.others b.rest))))
      (inner_said a.is.value (omega (arith, a.is.most)) tag b.first b.is)

  error_by : (tag : ℕ) (ns : Nodes) → FitsIn (layout w) ((layouts.error rows).content) ns
      → ReplySaid (Chosen tag (Many ns))
  error_by tag ns inside =
      let i = invoke_in w rows ns (sequence_in (layout w) _ ns inside) in
      subst (λ (x : Nodes). ReplySaid (Chosen tag (Many x))) (sym i.split)
      (i.small, errors i.number i.form i.said i.names_it i.fits_said)

  message_said : (n : Node) → Fits (layout w) (layouts.result inner ∷ layouts.error rows ∷ []) n → ReplySaid n
  message_said n f =
      let m = marked_in (layout w) (layouts.result inner ∷ layouts.error rows ∷ []) n refl refl f in
      subst ReplySaid (sym m.is)
      (elim (one_of_two (layouts.result inner) (layouts.error rows) m.alternative
      (is_marked m.tag (layouts.result inner)) (is_marked m.tag (layouts.error rows)) m.found) [
        | inl e ↦ result_by m.tag m.members (subst (λ (x : Alternative). FitsIn (layout w) x.content m.members) e
            m.within)
        | inr e ↦ error_by m.tag m.members (subst (λ (x : Alternative). FitsIn (layout w) x.content m.members) e
            m.within)
      ])

pub reply_spelled : SpelledReplyIsWithin
reply_spelled w octets n eights spells =
    message_said w named.DapResult refl layouts.dap_errors (user_error_said w) n
    (messages_spelled_fit w named.DapAnswer octets n eights spells)

pub reply_to_agent_spelled : SpelledReplyToAgentIsWithin
reply_to_agent_spelled w octets n eights spells =
    message_said w named.DspResult refl layouts.dsp_errors (agent_error_said w) n
    (messages_spelled_fit w named.DspAnswer octets n eights spells)
