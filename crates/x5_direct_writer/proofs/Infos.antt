-- What is shown of an entry has its name, that it comes from a shadow where it does, and the attributes as its components.
use Rattle.std.proofs.Common.{◌≡◌, ℕ, Bool, true, false, List, [], ◌∷◌, ◌++◌, length, map, refl, ap, sym, subst, ◌∙◌}
use Rattle.std.specs.Prelude.{if◌then◌else◌, not}
use Rattle.std.specs.declared.option.Option.{Option}
use Rattle.std.specs.declared.option.Option.TheVariants.{None, Some}
use Rattle.std.specs.declared.result.Result.TheVariants.{Ok, Err}
use Rattle.x5_model_messages.specs.Replies as replies
use Rattle.x5_model_messages.specs.Terms as terms
use Rattle.x5_model_messages.specs.Terms.{node_of}
use Rattle.x5_model_octets.specs.Elements as elements
use Rattle.x5_model_octets.specs.Elements.{Element, Elements, canonical, canonical_all}
use Rattle.x5_model_typed.specs.Layouts.{Surroundings, layout}
use Rattle.x5_model_typed.specs.Named as named
use Rattle.x5_model_typed.specs.Nodes.{Flag, Node}
use Rattle.x5_model_typed.specs.Written.{one_before, written}
use Rattle.x5_ops.specs.AnswerViews.{info_view, shown_view}
use Rattle.x5_ops.specs.declared.answers.EntryInfo.{EntryInfo}
use Rattle.x5_ops.specs.declared.requests.Attribute.{Attribute}
use Rattle.x5_writer.specs.Puts.{Puts}
use Rattle.x5_writer.specs.declared.fault.WriteFault.{WriteFault}
use Rattle.x5_writer.specs.declared.fault.WriteFault.TheVariants.{Misfit, NoMemory}
use Rattle.x5_direct_writer.specs.PutsOf.{Encloses, PutsOf}
use Rattle.x5_direct_writer.proofs.Naming.{in_two}
use Rattle.x5_direct_writer.proofs.Putting.{around, enclosed_put, nothing_before, one_put}

-- FALSE before others
abbrev pub flagged : Bool → Option Elements → Option Elements
flagged true os = one_before (Some (elements.Primitive 0 1 (0 ∷ []))) os
flagged false os = os

abbrev pub HasInfo : Bool → Node → Node → Node → Type 0
HasInfo copy name attributes n =
    (w : Surroundings) → written (layout w) (layout w named.EntryInfo) n
    ≡ around 0 16 (one_before (written (layout w) (layout w named.Name) name)
    (flagged copy (one_before (written (layout w) (layout w named.Attributes) attributes) (Some elements.Nil))))

info_is : (copy : Bool) (name attributes : Node)
    → HasInfo copy name attributes (node_of (name ∷ Flag (not copy) ∷ attributes ∷ []))
info_is true name attributes w = refl
info_is false name attributes w = refl

pub has_info : (e : EntryInfo) (l : List Attribute) → l ≡ e.attributes
    → HasInfo e.copy (terms.name_node e.name) (node_of (map (λ a. replies.shown_node (shown_view a)) l))
    (replies.info_node (info_view e))
has_info e l is =
    subst (λ (ns : List Node). HasInfo e.copy (terms.name_node e.name) (node_of ns) (replies.info_node (info_view e)))
    (in_two replies.shown_node shown_view e.attributes
    ∙ ap (λ (m : List Attribute). map (λ a. replies.shown_node (shown_view a)) m) (sym is))
    (info_is e.copy (terms.name_node e.name) (node_of (map replies.shown_node (map shown_view e.attributes))))

pub flagged_put : (copy : Bool) (os : Option Elements) (old mid new : List ℕ)
    → Puts {Y = Unit {0}} canonical_all os old mid (Ok tt)
    → new ≡ (if copy then 1 ∷ 1 ∷ 0 ∷ [] else []) ++ mid
    → Puts {Y = Unit {0}} canonical_all (flagged copy os) old new (Ok tt)
flagged_put true os old mid new put is =
    one_put (Some (elements.Primitive 0 1 (0 ∷ []))) os old mid new put (elements.Primitive 0 1 (0 ∷ []), refl, is)
flagged_put false os old mid new put is = (put.0, put.1, is ∙ put.2)

pub info_put : (k : ℕ) (copy : Bool) (name attributes n : Node) (old early mid late new : List ℕ)
    → HasInfo copy name attributes n → k ≡ length old → Encloses 0 16 k late new
    → PutsOf {Y = Unit {0}} named.Attributes attributes old early (Ok tt)
    → mid ≡ (if copy then 1 ∷ 1 ∷ 0 ∷ [] else []) ++ early
    → PutsOf {Y = Unit {0}} named.Name name mid late (Ok tt)
    → PutsOf {Y = Unit {0}} named.EntryInfo n old new (Ok tt)
info_put k copy name attributes n old early mid late new is before header behind origin front w =
    let x = written (layout w) (layout w named.Name) name in
    let y = one_before (written (layout w) (layout w named.Attributes) attributes) (Some elements.Nil) in
    enclosed_put 0 16 k (written (layout w) (layout w named.EntryInfo) n) (one_before x (flagged copy y)) old late new
    (is w) before header
    (one_put x (flagged copy y) old mid late
    (flagged_put copy y old early mid
    (one_put (written (layout w) (layout w named.Attributes) attributes) (Some elements.Nil) old old early
    (elements.Nil, refl, refl) (behind w)) origin) (front w))

pub none_flagged : (copy : Bool) → flagged copy None ≡ None
none_flagged true = refl
none_flagged false = refl

pub attributes_fail : (copy : Bool) (name attributes n : Node) (fault : WriteFault) (old new late : List ℕ)
    → HasInfo copy name attributes n → PutsOf {Y = Unit {0}} named.Attributes attributes old new (Err fault)
    → PutsOf {Y = Unit {0}} named.EntryInfo n old late (Err fault)
attributes_fail copy name attributes n Misfit old new late is put w =
    let x = written (layout w) (layout w named.Name) name in
    is w
    ∙ ap (λ (o : Option Element). around 0 16 (one_before x (flagged copy (one_before o (Some elements.Nil))))) (put w)
    ∙ ap (λ (os : Option Elements). around 0 16 (one_before x os)) (none_flagged copy)
    ∙ ap (around 0 16) (nothing_before x)
attributes_fail copy name attributes n NoMemory old new late is put w = tt

pub name_fails : (copy : Bool) (name attributes n : Node) (fault : WriteFault) (mid new old late : List ℕ)
    → HasInfo copy name attributes n → PutsOf {Y = Unit {0}} named.Name name mid new (Err fault)
    → PutsOf {Y = Unit {0}} named.EntryInfo n old late (Err fault)
name_fails copy name attributes n Misfit mid new old late is put w =
    is w
    ∙ ap (λ (o : Option Element). around 0 16 (one_before o
    (flagged copy (one_before (written (layout w) (layout w named.Attributes) attributes) (Some elements.Nil))))) (put w)
name_fails copy name attributes n NoMemory mid new old late is put w = tt
