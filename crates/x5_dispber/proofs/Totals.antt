-- What is written of a total refresh is what is written of its parts, one in another.
use Rattle.std.proofs.Common.{◌≡◌, ℕ, List, [], ◌∷◌, ◌++◌, length, map, refl, ap, subst, sym, ◌∙◌, append-nil}
use Rattle.std.specs.Result.{IsErrAnd}
use Rattle.std.specs.declared.option.Option.{Option}
use Rattle.std.specs.declared.option.Option.TheVariants.{None, Some}
use Rattle.std.specs.declared.result.Result.{Result}
use Rattle.std.specs.declared.result.Result.TheVariants.{Ok, Err}
use Rattle.x5_model.specs.Entries as model
use Rattle.x5_model.specs.Values.{Text}
use Rattle.x5_model.specs.Words.{in_option}
use Rattle.x5_model_messages.specs.Shadows as shadows
use Rattle.x5_model_messages.specs.Terms.{node_of}
use Rattle.x5_model_octets.specs.Elements as elements
use Rattle.x5_model_octets.specs.Elements.{Element, Elements, canonical}
use Rattle.x5_model_typed.specs.Layouts.{Surroundings, layout}
use Rattle.x5_model_typed.specs.Named as named
use Rattle.x5_model_typed.specs.Named.{Named}
use Rattle.x5_model_typed.specs.Nodes.{Chosen, Node, whole}
use Rattle.x5_model_typed.specs.Written.{one_before, single, written}
use Rattle.x5_ops.specs.declared.knowledge.Content.{Content}
use Rattle.x5_ops.specs.declared.knowledge.Nssr.{Nssr}
use Rattle.x5_ops.specs.declared.knowledge.Specific.{Specific}
use Rattle.x5_writer.specs.Puts.{Puts}
use Rattle.x5_writer.specs.declared.fault.WriteFault.{WriteFault}
use Rattle.x5_writer.specs.declared.fault.WriteFault.TheVariants.{Misfit, NoMemory}
use Rattle.x5_direct_writer.specs.PutsOf.{Encloses, PutsOf}
use Rattle.x5_direct_writer.proofs.Putting.{around, enclosed_put, one_put}
use Rattle.x5_direct_writer.proofs.Wholes.{first_fault, inner_fault, last_put, later_fault, passed_on}
use Rattle.x5_dispber.specs.ShadowViews.{told_known, told_other, told_shadow}
use Rattle.x5_dispber.specs.Totals.{AreOctetsOf, PutsAlone, entries_octets, sent_total, total_node}
use Rattle.x5_dispber.specs.declared.shadow.Refresh.{Refresh}
use Rattle.x5_dispber.specs.declared.shadow.Refresh.TheVariants as brings
use Rattle.x5_dispber.specs.declared.shadow.Shadow.{Shadow}
use Rattle.x5_dispber.specs.declared.shadow.Shadow.TheVariants as shadow

-- what is written of a value of the type
abbrev pub of : Surroundings → Named → Node → Option Element
of w form n = written (layout w) (layout w form) n

-- that it stands before the octets that were there
abbrev pub IsPut : Option Element → List ℕ → List ℕ → Type 0
IsPut o old new = Puts {Y = Unit {0}} canonical o old new (Ok tt)

-- or why it doesn't
abbrev pub IsLost : Option Element → List ℕ → List ℕ → WriteFault → Type 0
IsLost o old new fault = Puts {Y = Unit {0}} canonical o old new (Err fault)

-- ---- three components

abbrev pub three : Option Element → Option Element → Option Element → Option Elements
three a b c = one_before a (one_before b (one_before c (Some elements.Nil)))

pub three_put : (class tag k : ℕ) (o a b c : Option Element) (old early mid late new : List ℕ)
    → o ≡ around class tag (three a b c) → k ≡ length old → Encloses class tag k late new
    → IsPut c old early → IsPut b early mid → IsPut a mid late → IsPut o old new
three_put class tag k o a b c old early mid late new is before header last second first =
    enclosed_put class tag k o (three a b c) old late new is before header
    (one_put a (one_before b (one_before c (Some elements.Nil))) old mid late
    (one_put b (one_before c (Some elements.Nil)) old early mid (last_put c old early last) second) first)

-- a fault of a component is one of the whole, as it is passed on
pub third_lost : (class tag : ℕ) (o a b c : Option Element) (fault : WriteFault) (mid new old late : List ℕ)
    (r : Result (Unit {0}) WriteFault) → o ≡ around class tag (three a b c) → IsErrAnd r (λ x. x ≡ fault)
    → IsLost c mid new fault → Puts canonical o old late r
third_lost class tag o a b c fault mid new old late r is passed put =
    passed_on canonical o old late fault r passed
    (inner_fault class tag o (three a b c) fault mid new old late is
    (later_fault a (one_before b (one_before c (Some elements.Nil))) fault mid new mid new
    (later_fault b (one_before c (Some elements.Nil)) fault mid new mid new
    (first_fault c (Some elements.Nil) fault mid new mid new put))))

pub second_lost : (class tag : ℕ) (o a b c : Option Element) (fault : WriteFault) (mid new old late : List ℕ)
    (r : Result (Unit {0}) WriteFault) → o ≡ around class tag (three a b c) → IsErrAnd r (λ x. x ≡ fault)
    → IsLost b mid new fault → Puts canonical o old late r
second_lost class tag o a b c fault mid new old late r is passed put =
    passed_on canonical o old late fault r passed
    (inner_fault class tag o (three a b c) fault mid new old late is
    (later_fault a (one_before b (one_before c (Some elements.Nil))) fault mid new mid new
    (first_fault b (one_before c (Some elements.Nil)) fault mid new mid new put)))

pub first_lost : (class tag : ℕ) (o a b c : Option Element) (fault : WriteFault) (mid new old late : List ℕ)
    (r : Result (Unit {0}) WriteFault) → o ≡ around class tag (three a b c) → IsErrAnd r (λ x. x ≡ fault)
    → IsLost a mid new fault → Puts canonical o old late r
first_lost class tag o a b c fault mid new old late r is passed put =
    passed_on canonical o old late fault r passed
    (inner_fault class tag o (three a b c) fault mid new old late is
    (first_fault a (one_before b (one_before c (Some elements.Nil))) fault mid new mid new put))

-- ---- all of a context

abbrev pub entries : Surroundings → List model.Named → Option Element
entries w es = of w named.Entries (node_of (map shadows.entry_node es))

abbrev pub knowns : Surroundings → List Text → List Specific → Option Element
knowns w names ks = of w named.Knowns (node_of (map shadows.known_node (map (told_known names) ks)))

abbrev pub others : Surroundings → List Text → List Nssr → Option Element
others w names ns = of w named.NonSpecifics (node_of (map shadows.non_specific_node (map (told_other names) ns)))

abbrev pub total : Surroundings → List Text → Content → Option Element
total w names t = of w named.Total (total_node names t)

pub total_is : (w : Surroundings) (names : List Text) (t : Content)
    → total w names t ≡ around 0 16 (three (entries w t.entries) (knowns w names t.specific) (others w names t.nssr))
total_is w names t = refl

-- ---- the same by its tag

abbrev pub refresh : Surroundings → List Text → Content → Option Element
refresh w names t = of w named.Refresh (Chosen 0 (total_node names t))

-- the only element in another
one_alone : (o : Option Element) → around 2 0 (single o) ≡ around 2 0 (one_before o (Some elements.Nil))
one_alone None = refl
one_alone (Some e) = refl

refresh_is : (w : Surroundings) (names : List Text) (t : Content)
    → refresh w names t ≡ around 2 0 (one_before (total w names t) (Some elements.Nil))
refresh_is w names t = one_alone (total w names t)

pub refresh_put : (w : Surroundings) (names : List Text) (t : Content) (k : ℕ) (old mid new : List ℕ) → k ≡ length old
    → Encloses 2 0 k mid new → IsPut (total w names t) old mid → IsPut (refresh w names t) old new
refresh_put w names t k old mid new before header put =
    enclosed_put 2 0 k (refresh w names t) (one_before (total w names t) (Some elements.Nil)) old mid new
    (refresh_is w names t) before header (last_put (total w names t) old mid put)

pub refresh_lost : (w : Surroundings) (names : List Text) (t : Content) (fault : WriteFault) (mid new old late : List ℕ)
    (r : Result (Unit {0}) WriteFault) → IsErrAnd r (λ x. x ≡ fault) → IsLost (total w names t) mid new fault
    → Puts canonical (refresh w names t) old late r
refresh_lost w names t fault mid new old late r passed put =
    passed_on canonical (refresh w names t) old late fault r passed
    (inner_fault 2 0 (refresh w names t) (one_before (total w names t) (Some elements.Nil)) fault mid new old late
    (refresh_is w names t) (first_fault (total w names t) (Some elements.Nil) fault mid new mid new put))

-- ---- what a supplier sends

abbrev pub number_of : Surroundings → Named → ℕ → Option Element
number_of w form n = of w form (whole n)

abbrev pub sent : Surroundings → List Text → ℕ → ℕ → Content → Option Element
sent w names agreement stamp t = of w named.UpdateArgument (sent_total names agreement stamp t)

pub sent_is : (w : Surroundings) (names : List Text) (agreement stamp : ℕ) (t : Content)
    → sent w names agreement stamp t
    ≡ around 0 16 (three (number_of w named.Agreement agreement) (number_of w named.Time stamp) (refresh w names t))
sent_is w names agreement stamp t = refl

-- ---- the message

-- the type of its id
abbrev pub id_form : Named
id_form = named.NumberBelow 0 4294967295

-- the code of updateShadow
abbrev pub two : Option Element
two = Some (elements.Primitive 0 2 (2 ∷ []))

pub two_put : (old : List ℕ) → IsPut two old ((2 ∷ 1 ∷ 2 ∷ []) ++ old)
two_put old = (elements.Primitive 0 2 (2 ∷ []), refl, refl)

abbrev pub update : Surroundings → List Text → ℕ → ℕ → ℕ → Content → Option Element
update w names id agreement stamp t =
    of w named.DispMessage (shadows.invoke_node id 2 (sent_total names agreement stamp t))

pub update_is : (w : Surroundings) (names : List Text) (id agreement stamp : ℕ) (t : Content)
    → update w names id agreement stamp t
    ≡ around 2 1 (three (number_of w id_form id) two (sent w names agreement stamp t))
update_is w names id agreement stamp t = refl

-- an update that brings all of a context
pub tells_total : (names : List Text) (m : Shadow) (agreement stamp : ℕ) (brought : Refresh) (t : Content)
    → m ≡ shadow.Update agreement stamp brought → brought ≡ brings.Total t
    → told_shadow names m ≡ told_shadow names (shadow.Update agreement stamp (brings.Total t))
tells_total names m agreement stamp brought t is all =
    ap (told_shadow names) (is ∙ ap (λ (r : Refresh). shadow.Update agreement stamp r) all)

-- ---- entries as they were written

-- what was put before nothing is all that there is
pub put_alone : (es : List model.Named) (old new : List ℕ) → old ≡ []
    → PutsOf {Y = Unit {0}} named.Entries (node_of (map shadows.entry_node es)) old new (Ok tt) → (w : Surroundings)
    → PutsAlone (entries_octets w es) (Ok new)
put_alone es old new none put w =
    let p = put w in
    ap (in_option None (λ (e : Element). Some (canonical e))) p.1
    ∙ ap (λ (l : List ℕ). Some l) (sym (p.2 ∙ ap (λ (l : List ℕ). canonical p.0 ++ l) none ∙ append-nil (canonical p.0)))

unwritten : (o : Option Element) (old new : List ℕ) (fault : WriteFault) → IsLost o old new fault
    → PutsAlone (in_option None (λ (e : Element). Some (canonical e)) o) (Err fault)
unwritten o old new Misfit put = ap (in_option None (λ (e : Element). Some (canonical e))) put
unwritten o old new NoMemory put = tt

pub lost_alone : (es : List model.Named) (old new : List ℕ) (fault : WriteFault) (r : Result (List ℕ) WriteFault)
    → IsErrAnd r (λ x. x ≡ fault)
    → PutsOf {Y = Unit {0}} named.Entries (node_of (map shadows.entry_node es)) old new (Err fault) → (w : Surroundings)
    → PutsAlone (entries_octets w es) r
lost_alone es old new fault (Ok octets) is put w = elim is [ ]
lost_alone es old new fault (Err x) is put w =
    subst (λ (f : WriteFault). PutsAlone (entries_octets w es) (Err f)) (sym is)
    (unwritten (entries w es) old new fault (put w))

-- octets that are theirs are put as what is written of them
put_again : (o : Option Element) (octets old new : List ℕ)
    → in_option None (λ (e : Element). Some (canonical e)) o ≡ Some octets → new ≡ octets ++ old → IsPut o old new
put_again None octets old new theirs put = absurd (cc theirs)
put_again (Some e) octets old new theirs put =
    let same : canonical e ≡ octets = cc theirs in
    (e, refl, put ∙ ap (λ (l : List ℕ). l ++ old) (sym same))

pub theirs_put : (es : List model.Named) (octets old new : List ℕ) → AreOctetsOf es octets → new ≡ octets ++ old
    → PutsOf {Y = Unit {0}} named.Entries (node_of (map shadows.entry_node es)) old new (Ok tt)
theirs_put es octets old new theirs put w = put_again (entries w es) octets old new (theirs w) put

-- entries that have no octets aren't put
none_is : (o : Option Element) → in_option None (λ (e : Element). Some (canonical e)) o ≡ None → o ≡ None
none_is None h = refl
none_is (Some e) h = absurd (cc h)

unput : (o : Option Element) (old new : List ℕ) (fault : WriteFault)
    → PutsAlone (in_option None (λ (e : Element). Some (canonical e)) o) (Err fault) → IsLost o old new fault
unput o old new Misfit h = none_is o h
unput o old new NoMemory h = tt

pub none_put : (es : List model.Named) (old new : List ℕ) (fault : WriteFault) (r : Result (Unit {0}) WriteFault)
    → IsErrAnd r (λ x. x ≡ fault) → ((w : Surroundings) → PutsAlone (entries_octets w es) (Err fault))
    → PutsOf named.Entries (node_of (map shadows.entry_node es)) old new r
none_put es old new fault r is h w =
    passed_on canonical (entries w es) old new fault r is (unput (entries w es) old new fault (h w))
