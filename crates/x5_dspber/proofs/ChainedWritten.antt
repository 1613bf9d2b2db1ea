-- What is written of a message between agents is what is written of its parts, one in another.
use Rattle.std.proofs.Common.{◌≡◌, ℕ, true, false, List, [], ◌∷◌, ◌++◌, length, map, refl, ap, ◌∙◌}
use Rattle.std.proofs.Math.Dec.{eqb-suc-zero}
use Rattle.std.specs.Prelude.{◌==◌}
use Rattle.std.specs.Result.{IsErrAnd}
use Rattle.std.specs.declared.option.Option.{Option}
use Rattle.std.specs.declared.option.Option.TheVariants.{Some}
use Rattle.std.specs.declared.result.Result.{Result}
use Rattle.x5_model.specs.References.{RefType, Superior, Subordinate, Cross, NonSpecific, Supplier, Own}
use Rattle.x5_model.specs.Requests.{Controls, Body, Read, Compare, ListBelow, Search, AddEntry, RemoveEntry, ModifyEntry, ModifyDn}
use Rattle.x5_model.specs.Values.{Rdn}
use Rattle.x5_model_messages.specs.Chained.{Chained, carried_node, chained_node, chaining_node}
use Rattle.x5_model_messages.specs.Replies as replies
use Rattle.x5_model_messages.specs.Requests.{argument_node}
use Rattle.x5_model_messages.specs.Terms.{name_node, node_of, rdn_node}
use Rattle.x5_model_octets.specs.Elements as elements
use Rattle.x5_model_octets.specs.Elements.{Element, Elements, canonical, canonical_all}
use Rattle.x5_model_run.specs.Journal.{kind_number, operation_of}
use Rattle.x5_model_typed.specs.Forms.{Component, at}
use Rattle.x5_model_typed.specs.Layouts.{or_nothing}
use Rattle.x5_model_typed.specs.Named as named
use Rattle.x5_model_typed.specs.Nodes.{Node, row, whole}
use Rattle.x5_model_typed.specs.Written.{one_before, written_members}
use Rattle.x5_types.specs.FormView.{table}
use Rattle.x5_writer.specs.Puts.{Puts}
use Rattle.x5_writer.specs.declared.fault.WriteFault.{WriteFault}
use Rattle.x5_direct_writer.specs.PutsOf.{Encloses}
use Rattle.x5_direct_writer.proofs.Putting.{around, enclosed_put, one_put}
use Rattle.x5_direct_writer.proofs.Wholes.{first_fault, inner_fault, last_put, later_fault}
use Rattle.x5_dapber.specs.PutsPart.{asked_by, part}
use Rattle.x5_dapber.proofs.Asked.{id_form, of}
use Rattle.x5_dapber.proofs.Components.{AreLost, ArePut, IsLost, IsPut, in_tag_lost, in_tag_put, others_lost, part_lost, part_put, three, whole_lost}

-- ---- members of one type, in their tag

-- a SEQUENCE OF them
abbrev pub of_members : named.Named → List Node → Option Element
of_members form ns = around 0 16 (written_members table (table form) (row ns))

pub members_put : (tag k : ℕ) (whole form : named.Named) (ns : List Node) (n : Node) (old mid late new : List ℕ)
    → of whole n ≡ of_members form ns → k ≡ length old → Encloses 0 16 k mid late → Encloses 2 tag k late new
    → ArePut (written_members table (table form) (row ns)) old mid
    → ArePut (part table (at tag whole) n (Some elements.Nil)) old new
members_put tag k whole form ns n old mid late new is before inner outer put =
    in_tag_put tag k whole n old late new before outer
    (enclosed_put 0 16 k (of whole n) (written_members table (table form) (row ns)) old mid late is before inner put)

pub members_lost : (tag : ℕ) (whole form : named.Named) (ns : List Node) (n : Node) (fault : WriteFault)
    (mid new old late : List ℕ) (r : Result (Unit {0}) WriteFault) → of whole n ≡ of_members form ns
    → IsErrAnd r (λ x. x ≡ fault) → AreLost (written_members table (table form) (row ns)) mid new fault
    → Puts canonical_all (part table (at tag whole) n (Some elements.Nil)) old late r
members_lost tag whole form ns n fault mid new old late r is passed put =
    in_tag_lost tag whole n fault mid new old late r passed
    (inner_fault 0 16 (of whole n) (written_members table (table form) (row ns)) fault mid new mid new is put)

-- ---- the kind of reference

abbrev pub kinds : RefType → Option Elements
kinds k = part table (at 3 named.RefType) (whole (kind_number k)) (Some elements.Nil)

kind_element : ℕ → Elements
kind_element k =
    elements.More (elements.Constructed 2 3 (elements.More (elements.Primitive 0 2 (k ∷ [])) elements.Nil)) elements.Nil

kind_is : (k : RefType) → kinds k ≡ Some (kind_element (kind_number k))
unfolding kind_element
kind_is Superior = refl
kind_is Subordinate = refl
kind_is Cross = refl
kind_is NonSpecific = refl
kind_is Supplier = refl
kind_is Own = refl

pub kind_put : (k : RefType) (n : ℕ) (old new : List ℕ) → n ≡ kind_number k → new ≡ (163 ∷ 3 ∷ 2 ∷ 1 ∷ n ∷ []) ++ old
    → ArePut (kinds k) old new
unfolding kind_element
kind_put k n old new same e =
    (kind_element (kind_number k), kind_is k, e ∙ ap (λ (m : ℕ). 163 ∷ 3 ∷ 2 ∷ 1 ∷ m ∷ old) same)

-- ---- the RDNs that are left out

abbrev pub excluded : List Rdn → Option Elements
excluded rdns = part table (or_nothing (at 4 named.Rdns)) (node_of (map rdn_node rdns)) (Some elements.Nil)

abbrev pub there : List Rdn → Option Elements
there rdns = part table (at 4 named.Rdns) (node_of (map rdn_node rdns)) (Some elements.Nil)

pub none_excluded : (rdns : List Rdn) (old : List ℕ) → true ≡ (length rdns == 0) → ArePut (excluded rdns) old old
none_excluded [] old h = (elements.Nil, refl, refl)
none_excluded (r ∷ rdns) old h = absurd (cc (h ∙ eqb-suc-zero (length rdns)))

pub some_excluded : (rdns : List Rdn) (old new : List ℕ) (r : Result (Unit {0}) WriteFault) → false ≡ (length rdns == 0)
    → Puts canonical_all (there rdns) old new r → Puts canonical_all (excluded rdns) old new r
some_excluded [] old new r h put = absurd (cc h)
some_excluded (x ∷ rdns) old new r h put = put

-- ---- chaining arguments

abbrev pub last : Chained → Option Elements
last m = excluded m.exclusions

abbrev pub from_kind : Chained → Option Elements
from_kind m = part table (at 3 named.RefType) (whole (kind_number m.kind)) (last m)

abbrev pub trace : Chained → Node
trace m = node_of (map replies.item_node m.trace)

abbrev pub from_trace : Chained → Option Elements
from_trace m = part table (at 2 named.Trace) (trace m) (from_kind m)

abbrev pub from_progress : Chained → Option Elements
from_progress m = part table (at 1 named.Progress) (replies.progress_node m.progress) (from_trace m)

abbrev pub all : Chained → Option Elements
all m = part table (at 0 named.Name) (name_node m.target) (from_progress m)

abbrev pub alone : Component → Node → Option Elements
alone c n = part table c n (Some elements.Nil)

chaining_is : (m : Chained) → of named.Chaining (chaining_node m) ≡ around 0 17 (all m)
chaining_is m = refl

pub chaining_put : (m : Chained) (k : ℕ) (old a b c d e new : List ℕ) → k ≡ length old → Encloses 0 17 k e new
    → ArePut (last m) old a → ArePut (kinds m.kind) a b → ArePut (alone (at 2 named.Trace) (trace m)) b c
    → ArePut (alone (at 1 named.Progress) (replies.progress_node m.progress)) c d
    → ArePut (alone (at 0 named.Name) (name_node m.target)) d e → IsPut (of named.Chaining (chaining_node m)) old new
chaining_put m k old a b c d e new before header x y z p t =
    enclosed_put 0 17 k (of named.Chaining (chaining_node m)) (all m) old e new (chaining_is m) before header
    (part_put table (at 0 named.Name) (name_node m.target) (from_progress m) old d e
    (part_put table (at 1 named.Progress) (replies.progress_node m.progress) (from_trace m) old c d
    (part_put table (at 2 named.Trace) (trace m) (from_kind m) old b c
    (part_put table (at 3 named.RefType) (whole (kind_number m.kind)) (last m) old a b x y) z) p) t)

-- the parts that are lists
abbrev pub ExclusionsPut : List Rdn → List ℕ → List ℕ → Type 0
ExclusionsPut rdns old new = ArePut (excluded rdns) old new

abbrev pub ExclusionsLost : List Rdn → List ℕ → List ℕ → WriteFault → Type 0
ExclusionsLost rdns old new fault = AreLost (excluded rdns) old new fault

abbrev pub TracePut : List replies.TraceItem → List ℕ → List ℕ → Type 0
TracePut items old new = ArePut (alone (at 2 named.Trace) (node_of (map replies.item_node items))) old new

abbrev pub TraceLost : List replies.TraceItem → List ℕ → List ℕ → WriteFault → Type 0
TraceLost items old new fault = AreLost (alone (at 2 named.Trace) (node_of (map replies.item_node items))) old new fault

-- a fault of a part, and of what stands behind one
abbrev Lost : Chained → Type 0
Lost m =
    (fault : WriteFault) (mid new old late : List ℕ) (r : Result (Unit {0}) WriteFault) → IsErrAnd r (λ x. x ≡ fault)
    → AreLost (all m) mid new fault → Puts canonical (of named.Chaining (chaining_node m)) old late r

all_lost : (m : Chained) → Lost m
all_lost m fault mid new old late r passed put =
    whole_lost 0 17 (of named.Chaining (chaining_node m)) (all m) fault mid new old late r (chaining_is m) passed put

behind_target : (m : Chained) (fault : WriteFault) (mid new : List ℕ) → AreLost (from_progress m) mid new fault
    → AreLost (all m) mid new fault
behind_target m fault mid new put =
    others_lost table (at 0 named.Name) (name_node m.target) (from_progress m) fault mid new mid new put

behind_progress : (m : Chained) (fault : WriteFault) (mid new : List ℕ) → AreLost (from_trace m) mid new fault
    → AreLost (all m) mid new fault
behind_progress m fault mid new put =
    behind_target m fault mid new
    (others_lost table (at 1 named.Progress) (replies.progress_node m.progress) (from_trace m) fault mid new mid new put)

behind_trace : (m : Chained) (fault : WriteFault) (mid new : List ℕ) → AreLost (from_kind m) mid new fault
    → AreLost (all m) mid new fault
behind_trace m fault mid new put =
    behind_progress m fault mid new (others_lost table (at 2 named.Trace) (trace m) (from_kind m) fault mid new mid new put)

pub target_lost : (m : Chained) (fault : WriteFault) (mid new old late : List ℕ) (r : Result (Unit {0}) WriteFault)
    → IsErrAnd r (λ x. x ≡ fault) → AreLost (alone (at 0 named.Name) (name_node m.target)) mid new fault
    → Puts canonical (of named.Chaining (chaining_node m)) old late r
target_lost m fault mid new old late r passed put =
    all_lost m fault mid new old late r passed
    (part_lost table (at 0 named.Name) (name_node m.target) (from_progress m) fault mid new mid new put)

pub progress_lost : (m : Chained) (fault : WriteFault) (mid new old late : List ℕ) (r : Result (Unit {0}) WriteFault)
    → IsErrAnd r (λ x. x ≡ fault)
    → AreLost (alone (at 1 named.Progress) (replies.progress_node m.progress)) mid new fault
    → Puts canonical (of named.Chaining (chaining_node m)) old late r
progress_lost m fault mid new old late r passed put =
    all_lost m fault mid new old late r passed
    (behind_target m fault mid new
    (part_lost table (at 1 named.Progress) (replies.progress_node m.progress) (from_trace m) fault mid new mid new put))

pub trace_lost : (m : Chained) (fault : WriteFault) (mid new old late : List ℕ) (r : Result (Unit {0}) WriteFault)
    → IsErrAnd r (λ x. x ≡ fault) → AreLost (alone (at 2 named.Trace) (trace m)) mid new fault
    → Puts canonical (of named.Chaining (chaining_node m)) old late r
trace_lost m fault mid new old late r passed put =
    all_lost m fault mid new old late r passed
    (behind_progress m fault mid new (part_lost table (at 2 named.Trace) (trace m) (from_kind m) fault mid new mid new put))

pub kind_lost : (m : Chained) (fault : WriteFault) (mid new old late : List ℕ) (r : Result (Unit {0}) WriteFault)
    → IsErrAnd r (λ x. x ≡ fault) → AreLost (kinds m.kind) mid new fault
    → Puts canonical (of named.Chaining (chaining_node m)) old late r
kind_lost m fault mid new old late r passed put =
    all_lost m fault mid new old late r passed
    (behind_trace m fault mid new
    (part_lost table (at 3 named.RefType) (whole (kind_number m.kind)) (last m) fault mid new mid new put))

pub exclusions_lost : (m : Chained) (fault : WriteFault) (mid new old late : List ℕ) (r : Result (Unit {0}) WriteFault)
    → IsErrAnd r (λ x. x ≡ fault) → AreLost (last m) mid new fault
    → Puts canonical (of named.Chaining (chaining_node m)) old late r
exclusions_lost m fault mid new old late r passed put =
    all_lost m fault mid new old late r passed
    (behind_trace m fault mid new
    (others_lost table (at 3 named.RefType) (whole (kind_number m.kind)) (last m) fault mid new mid new put))

-- ---- what it carries

abbrev pub chaining : Chained → Option Element
chaining m = of named.Chaining (chaining_node m)

abbrev pub argument : Chained → Option Element
argument m = of (named.Argument (asked_by m.request.body)) (argument_node m.request)

abbrev pub carried : Chained → Option Element
carried m = of (named.Chained (asked_by m.request.body)) (carried_node m)

abbrev pub two : Option Element → Option Element → Option Elements
two a b = one_before a (one_before b (Some elements.Nil))

carried_is : (m : Chained) → carried m ≡ around 0 16 (two (chaining m) (argument m))
carried_is m = refl

pub carried_put : (m : Chained) (k : ℕ) (old early late new : List ℕ) → k ≡ length old → Encloses 0 16 k late new
    → IsPut (argument m) old early → IsPut (chaining m) early late → IsPut (carried m) old new
carried_put m k old early late new before header second first =
    enclosed_put 0 16 k (carried m) (two (chaining m) (argument m)) old late new (carried_is m) before header
    (one_put (chaining m) (one_before (argument m) (Some elements.Nil)) old early late
    (last_put (argument m) old early second) first)

pub argument_lost : (m : Chained) (fault : WriteFault) (mid new old late : List ℕ) (r : Result (Unit {0}) WriteFault)
    → IsErrAnd r (λ x. x ≡ fault) → IsLost (argument m) mid new fault → Puts canonical (carried m) old late r
argument_lost m fault mid new old late r passed put =
    whole_lost 0 16 (carried m) (two (chaining m) (argument m)) fault mid new old late r (carried_is m) passed
    (later_fault (chaining m) (one_before (argument m) (Some elements.Nil)) fault mid new mid new
    (first_fault (argument m) (Some elements.Nil) fault mid new mid new put))

pub chaining_lost : (m : Chained) (fault : WriteFault) (mid new old late : List ℕ) (r : Result (Unit {0}) WriteFault)
    → IsErrAnd r (λ x. x ≡ fault) → IsLost (chaining m) mid new fault → Puts canonical (carried m) old late r
chaining_lost m fault mid new old late r passed put =
    whole_lost 0 16 (carried m) (two (chaining m) (argument m)) fault mid new old late r (carried_is m) passed
    (first_fault (chaining m) (one_before (argument m) (Some elements.Nil)) fault mid new mid new put)

-- ---- the message

abbrev pub with : Chained → Controls → Body → Chained
with m c b = record {
  target = m.target;
  progress = m.progress;
  kind = m.kind;
  exclusions = m.exclusions;
  trace = m.trace;
  request = record { controls = c; body = b };
}

by_body : (id : ℕ) (m : Chained) (c : Controls) (b : Body) → of named.DspRequest (chained_node id (with m c b))
    ≡ around 2 1 (three (of id_form (whole id)) (of named.AnyNumber (whole (operation_of b))) (carried (with m c b)))
by_body id m c (Read name selection) = refl
by_body id m c (Compare name assertion) = refl
by_body id m c (ListBelow name) = refl
by_body id m c (Search base subset filter selection) = refl
by_body id m c (AddEntry name attributes) = refl
by_body id m c (RemoveEntry name) = refl
by_body id m c (ModifyEntry name changes) = refl
by_body id m c (ModifyDn name rdn drops) = refl

pub chained_is : (id : ℕ) (m : Chained) → of named.DspRequest (chained_node id m)
    ≡ around 2 1 (three (of id_form (whole id)) (of named.AnyNumber (whole (operation_of m.request.body))) (carried m))
chained_is id m = by_body id m m.request.controls m.request.body
