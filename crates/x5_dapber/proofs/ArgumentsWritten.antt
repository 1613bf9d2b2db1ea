-- What is written of an argument is what is written of its components, those that have their defaults left out.
use Rattle.std.proofs.Common.{◌≡◌, ℕ, Bool, true, false, List, [], ◌∷◌, ◌++◌, length, refl}
use Rattle.std.specs.Prelude.{not}
use Rattle.std.specs.Result.{IsErrAnd}
use Rattle.std.specs.declared.option.Option.{Option}
use Rattle.std.specs.declared.option.Option.TheVariants.{None, Some}
use Rattle.std.specs.declared.result.Result.{Result}
use Rattle.x5_model.specs.Requests as model
use Rattle.x5_model_messages.specs.Requests as requests
use Rattle.x5_model_messages.specs.Terms.{node_of}
use Rattle.x5_model_octets.specs.Elements as elements
use Rattle.x5_model_octets.specs.Elements.{Element, Elements, canonical}
use Rattle.x5_model_typed.specs.Forms.{Component, at, or}
use Rattle.x5_model_typed.specs.Layouts as layouts
use Rattle.x5_model_typed.specs.Named as named
use Rattle.x5_model_typed.specs.Nodes.{Node, row, same, whole}
use Rattle.x5_model_typed.specs.Written.{one_before, tagged_with, written_members}
use Rattle.x5_types.specs.FormView.{table}
use Rattle.x5_writer.specs.Puts.{Puts}
use Rattle.x5_writer.specs.declared.fault.WriteFault.{WriteFault}
use Rattle.x5_direct_writer.specs.PutsOf.{Encloses}
use Rattle.x5_direct_writer.proofs.Putting.{around, enclosed_put}
use Rattle.x5_direct_writer.proofs.Wholes.{first_fault, inner_fault, last_put, tagged_fault, tagged_put}
use Rattle.x5_dapber.specs.PutsPart.{part}
use Rattle.x5_dapber.proofs.Asked.{of}
use Rattle.x5_dapber.proofs.Components.{AreLost, ArePut, IsPut, others_lost, part_lost, part_put, whole_lost}

-- ---- components one after the other

-- what is written of components with these values
abbrev pub parts_of : List (Component × Node) → Option Elements
parts_of [] = Some elements.Nil
parts_of (p ∷ ps) = part table p.0 p.1 (parts_of ps)

abbrev pub alone : Component × Node → Option Elements
alone p = part table p.0 p.1 (Some elements.Nil)

pub one_more : (p : Component × Node) (ps : List (Component × Node)) (old mid new : List ℕ) → ArePut (parts_of ps) old mid
    → ArePut (alone p) mid new → ArePut (parts_of (p ∷ ps)) old new
one_more p ps old mid new others put = part_put table p.0 p.1 (parts_of ps) old mid new others put

-- a fault of one of them
among_lost : (front : List (Component × Node)) (p : Component × Node) (back : List (Component × Node)) (fault : WriteFault)
    (mid new : List ℕ) → AreLost (alone p) mid new fault → AreLost (parts_of (front ++ p ∷ back)) mid new fault
among_lost [] p back fault mid new put = part_lost table p.0 p.1 (parts_of back) fault mid new mid new put
among_lost (q ∷ front) p back fault mid new put =
    others_lost table q.0 q.1 (parts_of (front ++ p ∷ back)) fault mid new mid new
    (among_lost front p back fault mid new put)

-- is one of the SET
pub set_lost : (o : Option Element) (front : List (Component × Node)) (p : Component × Node) (back : List (Component × Node))
    (fault : WriteFault) (mid new old late : List ℕ) (r : Result (Unit {0}) WriteFault)
    → o ≡ around 0 17 (parts_of (front ++ p ∷ back)) → IsErrAnd r (λ x. x ≡ fault) → AreLost (alone p) mid new fault
    → Puts canonical o old late r
set_lost o front p back fault mid new old late r is passed put =
    whole_lost 0 17 o (parts_of (front ++ p ∷ back)) fault mid new old late r is passed
    (among_lost front p back fault mid new put)

pub set_put : (o : Option Element) (ps : List (Component × Node)) (k : ℕ) (old late new : List ℕ)
    → o ≡ around 0 17 (parts_of ps) → k ≡ length old → Encloses 0 17 k late new → ArePut (parts_of ps) old late
    → IsPut o old new
set_put o ps k old late new is before header put = enclosed_put 0 17 k o (parts_of ps) old late new is before header put

pub none_put : (old : List ℕ) → ArePut (parts_of []) old old
none_put old = (elements.Nil, refl, refl)

-- ---- service controls

-- those of a request, as the code has them
abbrev pub controls : Bool → Bool → Option ℕ → Node
controls nocopy nochain size = requests.controls_node (record { nocopy = nocopy; nochain = nochain; size = size })

pub unlimited : (a b : Bool) (s : Option ℕ) → s ≡ None → not a ≡ true → not b ≡ same layouts.no_controls (controls a b s)
unlimited true b s is h = absurd (cc h)
unlimited false b (Some k) is h = absurd (cc is)
unlimited false true None is h = refl
unlimited false false None is h = refl

pub masters_only : (a b : Bool) (s : Option ℕ) → not a ≡ false → not a ≡ same layouts.no_controls (controls a b s)
masters_only true b s h = refl
masters_only false b s h = absurd (cc h)

pub limited : (a b : Bool) (s : Option ℕ) (k : ℕ) → s ≡ Some k → false ≡ same layouts.no_controls (controls a b s)
limited true b s k is = refl
limited false true s k is = refl
limited false false None k is = absurd (cc is)
limited false false (Some l) k is = refl

-- ---- selections

abbrev members : List Node → Option Elements
members ns = written_members table (table named.AnyOid) (row ns)

-- the types, in their tag
abbrev tagged : List Node → Option Element
tagged ns = tagged_with (Some 1) (around 0 17 (members ns))

abbrev pub selected : List Node → Option Element
selected ns = of named.Selection (node_of (node_of ns ∷ []))

selected_is : (ns : List Node) → selected ns ≡ around 0 17 (one_before (tagged ns) (Some elements.Nil))
selected_is ns = refl

pub selected_put : (ns : List Node) (k : ℕ) (old a b c new : List ℕ) → k ≡ length old → Encloses 0 17 k a b
    → Encloses 2 1 k b c → Encloses 0 17 k c new → ArePut (members ns) old a → IsPut (selected ns) old new
selected_put ns k old a b c new before inner tag outer put =
    enclosed_put 0 17 k (selected ns) (one_before (tagged ns) (Some elements.Nil)) old c new (selected_is ns) before outer
    (last_put (tagged ns) old c
    (tagged_put 1 k (around 0 17 (members ns)) old b c before tag
    (enclosed_put 0 17 k (around 0 17 (members ns)) (members ns) old a b refl before inner put)))

pub selected_lost : (ns : List Node) (fault : WriteFault) (mid new old late : List ℕ) (r : Result (Unit {0}) WriteFault)
    → IsErrAnd r (λ x. x ≡ fault) → AreLost (members ns) mid new fault → Puts canonical (selected ns) old late r
selected_lost ns fault mid new old late r passed put =
    whole_lost 0 17 (selected ns) (one_before (tagged ns) (Some elements.Nil)) fault mid new old late r (selected_is ns) passed
    (first_fault (tagged ns) (Some elements.Nil) fault mid new mid new
    (tagged_fault 1 (around 0 17 (members ns)) fault mid new mid new
    (inner_fault 0 17 (around 0 17 (members ns)) (members ns) fault mid new mid new refl put)))

-- ---- the subset

abbrev pub subset : model.Subset → Component × Node
subset s = (or (whole 0) (at 1 (named.NumberBelow 0 2)), whole (requests.subset_number s))

subset_element : ℕ → Elements
subset_element k =
    elements.More (elements.Constructed 2 1 (elements.More (elements.Primitive 0 2 (k ∷ [])) elements.Nil)) elements.Nil

pub base_put : (old : List ℕ) → ArePut (alone (subset model.Base)) old old
base_put old = (elements.Nil, refl, refl)

pub one_level_put : (old new : List ℕ) → new ≡ (161 ∷ 3 ∷ 2 ∷ 1 ∷ 1 ∷ []) ++ old
    → ArePut (alone (subset model.OneLevel)) old new
unfolding subset_element
one_level_put old new e = (subset_element 1, refl, e)

pub tree_put : (old new : List ℕ) → new ≡ (161 ∷ 3 ∷ 2 ∷ 1 ∷ 2 ∷ []) ++ old
    → ArePut (alone (subset model.WholeSubtree)) old new
unfolding subset_element
tree_put old new e = (subset_element 2, refl, e)
