-- What is written of progress and of trace items is what is written of their parts, one in another.
use Rattle.std.proofs.Common.{◌≡◌, ℕ, Bool, true, false, List, [], ◌∷◌, ◌++◌, length, refl}
use Rattle.std.specs.Prelude.{if◌then◌else◌}
use Rattle.std.specs.Result.{IsErrAnd}
use Rattle.std.specs.declared.option.Option.{Option}
use Rattle.std.specs.declared.option.Option.TheVariants.{Some}
use Rattle.std.specs.declared.result.Result.{Result}
use Rattle.std.specs.declared.result.Result.TheVariants.{Ok}
use Rattle.x5_model.specs.References.{Start, Done}
use Rattle.x5_model_messages.specs.Replies as replies
use Rattle.x5_model_messages.specs.Terms.{name_node, node_of}
use Rattle.x5_model_octets.specs.Elements as elements
use Rattle.x5_model_octets.specs.Elements.{Element, Elements, canonical}
use Rattle.x5_model_typed.specs.Forms.{or, plain}
use Rattle.x5_model_typed.specs.Layouts.{Surroundings, layout}
use Rattle.x5_model_typed.specs.Named as named
use Rattle.x5_model_typed.specs.Nodes as nodes
use Rattle.x5_model_typed.specs.Written.{one_before, written}
use Rattle.x5_writer.specs.Puts.{Puts}
use Rattle.x5_writer.specs.declared.fault.WriteFault.{WriteFault}
use Rattle.x5_direct_writer.specs.PutsOf.{Encloses, PutsOf}
use Rattle.x5_direct_writer.proofs.Putting.{around, enclosed_put, one_put}
use Rattle.x5_direct_writer.proofs.Wholes.{first_fault, last_put, later_fault}
use Rattle.x5_dapber.specs.PutsPart.{part}
use Rattle.x5_dapber.proofs.Components.{ArePut, IsLost, IsPut, whole_lost}

-- what is written of a value of the type
abbrev pub of : Surroundings → named.Named → nodes.Node → Option Element
of w form n = written (layout w) (layout w form) n

-- ---- how far a name is resolved

phase_put : (w : Surroundings) (k : ℕ) (o : Option Element) (old new : List ℕ)
    → o ≡ Some (elements.Constructed 0 16 (elements.More (elements.Primitive 0 10 (k ∷ [])) elements.Nil))
    → new ≡ (48 ∷ 3 ∷ 10 ∷ 1 ∷ k ∷ []) ++ old → IsPut o old new
phase_put w k o old new is e =
    (elements.Constructed 0 16 (elements.More (elements.Primitive 0 10 (k ∷ [])) elements.Nil), is, e)

pub start_put : (old new : List ℕ) → new ≡ (48 ∷ 3 ∷ 10 ∷ 1 ∷ 1 ∷ []) ++ old
    → PutsOf {Y = Unit {0}} named.Progress (replies.progress_node Start) old new (Ok tt)
start_put old new e w = phase_put w 1 (of w named.Progress (replies.progress_node Start)) old new refl e

pub done_put : (old new : List ℕ) → new ≡ (48 ∷ 3 ∷ 10 ∷ 1 ∷ 3 ∷ []) ++ old
    → PutsOf {Y = Unit {0}} named.Progress (replies.progress_node Done) old new (Ok tt)
done_put old new e w = phase_put w 3 (of w named.Progress (replies.progress_node Done)) old new refl e

-- the second phase
abbrev pub second : Option Element
second = Some (elements.Primitive 0 10 (2 ∷ []))

abbrev pub next : Surroundings → ℕ → Option Element
next w k = of w (named.NumberBelow 1 16) (nodes.whole k)

abbrev pub proceeding : ℕ → nodes.Node
proceeding k = node_of (nodes.whole 2 ∷ nodes.whole k ∷ [])

proceeding_is : (w : Surroundings) (k : ℕ)
    → of w named.Progress (proceeding k) ≡ around 0 16 (one_before second (one_before (next w k) (Some elements.Nil)))
proceeding_is w k = refl

pub proceeding_put : (w : Surroundings) (k m : ℕ) (old early late new : List ℕ) → m ≡ length old → Encloses 0 16 m late new
    → IsPut (next w k) old early → late ≡ (10 ∷ 1 ∷ 2 ∷ []) ++ early → IsPut (of w named.Progress (proceeding k)) old new
proceeding_put w k m old early late new before header put e =
    enclosed_put 0 16 m (of w named.Progress (proceeding k)) (one_before second (one_before (next w k) (Some elements.Nil)))
    old late new (proceeding_is w k) before header
    (one_put second (one_before (next w k) (Some elements.Nil)) old early late (last_put (next w k) old early put)
    (elements.Primitive 0 10 (2 ∷ []), refl, e))

pub next_lost : (w : Surroundings) (k : ℕ) (fault : WriteFault) (mid new old late : List ℕ)
    (r : Result (Unit {0}) WriteFault) → IsErrAnd r (λ x. x ≡ fault) → IsLost (next w k) mid new fault
    → Puts canonical (of w named.Progress (proceeding k)) old late r
next_lost w k fault mid new old late r passed put =
    whole_lost 0 16 (of w named.Progress (proceeding k)) (one_before second (one_before (next w k) (Some elements.Nil)))
    fault mid new old late r (proceeding_is w k) passed
    (later_fault second (one_before (next w k) (Some elements.Nil)) fault mid new mid new
    (first_fault (next w k) (Some elements.Nil) fault mid new mid new put))

-- ---- items

abbrev pub marked : Surroundings → Bool → Option Elements
marked w wide = part (layout w) (or (nodes.Flag false) (plain named.Boolean)) (nodes.Flag wide) (Some elements.Nil)

wide_put : (w : Surroundings) (wide : Bool) (old new : List ℕ)
    → new ≡ (if wide then 1 ∷ 1 ∷ 255 ∷ [] else []) ++ old → ArePut (marked w wide) old new
wide_put w true old new e = (elements.More (elements.Primitive 0 1 (255 ∷ [])) elements.Nil, refl, e)
wide_put w false old new e = (elements.Nil, refl, e)

abbrev pub agent : Surroundings → replies.TraceItem → Option Element
agent w i = of w named.AgentName (nodes.Text i.agent)

abbrev pub target : Surroundings → replies.TraceItem → Option Element
target w i = of w named.Name (name_node i.target)

abbrev pub progress : Surroundings → replies.TraceItem → Option Element
progress w i = of w named.Progress (replies.progress_node i.progress)

abbrev pub item : Surroundings → replies.TraceItem → Option Element
item w i = of w named.TraceItem (replies.item_node i)

abbrev pub parts : Surroundings → replies.TraceItem → Option Elements
parts w i = one_before (agent w i) (one_before (target w i) (one_before (progress w i) (marked w i.wide)))

item_is : (w : Surroundings) (i : replies.TraceItem) → item w i ≡ around 0 16 (parts w i)
item_is w i = refl

pub item_put : (w : Surroundings) (i : replies.TraceItem) (k : ℕ) (old early mid late last new : List ℕ) → k ≡ length old
    → Encloses 0 16 k last new → early ≡ (if i.wide then 1 ∷ 1 ∷ 255 ∷ [] else []) ++ old
    → IsPut (progress w i) early mid → IsPut (target w i) mid late → IsPut (agent w i) late last → IsPut (item w i) old new
item_put w i k old early mid late last new before header wide p t a =
    enclosed_put 0 16 k (item w i) (parts w i) old last new (item_is w i) before header
    (one_put (agent w i) (one_before (target w i) (one_before (progress w i) (marked w i.wide))) old late last
    (one_put (target w i) (one_before (progress w i) (marked w i.wide)) old mid late
    (one_put (progress w i) (marked w i.wide) old early mid (wide_put w i.wide old early wide) p) t) a)

pub progress_lost : (w : Surroundings) (i : replies.TraceItem) (fault : WriteFault) (mid new old late : List ℕ)
    (r : Result (Unit {0}) WriteFault) → IsErrAnd r (λ x. x ≡ fault) → IsLost (progress w i) mid new fault
    → Puts canonical (item w i) old late r
progress_lost w i fault mid new old late r passed put =
    whole_lost 0 16 (item w i) (parts w i) fault mid new old late r (item_is w i) passed
    (later_fault (agent w i) (one_before (target w i) (one_before (progress w i) (marked w i.wide))) fault mid new mid new
    (later_fault (target w i) (one_before (progress w i) (marked w i.wide)) fault mid new mid new
    (first_fault (progress w i) (marked w i.wide) fault mid new mid new put)))

pub target_lost : (w : Surroundings) (i : replies.TraceItem) (fault : WriteFault) (mid new old late : List ℕ)
    (r : Result (Unit {0}) WriteFault) → IsErrAnd r (λ x. x ≡ fault) → IsLost (target w i) mid new fault
    → Puts canonical (item w i) old late r
target_lost w i fault mid new old late r passed put =
    whole_lost 0 16 (item w i) (parts w i) fault mid new old late r (item_is w i) passed
    (later_fault (agent w i) (one_before (target w i) (one_before (progress w i) (marked w i.wide))) fault mid new mid new
    (first_fault (target w i) (one_before (progress w i) (marked w i.wide)) fault mid new mid new put))

pub agent_lost : (w : Surroundings) (i : replies.TraceItem) (fault : WriteFault) (mid new old late : List ℕ)
    (r : Result (Unit {0}) WriteFault) → IsErrAnd r (λ x. x ≡ fault) → IsLost (agent w i) mid new fault
    → Puts canonical (item w i) old late r
agent_lost w i fault mid new old late r passed put =
    whole_lost 0 16 (item w i) (parts w i) fault mid new old late r (item_is w i) passed
    (first_fault (agent w i) (one_before (target w i) (one_before (progress w i) (marked w i.wide))) fault mid new mid new put)
