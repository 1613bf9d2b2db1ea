-- What is written of results and of whole replies is what is written of their parts, one in another.
use Rattle.std.proofs.Common.{◌≡◌, ℕ, Bool, true, false, List, [], ◌∷◌, ◌++◌, length, map, refl, ap, sym, subst}
use Rattle.std.proofs.Common.{◌∙◌, ◌==◌, if◌then◌else◌, append-nil}
use Rattle.std.proofs.Math.Dec.{eqb-suc-zero}
use Rattle.std.specs.Global.{Global}
use Rattle.std.specs.Prelude.{Vec, not}
use Rattle.std.specs.Result.{IsErrAnd}
use Rattle.std.specs.declared.option.Option.{Option}
use Rattle.std.specs.declared.option.Option.TheVariants.{None, Some}
use Rattle.std.specs.declared.result.Result.{Result}
use Rattle.std.specs.declared.result.Result.TheVariants.{Ok, Err}
use Rattle.x5_model.specs.Words.{in_option}
use Rattle.x5_model_messages.specs.Replies as replies
use Rattle.x5_model_messages.specs.Terms.{node_of}
use Rattle.x5_model_octets.specs.Elements as elements
use Rattle.x5_model_octets.specs.Elements.{Element, Elements, canonical, canonical_all}
use Rattle.x5_model_typed.specs.Layouts.{no_qualifier}
use Rattle.x5_model_typed.specs.Named as named
use Rattle.x5_model_typed.specs.Nodes.{Chosen, Flag, Node, row, same, whole}
use Rattle.x5_model_typed.specs.Written.{canonical_octets, one_before, tagged_with, written, written_components}
use Rattle.x5_types.specs.FormView.{table}
use Rattle.x5_ops.specs.JournalViews.{code_view}
use Rattle.x5_ops.specs.declared.journal.Operation.{Operation}
use Rattle.x5_ops.specs.declared.journal.Operation.TheVariants as operations
use Rattle.x5_ops.specs.declared.references.Reference.{Reference}
use Rattle.x5_writer.specs.Puts.{Puts, Writes}
use Rattle.x5_writer.specs.declared.fault.WriteFault.{WriteFault}
use Rattle.x5_writer.specs.declared.fault.WriteFault.TheVariants.{Misfit, NoMemory}
use Rattle.x5_direct_writer.specs.PutsOf.{Encloses}
use Rattle.x5_direct_writer.proofs.Putting.{around, one_put}
use Rattle.x5_direct_writer.proofs.Rows.{AreLost, ArePut, pair}
use Rattle.x5_direct_writer.proofs.Wholes.{first_fault, later_fault, last_put, tagged_fault, tagged_put}
use Rattle.x5_dapreply.specs.Found.{PutsPart, answer_form, count, form_of, qualifier, verdict}
use Rattle.x5_dapreply.specs.ReplyViews.{told_reference}
use Rattle.x5_dapreply.specs.declared.whole.Protocol.{Protocol}
use Rattle.x5_dapreply.specs.declared.whole.Protocol.TheVariants.{Dap, Dsp}

-- ---- the outcome

pub whole_is : (limited : Bool) (refs : List Reference) (k : ℕ) → limited ≡ false → k ≡ length refs
    → (k == 0) ≡ same no_qualifier (node_of (replies.limit_node limited
    ∷ node_of (map replies.reference_node (map told_reference refs)) ∷ []))
whole_is true refs k h e = absurd (cc h)
whole_is false [] k h e = ap (λ (n : ℕ). n == 0) e
whole_is false (r ∷ refs) k h e = ap (λ (n : ℕ). n == 0) e ∙ eqb-suc-zero (length refs)

abbrev qualified : Node → Option Element
qualified n = tagged_with (Some 2) (written table (table named.Qualifier) n)

abbrev pub outcome_elements : Node → Option Elements
outcome_elements n = written_components table (qualifier ∷ []) (row (n ∷ []))

pub left_out : (n : Node) → same no_qualifier n ≡ true → outcome_elements n ≡ Some elements.Nil
left_out n h =
    ap (λ (b : Bool). if b then Some elements.Nil else one_before (qualified n) (Some elements.Nil)) h

there_is : (n : Node) → same no_qualifier n ≡ false → outcome_elements n ≡ one_before (qualified n) (Some elements.Nil)
there_is n h =
    ap (λ (b : Bool). if b then Some elements.Nil else one_before (qualified n) (Some elements.Nil)) h

pub outcome_put : (k : ℕ) (n m : Node) (old mid new : List ℕ) → m ≡ n → same no_qualifier n ≡ false
    → k ≡ length old → Encloses 2 2 k mid new
    → Puts {Y = Unit {0}} canonical (written table (table named.Qualifier) m) old mid (Ok tt)
    → Puts {Y = Unit {0}} canonical_all (outcome_elements n) old new (Ok tt)
outcome_put k n m old mid new is h before header put =
    subst (λ (os : Option Elements). Puts {Y = Unit {0}} canonical_all os old new (Ok tt)) (sym (there_is n h))
    (last_put (qualified n) old new (tagged_put 2 k (written table (table named.Qualifier) n) old mid new before header
    (subst (λ (x : Node). Puts {Y = Unit {0}} canonical (written table (table named.Qualifier) x) old mid (Ok tt))
    is put)))

pub outcome_fails : (n m : Node) (fault : WriteFault) (mid new old late : List ℕ) → m ≡ n
    → same no_qualifier n ≡ false
    → Puts {Y = Unit {0}} canonical (written table (table named.Qualifier) m) mid new (Err fault)
    → Puts {Y = Unit {0}} canonical_all (outcome_elements n) old late (Err fault)
outcome_fails n m fault mid new old late is h put =
    subst (λ (os : Option Elements). Puts {Y = Unit {0}} canonical_all os old late (Err fault)) (sym (there_is n h))
    (first_fault (qualified n) (Some elements.Nil) fault mid new old late
    (tagged_fault 2 (written table (table named.Qualifier) n) fault mid new mid new
    (subst (λ (x : Node). Puts {Y = Unit {0}} canonical (written table (table named.Qualifier) x) mid new (Err fault))
    is put)))

-- ---- an explicitly tagged part

pub part_put : (tag k : ℕ) (form : named.Named) (n m : Node) (old mid new : List ℕ) → m ≡ n → k ≡ length old
    → Encloses 2 tag k mid new → Puts {Y = Unit {0}} canonical (written table (table form) m) old mid (Ok tt)
    → Puts {Y = Unit {0}} canonical (tagged_with (Some tag) (written table (table form) n)) old new (Ok tt)
part_put tag k form n m old mid new is before header put =
    tagged_put tag k (written table (table form) n) old mid new before header
    (subst (λ (x : Node). Puts {Y = Unit {0}} canonical (written table (table form) x) old mid (Ok tt)) is put)

pub part_fails : (tag : ℕ) (form : named.Named) (n m : Node) (fault : WriteFault) (mid new old late : List ℕ) → m ≡ n
    → Puts {Y = Unit {0}} canonical (written table (table form) m) mid new (Err fault)
    → Puts {Y = Unit {0}} canonical (tagged_with (Some tag) (written table (table form) n)) old late (Err fault)
part_fails tag form n m fault mid new old late is put =
    tagged_fault tag (written table (table form) n) fault mid new old late
    (subst (λ (x : Node). Puts {Y = Unit {0}} canonical (written table (table form) x) mid new (Err fault)) is put)

-- ---- the parts of results

-- what is written of a value of the type
abbrev pub of : named.Named → Node → Option Element
of form n = written table (table form) n

-- in that tag
abbrev pub at : ℕ → named.Named → Node → Option Element
at tag form n = tagged_with (Some tag) (of form n)

-- where the entries of a list or search are from, and its outcome
abbrev pub whence : Node → Node → Option Elements
whence sources outcome = one_before (at 1 named.Sources sources) (outcome_elements outcome)

-- ---- whether an entry has a value

abbrev flag_of : ℕ → ℕ → Element
flag_of tag octet = elements.Constructed 2 tag (elements.More (elements.Primitive 0 1 (octet ∷ [])) elements.Nil)

abbrev flag : ℕ → ℕ → Option Element
flag tag octet = Some (flag_of tag octet)

-- before where it is from
abbrev pub judged : Bool → Bool → Option Elements → Option Elements
judged true true os = one_before (flag 0 255) (one_before (flag 1 0) os)
judged true false os = one_before (flag 0 255) os
judged false true os = one_before (flag 0 0) (one_before (flag 1 0) os)
judged false false os = one_before (flag 0 0) os

pub judged_is : (matched copy : Bool) (source : Node)
    → of (named.Outcome named.Compare) (node_of (Flag matched ∷ Flag (not copy) ∷ source ∷ []))
    ≡ around 0 17 (judged matched copy (one_before (at 2 named.Source source) (Some elements.Nil)))
judged_is true true source = refl
judged_is true false source = refl
judged_is false true source = refl
judged_is false false source = refl

pub judged_put : (matched copy : Bool) (os : Option Elements) (old mid new : List ℕ) → ArePut os old mid
    → new ≡ verdict matched copy ++ mid → ArePut (judged matched copy os) old new
judged_put true true os old mid new put is =
    one_put (flag 0 255) (one_before (flag 1 0) os) old (161 ∷ 3 ∷ 1 ∷ 1 ∷ 0 ∷ mid) new
    (one_put (flag 1 0) os old mid (161 ∷ 3 ∷ 1 ∷ 1 ∷ 0 ∷ mid) put (flag_of 1 0, refl, refl)) (flag_of 0 255, refl, is)
judged_put true false os old mid new put is = one_put (flag 0 255) os old mid new put (flag_of 0 255, refl, is)
judged_put false true os old mid new put is =
    one_put (flag 0 0) (one_before (flag 1 0) os) old (161 ∷ 3 ∷ 1 ∷ 1 ∷ 0 ∷ mid) new
    (one_put (flag 1 0) os old mid (161 ∷ 3 ∷ 1 ∷ 1 ∷ 0 ∷ mid) put (flag_of 1 0, refl, refl)) (flag_of 0 0, refl, is)
judged_put false false os old mid new put is = one_put (flag 0 0) os old mid new put (flag_of 0 0, refl, is)

pub judged_lost : (matched copy : Bool) (os : Option Elements) (fault : WriteFault) (mid new old late : List ℕ)
    → AreLost os mid new fault → AreLost (judged matched copy os) old late fault
judged_lost true true os fault mid new old late put =
    later_fault (flag 0 255) (one_before (flag 1 0) os) fault mid new old late
    (later_fault (flag 1 0) os fault mid new mid new put)
judged_lost true false os fault mid new old late put = later_fault (flag 0 255) os fault mid new old late put
judged_lost false true os fault mid new old late put =
    later_fault (flag 0 0) (one_before (flag 1 0) os) fault mid new old late
    (later_fault (flag 1 0) os fault mid new mid new put)
judged_lost false false os fault mid new old late put = later_fault (flag 0 0) os fault mid new old late put

-- ---- with the code, and with the id

-- an INTEGER of one octet
abbrev pub digit : ℕ → Option Element
digit k = Some (elements.Primitive 0 2 (k ∷ []))

pub digit_put : (k : ℕ) (old : List ℕ) → Puts {Y = Unit {0}} canonical (digit k) old (2 ∷ 1 ∷ k ∷ old) (Ok tt)
digit_put k old = (elements.Primitive 0 2 (k ∷ []), refl, refl)

pub coded_is : (op : Operation) (s : Node) → of named.DapResult (node_of (whole (code_view op) ∷ s ∷ []))
    ≡ around 0 16 (pair (digit (code_view op)) (of (named.Outcome (form_of op)) s))
coded_is operations.Read s = refl
coded_is operations.Compare s = refl
coded_is operations.List s = refl
coded_is operations.Search s = refl
coded_is operations.AddEntry s = refl
coded_is operations.RemoveEntry s = refl
coded_is operations.ModifyEntry s = refl
coded_is operations.ModifyDn s = refl

pub done_is : (p : Protocol) (x y : Node)
    → of (answer_form p) (Chosen 2 (node_of (x ∷ y ∷ []))) ≡ around 2 2 (pair (of count x) (of named.DapResult y))
done_is Dap x y = refl
done_is Dsp x y = refl

-- that there is no such object
pub matched_is : (n : Node)
    → of named.NameError (node_of (whole 1 ∷ n ∷ [])) ≡ around 0 16 (pair (digit 1) (of named.Name n))
matched_is n = refl

pub missing_is : (p : Protocol) (x e : Node) → of (answer_form p) (Chosen 3 (node_of (x ∷ whole 2 ∷ e ∷ [])))
    ≡ around 2 3 (one_before (of count x) (pair (digit 2) (of named.NameError e)))
missing_is Dap x e = refl
missing_is Dsp x e = refl

-- ---- octets

pub all_written : (form : named.Named) (n : Node) (old new items : List ℕ)
    → PutsPart {Y = Unit {0}} form n old new (Ok tt) → old ≡ [] → items ≡ new → canonical_octets table form n ≡ Some items
all_written form n old new items put none is =
    ap (λ (o : Option Element). in_option None (λ (e : Element). Some (canonical e)) o) put.1
    ∙ ap (λ (l : List ℕ). Some l)
    (sym (is ∙ put.2 ∙ ap (λ (l : List ℕ). canonical put.0 ++ l) none ∙ append-nil (canonical put.0)))

pub none_written : (form : named.Named) (n : Node) (fault : WriteFault) (old new : List ℕ)
    (r : Result (Vec ℕ Global) WriteFault) → PutsPart {Y = Unit {0}} form n old new (Err fault)
    → IsErrAnd r (λ x. x ≡ fault) → Writes (canonical_octets table form n) r
none_written form n fault old new (Ok v) put h = elim h [ ]
none_written form n fault old new (Err Misfit) put h =
    ap (λ (o : Option Element). in_option None (λ (e : Element). Some (canonical e)) o)
    (subst (λ (f : WriteFault). PutsPart {Y = Unit {0}} form n old new (Err f)) (sym h) put)
none_written form n fault old new (Err NoMemory) put h = tt
