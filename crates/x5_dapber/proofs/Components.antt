-- Components of types stand before those behind them, and a fault of one is a fault of the whole.
use Rattle.std.proofs.Common.{◌≡◌, ℕ, Bool, true, false, List, ◌++◌, length, refl, ap, sym, subst, ◌∙◌, if◌then◌else◌, append-nil}
use Rattle.std.specs.Result.{IsErrAnd}
use Rattle.std.specs.declared.option.Option.{Option}
use Rattle.std.specs.declared.option.Option.TheVariants.{None, Some}
use Rattle.std.specs.declared.result.Result.{Result}
use Rattle.std.specs.declared.result.Result.TheVariants.{Ok, Err}
use Rattle.x5_model_octets.specs.Elements as elements
use Rattle.x5_model_octets.specs.Elements.{Element, Elements, canonical, canonical_all}
use Rattle.x5_model_typed.specs.Forms.{Component, Layout, at}
use Rattle.x5_model_typed.specs.Named.{Named}
use Rattle.x5_model_typed.specs.Nodes.{Node}
use Rattle.x5_model_typed.specs.Written.{is_default, one_before, tagged_with, written}
use Rattle.x5_types.specs.FormView.{table}
use Rattle.x5_writer.specs.Puts.{Puts}
use Rattle.x5_writer.specs.declared.fault.WriteFault.{WriteFault}
use Rattle.x5_writer.specs.declared.fault.WriteFault.TheVariants.{Misfit, NoMemory}
use Rattle.x5_direct_writer.specs.PutsOf.{Encloses}
use Rattle.x5_direct_writer.proofs.Putting.{around, enclosed_put, nothing_before, one_put}
use Rattle.x5_direct_writer.proofs.Wholes.{first_fault, inner_fault, last_put, later_fault, passed_on, tagged_fault, tagged_put}
use Rattle.x5_dapber.specs.PutsPart.{part}

-- that elements stand before the octets that were there
abbrev pub ArePut : Option Elements → List ℕ → List ℕ → Type 0
ArePut os old new = Puts {Y = Unit {0}} canonical_all os old new (Ok tt)

-- or why they don't
abbrev pub AreLost : Option Elements → List ℕ → List ℕ → WriteFault → Type 0
AreLost os old new fault = Puts {Y = Unit {0}} canonical_all os old new (Err fault)

abbrev pub IsPut : Option Element → List ℕ → List ℕ → Type 0
IsPut o old new = Puts {Y = Unit {0}} canonical o old new (Ok tt)

abbrev pub IsLost : Option Element → List ℕ → List ℕ → WriteFault → Type 0
IsLost o old new fault = Puts {Y = Unit {0}} canonical o old new (Err fault)

-- ---- a component that may have its default

-- it's left out, or it's an element before others
abbrev optional : Bool → Option Element → Option Elements → Option Elements
optional left_out o os = if left_out then os else one_before o os

alone : (o : Option Element) (e : Elements) → one_before o (Some elements.Nil) ≡ Some e
    → (x : Element) × (o ≡ Some x) × (e ≡ elements.More x elements.Nil)
alone None e h = absurd (cc h)
alone (Some x) e h = (x, refl, cc h)

none_alone : (o : Option Element) → one_before o (Some elements.Nil) ≡ None → o ≡ None
none_alone None h = refl
none_alone (Some x) h = absurd (cc h)

optional_put : (b : Bool) (o : Option Element) (os : Option Elements) (old mid new : List ℕ) → ArePut os old mid
    → ArePut (optional b o (Some elements.Nil)) mid new → ArePut (optional b o os) old new
optional_put true o os old mid new others put =
    let same : put.0 ≡ elements.Nil = cc put.1 in
    (others.0, others.1, put.2 ∙ ap (λ (e : Elements). canonical_all e ++ mid) same ∙ others.2)
optional_put false o os old mid new others put =
    let a = alone o put.0 put.1 in
    one_put o os old mid new others (
      a.0,
      a.1,
      put.2 ∙ ap (λ (e : Elements). canonical_all e ++ mid) a.2
          ∙ ap (λ (l : List ℕ). l ++ mid) (append-nil (canonical a.0)),
    )

optional_lost : (b : Bool) (o : Option Element) (os : Option Elements) (fault : WriteFault) (mid new old late : List ℕ)
    → AreLost (optional b o (Some elements.Nil)) mid new fault → AreLost (optional b o os) old late fault
optional_lost true o os Misfit mid new old late put = absurd (cc put)
optional_lost false o os Misfit mid new old late put =
    ap (λ (p : Option Element). one_before p os) (none_alone o put)
optional_lost b o os NoMemory mid new old late put = tt

behind_lost : (b : Bool) (o : Option Element) (os : Option Elements) (fault : WriteFault) (mid new old late : List ℕ)
    → AreLost os mid new fault → AreLost (optional b o os) old late fault
behind_lost true o os Misfit mid new old late put = put
behind_lost false o os Misfit mid new old late put =
    ap (λ (p : Option Elements). one_before o p) put ∙ nothing_before o
behind_lost b o os NoMemory mid new old late put = tt

pub part_put : (l : Layout) (c : Component) (n : Node) (os : Option Elements) (old mid new : List ℕ) → ArePut os old mid
    → ArePut (part l c n (Some elements.Nil)) mid new → ArePut (part l c n os) old new
part_put l c n os old mid new others put =
    optional_put (is_default c.presence n) (tagged_with c.tag (written l (l c.form) n)) os old mid new others put

-- a fault of the component is one of all
pub part_lost : (l : Layout) (c : Component) (n : Node) (os : Option Elements) (fault : WriteFault)
    (mid new old late : List ℕ) → AreLost (part l c n (Some elements.Nil)) mid new fault
    → AreLost (part l c n os) old late fault
part_lost l c n os fault mid new old late put =
    optional_lost (is_default c.presence n) (tagged_with c.tag (written l (l c.form) n)) os fault mid new old late put

-- so is one of those behind it
pub others_lost : (l : Layout) (c : Component) (n : Node) (os : Option Elements) (fault : WriteFault)
    (mid new old late : List ℕ) → AreLost os mid new fault → AreLost (part l c n os) old late fault
others_lost l c n os fault mid new old late put =
    behind_lost (is_default c.presence n) (tagged_with c.tag (written l (l c.form) n)) os fault mid new old late put

-- where it has its default it's left out
pub left_out : (l : Layout) (c : Component) (n : Node) (old : List ℕ) → is_default c.presence n ≡ true
    → ArePut (part l c n (Some elements.Nil)) old old
left_out l c n old h = (
  elements.Nil,
  ap (λ (b : Bool). optional b (tagged_with c.tag (written l (l c.form) n)) (Some elements.Nil)) h,
  refl,
)

-- ---- in a context tag

pub tagged_part : {Y : Type 0} (l : Layout) (c : Component) (n : Node) (old new : List ℕ) (r : Result Y WriteFault)
    → is_default c.presence n ≡ false
    → Puts canonical_all (one_before (tagged_with c.tag (written l (l c.form) n)) (Some elements.Nil)) old new r
    → Puts canonical_all (part l c n (Some elements.Nil)) old new r
tagged_part l c n old new r h put =
    subst (λ (b : Bool). Puts canonical_all (optional b (tagged_with c.tag (written l (l c.form) n)) (Some elements.Nil)) old new r)
    (sym h) put

pub in_tag_put : (tag k : ℕ) (form : Named) (n : Node) (old mid new : List ℕ) → k ≡ length old
    → Encloses 2 tag k mid new → IsPut (written table (table form) n) old mid
    → ArePut (part table (at tag form) n (Some elements.Nil)) old new
in_tag_put tag k form n old mid new before header put =
    last_put (tagged_with (Some tag) (written table (table form) n)) old new
    (tagged_put tag k (written table (table form) n) old mid new before header put)

pub in_tag_lost : (tag : ℕ) (form : Named) (n : Node) (fault : WriteFault) (mid new old late : List ℕ)
    (r : Result (Unit {0}) WriteFault) → IsErrAnd r (λ x. x ≡ fault)
    → IsLost (written table (table form) n) mid new fault
    → Puts canonical_all (part table (at tag form) n (Some elements.Nil)) old late r
in_tag_lost tag form n fault mid new old late r passed put =
    passed_on canonical_all (part table (at tag form) n (Some elements.Nil)) old late fault r passed
    (first_fault (tagged_with (Some tag) (written table (table form) n)) (Some elements.Nil) fault mid new old late
    (tagged_fault tag (written table (table form) n) fault mid new mid new put))

-- ---- the whole

pub whole_lost : (class tag : ℕ) (o : Option Element) (os : Option Elements) (fault : WriteFault) (mid new old late : List ℕ)
    (r : Result (Unit {0}) WriteFault) → o ≡ around class tag os → IsErrAnd r (λ x. x ≡ fault)
    → AreLost os mid new fault → Puts canonical o old late r
whole_lost class tag o os fault mid new old late r is passed put =
    passed_on canonical o old late fault r passed (inner_fault class tag o os fault mid new old late is put)

-- ---- three elements

abbrev pub three : Option Element → Option Element → Option Element → Option Elements
three a b c = one_before a (one_before b (one_before c (Some elements.Nil)))

pub three_put : (class tag k : ℕ) (o a b c : Option Element) (old early mid late new : List ℕ)
    → o ≡ around class tag (three a b c) → k ≡ length old → Encloses class tag k late new
    → IsPut c old early → IsPut b early mid → IsPut a mid late → IsPut o old new
three_put class tag k o a b c old early mid late new is before header last second first =
    enclosed_put class tag k o (three a b c) old late new is before header
    (one_put a (one_before b (one_before c (Some elements.Nil))) old mid late
    (one_put b (one_before c (Some elements.Nil)) old early mid (last_put c old early last) second) first)

pub third_lost : (class tag : ℕ) (o a b c : Option Element) (fault : WriteFault) (mid new old late : List ℕ)
    (r : Result (Unit {0}) WriteFault) → o ≡ around class tag (three a b c) → IsErrAnd r (λ x. x ≡ fault)
    → IsLost c mid new fault → Puts canonical o old late r
third_lost class tag o a b c fault mid new old late r is passed put =
    whole_lost class tag o (three a b c) fault mid new old late r is passed
    (later_fault a (one_before b (one_before c (Some elements.Nil))) fault mid new mid new
    (later_fault b (one_before c (Some elements.Nil)) fault mid new mid new
    (first_fault c (Some elements.Nil) fault mid new mid new put)))

pub second_lost : (class tag : ℕ) (o a b c : Option Element) (fault : WriteFault) (mid new old late : List ℕ)
    (r : Result (Unit {0}) WriteFault) → o ≡ around class tag (three a b c) → IsErrAnd r (λ x. x ≡ fault)
    → IsLost b mid new fault → Puts canonical o old late r
second_lost class tag o a b c fault mid new old late r is passed put =
    whole_lost class tag o (three a b c) fault mid new old late r is passed
    (later_fault a (one_before b (one_before c (Some elements.Nil))) fault mid new mid new
    (first_fault b (one_before c (Some elements.Nil)) fault mid new mid new put))

pub first_lost : (class tag : ℕ) (o a b c : Option Element) (fault : WriteFault) (mid new old late : List ℕ)
    (r : Result (Unit {0}) WriteFault) → o ≡ around class tag (three a b c) → IsErrAnd r (λ x. x ≡ fault)
    → IsLost a mid new fault → Puts canonical o old late r
first_lost class tag o a b c fault mid new old late r is passed put =
    whole_lost class tag o (three a b c) fault mid new old late r is passed
    (first_fault a (one_before b (one_before c (Some elements.Nil))) fault mid new mid new put)
