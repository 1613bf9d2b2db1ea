-- Elements of members and components before the octets that were there, in all surroundings.
use Rattle.std.proofs.Common.{◌≡◌, ℕ, zero, suc, ◌+◌, ◌-◌, ◌<◌, List, [], ◌∷◌, ◌++◌, length, get_or, drop, map, refl, ap, ap₂, sym, subst, true, false, ◌≤◌, ◌∙◌, arith, add-one, drop-cons, append_assoc, length-append}
use Rattle.std.proofs.lemmas.List.{drop_all}
use Rattle.std.specs.Result.{IsErrAnd}
use Rattle.std.specs.declared.option.Option.{Option}
use Rattle.std.specs.declared.option.Option.TheVariants.{None, Some}
use Rattle.std.specs.declared.result.Result.{Result}
use Rattle.std.specs.declared.result.Result.TheVariants.{Ok, Err}
use Rattle.x5_model_octets.specs.Headers.{Identifier}
use Rattle.x5_model_octets.specs.Elements as elements
use Rattle.x5_model_octets.specs.Elements.{Element, Elements, canonical, canonical_all, enclosed, identifier, identifier_octets, shortest_length}
use Rattle.x5_model_typed.specs.Layouts.{Surroundings, layout}
use Rattle.x5_model_typed.specs.Named.{Named}
use Rattle.x5_model_typed.specs.Nodes.{Node, row}
use Rattle.x5_model_typed.specs.Written.{one_before, written, written_members}
use Rattle.x5_writer.specs.Puts.{Puts}
use Rattle.x5_writer.specs.declared.fault.WriteFault.{WriteFault}
use Rattle.x5_writer.specs.declared.fault.WriteFault.TheVariants.{Misfit, NoMemory}
use Rattle.x5_direct_writer.specs.PutsOf.{PutsOf, PutsEach, Encloses}

-- ---- an element around its members

-- a constructed element
abbrev pub around : ℕ → ℕ → Option Elements → Option Element
around class tag None = None
around class tag (Some es) = Some (elements.Constructed class tag es)

three : (a b c d : List ℕ) → a ++ (b ++ (c ++ d)) ≡ (a ++ b ++ c) ++ d
three a b c d = sym (append_assoc a b (c ++ d)) ∙ sym (append_assoc (a ++ b) c d)

headed : (i : Identifier) (content : List ℕ) (k : ℕ) (old mid new : List ℕ) → mid ≡ content ++ old → k ≡ length old
    → new ≡ identifier_octets i ++ (shortest_length (length mid - k) ++ mid) → new ≡ enclosed i content ++ old
headed i content k old mid new is before e =
    let count : length mid - k ≡ length content = omega (arith, before, ap length is, length-append content old) in
    e
    ∙ ap (λ (n : ℕ). identifier_octets i ++ (shortest_length n ++ mid)) count
    ∙ ap (λ (l : List ℕ). identifier_octets i ++ (shortest_length (length content) ++ l)) is
    ∙ three (identifier_octets i) (shortest_length (length content)) content old

-- octets, with their header
pub primitive_put : (tag : ℕ) (o : Option Element) (content old mid new : List ℕ) (n : ℕ)
    → o ≡ Some (elements.Primitive 0 tag content) → mid ≡ content ++ old → n ≡ length content
    → new ≡ identifier_octets (identifier false 0 tag) ++ (shortest_length n ++ mid)
    → Puts {Y = Unit {0}} canonical o old new (Ok tt)
primitive_put tag o content old mid new n is put count header = (
  elements.Primitive 0 tag content,
  is,
  header
      ∙ ap₂ (λ (k : ℕ) (l : List ℕ). identifier_octets (identifier false 0 tag) ++ (shortest_length k ++ l)) count put
      ∙ three (identifier_octets (identifier false 0 tag)) (shortest_length (length content)) content old,
)

-- what was put, with its header
pub enclosed_put : (class tag k : ℕ) (o : Option Element) (os : Option Elements) (old mid new : List ℕ)
    → o ≡ around class tag os → k ≡ length old → Encloses class tag k mid new
    → Puts {Y = Unit {0}} canonical_all os old mid (Ok tt) → Puts {Y = Unit {0}} canonical o old new (Ok tt)
enclosed_put class tag k o os old mid new is before header put = (
  elements.Constructed class tag put.0,
  is ∙ ap (around class tag) put.1,
  headed (identifier true class tag) (canonical_all put.0) k old mid new put.2 before header,
)

-- ---- members, from the last to the first

drop_at : {A : Type 0} (items : List A) (i : ℕ) (d : A) → i < length items
    → drop i items ≡ get_or items i d ∷ drop (i + 1) items
drop_at items i d lt = rw (add-one, drop-cons items i d) refl

pub nothing_before : (o : Option Element) → one_before o None ≡ None
nothing_before None = refl
nothing_before (Some e) = refl

pub one_put : (o : Option Element) (os : Option Elements) (old mid new : List ℕ)
    → Puts {Y = Unit {0}} canonical_all os old mid (Ok tt) → Puts {Y = Unit {0}} canonical o mid new (Ok tt)
    → Puts {Y = Unit {0}} canonical_all (one_before o os) old new (Ok tt)
one_put o os old mid new others put = (
  elements.More put.0 others.0,
  ap₂ one_before put.1 others.1,
  put.2 ∙ ap (λ (l : List ℕ). canonical put.0 ++ l) others.2
      ∙ sym (append_assoc (canonical put.0) (canonical_all others.0) old),
)

-- none yet
pub start_put : {A : Type 0} (form : Named) (node : A → Node) (items : List A) (old : List ℕ)
    → PutsEach {Y = Unit {0}} form (map node (drop (length items) items)) old old (Ok tt)
start_put {A = A} form node items old w = (
  elements.Nil,
  ap (λ (l : List A). written_members (layout w) (layout w form) (row (map node l)))
      (drop_all (length items) items (omega arith)),
  refl,
)

-- one more before those behind it
pub more_put : {A : Type 0} (form : Named) (node : A → Node) (items : List A) (i : ℕ) (x : A) (old mid new : List ℕ)
    → i ≤ length items → 0 < i → x ≡ get_or items (i - 1) x
    → PutsEach {Y = Unit {0}} form (map node (drop i items)) old mid (Ok tt)
    → PutsOf {Y = Unit {0}} form (node x) mid new (Ok tt)
    → PutsEach {Y = Unit {0}} form (map node (drop (i - 1) items)) old new (Ok tt)
more_put {A = A} form node items i x old mid new inside some is others put w =
    let there : i - 1 < length items = omega (arith, inside, some) in
    let after : i ≡ i - 1 + 1 = omega (arith, some) in
    let rest = written_members (layout w) (layout w form) (row (map node (drop (i - 1 + 1) items))) in
    subst (λ (l : List A). Puts {Y = Unit {0}} canonical_all (written_members (layout w) (layout w form) (row (map node l))) old new (Ok tt))
    (sym (drop_at items (i - 1) x there ∙ ap (λ (y : A). y ∷ drop (i - 1 + 1) items) (sym is)))
    (one_put (written (layout w) (layout w form) (node x)) rest old mid new
    (subst (λ (k : ℕ). Puts {Y = Unit {0}} canonical_all (written_members (layout w) (layout w form) (row (map node (drop k items)))) old mid (Ok tt))
    after (others w)) (put w))

-- all of them
pub end_put : {A : Type 0} (form : Named) (node : A → Node) (items : List A) (i : ℕ) (old new : List ℕ) → i ≡ 0
    → PutsEach {Y = Unit {0}} form (map node (drop i items)) old new (Ok tt)
    → PutsEach {Y = Unit {0}} form (map node items) old new (Ok tt)
end_put form node items i old new is put =
    subst (λ (k : ℕ). PutsEach {Y = Unit {0}} form (map node (drop k items)) old new (Ok tt)) is put

no_member : {A : Type 0} (form : Named) (node : A → Node) (items : List A) (i : ℕ) (x : A) (w : Surroundings)
    → i < length items → written (layout w) (layout w form) (node (get_or items i x)) ≡ None
    → written_members (layout w) (layout w form) (row (map node items)) ≡ None
no_member form node [] i x w lt h = absurd (omega (arith, lt))
no_member form node (y ∷ items) zero x w lt h =
    ap (λ (o : Option Element). one_before o (written_members (layout w) (layout w form) (row (map node items)))) h
no_member form node (y ∷ items) (suc i) x w lt h =
    ap (λ (os : Option Elements). one_before (written (layout w) (layout w form) (node y)) os)
    (no_member form node items i x w (omega (arith, lt)) h)
    ∙ nothing_before (written (layout w) (layout w form) (node y))

-- a fault of a member is one of all
pub each_fails : {A : Type 0} (form : Named) (node : A → Node) (items : List A) (i : ℕ) (x : A) (fault : WriteFault)
    (old mid new late : List ℕ) → i ≤ length items → 0 < i → x ≡ get_or items (i - 1) x
    → PutsOf {Y = Unit {0}} form (node x) mid new (Err fault)
    → PutsEach {Y = Unit {0}} form (map node items) old late (Err fault)
each_fails {A = A} form node items i x Misfit old mid new late inside some is put w =
    no_member form node items (i - 1) x w (omega (arith, inside, some)) (ap (λ (y : A). written (layout w) (layout w form) (node y)) (sym is) ∙ put w)
each_fails form node items i x NoMemory old mid new late inside some is put w = tt

-- ---- types with members of one type

-- the element has the members, in all surroundings
abbrev pub HasMembers : ℕ → Named → Named → List Node → Node → Type 0
HasMembers tag whole form ns n =
    (w : Surroundings) → written (layout w) (layout w whole) n ≡ around 0 tag (written_members (layout w) (layout w form) (row ns))

pub all_put : (tag k : ℕ) (whole form : Named) (ns : List Node) (n : Node) (old mid new : List ℕ)
    → HasMembers tag whole form ns n → k ≡ length old → Encloses 0 tag k mid new
    → PutsEach {Y = Unit {0}} form ns old mid (Ok tt) → PutsOf {Y = Unit {0}} whole n old new (Ok tt)
all_put tag k whole form ns n old mid new is before header put w =
    enclosed_put 0 tag k (written (layout w) (layout w whole) n) (written_members (layout w) (layout w form) (row ns)) old mid new
    (is w) before header (put w)

pub all_fail : (tag : ℕ) (whole form : Named) (ns : List Node) (n : Node) (fault : WriteFault) (old new late : List ℕ)
    → HasMembers tag whole form ns n → PutsEach {Y = Unit {0}} form ns old new (Err fault)
    → PutsOf {Y = Unit {0}} whole n old late (Err fault)
all_fail tag whole form ns n Misfit old new late is put w = is w ∙ ap (around 0 tag) (put w)
all_fail tag whole form ns n NoMemory old new late is put w = tt

-- ---- types with two components

-- the element has the two, in all surroundings
abbrev pub HasTwo : Named → Named → Named → Node → Node → Node → Type 0
HasTwo whole first second a b n =
    (w : Surroundings) → written (layout w) (layout w whole) n
    ≡ around 0 16 (one_before (written (layout w) (layout w first) a)
    (one_before (written (layout w) (layout w second) b) (Some elements.Nil)))

pub two_put : (k : ℕ) (whole first second : Named) (a b n : Node) (old early late new : List ℕ)
    → HasTwo whole first second a b n → k ≡ length old → Encloses 0 16 k late new
    → PutsOf {Y = Unit {0}} second b old early (Ok tt) → PutsOf {Y = Unit {0}} first a early late (Ok tt)
    → PutsOf {Y = Unit {0}} whole n old new (Ok tt)
two_put k whole first second a b n old early late new is before header behind front w =
    let x = written (layout w) (layout w first) a in
    let y = written (layout w) (layout w second) b in
    enclosed_put 0 16 k (written (layout w) (layout w whole) n) (one_before x (one_before y (Some elements.Nil))) old late new
    (is w) before header
    (one_put x (one_before y (Some elements.Nil)) old early late
    (one_put y (Some elements.Nil) old old early (elements.Nil, refl, refl) (behind w)) (front w))

pub second_fails : (whole first second : Named) (a b n : Node) (fault : WriteFault) (old new late : List ℕ)
    → HasTwo whole first second a b n → PutsOf {Y = Unit {0}} second b old new (Err fault)
    → PutsOf {Y = Unit {0}} whole n old late (Err fault)
second_fails whole first second a b n Misfit old new late is put w =
    let x = written (layout w) (layout w first) a in
    is w
    ∙ ap (λ (o : Option Element). around 0 16 (one_before x (one_before o (Some elements.Nil)))) (put w)
    ∙ ap (around 0 16) (nothing_before x)
second_fails whole first second a b n NoMemory old new late is put w = tt

pub first_fails : (whole first second : Named) (a b n : Node) (fault : WriteFault) (mid new old late : List ℕ)
    → HasTwo whole first second a b n → PutsOf {Y = Unit {0}} first a mid new (Err fault)
    → PutsOf {Y = Unit {0}} whole n old late (Err fault)
first_fails whole first second a b n Misfit mid new old late is put w =
    is w
    ∙ ap (λ (o : Option Element). around 0 16 (one_before o
    (one_before (written (layout w) (layout w second) b) (Some elements.Nil)))) (put w)
first_fails whole first second a b n NoMemory mid new old late is put w = tt

-- ---- faults that are passed on

pub err_is : {W : Type 0} (r : Result (Unit {0}) W) (x : W) → IsErrAnd r (λ y. y ≡ x) → r ≡ Err x
err_is (Ok y) x h = elim h [ ]
err_is {W = W} (Err y) x h = ap (λ (z : W). Err z) h

pub by_error : (form : Named) (n : Node) (old new : List ℕ) (fault : WriteFault) (r : Result (Unit {0}) WriteFault)
    → IsErrAnd r (λ x. x ≡ fault) → PutsOf {Y = Unit {0}} form n old new (Err fault) → PutsOf form n old new r
by_error form n old new fault r is put = subst (λ q. PutsOf form n old new q) (sym (err_is r fault is)) put

pub each_error : (form : Named) (ns : List Node) (old new : List ℕ) (fault : WriteFault) (r : Result (Unit {0}) WriteFault)
    → IsErrAnd r (λ x. x ≡ fault) → PutsEach {Y = Unit {0}} form ns old new (Err fault) → PutsEach form ns old new r
each_error form ns old new fault r is put = subst (λ q. PutsEach form ns old new q) (sym (err_is r fault is)) put
