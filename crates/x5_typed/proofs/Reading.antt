-- What is given where an element, or members, lie in octets.
use Rattle.std.proofs.Common.{◌≡◌, ◌<◌, ◌+◌, ◌-◌, ℕ, Bool, true, false, List, ◌∷◌, [], take, drop, length}
use Rattle.std.proofs.Common.{ap, sym, ◌∙◌, refl, arith, length-append, subst}
use Rattle.std.specs.Option.{option_map}
use Rattle.std.specs.declared.option.Option.{Option}
use Rattle.std.specs.declared.option.Option.TheVariants.{None, Some}
use Rattle.std.specs.Result.{IsErrAnd}
use Rattle.std.specs.declared.result.Result.{Result}
use Rattle.std.specs.declared.result.Result.TheVariants.{Ok, Err}
use Rattle.std.proofs.lemmas.Bool.{le-leb, leb-true}
use Rattle.x5_model_octets.specs.Faults.{Head, begins_with_end, head_at, outermost}
use Rattle.x5_model_octets.proofs.ElementLaws.{nothing_begins}
use Rattle.x5_ber.specs.Reading.{Stands}
use Rattle.x5_model_typed.specs.Trees.{Tree, Trees, Leaf, Branch, Bare, Row, Lies, LieAll, place_of, class_of, tag_of}
use Rattle.x5_model_typed.specs.Trees.{plain}
use Rattle.x5_model_typed.proofs.Places.{lies_spells}
use Rattle.x5_model_typed.specs.Nodes as nodes
use Rattle.x5_model_typed.specs.Forms as forms
use Rattle.x5_model_typed.specs.Forms.{Layout}
use Rattle.x5_model_typed.specs.Judged as judged
use Rattle.x5_model_octets.specs.Breaches.{Breach}
use Rattle.x5_model_typed.specs.Judged.{and_then, judged_all, judged_member, State}
use Rattle.x5_typed.specs.declared.fault.ReadFault.{ReadFault}
use Rattle.x5_typed.specs.declared.fault.ReadFault.TheVariants as faults
use Rattle.x5_typed.specs.Ahead.{Ahead}
use Rattle.x5_typed.specs.Breaches.{Gives}
use Rattle.x5_typed.specs.Places.{EndsAt, behind, is_over_at}
use Rattle.x5_typed.proofs.Heads.{lies_tests, stands_front, stands_behind, leaf_is, branch_is, LeafIs, BranchIs}

-- ---- what is given

pub gives_ok : {X Y : Type 0} (is : X → Y → Type 0) (e : Result Y Breach) (x : X) → Gives is e (Ok x) → (y : Y)
    × (e ≡ Ok y) × is x y
gives_ok is (Ok y) x g = (y, refl, g)
gives_ok is (Err b) x g = elim g [ ]

pub no_memory : {X Y : Type 0} (is : X → Y → Type 0) (e : Result Y Breach) → Gives is e (Err faults.NoMemory)
no_memory is (Ok y) = tt
no_memory is (Err b) = tt

pub gives_none : {X Y : Type 0} (is : X → Y → Type 0) (e : Result Y Breach) (r : Result X ReadFault)
    → IsErrAnd r (λ f. f ≡ faults.NoMemory) → Gives is e r
gives_none is e (Ok x) h = elim h [ ]
gives_none is e (Err f) h = subst (λ (g : ReadFault). Gives is e (Err g)) (sym h) (no_memory is e)

pub gives_err : {X Y Z W : Type 0} (is : X → Y → Type 0) (also : Z → W → Type 0) (f : Y → Result W Breach)
    (e : Result Y Breach) (w : ReadFault) → Gives is e (Err w) → Gives also (and_then f e) (Err w)
gives_err is also f (Ok y) (faults.Breach c) g = elim g [ ]
gives_err is also f (Ok y) faults.NoMemory g = no_memory also (f y)
gives_err is also f (Err b) (faults.Breach c) g = g
gives_err is also f (Err b) faults.NoMemory g = tt

pub gives_more : {X Y Z : Type 0} (is : X → Y → Type 0) (also : Z → Y → Type 0) (e : Result Y Breach) (w : ReadFault)
    → Gives is e (Err w) → Gives also e (Err w)
gives_more is also (Ok y) (faults.Breach c) g = elim g [ ]
gives_more is also (Ok y) faults.NoMemory g = tt
gives_more is also (Err b) (faults.Breach c) g = g
gives_more is also (Err b) faults.NoMemory g = tt

pub gives_is : {X Y Z : Type 0} (is : X → Y → Type 0) (also : Z → Y → Type 0) (e : Result Y Breach) (x : X) (z : Z)
    → ((y : Y) → is x y → also z y) → Gives is e (Ok x) → Gives also e (Ok z)
gives_is is also (Ok y) x z h g = h y g
gives_is is also (Err b) x z h g = elim g [ ]

-- ---- where a content is over

pub lies_some : (depth at : ℕ) (t : Tree) (octets : List ℕ) → Lies depth at t octets → 0 < length octets
lies_some depth at t [] l = absurd (nothing_begins depth
    (record { member = plain t; spelling = []; rest = []; spells = lies_spells depth at t [] l; whole = refl }))
lies_some depth at t (o ∷ os) l = omega arith

over_bare : (bytes : List ℕ) (depth at : ℕ) (end : Option ℕ) (t : Tree) (ts : Trees) (octets : List ℕ)
    → LieAll depth at (Row t ts) octets → Stands bytes at octets
    → EndsAt bytes end (at + length octets) → is_over_at bytes at end ≡ true → ⊥
over_bare bytes depth at None t ts octets l s e over =
    let first = stands_front bytes at l.0 l.1 octets l.4 s in
    let going : begins_with_end (drop at bytes) ≡ false = (lies_tests bytes depth at t l.0 l.2 first).1 in
    let wrong : true ≡ false = sym over ∙ going in
    cc wrong
over_bare bytes depth at (Some n) t ts octets l s e over =
    omega (arith, leb-true n at over, e, lies_some depth at t l.0 l.2, ap length l.4, length-append l.0 l.1)

bare_over : (bytes : List ℕ) (at : ℕ) (end : Option ℕ) (octets : List ℕ) → octets ≡ []
    → EndsAt bytes end (at + length octets) → is_over_at bytes at end ≡ true
bare_over bytes at None octets none e =
    let here : at + length octets ≡ at = omega (arith, ap length none) in
    let there : drop at bytes ≡ 0 ∷ 0 ∷ drop (at + length octets + 2) bytes = sym (ap (λ (k : ℕ). drop k bytes) here)
    ∙ e.split in
    ap begins_with_end there
bare_over bytes at (Some n) octets none e = le-leb n at (omega (arith, e, ap length none))

-- ---- members one after the other

pub all_there : (table : Layout) (bytes : List ℕ) (depth start : ℕ) (ts : Trees) (octets : List ℕ) (begun : State)
    → LieAll depth start ts octets → Stands bytes start octets
    → Ahead table bytes depth start ts octets begun start begun
all_there table bytes depth start ts octets begun l s =
    record { others = ts; rest = octets; lie = l; stand = s; ends = refl; same = refl }

-- One member was read.
pub one_gone : (table : Layout) (bytes : List ℕ) (depth start : ℕ) (ts : Trees) (octets : List ℕ) (begun : State) (place : ℕ)
    (now : State) (end : Option ℕ) (next : ℕ) (new : State)
    → Ahead table bytes depth start ts octets begun place now → EndsAt bytes end (start + length octets)
    → is_over_at bytes place end ≡ false
    → ((t : Tree) (first : List ℕ) → Lies depth place t first → Stands bytes place first
    → Gives (λ (n : ℕ) s. (new ≡ s) × (n ≡ place + length first)) (judged_member table now t) (Ok next))
    → Ahead table bytes depth start ts octets begun next new
one_gone table bytes depth start ts octets begun place now end next new a e going read =
    by a.others a.rest a.lie a.stand a.ends a.same
  where
    by : (us : Trees) (rest : List ℕ) → LieAll depth place us rest → Stands bytes place rest
        → place + length rest ≡ start + length octets → judged_all table begun ts ≡ judged_all table now us
        → Ahead table bytes depth start ts octets begun next new
    by Bare rest l s ends same =
        let here : EndsAt bytes end (place + length rest) = subst (λ (k : ℕ). EndsAt bytes end k) (sym ends) e in
        let wrong : true ≡ false = sym (bare_over bytes place end rest l here) ∙ going in
        absurd (cc wrong)
    by (Row t us) rest l s ends same =
        let found = gives_ok (λ (n : ℕ) (u : State). (new ≡ u) × (n ≡ place + length l.0)) (judged_member table now t)
        next (read t l.0 l.2 (stands_front bytes place l.0 l.1 rest l.4 s)) in
        let is_next : next ≡ place + length l.0 = found.2.1 in
        let judged : judged_member table now t ≡ Ok new = found.1 ∙ ap (λ (u : State). Ok u) (sym found.2.0) in
        record {
          others = us;
          rest = l.1;
          lie = subst (λ (k : ℕ). LieAll depth k us l.1) (sym is_next) l.3;
          stand = subst (λ (k : ℕ). Stands bytes k l.1) (sym is_next) (stands_behind bytes place l.0 l.1 rest l.4 s);
          ends = omega (arith, is_next, ends, ap length l.4, length-append l.0 l.1);
          same = same ∙ ap (λ (r : Result State Breach). and_then (λ later. judged_all table later us) r) judged;
        }

-- One has a breach.
pub one_wrong : (table : Layout) (bytes : List ℕ) (depth start : ℕ) (ts : Trees) (octets : List ℕ) (begun : State) (place : ℕ)
    (now : State) (end : Option ℕ) (w : ReadFault) (new : State)
    → Ahead table bytes depth start ts octets begun place now → EndsAt bytes end (start + length octets)
    → is_over_at bytes place end ≡ false
    → ((t : Tree) (first : List ℕ) → Lies depth place t first → Stands bytes place first
    → Gives (λ (n : ℕ) s. (new ≡ s) × (n ≡ place + length first)) (judged_member table now t) (Err w))
    → Gives (λ (n : ℕ) s. (new ≡ s) × (n ≡ behind end (start + length octets))) (judged_all table begun ts) (Err w)
one_wrong table bytes depth start ts octets begun place now end w new a e going read =
    by a.others a.rest a.lie a.stand a.ends a.same
  where
    by : (us : Trees) (rest : List ℕ) → LieAll depth place us rest → Stands bytes place rest
        → place + length rest ≡ start + length octets → judged_all table begun ts ≡ judged_all table now us
        → Gives (λ (n : ℕ) s. (new ≡ s) × (n ≡ behind end (start + length octets))) (judged_all table begun ts) (Err w)
    by Bare rest l s ends same =
        let here : EndsAt bytes end (place + length rest) = subst (λ (k : ℕ). EndsAt bytes end k) (sym ends) e in
        let wrong : true ≡ false = sym (bare_over bytes place end rest l here) ∙ going in
        absurd (cc wrong)
    by (Row t us) rest l s ends same =
        subst (λ (r : Result State Breach). Gives (λ (n : ℕ) s. (new ≡ s) × (n ≡ behind end (start + length octets)))
        r (Err w)) (sym same)
        (gives_err (λ (n : ℕ) s. (new ≡ s) × (n ≡ place + length l.0)) (λ (n : ℕ) s. (new ≡ s)
        × (n ≡ behind end (start + length octets))) (λ later. judged_all table later us)
        (judged_member table now t) w
        (read t l.0 l.2 (stands_front bytes place l.0 l.1 rest l.4 s)))

-- No member is left.
pub all_gone : (table : Layout) (bytes : List ℕ) (depth start : ℕ) (ts : Trees) (octets : List ℕ) (begun : State) (place : ℕ)
    (now : State) (end : Option ℕ) (next : ℕ)
    → Ahead table bytes depth start ts octets begun place now → EndsAt bytes end (start + length octets)
    → is_over_at bytes place end ≡ true → next ≡ behind end place
    → Gives (λ (n : ℕ) s. (now ≡ s) × (n ≡ behind end (start + length octets))) (judged_all table begun ts) (Ok next)
all_gone table bytes depth start ts octets begun place now end next a e over is =
    by a.others a.rest a.lie a.stand a.ends a.same
  where
    by : (us : Trees) (rest : List ℕ) → LieAll depth place us rest → Stands bytes place rest
        → place + length rest ≡ start + length octets → judged_all table begun ts ≡ judged_all table now us
        → Gives (λ (n : ℕ) s. (now ≡ s) × (n ≡ behind end (start + length octets))) (judged_all table begun ts)
        (Ok next)
    by Bare rest l s ends same =
        let here : place ≡ start + length octets = omega (arith, ends, ap length l) in
        subst (λ (r : Result State Breach). Gives (λ (n : ℕ) s. (now ≡ s) × (n ≡ behind end (start + length octets)))
        r (Ok next)) (sym same) (refl, is ∙ ap (behind end) here)
    by (Row t us) rest l s ends same =
        let here : EndsAt bytes end (place + length rest) = subst (λ (k : ℕ). EndsAt bytes end k) (sym ends) e in
        absurd (over_bare bytes depth place end t us rest l s here over)

-- ---- one member

pub record HeadIs (at : ℕ) (head : Head) (t : Tree) : Type 0 where
  pub place : place_of t ≡ at
  pub class : class_of t ≡ head.identifier.class
  pub tag : tag_of t ≡ head.identifier.tag

pub head_is : (bytes : List ℕ) (depth at : ℕ) (head : Head) (t : Tree) (octets : List ℕ) → Lies depth at t octets
    → Stands bytes at octets → head_at outermost bytes at ≡ Ok head → HeadIs at head t
head_is bytes depth at head t octets l s e = by head.identifier.constructed refl
  where
    by : (b : Bool) → head.identifier.constructed ≡ b → HeadIs at head t
    by true form =
        let b = branch_is bytes depth at head t octets l s e form in
        subst (λ (u : Tree). HeadIs at head u) (sym b.tree) (record { place = refl; class = refl; tag = refl })
    by false form =
        let b = leaf_is bytes depth at head t octets l s e form in
        subst (λ (u : Tree). HeadIs at head u) (sym b.tree) (record { place = refl; class = refl; tag = refl })

awaited : (table : Layout) (s : State) (t : Tree) (at : ℕ) (head : Head) (r : Result judged.Awaited Breach) → HeadIs at head t
    → judged.awaits table s at head.identifier.class head.identifier.tag ≡ r
    → judged_member table s t ≡ and_then (λ a. and_then (judged.stepped s at a.step) (judged.judged table a.types t)) r
awaited table s t at head r h e =
    let there : judged.awaits table s (place_of t) (class_of t) (tag_of t) ≡ r = rw (h.place, h.class, h.tag) e in
    ap (λ (q : Result judged.Awaited Breach). and_then
    (λ a. and_then (judged.stepped s (place_of t) a.step) (judged.judged table a.types t)) q) there
    ∙ ap (λ (k : ℕ). and_then (λ a. and_then (judged.stepped s k a.step) (judged.judged table a.types t)) r) h.place

-- Nothing is awaited that has the tag.
pub unawaited : (table : Layout) {X : Type 0} (is : X → State → Type 0) (s : State) (t : Tree) (at : ℕ) (head : Head) (b : Breach)
    (w : ReadFault) → HeadIs at head t
    → judged.awaits table s at head.identifier.class head.identifier.tag ≡ Err b → Gives {X = X} is (Err b) (Err w)
    → Gives is (judged_member table s t) (Err w)
unawaited table is s t at head b w h e g = subst (λ (r : Result State Breach). Gives is r (Err w))
    (sym (awaited table s t at head (Err b) h e)) g

-- It has a breach itself.
pub member_wrong : (table : Layout) {X Y : Type 0} (is : X → nodes.Node → Type 0) (also : Y → State → Type 0) (s : State) (t : Tree)
    (at : ℕ) (head : Head) (a : judged.Awaited) (w : ReadFault) → HeadIs at head t
    → judged.awaits table s at head.identifier.class head.identifier.tag ≡ Ok a
    → Gives is (judged.judged table a.types t) (Err w) → Gives also (judged_member table s t) (Err w)
member_wrong table is also s t at head a w h e g =
    subst (λ (r : Result State Breach). Gives also r (Err w)) (sym (awaited table s t at head (Ok a) h e))
    (gives_err is also (judged.stepped s at a.step) (judged.judged table a.types t) w g)

-- It is read, and reading goes on behind it or has a breach there.
pub member_steps : (table : Layout) (s : State) (t : Tree) (at : ℕ) (head : Head) (a : judged.Awaited) (n : nodes.Node)
    → HeadIs at head t
    → judged.awaits table s at head.identifier.class head.identifier.tag ≡ Ok a → judged.judged table a.types t ≡ Ok n
    → judged_member table s t ≡ judged.stepped s at a.step n
member_steps table s t at head a n h e g =
    awaited table s t at head (Ok a) h e ∙ ap (λ (q : Result nodes.Node Breach). and_then (judged.stepped s at a.step) q) g

-- ---- a constructed element

pub opened : (table : Layout) (types : List forms.Alternative) (a : forms.Alternative) (at class tag : ℕ) (ts : Trees)
    (r : Result State Breach) → forms.by_tag class tag types ≡ Some a
    → judged_all table (judged.begun at a.content) ts ≡ r → judged.judged table types (Branch at class tag ts)
    ≡ and_then (λ s. judged.settled at a (judged.ended s)) r
opened table types a at class tag ts r is e = rw is
    (ap (λ (q : Result State Breach). and_then (λ s. judged.settled at a (judged.ended s)) q) e)

-- ---- a primitive element

pub piece_same : (table : Layout) (bytes : List ℕ) (at : ℕ) (head : Head) (t : Tree) (octets : List ℕ)
    (b : LeafIs bytes at head t octets) (types : List forms.Alternative) (end : ℕ) (part : List ℕ)
    → Some end ≡ option_map (λ (n : ℕ). head.content + n) head.extent
    → part ≡ take (end - head.content) (drop head.content bytes)
    → (judged.judged table types t ≡ judged.judged table types
    (Leaf at head.identifier.class head.identifier.tag part)) × (end ≡ at + length octets)
piece_same table bytes at head t octets b types end part e is =
    let known : Some end ≡ Some (head.content + length b.content) = e
    ∙ ap (λ (x : Option ℕ). option_map (λ (n : ℕ). head.content + n) x) b.extent in
    let there : end ≡ head.content + length b.content = cc known in
    let size : end - head.content ≡ length b.content = omega (arith, there) in
    let same : part ≡ b.content = is ∙ ap (λ (k : ℕ). take k (drop head.content bytes)) size ∙ b.part in (
      ap (λ (u : Tree). judged.judged table types u) b.tree
          ∙ ap (λ (o : List ℕ). judged.judged table types (Leaf at head.identifier.class head.identifier.tag o))
          (sym same),
      there ∙ b.next,
    )

pub no_end : (bytes : List ℕ) (at : ℕ) (head : Head) (t : Tree) (octets : List ℕ) (b : LeafIs bytes at head t octets)
    → None ≡ option_map (λ (n : ℕ). head.content + n) head.extent → ⊥
no_end bytes at head t octets b e =
    let known : None ≡ Some (head.content + length b.content) = e
    ∙ ap (λ (x : Option ℕ). option_map (λ (n : ℕ). head.content + n) x) b.extent in
    cc known

pub no_fault : (bytes : List ℕ) (at : ℕ) (head : Head) (t : Tree) (octets : List ℕ)
    (b : LeafIs bytes at head t octets) (n : ℕ) → Stands bytes at octets → head.extent ≡ Some n
    → length bytes < head.content + n → ⊥
no_fault bytes at head t octets b n s e less =
    let same : Some n ≡ Some (length b.content) = sym e ∙ b.extent in
    let is : n ≡ length b.content = cc same in
    omega (arith, less, is, b.next, s.there)

pub no_open_fault : (bytes : List ℕ) (depth at : ℕ) (head : Head) (t : Tree) (octets : List ℕ)
    (b : BranchIs bytes depth at head t octets) (n : ℕ) → head.extent ≡ Some n → length bytes < head.content + n → ⊥
no_open_fault bytes depth at head t octets b n e less =
    let there : EndsAt bytes (Some (head.content + n)) (head.content + length b.content) =
    subst (λ (x : Option ℕ). EndsAt bytes (option_map (λ (n : ℕ). head.content + n) x)
    (head.content + length b.content)) e b.ends in
    omega (arith, less, there, b.stand.there)
