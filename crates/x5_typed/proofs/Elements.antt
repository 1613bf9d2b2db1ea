-- What each step of reading an element gives.
use Rattle.std.proofs.Common.{◌≡◌, ◌≤◌, ◌+◌, ◌-◌, ℕ, true, false, List, ◌∷◌, [], take, drop, length, ap}
use Rattle.std.proofs.Common.{sym, ◌∙◌, refl, arith, subst, length-drop}
use Rattle.std.specs.Option.{option_map}
use Rattle.std.specs.declared.option.Option.{Option}
use Rattle.std.specs.declared.option.Option.TheVariants.{None, Some}
use Rattle.std.specs.Result.{IsErrAnd}
use Rattle.std.specs.declared.result.Result.{Result}
use Rattle.std.specs.declared.result.Result.TheVariants.{Ok, Err}
use Rattle.x5_model_octets.specs.Faults as octet_faults
use Rattle.x5_model_octets.specs.Faults.{Head, begins_with_end, head_at, outermost}
use Rattle.x5_ber.specs.Reading.{Stands}
use Rattle.x5_model_typed.specs.Trees.{Tree, Trees, Leaf, Lies}
use Rattle.x5_model_typed.specs.Nodes as nodes
use Rattle.x5_model_typed.specs.Forms as forms
use Rattle.x5_model_typed.specs.Forms.{Layout}
use Rattle.x5_model_octets.specs.Breaches as octet_breaches
use Rattle.x5_model_typed.specs.Judged as judged
use Rattle.x5_model_typed.specs.Judged.{judged_all, judged_member, State}
use Rattle.x5_typed.specs.declared.fault.Breach.{Breach}
use Rattle.x5_typed.specs.declared.fault.ReadFault.{ReadFault}
use Rattle.x5_typed.specs.declared.fault.ReadFault.TheVariants as faults
use Rattle.x5_types.specs.declared.node.Node.{Node}
use Rattle.x5_typed.specs.Breaches.{Gives, breach_view}
use Rattle.x5_types.specs.NodeView.{node_view, option_view}
use Rattle.x5_typed.specs.Ahead.{Ahead}
use Rattle.x5_typed.specs.Places.{EndsAt, behind, is_over_at}
use Rattle.x5_typed.proofs.Heads.{BranchIs, leaf_is}
use Rattle.x5_typed.proofs.Reading.{gives_ok, gives_err, gives_more, gives_is, HeadIs, unawaited, member_wrong}
use Rattle.x5_typed.proofs.Reading.{member_steps, opened, piece_same, one_wrong}

pub err_is : {X W : Type 0} (r : Result X W) (w : W) → IsErrAnd r (λ x. x ≡ w) → r ≡ Err w
err_is (Ok x) w h = elim h [ ]
err_is {W = W} (Err x) w h = ap (λ (y : W). Err y) h

-- The value is what is expected, and the place behind it is this one.
abbrev pub ReadTo : ℕ → (Node × ℕ) → nodes.Node → Type 0
ReadTo next m n = (node_view m.0 ≡ n) × (m.1 ≡ next)

abbrev pub GoesTo : State → ℕ → ℕ → State → Type 0
GoesTo new next n s = (new ≡ s) × (n ≡ next)

-- ---- a primitive element

pub piece_wrong : (table : Layout) (bytes : List ℕ) (depth at : ℕ) (head : Head) (types : List forms.Alternative) (t : Tree)
    (octets : List ℕ) (end : ℕ) (w : ReadFault) (r : Result (Node × ℕ) ReadFault)
    → Lies depth at t octets → Stands bytes at octets → head_at outermost bytes at ≡ Ok head
    → head.identifier.constructed ≡ false → Some end ≡ option_map (λ (n : ℕ). head.content + n) head.extent
    → r ≡ Err w
    → Gives {X = Node} (λ m n. node_view m ≡ n)
    (judged.judged table types (Leaf at head.identifier.class head.identifier.tag
    (take (end - head.content) (drop head.content bytes)))) (Err w)
    → Gives (ReadTo (at + length octets)) (judged.judged table types t) r
piece_wrong table bytes depth at head types t octets end w r l s e form ends is g =
    let same = piece_same table bytes at head t octets (leaf_is bytes depth at head t octets l s e form) types end
    (take (end - head.content) (drop head.content bytes)) ends refl in
    let known : Gives {X = Node} (λ m n. node_view m ≡ n) (judged.judged table types t) (Err w) =
    subst (λ (q : Result nodes.Node octet_breaches.Breach). Gives {X = Node} (λ m n. node_view m ≡ n) q (Err w)) (sym same.0)
    g in
    subst (λ (x : Result (Node × ℕ) ReadFault). Gives (ReadTo (at + length octets)) (judged.judged table types t) x)
    (sym is)
    (gives_more (λ (m : Node) (n : nodes.Node). node_view m ≡ n) (ReadTo (at + length octets))
    (judged.judged table types t) w known)

pub piece_read : (table : Layout) (bytes : List ℕ) (depth at : ℕ) (head : Head) (types : List forms.Alternative) (t : Tree)
    (octets : List ℕ) (end : ℕ) (node : Node)
    → Lies depth at t octets → Stands bytes at octets → head_at outermost bytes at ≡ Ok head
    → head.identifier.constructed ≡ false → Some end ≡ option_map (λ (n : ℕ). head.content + n) head.extent
    → Gives {X = Node} (λ m n. node_view m ≡ n)
    (judged.judged table types (Leaf at head.identifier.class head.identifier.tag
    (take (end - head.content) (drop head.content bytes)))) (Ok node)
    → Gives (ReadTo (at + length octets)) (judged.judged table types t) (Ok (node, end))
piece_read table bytes depth at head types t octets end node l s e form ends g =
    let same = piece_same table bytes at head t octets (leaf_is bytes depth at head t octets l s e form) types end
    (take (end - head.content) (drop head.content bytes)) ends refl in
    let known : Gives {X = Node} (λ m n. node_view m ≡ n) (judged.judged table types t) (Ok node) =
    subst (λ (q : Result nodes.Node octet_breaches.Breach). Gives {X = Node} (λ m n. node_view m ≡ n) q (Ok node))
    (sym same.0) g in
    gives_is (λ (m : Node) (n : nodes.Node). node_view m ≡ n) (ReadTo (at + length octets))
    (judged.judged table types t) node (node, end) (λ n h. (h, same.1)) known

-- ---- one member

pub not_awaited : (table : Layout) (new s : State) (t : Tree) (at next : ℕ) (head : Head) (b : Breach) (r : Result ℕ ReadFault)
    → HeadIs at head t
    → judged.awaits table s at head.identifier.class head.identifier.tag ≡ Err (breach_view b)
    → r ≡ Err (faults.Breach b) → Gives (GoesTo new next) (judged_member table s t) r
not_awaited table new s t at next head b r h e is =
    subst (λ (x : Result ℕ ReadFault). Gives (GoesTo new next) (judged_member table s t) x) (sym is)
    (unawaited table (GoesTo new next) s t at head (breach_view b) (faults.Breach b) h e refl)

pub member_is_wrong : (table : Layout) (new s : State) (t : Tree) (at next : ℕ) (head : Head) (a : judged.Awaited) (w : ReadFault)
    (r : Result ℕ ReadFault) → HeadIs at head t
    → judged.awaits table s at head.identifier.class head.identifier.tag ≡ Ok a
    → Gives (ReadTo next) (judged.judged table a.types t) (Err w) → r ≡ Err w
    → Gives (GoesTo new next) (judged_member table s t) r
member_is_wrong table new s t at next head a w r h e g is =
    subst (λ (x : Result ℕ ReadFault). Gives (GoesTo new next) (judged_member table s t) x) (sym is)
    (member_wrong table (ReadTo next) (GoesTo new next) s t at head a w h e g)

-- What a member that is read steps to.
steps_to : (table : Layout) (s : State) (t : Tree) (at next : ℕ) (head : Head) (a : judged.Awaited) (m : Node × ℕ) → HeadIs at head t
    → judged.awaits table s at head.identifier.class head.identifier.tag ≡ Ok a
    → Gives (ReadTo next) (judged.judged table a.types t) (Ok m)
    → (judged_member table s t ≡ judged.stepped s at a.step (node_view m.0)) × (m.1 ≡ next)
steps_to table s t at next head a m h e g =
    let found = gives_ok (ReadTo next) (judged.judged table a.types t) m g in (
      member_steps table s t at head a (node_view m.0) h e (found.1 ∙ ap (λ (n : nodes.Node). Ok n) (sym found.2.0)),
      found.2.1,
    )

pub step_is_wrong : (table : Layout) (new s : State) (t : Tree) (at next : ℕ) (head : Head) (a : judged.Awaited) (m : Node × ℕ)
    (w : ReadFault) (r : Result ℕ ReadFault) → HeadIs at head t
    → judged.awaits table s at head.identifier.class head.identifier.tag ≡ Ok a
    → Gives (ReadTo next) (judged.judged table a.types t) (Ok m)
    → Gives {X = Unit {0}} (λ _ u. new ≡ u) (judged.stepped s at a.step (node_view m.0)) (Err w) → r ≡ Err w
    → Gives (GoesTo new next) (judged_member table s t) r
step_is_wrong table new s t at next head a m w r h e g k is =
    let to = steps_to table s t at next head a m h e g in
    let known : Gives {X = Unit {0}} (λ _ u. new ≡ u) (judged_member table s t) (Err w) =
    subst (λ (q : Result State octet_breaches.Breach). Gives {X = Unit {0}} (λ _ u. new ≡ u) q (Err w)) (sym to.0) k in
    subst (λ (x : Result ℕ ReadFault). Gives (GoesTo new next) (judged_member table s t) x) (sym is)
    (gives_more {X = Unit {0}} (λ _ u. new ≡ u) (GoesTo new next) (judged_member table s t) w known)

pub member_done : (table : Layout) (new s : State) (t : Tree) (at next : ℕ) (head : Head) (a : judged.Awaited) (m : Node × ℕ)
    (u : Unit {0}) → HeadIs at head t
    → judged.awaits table s at head.identifier.class head.identifier.tag ≡ Ok a
    → Gives (ReadTo next) (judged.judged table a.types t) (Ok m)
    → Gives {X = Unit {0}} (λ _ u. new ≡ u) (judged.stepped s at a.step (node_view m.0)) (Ok u)
    → Gives (GoesTo new next) (judged_member table s t) (Ok m.1)
member_done table new s t at next head a m u h e g k =
    let to = steps_to table s t at next head a m h e g in
    let known : Gives {X = Unit {0}} (λ _ u. new ≡ u) (judged_member table s t) (Ok u) =
    subst (λ (q : Result State octet_breaches.Breach). Gives {X = Unit {0}} (λ _ u. new ≡ u) q (Ok u)) (sym to.0) k in
    gives_is {X = Unit {0}} (λ _ u. new ≡ u) (GoesTo new next) (judged_member table s t) u m.1 (λ y h'. (h', to.1))
    known

-- ---- a constructed element

pub open_untagged : (table : Layout) (types : List forms.Alternative) (bytes : List ℕ) (depth at : ℕ) (head : Head) (t : Tree)
    (octets : List ℕ) (b : BranchIs bytes depth at head t octets) (c : Breach)
    → forms.by_tag head.identifier.class head.identifier.tag types ≡ None
    → breach_view c ≡ octet_breaches.Ber (octet_faults.BadTag at)
    → Gives (ReadTo (at + length octets)) (judged.judged table types t) (Err (faults.Breach c))
open_untagged table types bytes depth at head t octets b c none is =
    subst (λ (u : Tree). Gives (ReadTo (at + length octets)) (judged.judged table types u) (Err (faults.Breach c)))
    (sym b.tree) (rw none is)

abbrev pub ContentTo : ℕ → (Option Node × ℕ) → State → Type 0
ContentTo next m s = (option_view m.0 ≡ judged.ended s) × (m.1 ≡ next)

pub open_wrong : (table : Layout) (types : List forms.Alternative) (a : forms.Alternative) (bytes : List ℕ) (depth at : ℕ)
    (head : Head) (t : Tree) (octets : List ℕ) (b : BranchIs bytes depth at head t octets) (next : ℕ)
    (w : ReadFault) (r : Result (Node × ℕ) ReadFault) → forms.by_tag head.identifier.class head.identifier.tag types
    ≡ Some a
    → Gives (ContentTo next) (judged_all table (judged.begun at a.content) b.members) (Err w) → r ≡ Err w
    → Gives (ReadTo (at + length octets)) (judged.judged table types t) r
open_wrong table types a bytes depth at head t octets b next w r tagged g is =
    let whole : judged.judged table types t ≡ judged.and_then (λ (s : State). judged.settled at a (judged.ended s))
    (judged_all table (judged.begun at a.content) b.members) =
    ap (λ (u : Tree). judged.judged table types u) b.tree
    ∙ opened table types a at head.identifier.class head.identifier.tag b.members
    (judged_all table (judged.begun at a.content) b.members) tagged refl in
    subst (λ (x : Result (Node × ℕ) ReadFault). Gives (ReadTo (at + length octets)) (judged.judged table types t) x)
    (sym is)
    (subst (λ (q : Result nodes.Node octet_breaches.Breach). Gives (ReadTo (at + length octets)) q (Err w)) (sym whole)
    (gives_err (ContentTo next) (ReadTo (at + length octets)) (λ (s : State). judged.settled at a (judged.ended s))
    (judged_all table (judged.begun at a.content) b.members) w g))

settles_to : (table : Layout) (types : List forms.Alternative) (a : forms.Alternative) (bytes : List ℕ) (depth at : ℕ) (head : Head)
    (t : Tree) (octets : List ℕ) (b : BranchIs bytes depth at head t octets) (next : ℕ)
    (m : Option Node × ℕ) → forms.by_tag head.identifier.class head.identifier.tag types ≡ Some a
    → Gives (ContentTo next) (judged_all table (judged.begun at a.content) b.members) (Ok m)
    → (judged.judged table types t ≡ judged.settled at a (option_view m.0)) × (m.1 ≡ next)
settles_to table types a bytes depth at head t octets b next m tagged g =
    let found = gives_ok (ContentTo next) (judged_all table (judged.begun at a.content) b.members) m g in (
      ap (λ (u : Tree). judged.judged table types u) b.tree
          ∙ opened table types a at head.identifier.class head.identifier.tag b.members (Ok found.0) tagged found.1
          ∙ ap (λ (o : Option nodes.Node). judged.settled at a o) (sym found.2.0),
      found.2.1,
    )

pub settled_wrong : (table : Layout) (types : List forms.Alternative) (a : forms.Alternative) (bytes : List ℕ) (depth at : ℕ)
    (head : Head) (t : Tree) (octets : List ℕ) (b : BranchIs bytes depth at head t octets) (next : ℕ)
    (m : Option Node × ℕ) (w : ReadFault) (r : Result (Node × ℕ) ReadFault)
    → forms.by_tag head.identifier.class head.identifier.tag types ≡ Some a
    → Gives (ContentTo next) (judged_all table (judged.begun at a.content) b.members) (Ok m)
    → Gives {X = Node} (λ m n. node_view m ≡ n) (judged.settled at a (option_view m.0)) (Err w) → r ≡ Err w
    → Gives (ReadTo (at + length octets)) (judged.judged table types t) r
settled_wrong table types a bytes depth at head t octets b next m w r tagged g k is =
    let to = settles_to table types a bytes depth at head t octets b next m tagged g in
    subst (λ (x : Result (Node × ℕ) ReadFault). Gives (ReadTo (at + length octets)) (judged.judged table types t) x)
    (sym is)
    (subst (λ (q : Result nodes.Node octet_breaches.Breach). Gives (ReadTo (at + length octets)) q (Err w)) (sym to.0)
    (gives_more (λ (m : Node) (n : nodes.Node). node_view m ≡ n) (ReadTo (at + length octets))
    (judged.settled at a (option_view m.0)) w k))

pub open_done : (table : Layout) (types : List forms.Alternative) (a : forms.Alternative) (bytes : List ℕ) (depth at : ℕ) (head : Head)
    (t : Tree) (octets : List ℕ) (b : BranchIs bytes depth at head t octets) (next : ℕ)
    (m : Option Node × ℕ) (node : Node) → forms.by_tag head.identifier.class head.identifier.tag types ≡ Some a
    → next ≡ at + length octets
    → Gives (ContentTo next) (judged_all table (judged.begun at a.content) b.members) (Ok m)
    → Gives {X = Node} (λ m n. node_view m ≡ n) (judged.settled at a (option_view m.0)) (Ok node)
    → Gives (ReadTo (at + length octets)) (judged.judged table types t) (Ok (node, m.1))
open_done table types a bytes depth at head t octets b next m node tagged is g k =
    let to = settles_to table types a bytes depth at head t octets b next m tagged g in
    subst (λ (q : Result nodes.Node octet_breaches.Breach). Gives (ReadTo (at + length octets)) q (Ok (node, m.1))) (sym to.0)
    (gives_is (λ (m : Node) (n : nodes.Node). node_view m ≡ n) (ReadTo (at + length octets))
    (judged.settled at a (option_view m.0)) node (node, m.1) (λ n h. (h, to.1 ∙ is)) k)

-- ---- the end of a content

pub end_inside : (bytes : List ℕ) (place : ℕ) → begins_with_end (drop place bytes) ≡ true → place + 2 ≤ length bytes
end_inside bytes place e = omega (arith, length-drop place bytes, some (drop place bytes) e)
  where
    some : (l : List ℕ) → begins_with_end l ≡ true → 2 ≤ length l
    some [] e = absurd (cc e)
    some (a ∷ []) e = absurd (cc e)
    some (a ∷ b ∷ l) e = omega arith

pub one_wrong_is : (table : Layout) (bytes : List ℕ) (depth start : ℕ) (ts : Trees) (octets : List ℕ) (begun : State) (place : ℕ)
    (now : State) (end : Option ℕ) (w : ReadFault) (new : State) (r : Result ℕ ReadFault)
    → Ahead table bytes depth start ts octets begun place now → EndsAt bytes end (start + length octets)
    → is_over_at bytes place end ≡ false
    → ((t : Tree) (first : List ℕ) → Lies depth place t first → Stands bytes place first
    → Gives (λ (n : ℕ) s. (new ≡ s) × (n ≡ place + length first)) (judged_member table now t) (Err w))
    → r ≡ Err w → Gives (λ (n : ℕ) s. (new ≡ s) × (n ≡ behind end (start + length octets)))
    (judged_all table begun ts) r
one_wrong_is table bytes depth start ts octets begun place now end w new r a e going read is =
    subst (λ (x : Result ℕ ReadFault). Gives (λ (n : ℕ) s. (new ≡ s) × (n ≡ behind end (start + length octets)))
    (judged_all table begun ts) x) (sym is)
    (one_wrong table bytes depth start ts octets begun place now end w new a e going read)

-- ---- all octets

pub whole_wrong : (table : Layout) (types these : List forms.Alternative) (t : Tree) (next : ℕ) (w : ReadFault)
    (r : Result Node ReadFault) → types ≡ these
    → Gives (ReadTo next) (judged.judged table types t) (Err w) → r ≡ Err w
    → Gives (λ m n. node_view m ≡ n) (judged.judged table these t) r
whole_wrong table types these t next w r same g is =
    subst (λ (x : Result Node ReadFault). Gives (λ m n. node_view m ≡ n) (judged.judged table these t) x) (sym is)
    (subst (λ (k : List forms.Alternative). Gives {X = Node} (λ m n. node_view m ≡ n) (judged.judged table k t)
    (Err w)) same
    (gives_more (ReadTo next) (λ (m : Node) (n : nodes.Node). node_view m ≡ n) (judged.judged table types t) w g))

pub whole_read : (table : Layout) (types these : List forms.Alternative) (t : Tree) (next : ℕ) (node : Node) (place : ℕ) → types ≡ these
    → Gives (ReadTo next) (judged.judged table types t) (Ok (node, place))
    → Gives {X = Node} (λ m n. node_view m ≡ n) (judged.judged table these t) (Ok node)
whole_read table types these t next node place same g =
    subst (λ (k : List forms.Alternative). Gives {X = Node} (λ m n. node_view m ≡ n) (judged.judged table k t)
    (Ok node)) same
    (gives_is (ReadTo next) (λ (m : Node) (n : nodes.Node). node_view m ≡ n) (judged.judged table types t)
    (node, place) node (λ n h. h.0) g)
