-- What an element is judged to be, it is.
use Rattle.std.proofs.Common.{◌≡◌, ℕ, Bool, true, false, List, [], ◌∷◌, ◌++◌, map, refl, ap, sym, ◌∙◌, subst}
use Rattle.std.specs.List.{list_all}
use Rattle.std.specs.declared.option.Option.{Option}
use Rattle.std.specs.declared.option.Option.TheVariants.{None, Some}
use Rattle.std.specs.declared.result.Result.TheVariants.{Ok}
use Rattle.x5_model_typed.specs.Trees.{Tree, Trees, Leaf, Branch, Bare, Row, place_of}
use Rattle.x5_model_typed.specs.Nodes as nodes
use Rattle.x5_model_typed.specs.Nodes.{Node, Nodes, Many, list, row}
use Rattle.x5_model_typed.specs.Named.{Named}
use Rattle.x5_model_typed.specs.Forms.{Layout, Alternative, Component, Content, Primitive, Joined, JoinedBits, Explicit, Sequence, Set, Members, Never, by_tag}
use Rattle.x5_model_typed.specs.Judged.{State, Next, judged, judged_all, judged_member, and_then, stepped, settled, ended, begun, marked, leaf_node, default_of, may_be_missing, all_filled, filled}
use Rattle.x5_model_typed.specs.Typed as typed
use Rattle.x5_model_typed.specs.Typed.{IsOf, Holds}
use Rattle.x5_model_typed.proofs.Laws.{came, AreSound, each_is, in_sequence, stood, in_order_is}
use Rattle.x5_model_typed.proofs.SetLaws.{in_a_set, set_placed, fills_is, in_any_order}
use Rattle.x5_model_typed.proofs.StringLaws.{within_string, segments_are}
use Rattle.x5_model_typed.proofs.BitLaws.{within_bits, bit_segments_are}

pub row_list : (ns : Nodes) → row (list ns) ≡ ns
row_list nodes.Nil = refl
row_list (nodes.More n ns) = ap (λ (l : Nodes). nodes.More n l) (row_list ns)

-- ---- reading within a content stays within it

abbrev pub among_members : ℕ → Named → List Component → List Node → List (Option Node) → ℕ → State
among_members at form left nodes slots last = record { at = at; content = Members form; left = left; nodes = nodes; slots = slots; last = last }

pub members_stay : (layout : Layout) (form : Named) (at : ℕ) (left : List Component) (before : List Node) (slots : List (Option Node)) (last : ℕ) (ts : Trees) (s : State)
    → judged_all layout (among_members at form left before slots last) ts ≡ Ok s → s ≡ among_members at form s.left s.nodes s.slots s.last
members_stay layout form at left before slots last Bare s e =
    let same : among_members at form left before slots last ≡ s = cc e in
    subst (λ (q : State). q ≡ among_members at form q.left q.nodes q.slots q.last) same refl
members_stay layout form at left before slots last (Row t ts) s e =
    let start : State = among_members at form left before slots last in
    let member = came (λ later. judged_all layout later ts) (judged_member layout start t) s e in
    let node = came (λ n. stepped start (place_of t) Next n) (judged layout (layout form) t) member.0 member.1 in
    let stands : among_members at form left (before ++ (node.0 ∷ [])) slots (place_of t) ≡ member.0 = cc node.2 in
    members_stay layout form at left (before ++ (node.0 ∷ [])) slots (place_of t) ts s (ap (λ (q : State). judged_all layout q ts) stands ∙ member.2)

pub sequence_stays : (layout : Layout) (at : ℕ) (cs left : List Component) (before : List Node) (slots : List (Option Node)) (last : ℕ) (ts : Trees) (s : State)
    → judged_all layout (in_sequence at cs left before slots last) ts ≡ Ok s → s ≡ in_sequence at cs s.left s.nodes s.slots s.last
sequence_stays layout at cs left before slots last Bare s e =
    let same : in_sequence at cs left before slots last ≡ s = cc e in
    subst (λ (q : State). q ≡ in_sequence at cs q.left q.nodes q.slots q.last) same refl
sequence_stays layout at cs left before slots last (Row t ts) s e =
    let p = stood layout at cs left before slots last t ts s e in
    sequence_stays layout at cs p.later (before ++ (map default_of p.passed ++ (p.n ∷ []))) slots (place_of t) ts s p.others

pub set_stays : (layout : Layout) (at : ℕ) (cs : List Component) (slots : List (Option Node)) (last : ℕ) (ts : Trees) (s : State)
    → judged_all layout (in_a_set at cs slots last) ts ≡ Ok s → s ≡ in_a_set at cs s.slots s.last
set_stays layout at cs slots last Bare s e =
    let same : in_a_set at cs slots last ≡ s = cc e in
    subst (λ (q : State). q ≡ in_a_set at cs q.slots q.last) same refl
set_stays layout at cs slots last (Row t ts) s e =
    let p = set_placed layout at cs slots last t ts s e in
    set_stays layout at cs (p.slots_before ++ (Some p.n ∷ p.slots_after)) (place_of t) ts s p.goes_on

-- ---- each kind of content

explicit_holds : (layout : Layout) (form : Named) (at : ℕ) (ts : Trees) (s : State) (m : Node) → AreSound layout ts
    → judged_all layout (begun at (Explicit form)) ts ≡ Ok s → ended s ≡ Some m → Holds layout (Explicit form) ts m
explicit_holds layout form at Bare s m sound e h =
    let same : begun at (Explicit form) ≡ s = cc e in
    let over : ended (begun at (Explicit form)) ≡ Some m = ap ended same ∙ h in
    absurd (cc over)
explicit_holds layout form at (Row t Bare) s m sound e h =
    let start : State = begun at (Explicit form) in
    let member = came (λ later. judged_all layout later Bare) (judged_member layout start t) s e in
    let node = came (λ n. stepped start (place_of t) Next n) (judged layout (layout form) t) member.0 member.1 in
    let there : State = record { at = at; content = Explicit form; left = []; nodes = node.0 ∷ []; slots = []; last = place_of t } in
    let stands : there ≡ member.0 = cc node.2 in
    let same : member.0 ≡ s = cc member.2 in
    let over : ended there ≡ Some m = ap ended (stands ∙ same) ∙ h in
    let one : node.0 ≡ m = cc over in
    typed.one (sound.0 (layout form) m (node.1 ∙ ap (λ (n : Node). Ok n) one))
explicit_holds layout form at (Row t (Row u us)) s m sound e h =
    let start : State = begun at (Explicit form) in
    let member = came (λ later. judged_all layout later (Row u us)) (judged_member layout start t) s e in
    let node = came (λ n. stepped start (place_of t) Next n) (judged layout (layout form) t) member.0 member.1 in
    let there : State = record { at = at; content = Explicit form; left = []; nodes = node.0 ∷ []; slots = []; last = place_of t } in
    let stands : there ≡ member.0 = cc node.2 in
    let more : judged_all layout there (Row u us) ≡ Ok s = ap (λ (q : State). judged_all layout q (Row u us)) stands ∙ member.2 in
    absurd (cc more)

sequence_holds : (layout : Layout) (cs : List Component) (at : ℕ) (ts : Trees) (s : State) (m : Node) (b : Bool) → AreSound layout ts
    → judged_all layout (begun at (Sequence cs)) ts ≡ Ok s → list_all may_be_missing s.left ≡ b → ended (in_sequence at cs s.left s.nodes s.slots s.last) ≡ Some m → Holds layout (Sequence cs) ts m
sequence_holds layout cs at ts s m false sound e is h = absurd (cc)
sequence_holds layout cs at ts s m true sound e is h =
    let r = in_order_is layout at cs cs [] [] at ts s sound e is in
    let all : Many (row (s.nodes ++ map default_of s.left)) ≡ m = cc in
    let same : Many r.0 ≡ m = ap (λ (l : Nodes). Many l) (sym (row_list r.0)) ∙ ap (λ (l : List Node). Many (row l)) (sym r.1) ∙ all in
    subst (λ (n : Node). Holds layout (Sequence cs) ts n) same (typed.in_order r.2)

set_holds : (layout : Layout) (cs : List Component) (at : ℕ) (ts : Trees) (s : State) (m : Node) (b : Bool) → AreSound layout ts
    → judged_all layout (begun at (Set cs)) ts ≡ Ok s → all_filled cs s.slots ≡ b → ended (in_a_set at cs s.slots s.last) ≡ Some m → Holds layout (Set cs) ts m
set_holds layout cs at ts s m false sound e is h = absurd (cc)
set_holds layout cs at ts s m true sound e is h =
    let all : Many (row (filled cs s.slots)) ≡ m = cc in
    let f = fills_is layout at cs (map (λ c. None) cs) at ts s sound e is in
    subst (λ (n : Node). Holds layout (Set cs) ts n) all (typed.in_any_order (in_any_order layout cs ts (filled cs s.slots) f))

members_hold : (layout : Layout) (form : Named) (at : ℕ) (ts : Trees) (s : State) (m : Node) → AreSound layout ts
    → judged_all layout (begun at (Members form)) ts ≡ Ok s → ended s ≡ Some m → Holds layout (Members form) ts m
members_hold layout form at ts s m sound e h =
    let stays = members_stay layout form at [] [] [] at ts s e in
    let over : ended (among_members at form s.left s.nodes s.slots s.last) ≡ Some m = ap ended (sym stays) ∙ h in
    let all : Many (row s.nodes) ≡ m = cc over in
    let r = each_is layout form at [] [] [] at ts s sound e in
    let same : Many r.0 ≡ m = ap (λ (l : Nodes). Many l) (sym (row_list r.0)) ∙ ap (λ (l : List Node). Many (row l)) (sym r.1) ∙ all in
    subst (λ (n : Node). Holds layout (Members form) ts n) same (typed.each r.2)

pub content_holds : (layout : Layout) (c : Content) (at : ℕ) (ts : Trees) (s : State) (m : Node) → AreSound layout ts
    → judged_all layout (begun at c) ts ≡ Ok s → ended s ≡ Some m → Holds layout c ts m
content_holds layout (Primitive leaf) at Bare s m sound e h =
    let same : begun at (Primitive leaf) ≡ s = cc e in
    let over : ended (begun at (Primitive leaf)) ≡ Some m = ap ended same ∙ h in
    absurd (cc over)
content_holds layout (Primitive leaf) at (Row t ts) s m sound e h = absurd (cc e)
content_holds layout Never at Bare s m sound e h =
    let same : begun at Never ≡ s = cc e in
    let over : ended (begun at Never) ≡ Some m = ap ended same ∙ h in
    absurd (cc over)
content_holds layout Never at (Row t ts) s m sound e h = absurd (cc e)
content_holds layout (Joined leaf) at ts s m sound e h =
    let r = segments_are layout at leaf [] [] [] at ts s e in
    let over : ended (within_string at leaf s.left s.nodes s.slots s.last) ≡ Some m = ap ended (sym r.0) ∙ h in
    typed.string r.1 leaf r.3 (ap (λ (l : List ℕ). leaf.reads l) (sym r.2) ∙ over)
content_holds layout (JoinedBits leaf) at ts s m sound e h =
    let r = bit_segments_are layout at leaf [] [] [] at ts s e in
    let over : ended (within_bits at leaf s.left s.nodes s.slots s.last) ≡ Some m = ap ended (sym r.0) ∙ h in
    typed.bit_string r.1 leaf r.3 (ap (λ (l : List Bool). leaf.reads l) (sym r.2) ∙ over)
content_holds layout (Explicit form) at ts s m sound e h = explicit_holds layout form at ts s m sound e h
content_holds layout (Sequence cs) at ts s m sound e h =
    sequence_holds layout cs at ts s m (list_all may_be_missing s.left) sound e refl (ap ended (sym (sequence_stays layout at cs cs [] [] at ts s e)) ∙ h)
content_holds layout (Set cs) at ts s m sound e h =
    set_holds layout cs at ts s m (all_filled cs s.slots) sound e refl (ap ended (sym (set_stays layout at cs (map (λ c. None) cs) at ts s e)) ∙ h)
content_holds layout (Members form) at ts s m sound e h = members_hold layout form at ts s m sound e h

-- ---- elements

-- What the rule of the whole makes of a content.
pub record Settled (a : Alternative) (o : Option Node) (n : Node) : Type 0 where
  pub m : Node
  pub k : Node
  pub content : o ≡ Some m
  pub rule : a.settles m ≡ Some k
  pub marks : n ≡ marked a k

settled_by : (at : ℕ) (a : Alternative) (m n : Node) (r : Option Node) → a.settles m ≡ r → settled at a (Some m) ≡ Ok n → Settled a (Some m) n
settled_by at a m n None is e = absurd (cc)
settled_by at a m n (Some k) is e = record { m = m; k = k; content = refl; rule = is; marks = cc }

pub settled_is : (at : ℕ) (a : Alternative) (o : Option Node) (n : Node) → settled at a o ≡ Ok n → Settled a o n
settled_is at a None n e = absurd (cc e)
settled_is at a (Some m) n e = settled_by at a m n (a.settles m) refl e

leaf_is : (layout : Layout) (types : List Alternative) (at class tag : ℕ) (octets : List ℕ) (n : Node) (o : Option Alternative) → by_tag class tag types ≡ o
    → judged layout types (Leaf at class tag octets) ≡ Ok n → IsOf layout types (Leaf at class tag octets) n
leaf_is layout types at class tag octets n None is e = absurd (cc)
leaf_is layout types at class tag octets n (Some a) is e =
    let r = settled_is at a (leaf_node a.content octets) n (cc (is, e)) in
    subst (λ (k : Node). IsOf layout types (Leaf at class tag octets) k) (sym r.marks) (typed.primitive a r.m r.k is r.content r.rule)

branch_is : (layout : Layout) (types : List Alternative) (at class tag : ℕ) (ts : Trees) (n : Node) (o : Option Alternative) → by_tag class tag types ≡ o
    → AreSound layout ts → judged layout types (Branch at class tag ts) ≡ Ok n → IsOf layout types (Branch at class tag ts) n
branch_is layout types at class tag ts n None is sound e = absurd (cc)
branch_is layout types at class tag ts n (Some a) is sound e =
    let there : and_then (λ s. settled at a (ended s)) (judged_all layout (begun at a.content) ts) ≡ Ok n = cc (is, e) in
    let s = came (λ s. settled at a (ended s)) (judged_all layout (begun at a.content) ts) n there in
    let r = settled_is at a (ended s.0) n s.2 in
    subst (λ (k : Node). IsOf layout types (Branch at class tag ts) k) (sym r.marks) (typed.constructed a r.m r.k is (content_holds layout a.content at ts s.0 r.m sound s.1 r.content) r.rule)

mutual
  pub judged_is : (layout : Layout) (t : Tree) (types : List Alternative) (n : Node) → judged layout types t ≡ Ok n → IsOf layout types t n
  judged_is layout (Leaf at class tag octets) types n e = leaf_is layout types at class tag octets n (by_tag class tag types) refl e
  judged_is layout (Branch at class tag ts) types n e = branch_is layout types at class tag ts n (by_tag class tag types) refl (all_sound layout ts) e

  pub all_sound : (layout : Layout) (ts : Trees) → AreSound layout ts
  all_sound layout Bare = tt
  all_sound layout (Row t ts) = (judged_is layout t, all_sound layout ts)
