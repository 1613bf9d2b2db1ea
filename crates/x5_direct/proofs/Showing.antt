-- Attributes that are shown, and what is shown of entries, each from what is found of its parts.
use Rattle.std.proofs.Common.{◌≡◌, ℕ, ◌<◌, ◌==◌, Bool, true, false, not, List, [], ◌∷◌, length, map, drop}
use Rattle.std.proofs.Common.{refl, ap, sym, ◌∙◌, subst, arith, lit<, lit≤}
use Rattle.std.proofs.lemmas.Bool.Decides.{Decides-eqb}
use Rattle.x5_model.specs.Answers.{Shown}
use Rattle.x5_model.specs.Types.{is_known}
use Rattle.x5_model.specs.Values as values
use Rattle.x5_model.specs.Values.{Known}
use Rattle.x5_model.specs.Words.{is_empty}
use Rattle.x5_model_typed.specs.Nodes.{Node, Flag, Many, row, list}
use Rattle.x5_model_typed.specs.Named as named
use Rattle.x5_model_typed.specs.Forms.{may_be_tagged, plain, or, ruled, universal, Primitive}
use Rattle.x5_model_typed.specs.Leaves.{boolean}
use Rattle.x5_model_typed.specs.Layouts.{layout, sequence, set_of}
use Rattle.x5_model_typed.specs.Rules as rules
use Rattle.x5_model_typed.specs.Rules.{some_members}
use Rattle.x5_model_typed.proofs.Laws.{list_row}
use Rattle.x5_model_messages.specs.Terms as terms
use Rattle.x5_model_messages.specs.Replies as replies
use Rattle.x5_direct.specs.Marks.{IsMark}
use Rattle.x5_direct.specs.Spelled.{Opens, Spelled, SpelledInOrder, Reads, ReadEach}
use Rattle.x5_direct.proofs.Heads.{opens_so, short_length}
use Rattle.x5_direct.proofs.Naming.{so}
use Rattle.x5_direct.proofs.Spelling.{AreApart, branch_spelled, each_in, leaf_spelled, order_given}
use Rattle.x5_direct.proofs.Spelling.{order_in, order_next}
use Rattle.x5_direct.proofs.Spelling.{order_over, order_passed, spelled_higher}

-- ---- attributes

some_mapped : {A B : Type 0} (f : A → B) (xs : List A) (ys : List B) → ys ≡ map f xs → 0 < length ys
    → not (is_empty xs) ≡ true
some_mapped f [] ys e some = absurd (omega (arith, some, ap length e))
some_mapped f (x ∷ xs) ys e some = refl

pub some_mapped_here : {A B : Type 0} (f : A → B) (xs : List A) (n : ℕ) → n ≡ length xs → (n == 0) ≡ false
    → 0 < length (map f xs)
some_mapped_here f [] n is e = let none : (0 == 0) ≡ false = ap (λ (k : ℕ). k == 0) (sym is) ∙ e in absurd (cc none)
some_mapped_here f (x ∷ xs) n is e = omega arith

pub values_spelled : (vs : List values.Value) (members octets rest : List ℕ) → Opens 49 members octets rest
    → ReadEach 3 named.Value rules.value_in vs members → 0 < length vs
    → (ns : List Node) × Spelled 4 named.Values (Many (row ns)) octets rest × (vs ≡ map rules.value_in ns)
values_spelled vs members octets rest o each some =
    let ns = each.0 in
    let n : Node = Many (row ns) in
    let there : not (is_empty (list (row ns))) ≡ true =
    ap (λ (l : List Node). not (is_empty l)) (list_row ns) ∙ some_mapped rules.value_in ns vs each.2 some in (
      ns,
      branch_spelled 3 named.Values 49 0 17 (ruled some_members (set_of named.Value)) n n members octets rest o refl
          (λ w. refl) (each_in 3 named.Value ns members each.1) (so (not (is_empty (list (row ns)))) n there),
      each.2,
    )

shown_said : (k : ℕ) (vs : List values.Value) (ns : List Node) → is_known k ≡ true → vs ≡ map rules.value_in ns
    → record { kind = Known k; values = vs }
    ≡ replies.shown_in (Many (row (terms.type_node (Known k) ∷ Many (row ns) ∷ [])))
shown_said k vs ns known e =
    rw known (ap (λ (l : List values.Value). record { kind = Known k; values = l })
    (e ∙ ap (λ (l : List Node). map rules.value_in l) (sym (list_row ns))))

pub shown_read : (k : ℕ) (vs : List values.Value) (content behind members octets rest : List ℕ)
    → Opens 48 content octets rest
    → Spelled 0 named.AnyOid (terms.type_node (Known k)) content (drop 5 content)
    → Opens 49 members (drop 5 content) behind → behind ≡ []
    → ReadEach 3 named.Value rules.value_in vs members → 0 < length vs → is_known k ≡ true
    → Reads 5 named.Attribute replies.shown_in (record { kind = Known k; values = vs }) octets rest
shown_read k vs content behind members octets rest o type inner over each some known =
    let v = values_spelled vs members (drop 5 content) behind inner each some in
    let m : Node = Many (row v.0) in
    let t : Node = terms.type_node (Known k) in
    let n : Node = Many (row (t ∷ m ∷ [])) in
    let held : Spelled 4 named.Values m (drop 5 content) [] =
    subst (λ (l : List ℕ). Spelled 4 named.Values m (drop 5 content) l) over v.1 in (
      n,
      branch_spelled 4 named.Attribute 48 0 16 (sequence (plain named.AnyOid ∷ plain named.Values ∷ [])) n n content
          octets rest o refl (λ w. refl)
          (order_in 4 (plain named.AnyOid ∷ plain named.Values ∷ []) (t ∷ m ∷ []) content
          (order_next 4 named.AnyOid (plain named.Values ∷ []) t (m ∷ []) content (drop 5 content)
          (spelled_higher 0 4 named.AnyOid t content (drop 5 content) (lit≤ tt) type)
          (order_next 4 named.Values [] m [] (drop 5 content) [] held (order_over 4))))
          refl,
      shown_said k vs v.0 known v.2,
    )

-- ---- entries

mark_spelled : (rest : List ℕ) → Spelled 0 named.Boolean (Flag false) (1 ∷ 1 ∷ 0 ∷ rest) rest
mark_spelled rest =
    leaf_spelled named.Boolean 1 0 1 (universal 1 (Primitive boolean)) (Flag false) (Flag false) (0 ∷ [])
    (1 ∷ 1 ∷ 0 ∷ rest) rest
    (opens_so 1 1 (1 ∷ 1 ∷ 0 ∷ rest) (1 ∷ 0 ∷ rest) (0 ∷ rest) (0 ∷ []) rest (lit< tt) (lit< tt) refl
    (short_length 1 (0 ∷ rest) (lit< tt)) (omega arith) refl refl) refl (lit< tt) (λ w. refl) refl refl

attributes_apart : AreApart named.Attributes named.Boolean
attributes_apart w class tag e = by (0 == class) (17 == tag) refl refl e
  where
    by : (b c : Bool) → (0 == class) ≡ b → (17 == tag) ≡ c
        → may_be_tagged class tag (layout w named.Attributes) ≡ true
        → may_be_tagged class tag (layout w named.Boolean) ≡ false
    by true true is is' h =
        let one : class ≡ 0 = sym ((Decides-eqb 0 class).0 is) in
        let two : tag ≡ 17 = sym ((Decides-eqb 17 tag).0 is') in
        rw (one, two) refl
    by true false is is' h = absurd (cc)
    by false c is is' h = absurd (cc)

behind_name : (copy : Bool) (m : Node) (octets behind : List ℕ) → IsMark copy octets behind
    → Spelled 6 named.Attributes m behind []
    → SpelledInOrder 6 (or (Flag true) (plain named.Boolean) ∷ plain named.Attributes ∷ []) (Flag (not copy) ∷ m ∷ [])
    octets
behind_name true m octets behind is s =
    subst (λ (l : List ℕ). SpelledInOrder 6 (or (Flag true) (plain named.Boolean) ∷ plain named.Attributes ∷ [])
    (Flag false ∷ m ∷ []) l) (sym is)
    (order_given 6 named.Boolean (Flag true) (plain named.Attributes ∷ []) (Flag false) (m ∷ []) (1 ∷ 1 ∷ 0 ∷ behind)
    behind (spelled_higher 0 6 named.Boolean (Flag false) (1 ∷ 1 ∷ 0 ∷ behind) behind (lit≤ tt) (mark_spelled behind))
    (order_next 6 named.Attributes [] m [] behind [] s (order_over 6)))
behind_name false m octets behind is s =
    subst (λ (l : List ℕ). SpelledInOrder 6 (or (Flag true) (plain named.Boolean) ∷ plain named.Attributes ∷ [])
    (Flag true ∷ m ∷ []) l) is
    (order_passed 6 named.Attributes named.Boolean (Flag true) [] m [] behind [] attributes_apart s (order_over 6))

twice : (b : Bool) → b ≡ not (not b)
twice true = refl
twice false = refl

pub info_read : (name : values.Name) (copy : Bool) (shown : List Shown)
    (content after behind end members octets rest : List ℕ) → Opens 48 content octets rest
    → Reads 3 named.Name terms.name_of name content after → IsMark copy after behind
    → Opens 49 members behind end → end ≡ [] → ReadEach 5 named.Attribute replies.shown_in shown members
    → Reads 7 named.EntryInfo replies.info_in (record { name = name; copy = copy; attributes = shown }) octets rest
info_read name copy shown content after behind end members octets rest o first mark inner over each =
    let ns = each.0 in
    let m : Node = Many (row ns) in
    let n : Node = Many (row (first.0 ∷ Flag (not copy) ∷ m ∷ [])) in
    let held : Spelled 6 named.Attributes m behind [] =
    subst (λ (l : List ℕ). Spelled 6 named.Attributes m behind l) over
    (branch_spelled 5 named.Attributes 49 0 17 (set_of named.Attribute) m m members behind end inner refl (λ w. refl)
    (each_in 5 named.Attribute ns members each.1) refl) in
    let names : name ≡ terms.name_of first.0 = first.2 in
    let marks : copy ≡ not (not copy) = twice copy in
    let all : shown ≡ map replies.shown_in (list (row ns)) =
    each.2 ∙ ap (λ (l : List Node). map replies.shown_in l) (sym (list_row ns)) in (
      n,
      branch_spelled 6 named.EntryInfo 48 0 16
          (sequence (plain named.Name ∷ or (Flag true) (plain named.Boolean) ∷ plain named.Attributes ∷ [])) n n content
          octets rest o refl (λ w. refl)
          (order_in 6 (plain named.Name ∷ or (Flag true) (plain named.Boolean) ∷ plain named.Attributes ∷ [])
          (first.0 ∷ Flag (not copy) ∷ m ∷ []) content
          (order_next 6 named.Name (or (Flag true) (plain named.Boolean) ∷ plain named.Attributes ∷ []) first.0
          (Flag (not copy) ∷ m ∷ []) content after
          (spelled_higher 3 6 named.Name first.0 content after (lit≤ tt) first.1)
          (behind_name copy m after behind mark held)))
          refl,
      cc (names, marks, all),
    )
