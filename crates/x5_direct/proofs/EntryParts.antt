-- What is read of the parts of an attribute, or of an entry of a refresh, is read of the whole.
use Rattle.std.proofs.Common.{◌≡◌, ℕ, ◌+◌, ◌≤◌, Bool, true, false, not, ◌&&◌, ◌==◌, if◌then◌else◌, List, [], ◌∷◌, map, length, refl}
use Rattle.std.proofs.Common.{sym, ap, ap₂, subst, ◌∙◌, arith}
use Rattle.std.proofs.lemmas.Bool.{eqb-true}
use Rattle.std.specs.List.{list_all}
use Rattle.std.specs.Option.{is_some}
use Rattle.std.specs.declared.option.Option.{Option}
use Rattle.std.specs.declared.option.Option.TheVariants.{None, Some}
use Rattle.std.specs.declared.result.Result.TheVariants.{Ok, Err}
use Rattle.x5_model.specs.Attributes.{is_ordered, value_below}
use Rattle.x5_model.specs.Entries.{Stored}
use Rattle.x5_model.specs.Normal.{WrongSyntax, is_of_kind, normal_form, normal_of, value_over, within}
use Rattle.x5_model.specs.Types.{is_known, kind_of}
use Rattle.x5_model.specs.Values.{Known, Name, StoredValue, Value}
use Rattle.x5_model.specs.Words.{ascending, is_empty}
use Rattle.x5_model.proofs.Lists.{both_true}
use Rattle.x5_model_messages.specs.Shadows.{entry_in}
use Rattle.x5_model_messages.specs.Terms.{name_of, node_of, type_node}
use Rattle.x5_model_typed.specs.Nodes.{Node, Flag, parts}
use Rattle.x5_model_typed.specs.Named as named
use Rattle.x5_model_typed.specs.Named.{Named}
use Rattle.x5_model_typed.specs.Forms.{Alternative, Component, Primitive, or, plain, ruled, universal}
use Rattle.x5_model_typed.specs.Layouts.{sequence, sequence_of, set_of}
use Rattle.x5_model_typed.specs.Leaves.{boolean}
use Rattle.x5_model_typed.specs.Rules.{entry_rule, in_order, some_members, value_in}
use Rattle.x5_model_typed.proofs.Laws.{list_row}
use Rattle.x5_model_typed_laws.proofs.Leaves.{let_through}
use Rattle.x5_direct.specs.Kept.{kept_in, stored_as}
use Rattle.x5_direct.specs.Spelled.{Opens, ReadEach, Reads, Spelled, SpelledEach}
use Rattle.x5_direct.proofs.Spelling.{AreApart, branch_spelled, each_in, order_in, order_next, order_over, order_passed}
use Rattle.x5_direct.proofs.Spelling.{spelled_higher}
use Rattle.x5_direct.proofs.KeptValues.{attribute_kept, attribute_of}
use Rattle.x5_direct.proofs.KeptEntries.{entry_of, entry_said, entry_settles}

-- ---- a component that is missing

found : {X : Type 0} (b : Bool) (x : X) → is_some (if b then Some x else None) ≡ true → b ≡ true
found true x h = refl
found false x h = absurd (cc h)

never : {X : Type 0} (a : Bool) (x : X) → is_some (if a && false then Some x else None) ≡ false
never true x = refl
never false x = refl

not_one : (tag : ℕ) → (17 == tag) ≡ true → (1 == tag) ≡ false
not_one tag e = subst (λ (t : ℕ). (1 == t) ≡ false) (eqb-true 17 tag e) refl

-- a SET is no BOOLEAN
no_flag : AreApart named.Attributes named.Boolean
no_flag w class tag h =
    let is = (both_true (0 == class) (17 == tag) (found ((0 == class) && (17 == tag)) (set_of named.Attribute) h)).1 in
    let flag : Alternative = universal 1 (Primitive boolean) in
    ap (λ (b : Bool). is_some (if (0 == class) && b then Some flag else None)) (not_one tag is) ∙ never (0 == class) flag

-- ---- values

normal_is : (b : Bool) (o : Option ℕ) (f n : List ℕ) → (if b then within o f else Err WrongSyntax) ≡ Ok n
    → (b ≡ true) × (f ≡ n)
normal_is true None f n e = (refl, cc)
normal_is true (Some most) f n e = absurd (cc e)
normal_is false o f n e = absurd (cc e)

-- what has a normal form for a type is of its kind, and it's that
pub normal_so : (k : ℕ) (v : Value) (n : List ℕ) → normal_of (kind_of k) v ≡ Ok n
    → (is_of_kind (kind_of k) v ≡ true) × (normal_form (kind_of k) v ≡ n)
normal_so k v n e = normal_is (is_of_kind (kind_of k) v) (value_over v) (normal_form (kind_of k) v) n e

pub stored_read : (k : ℕ) (v : Value) (n octets rest : List ℕ) → normal_of (kind_of k) v ≡ Ok n
    → Reads 3 named.Value value_in v octets rest
    → Reads 3 named.Value (stored_as k) (record { value = v; normal = n }) octets rest
stored_read k v n octets rest e r = (
  r.0,
  r.1,
  ap₂ (λ (x : Value) (y : List ℕ). record { value = x; normal = y }) r.2
      (sym (normal_so k v n e).1 ∙ ap (λ (x : Value). normal_form (kind_of k) x) r.2),
)

-- ---- attributes

some_nodes : (k : ℕ) (vs : List StoredValue) (ns : List Node) → vs ≡ map (stored_as k) ns → is_empty vs ≡ false
    → not (is_empty ns) ≡ true
some_nodes k vs [] e h = absurd (cc (e, h))
some_nodes k vs (n ∷ ns) e h = refl

pub values_spelled : (ns : List Node) (members octets : List ℕ) → not (is_empty ns) ≡ true → Opens 49 members octets []
    → SpelledEach 3 named.Value ns members
    → Spelled 4 named.Values (node_of ns) octets []
values_spelled ns members octets some opens all =
    branch_spelled 3 named.Values 49 0 17 (ruled some_members (set_of named.Value)) (node_of ns) (node_of ns) members octets []
    opens refl (λ w. refl) (each_in 3 named.Value ns members all)
    (let_through (not (is_empty (parts (node_of ns)))) (node_of ns) (ap (λ (l : List Node). not (is_empty l)) (list_row ns) ∙ some))

pub attribute_reads : (k : ℕ) (vs : List StoredValue) (content behind members end octets rest : List ℕ)
    → Opens 48 content octets rest → Spelled 0 named.AnyOid (type_node (Known k)) content behind → Opens 49 members behind end
    → end ≡ []
    → ReadEach 3 named.Value (stored_as k) vs members → is_known k ≡ true
    → list_all (λ v. is_of_kind (kind_of k) v.value) vs ≡ true → ascending value_below vs ≡ true → is_empty vs ≡ false
    → Reads 5 named.Attribute kept_in (Some (record { kind = k; values = vs })) octets rest
attribute_reads k vs content behind members end octets rest opens type inner over r known kinds up some =
    let ns = r.0 in
    let last = subst (λ (l : List ℕ). Opens 49 members behind l) over inner in
    let values = values_spelled ns members behind (some_nodes k vs ns r.2 some) last r.1 in
    let order = order_next 4 named.AnyOid (plain named.Values ∷ []) (type_node (Known k)) (node_of ns ∷ []) content behind
    (spelled_higher 0 4 named.AnyOid (type_node (Known k)) content behind (omega arith) type)
    (order_next 4 named.Values [] (node_of ns) [] behind [] values (order_over 4)) in
    let whole = branch_spelled 4 named.Attribute 48 0 16 (sequence (plain named.AnyOid ∷ plain named.Values ∷ []))
    (attribute_of k ns) (attribute_of k ns) content octets rest opens refl (λ w. refl)
    (order_in 4 (plain named.AnyOid ∷ plain named.Values ∷ []) (type_node (Known k) ∷ node_of ns ∷ []) content order) refl in
    (attribute_of k ns, whole, sym (attribute_kept k vs ns known r.2 kinds up))

-- ---- entries

abbrev from_entry : Component
from_entry = or (Flag true) (plain named.Boolean)

abbrev components : List Component
components = plain named.Name ∷ from_entry ∷ plain named.Attributes ∷ []

pub entry_reads : (name : Name) (as' : List Stored) (content behind members end octets rest : List ℕ)
    → Opens 48 content octets rest → Reads 3 named.Name name_of name content behind → Opens 49 members behind end → end ≡ []
    → ReadEach 5 named.Attribute kept_in (map (λ a. Some a) as') members → is_ordered (record { attributes = as' }) ≡ true
    → Reads 7 named.Entry entry_in (record { name = name; entry = record { attributes = as' } }) octets rest
entry_reads name as' content behind members end octets rest opens first inner over r ordered =
    let ns = r.0 in
    let last = subst (λ (l : List ℕ). Opens 49 members behind l) over inner in
    let set = branch_spelled 5 named.Attributes 49 0 17 (set_of named.Attribute) (node_of ns) (node_of ns) members behind []
    last refl (λ w. refl) (each_in 5 named.Attribute ns members r.1) refl in
    let order = order_next 6 named.Name (from_entry ∷ plain named.Attributes ∷ []) first.0 (Flag true ∷ node_of ns ∷ []) content
    behind (spelled_higher 3 6 named.Name first.0 content behind (omega arith) first.1)
    (order_passed 6 named.Attributes named.Boolean (Flag true) [] (node_of ns) [] behind [] no_flag set (order_over 6)) in
    let whole = branch_spelled 6 named.Entry 48 0 16 (ruled entry_rule (sequence components)) (entry_of first.0 ns)
    (entry_of first.0 (map in_order ns)) content octets rest opens refl (λ w. refl)
    (order_in 6 components (first.0 ∷ Flag true ∷ node_of ns ∷ []) content order)
    (entry_settles first.0 as' ns r.2 ordered) in (
      entry_of first.0 (map in_order ns),
      whole,
      ap (λ (n : Name). record { name = n; entry = record { attributes = as' } }) first.2 ∙ sym (entry_said first.0 as' ns r.2),
    )

-- the entries of a refresh
pub entries_read : {X : Type 0} (says : Node → X) (xs : List X) (content octets rest : List ℕ)
    → Opens 48 content octets rest → ReadEach 7 named.Entry says xs content
    → Reads 8 named.Entries (λ n. map says (parts n)) xs octets rest
entries_read says xs content octets rest opens r = (
  node_of r.0,
  branch_spelled 7 named.Entries 48 0 16 (sequence_of named.Entry) (node_of r.0) (node_of r.0) content octets rest opens refl
      (λ w. refl) (each_in 7 named.Entry r.0 content r.1) refl,
  r.2 ∙ sym (ap (map says) (list_row r.0)),
)
