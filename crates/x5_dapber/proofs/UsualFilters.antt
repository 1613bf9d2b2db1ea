-- Assertions and items on types of the table, and filters of these, each from what is found of its parts.
use Rattle.std.proofs.Common.{◌≡◌, ◌==◌, ℕ, true, false, List, [], ◌∷◌, map, refl, ap, sym, ◌∙◌, lit≤, Vec, Global}
use Rattle.x5_match.specs.FilterView.{filter_view}
use Rattle.x5_match.specs.declared.filter.Filter as filter
use Rattle.x5_match.specs.declared.filter.Filter.{Filter}
use Rattle.x5_model.specs.Assertions.{assertion_of}
use Rattle.x5_model.specs.Filters as model
use Rattle.x5_model.specs.Types.{is_known}
use Rattle.x5_model.specs.Values.{Known, TypeRef, Value}
use Rattle.x5_model_messages.specs.FilterTerms.{filter_in, item_in}
use Rattle.x5_model_messages.specs.Terms.{assertion_in, type_in, type_node}
use Rattle.x5_model_typed.specs.Forms.{Component, Explicit, choice, plain}
use Rattle.x5_model_typed.specs.Layouts.{sequence, set_of}
use Rattle.x5_model_typed.specs.Named as named
use Rattle.x5_model_typed.specs.Nodes.{Node, Chosen, Many, row}
use Rattle.x5_model_typed.specs.Rules.{value_in}
use Rattle.x5_model_typed.specs.Trees.{Bare, Row}
use Rattle.x5_model_typed.specs.Typed as typed
use Rattle.x5_model_typed.proofs.Laws.{list_row}
use Rattle.x5_direct.specs.Spelled.{Opens, ReadEach, Reads, Spelled, SpelledIn}
use Rattle.x5_direct.proofs.Spelling.{branch_spelled, each_in, order_in, order_next, order_over, spelled_higher}
use Rattle.x5_dapber.proofs.FilterMembers.{and_said}
use Rattle.x5_dapber.proofs.Sets.{reads_higher}

-- One element of the type.
pub one_in : (levels : ℕ) (form : named.Named) (n : Node) (octets : List ℕ) → Spelled levels form n octets []
    → SpelledIn levels (Explicit form) n octets
one_in levels form n octets s depth at room =
    let e = s.is_element depth at room in
    record {
      members = Row e.tree Bare;
      lie = (s.part, [], e.lies, refl, s.whole);
      hold = λ w. typed.one (e.is_of w);
    }

-- ---- assertions

abbrev asserted : List Component
asserted = plain named.AnyOid ∷ plain named.Value ∷ []

pub assertion_reads : (k : ℕ) (v : Value) (content behind octets : List ℕ) → Opens 48 content octets [] → is_known k ≡ true
    → Spelled 0 named.AnyOid (type_node (Known k)) content behind → Reads 3 named.Value value_in v behind []
    → Reads 4 named.Assertion assertion_in (assertion_of (Known k) v) octets []
assertion_reads k v content behind octets o known type value =
    let t : Node = type_node (Known k) in
    let n : Node = Many (row (t ∷ value.0 ∷ [])) in (
      n,
      branch_spelled 3 named.Assertion 48 0 16 (sequence asserted) n n content octets [] o refl (λ w. refl)
          (order_in 3 asserted (t ∷ value.0 ∷ []) content
          (order_next 3 named.AnyOid (plain named.Value ∷ []) t (value.0 ∷ []) content behind
          (spelled_higher 0 3 named.AnyOid t content behind (lit≤ tt) type)
          (order_next 3 named.Value [] value.0 [] behind [] value.1 (order_over 3))))
          refl,
      rw known (ap (λ (x : Value). assertion_of (Known k) x) value.2),
    )

-- ---- items

pub equality_reads : (a : model.Assertion) (content octets : List ℕ) → Opens 160 content octets []
    → Reads 4 named.Assertion assertion_in a content [] → Reads 5 named.Item item_in (model.Equality a) octets []
equality_reads a content octets o r = (
  Chosen 0 r.0,
  branch_spelled 4 named.Item 160 2 0 (choice 0 (Explicit named.Assertion)) r.0 r.0 content octets [] o refl (λ w. refl)
      (one_in 4 named.Assertion r.0 content r.1) refl,
  ap model.Equality r.2,
)

pub presence_reads : (type : TypeRef) (content octets : List ℕ) → Opens 164 content octets []
    → Reads 0 named.AnyOid type_in type content [] → Reads 5 named.Item item_in (model.Present type) octets []
presence_reads type content octets o r =
    reads_higher 1 5 named.Item item_in (model.Present type) octets [] (lit≤ tt) (
      Chosen 4 r.0,
      branch_spelled 0 named.Item 164 2 4 (choice 4 (Explicit named.AnyOid)) r.0 r.0 content octets [] o refl
          (λ w. refl) (one_in 0 named.AnyOid r.0 content r.1) refl,
      ap model.Present r.2,
    )

-- ---- filters

pub item_reads : (i : model.Item) (content octets rest : List ℕ) → Opens 160 content octets rest
    → Reads 5 named.Item item_in i content [] → (levels : ℕ) → (levels == 0) ≡ false
    → Reads 6 (named.Filter levels) filter_in (model.Is i) octets rest
item_reads i content octets rest o r levels some = (
  Chosen 0 r.0,
  branch_spelled 5 (named.Filter levels) 160 2 0 (choice 0 (Explicit named.Item)) r.0 r.0 content octets rest o refl
      (λ w. rw some refl) (one_in 5 named.Item r.0 content r.1) refl,
  ap model.Is r.2,
)

pub and_reads : (v : Vec Filter Global) (list members octets : List ℕ) → Opens 161 list octets []
    → Opens 49 members list [] → ReadEach 6 (named.Filter 15) filter_in (map filter_view v.items) members
    → Reads 48 (named.Filter 16) filter_in (filter_view (filter.And v)) octets []
and_reads v list members octets o inner each =
    let ns = each.0 in
    let m : Node = Many (row ns) in
    let all : Spelled 7 (named.Filters 15) m list [] =
    branch_spelled 6 (named.Filters 15) 49 0 17 (set_of (named.Filter 15)) m m members list [] inner refl (λ w. refl)
    (each_in 6 (named.Filter 15) ns members each.1) refl in
    reads_higher 8 48 (named.Filter 16) filter_in (filter_view (filter.And v)) octets [] (lit≤ tt) (
      Chosen 1 m,
      branch_spelled 7 (named.Filter 16) 161 2 1 (choice 1 (Explicit (named.Filters 15))) m m list octets [] o refl
          (λ w. refl) (one_in 7 (named.Filters 15) m list all) refl,
      and_said v m (each.2 ∙ ap (map filter_in) (sym (list_row ns))),
    )
