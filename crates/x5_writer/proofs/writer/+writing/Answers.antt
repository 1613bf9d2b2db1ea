-- Each step puts the elements that are written for the value before the octets that were there.
use Rattle.std.proofs.Common.{◌≡◌, ℕ, ◌+◌, ◌-◌, ◌<◌, Bool, true, false, List, [], ◌++◌, length, drop, map, refl, ap, ap₂, sym, subst, ◌∙◌, arith, append_assoc, append-nil}
use Rattle.std.proofs.lemmas.List.{drop_all}
use Rattle.std.specs.List.{find}
use Rattle.std.specs.declared.option.Option.{Option}
use Rattle.std.specs.declared.option.Option.TheVariants.{None, Some}
use Rattle.x5_model.specs.Words.{in_option}
use Rattle.x5_model_octets.specs.Elements as elements
use Rattle.x5_model_octets.specs.Elements.{Element, Elements, canonical, canonical_all, identifier}
use Rattle.x5_model_typed.specs.Nodes as nodes
use Rattle.x5_model_typed.specs.Forms as forms
use Rattle.x5_model_typed.specs.Written as written
use Rattle.x5_types.specs.declared.node.Node.{Node}
use Rattle.x5_types.specs.FormView.{alternative_view, around, component_view, components_view, content_view, named_view, table_in}
use Rattle.x5_types.specs.NodeView.{node_view}
use Rattle.x5_writer.specs.Contents.{components_of, content_of, element_of, members_of, octets_in, octets_of, one_of, weight}
use Rattle.x5_writer.specs.LeftView.{left_view}
use Rattle.x5_writer.proofs.Classes.{class_of_found}
use Rattle.x5_writer.proofs.Elements.{chosen_is, headed, no_octets, octets_are, plain_is}
use Rattle.x5_writer.proofs.Measures.{many_of_parts, part_weighs, parts_weigh}
use Rattle.x5_writer.proofs.Members.{given_step, one_more, tail_of}
use Rattle.x5_writer.proofs.Putting.{by_error, no_member, no_others, one_put, same_put, single_put}
use Rattle.x5_writer.proofs.writer.+writing.Goals as goal

-- ---- a component

pub write_component-returns-in_ok-put_header : goal.write_component-returns-in_ok-put_header
write_component-returns-in_ok-put_header t c =
    let w = c.in_ok-write_node.ensures in
    let one = written.written (table_in c.args.surroundings) ((table_in c.args.surroundings) (named_view c.args.component.form)) (node_view c.args.value.now) in (
      elements.Constructed 2 c.in-Some.tag (elements.More w.0 elements.Nil),
      ap (λ (o : Option ℕ). written.tagged_with o one) c.in-Some.is ∙ ap (λ (e : Option Element). written.tagged_with (Some c.in-Some.tag) e) w.1,
      headed (identifier true 2 c.in-Some.tag) (canonical w.0 ++ []) c.args.out.now c.write_node.new.out c.put_header.new.self
          (c.len.result - c.len-behind.result)
          (w.2 ∙ ap (λ (l : List ℕ). l ++ c.args.out.now) (sym (append-nil (canonical w.0))))
          (ap₂ (λ (a b : ℕ). a - b) c.len.ensures c.len-behind.ensures)
          c.in_ok-put_header.ensures,
    )

-- ---- components

pub write_components-returns-in_default : goal.write_components-returns-in_default
write_components-returns-in_default t c = (
  elements.Nil,
  ap (λ (cs : List forms.Component). written.written_components (table_in c.args.surroundings) cs (nodes.row (map node_view c.args.values.now))) c.in_default.ensures,
  refl,
)

pub write_components-returns-in_err-write_components :
    goal.write_components-returns-in_err-write_components
write_components-returns-in_err-write_components t c =
    let one = written.tagged_with c.in-Some.component.tag (written.written (table_in c.args.surroundings) ((table_in c.args.surroundings) (named_view c.in-Some.component.form)) (node_view c.value-item.result)) in
    let others = written.written_components (table_in c.args.surroundings) (left_view c.behind.result) (nodes.row (map node_view (tail_of c.args.values.now))) in
    let step = given_step (table_in c.args.surroundings) (left_view c.args.left) (left_view c.in-Some.others) (left_view c.behind.result)
    (component_view c.in-Some.component) c.args.values.now c.value-item.result c.in-Some.ensures c.in-len1-up.len_at_least
    c.value-item.is (sym c.in_ok-is_default.ensures ∙ c.if-branch.false) c.behind.ensures in
    by_error canonical_all _ c.args.out.now c.write_components-2.new.out c.in_err-write_components.field-0.0 c.from_residual-in_err-write_components.result
    c.from_residual-in_err-write_components.ensures.1
    (no_others one others _ c.args.out.now c.write_components-2.new.out c.write_components-2.new.out c.in_err-write_components.field-0.0 step
    c.in_err-write_components.ensures)

pub write_components-returns : goal.write_components-returns
write_components-returns t c =
    let one = written.tagged_with c.in-Some.component.tag (written.written (table_in c.args.surroundings) ((table_in c.args.surroundings) (named_view c.in-Some.component.form)) (node_view c.value-item.result)) in
    let w = c.in_ok-write_components.ensures in
    let step = given_step (table_in c.args.surroundings) (left_view c.args.left) (left_view c.in-Some.others) (left_view c.behind.result)
    (component_view c.in-Some.component) c.args.values.now c.value-item.result c.in-Some.ensures c.in-len1-up.len_at_least
    c.value-item.is (sym c.in_ok-is_default.ensures ∙ c.if-branch.false) c.behind.ensures in
    one_put one w.0 _ c.args.out.now c.write_components-2.new.out c.write_component.new.out c.write_component.result
    (step ∙ ap (λ (es : Option Elements). written.one_before one es) w.1) w.2 c.write_component.ensures

-- ---- members

pub write_members-loop-i-init : goal.write_members-loop-i-init
write_members-loop-i-init t c = record {
  inside = omega arith;
  put = (
    elements.Nil,
    ap (λ (l : List Node). written.written_members (table_in c.args.surroundings) ((table_in c.args.surroundings) (named_view c.args.form)) (nodes.row (map node_view l)))
        (drop_all (length c.args.members.now) c.args.members.now (omega arith)),
    refl,
  );
}

pub write_members-write_node-requires : goal.write_members-write_node-requires
write_members-write_node-requires t c =
    let there : c.loop-i.i - 1 < length c.args.members.now = omega (arith, c.loop-i.invariant.inside, c.loop-i-test.true) in
    let less = part_weighs c.args.members.now (c.loop-i.i - 1) c.index-members-i.result c.index-members-i.is there in
    (omega (arith, less, c.decreases), tt)

pub write_members-loop-i-preserved : goal.write_members-loop-i-preserved
write_members-loop-i-preserved t c =
    let there : c.loop-i.i - 1 < length c.args.members.now = omega (arith, c.loop-i.invariant.inside, c.loop-i-test.true) in
    let types = (table_in c.args.surroundings) (named_view c.args.form) in
    let w = c.loop-i.invariant.put in
    let e = c.in_ok-write_node.ensures in
    let after : c.loop-i.i ≡ c.loop-i.i - 1 + 1 = omega (arith, c.loop-i-test.true) in
    record {
      inside = omega (arith, c.loop-i.invariant.inside);
      put = (
        elements.More e.0 w.0,
        one_more (table_in c.args.surroundings) types c.args.members.now (c.loop-i.i - 1) c.index-members-i.result e.0 w.0 there
            (ap (λ (x : Node). written.written (table_in c.args.surroundings) types (node_view x)) (sym c.index-members-i.is) ∙ e.1)
            (ap (λ (k : ℕ). written.written_members (table_in c.args.surroundings) types (nodes.row (map node_view (drop k c.args.members.now)))) (sym after) ∙ w.1),
        e.2 ∙ ap (λ (l : List ℕ). canonical e.0 ++ l) w.2 ∙ sym (append_assoc (canonical e.0) (canonical_all w.0) c.args.out.now),
      );
    }

pub write_members-returns-in_err-write_node : goal.write_members-returns-in_err-write_node
write_members-returns-in_err-write_node t c =
    let there : c.loop-i.i - 1 < length c.args.members.now = omega (arith, c.loop-i.invariant.inside, c.loop-i-test.true) in
    by_error canonical_all _ c.args.out.now c.write_node.new.out c.in_err-write_node.field-0.0 c.from_residual.result c.from_residual.ensures.1
    (no_member (table_in c.args.surroundings) ((table_in c.args.surroundings) (named_view c.args.form)) c.args.members.now (c.loop-i.i - 1) c.index-members-i.result c.args.out.now c.loop-i.out
    c.write_node.new.out c.in_err-write_node.field-0.0 there c.index-members-i.is c.in_err-write_node.ensures)

pub write_members-returns : goal.write_members-returns
write_members-returns t c =
    let start : c.loop-i.i ≡ 0 = omega (arith, c.loop-i-test.false) in
    subst
    (λ (k : ℕ). (es : Elements)
    × (written.written_members (table_in c.args.surroundings) ((table_in c.args.surroundings) (named_view c.args.form)) (nodes.row (map node_view (drop k c.args.members.now))) ≡ Some es)
    × (c.loop-i.out ≡ canonical_all es ++ c.args.out.now))
    start c.loop-i.invariant.put

-- ---- contents

pub write_content-write_members-requires : goal.write_content-write_members-requires
write_content-write_members-requires t c =
    let many = sym c.is_many.ensures ∙ c.if-is_many.true in
    let more = parts_weigh (node_view c.args.node.now) (map node_view c.parts.result.now) many c.parts.ensures in
    (omega (arith, more, c.decreases), tt)

pub write_content-returns-in-Explicit : goal.write_content-returns-in-Explicit
write_content-returns-in-Explicit t c =
    single_put (written.written (table_in c.args.surroundings) ((table_in c.args.surroundings) (named_view c.in-Explicit.form)) (node_view c.args.node.now)) _ c.args.out.now c.write_node.new.out
    c.write_node.result
    (ap (λ x. content_of (table_in c.args.surroundings) c.args.chosen (content_view (around c.args.surroundings) x) (node_view c.args.node.now)) c.in-Explicit.is
    ∙ ap (λ (b : Bool). written.single (one_of (table_in c.args.surroundings) b (node_view c.args.node.now) (named_view c.in-Explicit.form))) c.if-chosen.true)
    c.write_node.ensures

pub write_content-returns-in-Members : goal.write_content-returns-in-Members
write_content-returns-in-Members t c =
    let many = sym c.is_many.ensures ∙ c.if-is_many.true in
    let parts = many_of_parts (node_view c.args.node.now) (map node_view c.parts.result.now) many c.parts.ensures in
    same_put canonical_all
    (written.written_members (table_in c.args.surroundings) ((table_in c.args.surroundings) (named_view c.in-Members.form)) (nodes.row (map node_view c.parts.result.now))) _
    c.args.out.now c.write_members.new.out c.write_members.result
    (ap (λ x. content_of (table_in c.args.surroundings) c.args.chosen (content_view (around c.args.surroundings) x) (node_view c.args.node.now)) c.in-Members.is
    ∙ ap (λ (n : nodes.Node). members_of (table_in c.args.surroundings) n (named_view c.in-Members.form)) parts)
    c.write_members.ensures

pub write_parts-write_components-requires : goal.write_parts-write_components-requires
write_parts-write_components-requires t c =
    let many = sym c.is_many.ensures ∙ c.if-is_many.true in
    let more = parts_weigh (node_view c.args.node.now) (map node_view c.parts.result.now) many c.parts.ensures in
    (omega (arith, more, c.decreases), tt)

pub write_parts-returns-then-is_many : goal.write_parts-returns-then-is_many
write_parts-returns-then-is_many t c =
    let many = sym c.is_many.ensures ∙ c.if-is_many.true in
    let parts = many_of_parts (node_view c.args.node.now) (map node_view c.parts.result.now) many c.parts.ensures in
    same_put canonical_all
    (written.written_components (table_in c.args.surroundings) (components_view c.args.components.now) (nodes.row (map node_view c.parts.result.now))) _
    c.args.out.now c.write_components.new.out c.write_components.result
    (ap (λ (n : nodes.Node). components_of (table_in c.args.surroundings) n (components_view c.args.components.now)) parts)
    c.write_components.ensures

-- ---- an element

pub write_element-returns-then-has_octets : goal.write_element-returns-then-has_octets
write_element-returns-then-has_octets t c =
    let a = alternative_view (around c.args.surroundings) c.args.a in
    let n = node_view c.args.node.now in (
      written.primitive_of a (octets_in (written.leaf_octets (content_view (around c.args.surroundings) c.args.a.content) n)),
      ap (λ (o : Option (List ℕ)). in_option (written.constructed_of a (content_of (table_in c.args.surroundings) c.args.chosen a.content n)) (λ octets. Some (written.primitive_of a octets)) o)
          (octets_are c.args.chosen (content_view (around c.args.surroundings) c.args.a.content) n (sym c.has_octets.ensures ∙ c.if-has_octets.true)),
      c.in_ok-put_primitive.ensures,
    )

pub write_element-returns : goal.write_element-returns
write_element-returns t c =
    let a = alternative_view (around c.args.surroundings) c.args.a in
    let n = node_view c.args.node.now in
    let w = c.in_ok-write_content.ensures in (
      elements.Constructed c.args.a.class c.args.a.tag w.0,
      ap (λ (o : Option (List ℕ)). in_option (written.constructed_of a (content_of (table_in c.args.surroundings) c.args.chosen a.content n)) (λ octets. Some (written.primitive_of a octets)) o)
          (no_octets (octets_of c.args.chosen a.content n) (sym c.has_octets.ensures ∙ c.if-has_octets.false))
          ∙ ap (λ (es : Option Elements). written.constructed_of a es) w.1,
      headed (identifier true c.args.a.class c.args.a.tag) (canonical_all w.0) c.args.out.now c.write_content.new.out c.put_header.new.self
          (c.len.result - c.len-behind.result) w.2
          (ap₂ (λ (x y : ℕ). x - y) c.len.ensures c.len-behind.ensures)
          c.in_ok-put_header.ensures,
    )

-- ---- by the alternative that is found

pub write_node-write_element-requires : goal.write_node-write_element-requires
write_node-write_element-requires t c =
    let found = ap (λ (types : List forms.Alternative). find (written.is_marked c.in-Some.tag) types) (sym (c.layout.ensures (around c.args.surroundings))) ∙ c.in-Some-marked.ensures (around c.args.surroundings) in
    let less : weight (node_view c.args.node.now) ≡ weight (node_view c.in-Some.inner.now) + 1 = ap weight c.in-Some.ensures in
    (omega (arith, less, c.decreases), class_of_found (around c.args.surroundings) (named_view c.args.form) (written.is_marked c.in-Some.tag) (alternative_view (around c.args.surroundings) c.in-Some-marked.a) found)

pub write_node-write_element-requires-in-None :
    goal.write_node-write_element-requires-in-None
write_node-write_element-requires-in-None t c =
    let found = ap (λ (types : List forms.Alternative). find (written.can_hold (node_view c.args.node.now)) types) (sym (c.layout-in-None.ensures (around c.args.surroundings))) ∙ c.in-Some-holding.ensures in
    (omega (arith, c.decreases), class_of_found (around c.args.surroundings) (named_view c.args.form) (written.can_hold (node_view c.args.node.now)) (alternative_view (around c.args.surroundings) c.in-Some-holding.a) found)

pub write_node-returns-in-Some-marked : goal.write_node-returns-in-Some-marked
write_node-returns-in-Some-marked t c =
    let types = (table_in c.args.surroundings) (named_view c.args.form) in
    let n = node_view c.in-Some.inner.now in
    let found = ap (λ (types : List forms.Alternative). find (written.is_marked c.in-Some.tag) types) (sym (c.layout.ensures (around c.args.surroundings))) ∙ c.in-Some-marked.ensures (around c.args.surroundings) in
    same_put canonical (element_of (table_in c.args.surroundings) true (alternative_view (around c.args.surroundings) c.in-Some-marked.a) n) _ c.args.out.now c.write_element.new.out c.write_element.result
    (ap (λ (m : nodes.Node). written.written (table_in c.args.surroundings) types m) c.in-Some.ensures
    ∙ chosen_is (table_in c.args.surroundings) types c.in-Some.tag n
    ∙ ap (λ (o : Option forms.Alternative). in_option None (λ a. element_of (table_in c.args.surroundings) true a n) o) found)
    c.write_element.ensures

pub write_node-returns-in-Some-holding : goal.write_node-returns-in-Some-holding
write_node-returns-in-Some-holding t c =
    let types = (table_in c.args.surroundings) (named_view c.args.form) in
    let n = node_view c.args.node.now in
    let found = ap (λ (types : List forms.Alternative). find (written.can_hold n) types) (sym (c.layout-in-None.ensures (around c.args.surroundings))) ∙ c.in-Some-holding.ensures in
    same_put canonical (element_of (table_in c.args.surroundings) false (alternative_view (around c.args.surroundings) c.in-Some-holding.a) n) _ c.args.out.now c.write_element-in-None.new.out
    c.write_element-in-None.result
    (plain_is (table_in c.args.surroundings) types n c.in-None.ensures
    ∙ ap (λ (o : Option forms.Alternative). in_option None (λ a. element_of (table_in c.args.surroundings) false a n) o) found)
    c.write_element-in-None.ensures
