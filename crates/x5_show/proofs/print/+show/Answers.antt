-- An element that is read is the one spelled there, and its lines come before those of the elements that are left;
-- elements that are spelled there are read without a fault, up to the end.
use Rattle.std.proofs.Common.{◌≡◌, ℕ, ◌+◌, ◌-◌, ◌++◌, List, [], length, take, drop, arith, sym}
use Rattle.std.proofs.Common.{ap, subst, ◌∙◌, append_assoc}
use Rattle.std.specs.Prelude.{string_bytes}
use lib.Chars.{codes}
use Rattle.x5_show.specs.Show.{line, LinesAll}
use Rattle.x5_show.proofs.Values.{found_bounds}
use Rattle.x5_show.proofs.Printing.{Left, left_next, left_none, content_slice, primitive_lines, members_of, on_ok_map}
use Rattle.x5_show.proofs.print.+show.Goals as goal

pub put_members-returns : goal.put_members-returns
put_members-returns t c = λ es octets all stands ends.
    left_none c.args.bytes.now c.args.level c.args.start c.args.end es octets (string_bytes c.args.out.now) c.loop-at.at (string_bytes c.loop-at.out) c.loop-at-test.false (c.loop-at.invariant.left es octets all stands ends)

pub put_members-loop-at-preserved : goal.put_members-loop-at-preserved
put_members-loop-at-preserved t c = record {
  past = omega (arith, c.loop-at.invariant.past, found_bounds c.args.bytes.now c.loop-at.at c.in-Ok.tlv c.in-Ok.next c.in-Ok.ensures.found);
  left = λ es octets all stands ends.
      let next = left_next c.args.bytes.now c.args.level c.args.start c.args.end es octets (string_bytes c.args.out.now) c.loop-at.at (string_bytes c.loop-at.out) c.loop-at-test.true (c.loop-at.invariant.left es octets all stands ends) in
      let put = c.in_ok-put_element-in-Ok.ensures next.element next.spelling next.spells next.stands in
      let place : c.in-Ok.next ≡ c.loop-at.at + length next.spelling = c.in-Ok.ensures.only next.element next.spelling next.spells next.stands in
      subst (λ (n : ℕ). Left c.args.bytes.now c.args.level c.args.start c.args.end es octets (string_bytes c.args.out.now) n (string_bytes c.put_element.new.out)) (sym place)
      (subst (λ (now : List ℕ). Left c.args.bytes.now c.args.level c.args.start c.args.end es octets (string_bytes c.args.out.now) (c.loop-at.at + length next.spelling) now) (sym put.2) (next.left put.0 put.1));
}

pub put_members-returns-in_default : goal.put_members-returns-in_default
put_members-returns-in_default t c = λ es octets all stands ends.
    let next = left_next c.args.bytes.now c.args.level c.args.start c.args.end es octets (string_bytes c.args.out.now) c.loop-at.at (string_bytes c.loop-at.out) c.loop-at-test.true (c.loop-at.invariant.left es octets all stands ends) in
    absurd (omega (arith, next.fits, c.in-Ok.ensures.only next.element next.spelling next.spells next.stands, c.if-next-end.false))

pub put_members-returns-in_default-2 : goal.put_members-returns-in_default-2
put_members-returns-in_default-2 t c = λ es octets all stands ends.
    let next = left_next c.args.bytes.now c.args.level c.args.start c.args.end es octets (string_bytes c.args.out.now) c.loop-at.at (string_bytes c.loop-at.out) c.loop-at-test.true (c.loop-at.invariant.left es octets all stands ends) in
    absurd (rw c.in_default.is at (c.read_tlv.ensures.only next.element next.spelling next.spells next.stands))

pub put_element-returns-in_ok-put_line : goal.put_element-returns-in_ok-put_line
put_element-returns-in_ok-put_line t c = λ e octets s st.
    let m = members_of c.args.bytes.now c.args.level c.args.at c.args.next c.args.tlv c.requires.found e octets s st c.if-tlv.true in
    on_ok_map c.put_members.result _ _
    (λ (put : (more : List ℕ) × LinesAll (c.args.level + 1) c.args.tlv.start m.members m.content more × (string_bytes c.put_members.new.out ≡ string_bytes c.put_line.new.out ++ more)). (
      line c.args.level c.args.at c.args.tlv.class c.args.tlv.tag (codes "cons") [] ++ put.0,
      m.lines put.0 put.1,
      put.2 ∙ ap (λ (l : List ℕ). l ++ put.0) c.in_ok-put_line.ensures ∙ append_assoc (string_bytes c.args.out.now) (line c.args.level c.args.at c.args.tlv.class c.args.tlv.tag (codes "cons") []) put.0,
    ))
    (c.put_members.ensures m.members m.content m.spells m.stands m.ends)

pub put_element-returns-else-tlv : goal.put_element-returns-else-tlv
put_element-returns-else-tlv t c = λ e octets s st.
    on_ok_map c.put_line-else-tlv.result _ _
    (λ (put : string_bytes c.put_line-else-tlv.new.out ≡ string_bytes c.args.out.now ++ line c.args.level c.args.at c.args.tlv.class c.args.tlv.tag (codes "prim") (take (c.args.tlv.end - c.args.tlv.start) (drop c.args.tlv.start c.args.bytes.now))). (
      line c.args.level c.args.at c.args.tlv.class c.args.tlv.tag (codes "prim") c.requires.found.content,
      primitive_lines c.args.bytes.now c.args.level c.args.at c.args.next c.args.tlv c.requires.found e octets s st c.if-tlv.false,
      put ∙ ap (λ (o : List ℕ). string_bytes c.args.out.now ++ line c.args.level c.args.at c.args.tlv.class c.args.tlv.tag (codes "prim") o) (content_slice c.args.bytes.now c.args.at c.args.next c.args.tlv c.requires.found),
    ))
    c.put_line-else-tlv.ensures
